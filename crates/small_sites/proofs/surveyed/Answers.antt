-- Opened, run and asked.
use mathlib.Core.Path.{◌≡◌, refl, ◌∙◌}
use Rattle.spec_machine.specs.Load.{unloaded}
use Rattle.survey.specs.View.{of}
use Rattle.report_program.specs.Printed.{surveyed}
use Rattle.report_program.proofs.LaidLaws.{survey-left}
use Rattle.small_sites.specs.Sites.{opened}
use Rattle.small_sites.specs.SitesLaws.{few-links, all_told}
use Rattle.small_sites.proofs.surveyed.Goals as goal

pub begun-requires : goal.begun-requires
begun-requires c = few-links _ _ c.requires

pub returns : goal.returns
returns c =
    let e : of c.ended.result ≡ surveyed (opened c.args.units c.args.words.now) =
    survey-left (opened c.args.units c.args.words.now) c.requires unloaded _ _
    c.begun.ensures c.ended.ensures in
    rw e at c.singles.ensures
    ∙ all_told (opened c.args.units c.args.words.now) c.requires c.args.units refl
