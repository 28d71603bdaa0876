-- What is heard of what is said.
use mathlib.Core.Path.{◌∙◌}
use Rattle.spec_rules.specs.ComponentsLaws.{color_round_lem}
use Rattle.stage01_components.proofs.round.Goals as goal

pub returns : goal.returns
returns c =
    let a = c.args in
    c.heard.ensures ∙ color_round_lem a.units a.links a.made a.ends.now a.color _
    c.said.ensures
