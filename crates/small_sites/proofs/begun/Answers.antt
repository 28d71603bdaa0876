-- As many levels of 0 as links.
use mathlib.Core.Path.{refl, sym, ap}
use lib.Seq.{length-take-le}
use Rattle.spec_machine.specs.Calls.{Answer}
use Rattle.small_sites.specs.SitesLaws.{opened-by}
use borrow.Author.Rules.{rules}
use Rattle.small_sites.proofs.begun.Goals as goal

pub slice_bounds-load_stored-end : goal.slice_bounds-load_stored-end
slice_bounds-load_stored-end c = sym (length-take-le _ _ (search rules))

pub returns : goal.returns
returns c =
    opened-by _ _ _ _ _ (ap (λ (a : Answer). a.state) c.load_stored-loaded.ensures) refl (search rules)
    (search rules)
