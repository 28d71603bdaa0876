-- Too many links, or the first words, as far as there are any.
use Rattle.std.proofs.Common.{◌≡◌, ◌*◌, take, refl, arith, le-leb}
use Rattle.std.proofs.lemmas.List.{take_min}
use borrow.Author.Tests.{lt-leb}
use Rattle.spec_rules.specs.Fits.{links_fit}
use Rattle.table_values.proofs.bounds.links_fit.Goals as goal

pub returns-then-links-gt1024 : goal.returns-then-links-gt1024
unfolding links_fit
returns-then-links-gt1024 c = rw (lt-leb c.args.links 1024 c.if-links-gt1024.true) refl

pub returns : goal.returns
unfolding links_fit
returns c =
    let a = c.args in
    let same : take c.min.result a.ends.now ≡ take (2 * a.links) a.ends.now = rw c.min.ensures (take_min _ _) in
    rw (le-leb a.links 1024 (omega arith), c.all_below.ensures, same) refl
