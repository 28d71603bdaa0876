-- By the lowest bit.
use mathlib.Core.Path.{◌≡◌}
use mathlib.Core.Bool.{true, false}
use Prim.Native.Nat.{◌%◌}
use lib.Dec.{eqb}
use borrow.Author.Tests.{eq-eqb, ne_eqb}
use Rattle.small_tables.specs.SmallLaws.{takes}
use Rattle.small_tables.proofs.taken.Goals as goal

pub returns-then-x-eq1 : goal.returns-then-x-eq1
unfolding takes
returns-then-x-eq1 c =
    let odd : eqb (c.args.x.rest % 2) 1 ≡ true =
    eq-eqb _ 1 c.if-x-eq1.true in
    rw (odd, c.bounded_sum.ensures, c.put-then-x-eq1.ensures, c.put.ensures)

pub returns : goal.returns
unfolding takes
returns c =
    let even : eqb (c.args.x.rest % 2) 1 ≡ false = ne_eqb _ 1 c.if-x-eq1.false in
    rw even
