-- By whether `-` stands first.
use mathlib.Core.Path.{sym, ap, ◌∙◌}
use Prim.Native.Nat.{◌<◌}
use native.Mathlib.Omega.{arith}
use lib.ListN.{length}
use borrow.Author.Tests.{eq-eqb, ne_eqb}
use Rattle.base_lists.specs.Lent.{lent-rest}
use Rattle.base_streams.specs.StreamLaws.{inside}
use Rattle.ask_arguments.specs.Arguments.{number_in, size_in}
use Rattle.ask_arguments.proofs.numbers.size_in.Goals as goal

pub returns-then-byte-eq45 : goal.returns-then-byte-eq45
unfolding size_in
returns-then-byte-eq45 c =
    let w = c.args.word.now in
    rw (eq-eqb _ 45 (sym c.byte.ensures ∙ c.if-byte-eq45.true))
    (c.number_in.ensures ∙ ap number_in (lent-rest 1 w))

pub returns : goal.returns
unfolding size_in
returns c = rw (← c.byte.ensures, ne_eqb c.byte.result 45 c.if-byte-eq45.false) c.number_in-2.ensures

pub slice_bounds-number_in-count : goal.slice_bounds-number_in-count
slice_bounds-number_in-count c =
    let first : 0 < length c.args.word.now =
    inside c.args.word.now 0 (omega (arith, c.byte.ensures, c.if-byte-eq45.true)) in
    omega (arith, first)

pub slice_bounds-number_in-start : goal.slice_bounds-number_in-start
slice_bounds-number_in-start c =
    let first : 0 < length c.args.word.now =
    inside c.args.word.now 0 (omega (arith, c.byte.ensures, c.if-byte-eq45.true)) in
    omega (arith, first)
