-- By how many digits there are.
use mathlib.Core.Path.{refl}
use native.Mathlib.Omega.{arith}
use lib.ListN.{length}
use borrow.Author.Tests.{le-leb, lt-leb}
use Rattle.ask_arguments.specs.Arguments.{number_in}
use Rattle.ask_arguments.proofs.numbers.number_in.Goals as goal

pub returns-then-word-eq0 : goal.returns-then-word-eq0
unfolding number_in
returns-then-word-eq0 c =
    let w = c.args.word.now in
    rw (lt-leb 1 (length w) (omega (arith, c.if-word-eq0.true))) refl

pub returns-then-word-gt5 : goal.returns-then-word-gt5
unfolding number_in
returns-then-word-gt5 c =
    let w = c.args.word.now in
    rw (le-leb 1 (length w) (omega (arith, c.if-word-eq0.false)), lt-leb (length w) 5 c.if-word-gt5.true) refl

pub returns : goal.returns
unfolding number_in
returns c =
    let w = c.args.word.now in
    rw (le-leb 1 (length w) (omega (arith, c.if-word-eq0.false)), le-leb (length w) 5 c.if-word-gt5.false)
    c.value_in.ensures
