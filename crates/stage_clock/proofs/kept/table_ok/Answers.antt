-- Too many links, or the checks of the words.
use mathlib.Core.Path.{refl, sym, ◌∙◌}
use mathlib.Core.Bool.{true≢false}
use Prim.Native.Nat.{◌*◌}
use lib.ListN.{take}
use native.Mathlib.Omega.{arith}
use borrow.Author.Tests.{le-leb, lt-leb, eqb-true}
use Rattle.table.proofs.Passes.{passes}
use Rattle.spec_machine.specs.WellFormed.{table_ok}
use Rattle.stage_clock.proofs.kept.table_ok.Goals as goal

pub returns-then-links-gt1024 : goal.returns-then-links-gt1024
unfolding table_ok
returns-then-links-gt1024 c =
    record {
      exact = rw (lt-leb c.args.links 1024 c.if-links-gt1024.true) refl;
      few = λ e. absurd (true≢false (sym e));
    }

pub returns : goal.returns
unfolding table_ok
returns c =
    let a = c.args in
    let words = take (2 * a.links) a.ends.now in record {
      exact = rw (le-leb a.links 1024 (omega arith), c.refusal_of.ensures) refl;
      few = λ e. (passes a.units words (sym c.refusal_of.ensures ∙ eqb-true c.refusal_of.result 0 e)).few_units;
    }
