-- The part that is lent, and the whole after it.
use mathlib.Core.Path.{sym}
use Prim.Native.Nat.{◌-◌}
use lib.ListN.{take, drop}
use Rattle.spec_machine.specs.Calls.{reported}
use borrow.Author.Rules.{rules}
use Rattle.survey.specs.View.{of}
use Rattle.value_player.specs.WordSteps.{part-back}
use Rattle.value_player.proofs.made.report_into.Goals as goal

pub returns : goal.returns
returns c =
    let a = c.args in
    rw (sym c.least-from.ensures, sym c.least-to.ensures) (record {
      answer = c.report.ensures.reply;
      bytes = rw c.report.ensures.lent (part-back c.least-from.result c.least-to.result a.out.now
          (reported (of a.s) (take (c.least-to.result - c.least-from.result) (drop c.least-from.result a.out.now)))
          (search rules));
    })
