-- By the two tests in order.
use mathlib.Core.Path.{refl, sym, ◌∙◌}
use borrow.Author.Tests.{eq-eqb, ne_eqb}
use Rattle.spec_machine.specs.Calls.{round_refusal}
use Rattle.words_run.proofs.refusal.Goals as goal

pub returns-then-not-kept : goal.returns-then-not-kept
unfolding round_refusal
returns-then-not-kept c = rw (sym c.kept.ensures ∙ c.if-not-kept.true) refl

pub returns-then-clock_at-eq-FINISHED : goal.returns-then-clock_at-eq-FINISHED
unfolding round_refusal
returns-then-clock_at-eq-FINISHED c =
    rw (
      sym c.kept.ensures ∙ c.if-not-kept.false,
      eq-eqb _ 11 (rw c.clock_at.ensures at c.if-clock_at-eq-FINISHED.true),
    ) refl

pub returns-else-clock_at-eq-FINISHED : goal.returns-else-clock_at-eq-FINISHED
unfolding round_refusal
returns-else-clock_at-eq-FINISHED c =
    rw (
      sym c.kept.ensures ∙ c.if-not-kept.false,
      ne_eqb _ 11 (rw c.clock_at.ensures at c.if-clock_at-eq-FINISHED.false),
    ) refl
