-- By whether the state is well formed.
use mathlib.Core.Path.{refl, sym, ◌∙◌}
use Rattle.spec_machine.specs.Calls.{status_answer, status_refusal}
use Rattle.words_calls.proofs.status.Goals as goal

pub returns-then-not-kept : goal.returns-then-not-kept
unfolding status_answer status_refusal
returns-then-not-kept c =
    rw (sym c.kept.ensures ∙ c.if-not-kept.true) (record {
      number = refl;
      said = refl;
    })

pub status_values-requires : goal.status_values-requires
status_values-requires c = sym c.kept.ensures ∙ c.if-not-kept.false

pub returns : goal.returns
unfolding status_answer status_refusal
returns c =
    rw (sym c.kept.ensures ∙ c.if-not-kept.false) (record {
      number = refl;
      said = c.status_values.ensures;
    })
