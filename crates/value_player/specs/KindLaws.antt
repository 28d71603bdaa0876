-- What a call given as words is, kind by kind.
use Rattle.std.specs.Prelude.{◌≡◌, refl, List, ◌++◌, ℕ, length, take, drop}
use Rattle.std.proofs.Common.{ne_eqb}
use Rattle.spec_machine.specs.State.{State}
use Rattle.spec_machine.specs.Calls.{Answer}
use Rattle.spec_machine.specs.Calls.{round_answer, run_answer, status_answer, unit_answer, link_answer, report_answer}
use Rattle.spec_machine.specs.Calls.{reported}
use Rattle.spec_claim.specs.Play.{answer_to}
use Rattle.value_player.specs.Words.{part_from, part_to, part, call_of, out_after}

module _ (kind a b : ℕ) (out : List ℕ) (s : State) where
  -- the answer to the call, and the slice after it
  abbrev pub Means : Answer → List ℕ → Type 0
  Means answer after = (answer ≡ answer_to (call_of kind a b out) s) × (after ≡ out_after kind a b out s)

  pub means_round : kind ≡ 1 → Means (round_answer s) out
  means_round e = rw e (refl, refl)

  pub means_run : kind ≡ 2 → Means (run_answer a s) out
  means_run e = rw e (refl, refl)

  pub means_unit : kind ≡ 4 → Means (unit_answer a s) out
  means_unit e = rw e (refl, refl)

  pub means_link : kind ≡ 5 → Means (link_answer a s) out
  means_link e = rw e (refl, refl)

  pub means_report : kind ≡ 6
      → Means (report_answer (length (part a b out)) s)
      (take (part_from a out) out ++ (reported s (part a b out) ++ drop (part_to a b out) out))
  means_report e = rw e (refl, refl)

  pub means_status : (kind ≡ 1 → ⊥) → (kind ≡ 2 → ⊥) → (kind ≡ 4 → ⊥) → (kind ≡ 5 → ⊥) → (kind ≡ 6 → ⊥) →
      Means (status_answer s) out
  means_status round run unit link report =
      rw (ne_eqb kind 1 round, ne_eqb kind 2 run, ne_eqb kind 4 unit, ne_eqb kind 5 link, ne_eqb kind 6 report) (
        refl,
        refl,
      )
