-- Refused, or by the verdict on the tables.
use Rattle.std.specs.Prelude.{◌≡◌, refl, List, ℕ, length, get_or}
use Rattle.std.proofs.Common.{sym, eq-eqb, ne_eqb}
use Rattle.spec_machine.specs.State.{State, units, links}
use Rattle.value_doubtful.specs.declared.Verdict.{Verdict}
use Rattle.value_doubtful.specs.declared.Verdict.TheVariants.{Refused}
use Rattle.value_doubtful.specs.Doubtful.{number_of, values_of, doubt_refusal}
use Rattle.value_doubtful.specs.DoubtRight.{VerdictTold}
use Rattle.value_doubtful.specs.DoubtRightProof.{doubt_refused, doubt_told}
use Rattle.words_requests.specs.DoubtSaid.{DoubtSaid}

module _ (i j : ℕ) (marks : List ℕ) (s : State) (old : ℕ) where
  pub doubt_not_asked : (r : ℕ) → r ≡ doubt_refusal i j (length marks) s → (r ≡ 0 → ⊥) → DoubtSaid i j marks s old old r
  doubt_not_asked r e h = record {
    reply = Refused r;
    right = doubt_refused i j marks s r e h;
    number = refl;
    verdict = rw (ne_eqb r 0 h) refl;
  }

  pub doubt_said : (reply : Verdict) (word : ℕ) → doubt_refusal i j (length marks) s ≡ 0 →
      length s.table.ends ≡ 2048 → number_of reply ≡ 0
      → VerdictTold (units s) (links s) s.table.ends marks i j reply → word ≡ get_or (values_of reply) 0 0 →
      DoubtSaid i j marks s old word 0
  doubt_said reply word none full f T w =
      record {
        reply = reply;
        right = doubt_told i j marks s reply none full f T;
        number = sym f;
        verdict = rw (eq-eqb (number_of reply) 0 f) w;
      }
