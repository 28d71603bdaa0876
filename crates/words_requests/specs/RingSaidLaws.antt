-- Refused, or by what is laid.
use Rattle.std.specs.Prelude.{◌≡◌, refl, List, ℕ, length}
use Rattle.std.proofs.Math.Decide.{ℕ_discrete}
use Rattle.std.proofs.Common.{ne_eqb}
use Rattle.spec_machine.specs.State.{State, units, links}
use Rattle.value_ring.specs.declared.Shown.TheVariants.{NoRing, Refused}
use Rattle.value_ring.specs.declared.Shown.TheVariants as Replies
use Rattle.value_ring.specs.Shown.{shown_refusal}
use Rattle.value_ring.specs.ShownRight.{RingLaid}
use Rattle.value_ring.specs.ShownRightProof.{shown-refused, shown-none, shown-ring}
use Rattle.words_requests.specs.RingSaid.{RingSaid}

module _ (i j : ℕ) (s : State) (out : List ℕ) (old : ℕ) where
  pub ring-refused : (r : ℕ) → r ≡ shown_refusal i j (length out) s → (r ≡ 0 → ⊥) → RingSaid i j s out old out old r
  ring-refused r e h = record {
    reply = Refused r;
    right = shown-refused i j s out r e h;
    number = refl;
    count = rw (ne_eqb r 0 h) refl;
  }

  pub ring-said : (new : List ℕ) (r : ℕ) → shown_refusal i j (length out) s ≡ 0 → length s.table.ends ≡ 2048
      → RingLaid (units s) (links s) s.table.ends i j out new r → RingSaid i j s out old new r 0
  ring-said new r none full L = go (ℕ_discrete r 0)
    where
      go : Dec (r ≡ 0) → RingSaid i j s out old new r 0
      go (yes f) = record { reply = NoRing; right = shown-none i j s out new r none full L f; number = refl; count = f }
      go (no f) = record {
        reply = Replies.Ring r;
        right = shown-ring i j s out new r none full L f;
        number = refl;
        count = refl;
      }
