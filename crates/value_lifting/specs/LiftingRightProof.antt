-- The proof of what T-07 asks of the lifting call.
use Rattle.std.specs.Prelude.{◌≡◌, true, false, not, ◌⊎◌, List, ◌++◌, ℕ, eqb, ltb}
use Rattle.std.proofs.Math.Path.{refl}
use Rattle.std.proofs.Common.{sym, ap, ◌∙◌, inl, inr, arith}
use Rattle.std.proofs.Math.ListN.{length, drop}
use borrow.Author.Tests.{eqb-true, eq-eqb, ne_eqb, not-false}
use Rattle.base_lists.specs.Tests.{either}
use Rattle.table.specs.RefusalLaws.{first-cause, some-cause, passed-test}
use Rattle.spec_machine.specs.Kept.{kept-exact}
use Rattle.spec_machine.specs.State.{State, units, words, finished}
use Rattle.spec_machine.specs.WellFormed.{well_formed}
use Rattle.lifting_order.specs.Order.{Joins, Pair, order_of, bad_pairs, no_order}
use Rattle.value_lifting.specs.Lifting.{lifting_refusal, lifting_answer, lifted}
use Rattle.value_lifting.specs.LiftingCauses.{lifting_reasons, lifting_tests, order-right}
use Rattle.value_lifting.specs.LiftingRight.{Ordered, number, LiftingCall}

module _ (p out : List ℕ) (s : State) where
  abbrev refusal : ℕ
  refusal = lifting_refusal p (length out) s

  -- the number that comes back is the refusal's
  same_number : number p out s ≡ refusal
  unfolding lifting_answer
  same_number = go (either (eqb refusal 0))
    where
      go : (eqb refusal 0 ≡ true) ⊎ (eqb refusal 0 ≡ false) → number p out s ≡ refusal
      go (inl e) = rw e (sym (eqb-true refusal 0 e))
      go (inr e) = rw e refl

  written : refusal ≡ 0 → Ordered (units s) (Joins (words s)) (Pair p) out (lifted p s out)
  unfolding lifting_refusal lifted
  written e =
      let a = passed-test (not (well_formed s)) 10 _ (omega arith) e in
      let b = passed-test (not (finished s)) 12 _ (omega arith) a.1 in
      let c = passed-test (ltb (length out) (units s)) 14 _ (omega arith) b.1 in
      let d = passed-test (bad_pairs (units s) p) 19 _ (omega arith) c.1 in
      let f = passed-test (no_order (units s) (words s) p) 20 _ (omega arith) d.1 in
      let r = order-right s p ((kept-exact s).0 (not-false (well_formed s) a.0)) d.0 in
      let long : length (order_of (units s) (words s) p) ≡ units s =
      eqb-true (length (order_of (units s) (words s) p)) (units s) (not-false _ f.0) in
      record {
        order = order_of (units s) (words s) p;
        lifts = r.lifts f.0;
        each = r.each;
        least = r.least;
        front = rw e (ap (λ (k : ℕ). order_of (units s) (words s) p ++ drop k out) long);
      }

pub lifting_call : LiftingCall
unfolding lifting_answer lifted
lifting_call p out s =
    record {
      cause = λ k h. rw (
        same_number p out s,
        lifting_tests p (length out) s,
      ) (first-cause (lifting_reasons p (length out) s) k h);
      refused = rw (
        same_number p out s,
        lifting_tests p (length out) s,
      ) (some-cause (lifting_reasons p (length out) s) (omega arith));
      state = refl;
      unwritten = λ h. rw (ne_eqb (refusal p out s) 0 (λ e. h (same_number p out s ∙ e))) refl;
      values = λ e. rw (eq-eqb (refusal p out s) 0 (sym (same_number p out s) ∙ e)) refl;
      written = λ e. written p out s (sym (same_number p out s) ∙ e);
    }
