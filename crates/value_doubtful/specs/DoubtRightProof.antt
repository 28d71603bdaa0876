-- The proof of what T-08 asks, by what `ring_search` tells of the sure links and of all: more links, more rings.
use Rattle.std.specs.Prelude.{◌≡◌, refl, Bool, true, false, not, ◌↔◌, List, ℕ, ◌<◌, length, get_or, eqb}
use Rattle.std.proofs.Math.Path.{sym, ap}
use Rattle.std.proofs.Common.{◌∙◌, arith, eq-eqb}
use Rattle.table.specs.RefusalLaws.{first-cause, some-cause}
use Rattle.spec_machine.specs.Kept.{kept-exact}
use Rattle.spec_machine.specs.State.{State, units, links, finished}
use Rattle.spec_machine.specs.WellFormed.{well_formed}
use Rattle.report_write.specs.TwoLinks.{two-passed}
use Rattle.theory_reach.specs.Site.{Site}
use Rattle.ring_search.specs.Front.{RingedTold}
use Rattle.theory_ears.specs.KeptSite.{kept_site}
use Rattle.theory_ears.specs.Present.{Ringed, sure, ringed_more}
use Rattle.value_doubtful.specs.declared.Verdict.{Verdict}
use Rattle.value_doubtful.specs.declared.Verdict.TheVariants.{Always, Perhaps, Never, Refused}
use Rattle.value_doubtful.specs.Doubtful.{number_of, doubt_refusal, doubt_reasons}
use Rattle.value_doubtful.specs.DoubtRight.{Says, VerdictTold, DoubtRight}
use Rattle.value_doubtful.specs.Settings.{InEach, InSome}

-- ---- settings

module _ (m : ℕ) (ends marks : List ℕ) (i j : ℕ) where
  -- in each setting: of the sure links alone
  each : InEach m ends marks i j ↔ Ringed (sure marks) m ends i j
  each = (λ h. h (sure marks) (λ k l e. e), λ r present q. ringed_more (sure marks) present m ends q i j r)

  -- in some: of any marks by which every link counts
  some : (all : List ℕ) → ((k : ℕ) → get_or all k 0 ≡ 0) → InSome m ends marks i j ↔ Ringed (sure all) m ends i j
  some all h = (
    λ r. ringed_more r.0 (sure all) m ends (λ k l e. eq-eqb (get_or all k 0) 0 (h k)) i j r.2,
    λ r. (sure all, λ k l e. eq-eqb (get_or all k 0) 0 (h k), r),
  )

  each-some : InEach m ends marks i j → InSome m ends marks i j
  each-some h = (sure marks, λ k l e. e, h (sure marks) (λ k l e. e))

  -- replies differ
  code : Verdict → ℕ
  code Always = 2
  code Perhaps = 1
  code Never = 0
  code (Refused k) = 3

  says_always : InEach m ends marks i j → Says m ends marks i j Always
  unfolding code
  says_always h =
      record {
        always = (λ e. h, λ e. refl);
        perhaps = (λ e. absurd (let q : 2 ≡ 1 = ap code e in omega arith), λ w. absurd (w.1 h));
        never = (λ e. absurd (let q : 2 ≡ 0 = ap code e in omega arith), λ w. absurd (w (each-some h)));
      }

  says_perhaps : InSome m ends marks i j → (InEach m ends marks i j → ⊥) → Says m ends marks i j Perhaps
  unfolding code
  says_perhaps h n =
      record {
        always = (λ e. absurd (let q : 1 ≡ 2 = ap code e in omega arith), λ w. absurd (n w));
        perhaps = (λ e. (h, n), λ w. refl);
        never = (λ e. absurd (let q : 1 ≡ 0 = ap code e in omega arith), λ w. absurd (w h));
      }

  says_never : (InSome m ends marks i j → ⊥) → Says m ends marks i j Never
  unfolding code
  says_never n =
      record {
        always = (λ e. absurd (let q : 0 ≡ 2 = ap code e in omega arith), λ w. absurd (n (each-some w)));
        perhaps = (λ e. absurd (let q : 0 ≡ 1 = ap code e in omega arith), λ w. absurd (n w.0));
        never = (λ e. n, λ w. refl);
      }

-- ---- the verdict

module _ (n m : ℕ) (ends : List ℕ) (i j : ℕ) where
  module _ (marks : List ℕ) (x : Bool) (A : RingedTold n m ends i j (sure marks) x) where
    pub told-always : x ≡ true → VerdictTold n m ends marks i j Always
    told-always h site hi hj = says_always m ends marks i j ((each m ends marks i j).1 ((A site hi hj).0 h))

    module _ (z : x ≡ false) (all : List ℕ) (y : Bool) (counts : (k : ℕ) →
        get_or all k 0 ≡ 0) (B : RingedTold n m ends i j (sure all) y) where
      none_each : Site n m ends → i < m → j < m → InEach m ends marks i j → ⊥
      none_each site hi hj h = (A site hi hj).1 z ((each m ends marks i j).0 h)

      pub told-perhaps : y ≡ true → VerdictTold n m ends marks i j Perhaps
      told-perhaps h site hi hj = says_perhaps m ends marks i j
          ((some m ends marks i j all counts).1 ((B site hi hj).0 h)) (none_each site hi hj)

      pub told-never : y ≡ false → VerdictTold n m ends marks i j Never
      told-never q site hi hj = says_never m ends marks i j
          (λ h. (B site hi hj).1 q ((some m ends marks i j all counts).0 h))

-- ---- the call

module _ (i j : ℕ) (marks : List ℕ) (s : State) where
  abbrev refusal : ℕ
  refusal = doubt_refusal i j (length marks) s

  right : (reply : Verdict) → number_of reply ≡ refusal → (refusal ≡ 0 → Says (links s) s.table.ends marks i j reply)
      → DoubtRight i j marks s (record { state = s; reply = reply })
  unfolding doubt_refusal
  right reply e told =
      record {
        cause = λ k h. rw e (first-cause (doubt_reasons i j (length marks) s) k h);
        refused = rw e (some-cause (doubt_reasons i j (length marks) s) (omega arith));
        state = refl;
        told = λ z. told (sym e ∙ z);
      }

  pub doubt_refused : (r : ℕ) → r ≡ refusal → (r ≡ 0 → ⊥) →
      DoubtRight i j marks s (record { state = s; reply = Refused r })
  doubt_refused r e h = right (Refused r) e (λ z. absurd (h (e ∙ z)))

  pub doubt_told : (reply : Verdict) → refusal ≡ 0 → length s.table.ends ≡ 2048 → number_of reply ≡ 0
      → VerdictTold (units s) (links s) s.table.ends marks i j reply →
      DoubtRight i j marks s (record { state = s; reply = reply })
  unfolding doubt_refusal
  doubt_told reply e full z T =
      let p = two-passed (well_formed s) (finished s) (links s) i j 15 (not (eqb (length marks) (links s)))
      (omega arith) e in
      right reply (z ∙ sym e) (λ q. T (kept_site s full ((kept-exact s).0 p.0)) p.1 p.2)
