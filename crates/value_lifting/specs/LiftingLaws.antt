-- The answer of the lifting call, by what `lifting_order` tells of the state's tables.
use Rattle.std.specs.Prelude.{◌≡◌, false, List, [], ◌∷◌, ℕ, ◌*◌, leb, length}
use Rattle.std.proofs.Math.Path.{refl, sym}
use Rattle.std.proofs.Common.{◌∙◌, arith}
use Rattle.std.proofs.Math.Bool.{true, not}
use Rattle.std.proofs.Math.Dec.{ltb}
use borrow.Author.Tests.{eq-eqb, ne_eqb, le-leb, not-false}
use Rattle.base_lists.specs.Tests.{and-true}
use Rattle.table.proofs.Passes.{passes}
use Rattle.table.specs.RefusalLaws.{first_some, first-none, passed-test}
use Rattle.spec_machine.specs.Kept.{Kept, kept-exact}
use Rattle.spec_machine.specs.KeptLaws.{links-fit}
use Rattle.spec_machine.specs.State.{State, units, links, words, finished, FINISHED}
use Rattle.spec_machine.specs.WellFormed.{well_formed}
use Rattle.lifting_order.specs.Order.{bad_pairs, no_order}
use Rattle.lifting_order.specs.Written.{site_fits, order_refusal, order_written}
use Rattle.value_lifting.specs.declared.Lifting.TheVariants.{Lifted, Refused}
use Rattle.value_lifting.specs.Lifting.{Answer, early_refusal, lifting_refusal, lifting_answer, lifted}

module _ (s : State) where
  -- ---- 10, 12

  pub early_malformed : well_formed s ≡ false → 10 ≡ early_refusal s
  unfolding early_refusal
  early_malformed w = rw w refl

  pub early_running : well_formed s ≡ true → (s.clock.stage ≡ FINISHED → ⊥) → 12 ≡ early_refusal s
  unfolding early_refusal
  early_running w h = rw (w, ne_eqb s.clock.stage FINISHED h) refl

  pub early-none : well_formed s ≡ true → s.clock.stage ≡ FINISHED → 0 ≡ early_refusal s
  unfolding early_refusal
  early-none w e = rw (w, eq-eqb s.clock.stage FINISHED e) refl

  -- a kept state is a site
  kept_site : well_formed s ≡ true → length s.table.ends ≡ 2048 →
      site_fits (units s) (links s) s.table.ends ≡ true
  unfolding site_fits
  kept_site w l =
      let k : Kept s = (kept-exact s).0 w in
      and-true (leb (units s) 256) _ (le-leb (units s) 256 (passes (units s) (words s) k.passes).few_units)
      (and-true (leb (2 * links s) (length s.table.ends)) _
      (le-leb (2 * links s) (length s.table.ends) (omega (arith, k.few))) (links-fit s w))

  module _ (p out : List ℕ) where
    abbrev Told : Answer → List ℕ → Type 0
    Told answer new = (answer ≡ lifting_answer p (length out) s) × (new ≡ lifted p s out)

    -- refused early
    pub told-early : (r : ℕ) → r ≡ early_refusal s → (r ≡ 0 → ⊥) → Told (record { state = s; reply = Refused r }) out
    unfolding early_refusal lifting_refusal lifting_answer lifted
    told-early r e h =
        let q : lifting_refusal p (length out) s ≡ r =
        first_some ((10, not (well_formed s)) ∷ (12, not (finished s)) ∷ [])
        ((14, ltb (length out) (units s)) ∷ (19, bad_pairs (units s) p) ∷ (20, no_order (units s) (words s) p) ∷ [])
        (λ z. h (e ∙ z))
        ∙ sym e in
        (rw (q, ne_eqb r 0 h) refl, rw (q, ne_eqb r 0 h) refl)

    -- else by the tables
    same-refusal : early_refusal s ≡ 0 → length s.table.ends ≡ 2048
        → lifting_refusal p (length out) s ≡ order_refusal (units s) (links s) s.table.ends p (length out)
    unfolding early_refusal lifting_refusal order_refusal
    same-refusal e l =
        let w : well_formed s ≡ true = not-false (well_formed s)
        (passed-test (not (well_formed s)) 10 _ (omega arith) e).0 in
        first-none ((10, not (well_formed s)) ∷ (12, not (finished s)) ∷ [])
        ((14, ltb (length out) (units s)) ∷ (19, bad_pairs (units s) p) ∷ (20, no_order (units s) (words s) p) ∷ [])
        (omega arith) e
        ∙ rw (kept_site w l) refl

    module _ (r : ℕ) (new : List ℕ) (early : early_refusal s ≡ 0) (long : length s.table.ends ≡ 2048)
        (number : r ≡ order_refusal (units s) (links s) s.table.ends p (length out))
        (slice : new ≡ order_written (units s) (links s) s.table.ends p out) where
      pub told-refused : (r ≡ 0 → ⊥) → Told (record { state = s; reply = Refused r }) new
      unfolding lifting_answer lifted order_written
      told-refused h =
          let q : lifting_refusal p (length out) s ≡ r = same-refusal early long ∙ sym number in
          (rw (q, ne_eqb r 0 h) refl, slice ∙ rw (q, sym number) refl)

      pub told-lifted : r ≡ 0 → Told (record { state = s; reply = Lifted (units s) }) new
      unfolding lifting_answer lifted order_written
      told-lifted z =
          let q : lifting_refusal p (length out) s ≡ 0 = same-refusal early long ∙ (sym number ∙ z) in
          (rw q refl, slice ∙ rw (q, sym number ∙ z) refl)
