-- Why the lifting call is refused, in the words of T-07, and that each test decides its cause: the reasons in order.
use Rattle.std.specs.Prelude.{◌≡◌, refl, Bool, true, false, cond, not, ◌&&◌, ◌||◌, ◌⊎◌, ◌↔◌, List, [], ◌∷◌, ℕ, ◌+◌, ◌*◌}
use Rattle.std.specs.Prelude.{◌≤◌, ◌<◌, ltb, length, get_or}
use Rattle.std.proofs.Common.{ltb-true, lt-ltb}
use Rattle.std.proofs.lemmas.Bool.{not-true}
use Rattle.base_lists.specs.Tests.{and_left, and_right, and-true, or_exact, not_exact, or_false-right, refuted}
use Rattle.table.proofs.Passes.{passes}
use Rattle.table.specs.Refusals.{first_of}
use Rattle.table.specs.RefusalLaws.{Reason, tests}
use Rattle.table.specs.Table.{link_count, odd_words, end_missing}
use Rattle.table.specs.TableCauses.{odd_words-exact, end_missing-exact}
use Rattle.spec_machine.specs.CallCauses.{not_kept, before_end, too_short}
use Rattle.spec_machine.specs.Kept.{Kept, kept-exact}
use Rattle.spec_machine.specs.State.{State, units, words, finished}
use Rattle.spec_machine.specs.WellFormed.{well_formed}
use Rattle.lifting_order.specs.LiftingOrder.{OrderRight}
use Rattle.lifting_order.specs.LiftingProof.{lifting_order}
use Rattle.lifting_order.specs.Lifts.{Lifts}
use Rattle.lifting_order.specs.Order.{Joins, Pair, bad_pairs, no_order}
use Rattle.value_lifting.specs.Lifting.{lifting_refusal}

-- more than 256 pairs, an odd number of words, or a pair that names a missing unit
abbrev pub BadPairs : ℕ → List ℕ → Type 0
BadPairs n p = (256 < link_count p) ⊎ (((k : ℕ) × (length p ≡ 2 * k + 1))
    ⊎ ((i : ℕ) × (i < length p) × (n ≤ get_or p i 0)))

pub bad_exact : (n : ℕ) (p : List ℕ) → (bad_pairs n p ≡ true) ↔ BadPairs n p
bad_exact n p =
    or_exact (ltb 256 (link_count p)) (odd_words p || end_missing n p) (
      ltb-true 256 (link_count p),
      lt-ltb 256 (link_count p),
    )
    (or_exact (odd_words p) (end_missing n p) (odd_words-exact p) (end_missing-exact n p))

-- of a kept state and pairs that name its units, no lifting order exists
abbrev pub NoOrder : State → List ℕ → Type 0
NoOrder s p = Kept s × (BadPairs (units s) p → ⊥) × ((o : List ℕ) → Lifts (units s) (Joins (words s)) (Pair p) o → ⊥)

module _ (s : State) (p : List ℕ) where
  -- the order of a kept state and of such pairs is right
  pub order-right : Kept s → bad_pairs (units s) p ≡ false → OrderRight (units s) (words s) p
  order-right k b =
      lifting_order (units s) (words s) p (passes (units s) (words s) k.passes).some_unit
      (or_false-right (odd_words p) (end_missing (units s) p)
      (or_false-right (ltb 256 (link_count p)) (odd_words p || end_missing (units s) p) b))

  abbrev pub none : Bool
  none = well_formed s && (not (bad_pairs (units s) p) && no_order (units s) (words s) p)

  pub none-exact : (none ≡ true) ↔ NoOrder s p
  none-exact = (to, from)
    where
      to : none ≡ true → NoOrder s p
      to e =
          let k : Kept s = (kept-exact s).0 (and_left (well_formed s) _ e) in
          let r = and_right (well_formed s) _ e in
          let g = and_left (not (bad_pairs (units s) p)) (no_order (units s) (words s) p) r in (
            k,
            (not_exact (bad_pairs (units s) p) (bad_exact (units s) p)).0 g,
            (order-right k (not-true (bad_pairs (units s) p) g)).refused.0
                (and_right (not (bad_pairs (units s) p)) (no_order (units s) (words s) p) r),
          )

      from : NoOrder s p → none ≡ true
      from (k, b, o) =
          let f : bad_pairs (units s) p
          ≡ false = refuted (bad_pairs (units s) p) (λ e. b ((bad_exact (units s) p).0 e)) in
          and-true (well_formed s) _ ((kept-exact s).1 k)
          (and-true (not (bad_pairs (units s) p)) (no_order (units s) (words s) p) (rw f refl)
          ((order-right k f).refused.1 o))

-- 10, 12, 14, 19, 20
abbrev pub lifting_reasons : List ℕ → ℕ → State → List Reason
lifting_reasons p places s =
    not_kept s
    ∷ before_end s
    ∷ too_short places (units s)
    ∷ record { number = 19; test = bad_pairs (units s) p; cause = BadPairs (units s) p; exact = bad_exact (units s) p }
    ∷ record { number = 20; test = none s p; cause = NoOrder s p; exact = none-exact s p }
    ∷ []

pub lifting_tests : (p : List ℕ) (places : ℕ) (s : State) →
    lifting_refusal p places s ≡ first_of (tests (lifting_reasons p places s))
unfolding lifting_refusal
lifting_tests p places s = go (well_formed s) (not (finished s)) (ltb places (units s)) (bad_pairs (units s) p)
    (no_order (units s) (words s) p)
  where
    go : (a b c d e : Bool) → ◌≡◌ {A = ℕ} (cond (not a) 10 (cond b 12 (cond c 14 (cond d 19 (cond e 20 0)))))
        (cond (not a) 10 (cond b 12 (cond c 14 (cond d 19 (cond (a && (not d && e)) 20 0)))))
    go false b c d e = refl
    go true b c true e = refl
    go true b c false e = refl
