-- What a pass over links whose ends all exist may rely on.
use Rattle.std.specs.Prelude.{◌≡◌, Bool, true, false, cond, length, set, ltb}
use Rattle.std.proofs.Math.Path.{sym, ap}
use Rattle.std.proofs.Common.{◌∙◌, le_antisymm, arith, get_or-set_other, lt-ltb, le-ltb}
use mathlib.Core.List.{List}
use Prim.Native.Nat.{ℕ, ◌≤◌, ◌<◌, min}
use Rattle.std.proofs.Math.Decide.{dec_lt}
use Rattle.std.proofs.Math.ListN.{get_or}
use Rattle.std.proofs.lemmas.List.{set-get_or}
use Rattle.base_lists.specs.LeastLaws.{least_start}
use Rattle.base_lists.specs.Tables.{over, length_over, get_d_over}
use Rattle.base_lists.specs.Scatter.{takes_in}
use Rattle.table.specs.Table.{end_a, end_b}
use Rattle.spec_rules.specs.Basics.{at, heard}
use Rattle.spec_rules.specs.Components.{least_heard}
use Rattle.spec_rules.specs.HeardLaws.{hears}

-- unit v exists and has at most what it says
abbrev pub Hearer : ℕ → List ℕ → List ℕ → ℕ → Type 0
Hearer n said t v = (v < n) × ((v < length said) × ((v < length t) × (get_or t v 0 ≤ get_or said v 0)))

pub hearer : (n j : ℕ) (ends said t : List ℕ) (v : ℕ) → v < n → v < length said →
    t ≡ over n (least_heard j ends said) said → Hearer n said t v
unfolding least_heard
hearer n j ends said t v h l was =
    let f = least_heard j ends said in
    let is : get_or t v 0 ≡ f v = rw was (get_d_over n f said v 0 h l) in
    let below : f v ≤ at said v = least_start j (λ (k : ℕ). heard said (end_a ends k) (end_b ends k) v) (at said v) in
    (h, (l, (rw (was, length_over n f said) l, rw is below)))

less-self : {x : ℕ} → x < x → ⊥
less-self h = omega arith

-- what is no less than an entry leaves it as it is
unheard : (n : ℕ) (t : List ℕ) (v x : ℕ) → v < n → get_or t v 0 ≤ x → takes_in min n t v x ≡ t
unfolding takes_in
unheard n t v x h l = let own : min (get_or t v 0) x ≡ get_or t v 0 = omega arith in
    rw (lt-ltb v n h, own) (set-get_or t v 0)

taken : (n : ℕ) (t : List ℕ) (v x : ℕ) → v < n → set t v (min (get_or t v 0) x) ≡ takes_in min n t v x
unfolding takes_in
taken n t v x h = rw (lt-ltb v n h)

-- either of two entries exists
chosen-within : (m : ℕ) (test : Bool) (a b : ℕ) → a < m → b < m → cond test b a < m
chosen-within m true a b ha hb = hb
chosen-within m false a b ha hb = ha

-- the end that says less hears nothing
module _ (n : ℕ) (said t : List ℕ) (a b : ℕ) (ha : Hearer n said t a) (hb : Hearer n said t b) where
  hears-second : get_or said a 0 < get_or said b 0 → (new : List ℕ) → new
      ≡ set t b (min (get_or t b 0) (get_or said a 0)) →
      new ≡ hears false n said a b t
  unfolding hears
  hears-second h new put =
      rw (put, unheard n t a (get_or said b 0) ha.0 (omega (arith, ha.1.1.1))) (taken n t b (get_or said a 0) hb.0)

  hears-first : get_or said b 0 < get_or said a 0 → (new : List ℕ) → new
      ≡ set t a (min (get_or t a 0) (get_or said b 0)) →
      new ≡ hears false n said a b t
  unfolding hears
  hears-first h new put =
      let apart : b ≡ a → ⊥ = λ q. less-self (rw q at h) in
      let kept : get_or new b 0 ≡ get_or t b 0 =
      rw put (get_or-set_other t a b (min (get_or t a 0) (get_or said b 0)) 0 apart) in
      let same : new ≡ takes_in min n t a (get_or said b 0) = put ∙ taken n t a (get_or said b 0) ha.0 in
      let rest : takes_in min n new b (get_or said a 0) ≡ new =
      unheard n new b (get_or said a 0) hb.0 (omega (arith, hb.1.1.1, kept)) in
      sym rest ∙ ap (λ (l : List ℕ). takes_in min n l b (get_or said a 0)) same

  hears-none : get_or said a 0 ≡ get_or said b 0 → t ≡ hears false n said a b t
  unfolding hears
  hears-none h =
      rw (unheard n t a (get_or said b 0) ha.0 (omega (arith, ha.1.1.1, h)))
      (sym (unheard n t b (get_or said a 0) hb.0 (omega (arith, hb.1.1.1, h))))

  hears-same : get_or said a 0 ≡ get_or said b 0 → (new : List ℕ) → new ≡ set t a (min (get_or t a 0) (get_or said b 0))
      →
      new ≡ hears false n said a b t
  hears-same h new put =
      put ∙ taken n t a (get_or said b 0) ha.0 ∙ unheard n t a (get_or said b 0) ha.0 (omega (arith, ha.1.1.1, h))
      ∙ hears-none h

  pub hearer-within : (i : ℕ) → i ≡ cond (ltb (get_or said a 0) (get_or said b 0)) b a → i < length t
  hearer-within i which = rw which (chosen-within (length t) (ltb (get_or said a 0) (get_or said b 0)) a b ha.1.1.0
      hb.1.1.0)

  -- the lesser of what both say goes to the end that says more; where they say the same, to the first
  pub hears_lesser : (i x : ℕ) → i ≡ cond (ltb (get_or said a 0) (get_or said b 0)) b a →
      x ≡ min (get_or said a 0) (get_or said b 0)
      → (new : List ℕ) → new ≡ set t i (min (get_or t i 0) x) → new ≡ hears false n said a b t
  hears_lesser i x which least new put =
      go (dec_lt (get_or said a 0) (get_or said b 0)) (dec_lt (get_or said b 0) (get_or said a 0))
    where
      go : Dec (get_or said a 0 < get_or said b 0) → Dec (get_or said b 0 < get_or said a 0) → new
          ≡ hears false n said a b t
      go (yes h) _ =
          let to : i ≡ b = rw (lt-ltb (get_or said a 0) (get_or said b 0) h) at which in
          let what : x ≡ get_or said a 0 = omega (arith, least, h) in
          hears-second h new (rw (to, what) at put)
      go (no h) (yes l) =
          let to : i ≡ a = rw (le-ltb (get_or said a 0) (get_or said b 0) (omega (arith, l))) at which in
          let what : x ≡ get_or said b 0 = omega (arith, least, l) in
          hears-first l new (rw (to, what) at put)
      go (no h) (no l) =
          let to : i ≡ a = rw (le-ltb (get_or said a 0) (get_or said b 0) (omega (arith, h))) at which in
          let what : x ≡ get_or said b 0 = omega (arith, least, h) in
          hears-same (le_antisymm (omega (arith, l)) (omega (arith, h))) new (rw (to, what) at put)
