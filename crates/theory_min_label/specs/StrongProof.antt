-- The survey of one-way links is right (Groups.antt states it).
use Rattle.std.specs.Prelude.{◌≡◌, refl, Bool, true, false, cond, ◌⊎◌, ◌↔◌, eqb, length}
use Rattle.std.proofs.Common.{sym, ap, subst, ◌∙◌, inl, inr, arith, length-append, eqb-true}
use mathlib.Core.List.{List, [], ◌∷◌, ◌++◌}
use Prim.Native.Nat.{ℕ, zero, suc, ◌+◌, ◌≤◌, ◌<◌}
use Rattle.std.proofs.Math.Decide.{ℕ_discrete, dec_lt}
use Rattle.std.proofs.lemmas.Bool.{eqb-false}
use Rattle.base_lists.specs.Folds.{count}
use Rattle.base_lists.specs.Counts.{count-fewer, count_cong}
use Rattle.base_lists.specs.Some.{some-exact, some-none}
use Rattle.base_lists.specs.Tables.{over, length_over, get_d_over, get_d_over_past}
use Rattle.base_lists.specs.Tests.{either, refuted, not_both}
use Rattle.base_lists.specs.Members.{Mem, Distinct, mem_split, mem_cases, mem_left, mem_right}
use Rattle.theory_min_label.specs.Groups.{Link, Mutual, LeastOf, OneOfEach, Strong}
use Rattle.theory_min_label.specs.Spread.{Within, walk_within, Least}
use Rattle.theory_min_label.specs.PassLaws.{same_group, Turned, Sound, Left, sources, numbers, pass-sound}
use Rattle.theory_min_label.specs.PassLaws.{more-led}
use Rattle.theory_min_label.specs.MinLabel.{NONE, at, min_forward, min_backward, marked, remaining, unfinished}
use Rattle.theory_min_label.specs.MinLabel.{passes, min_label}
use Rattle.theory_min_label.specs.MinLabelLaws.{forward-least, backward-least, remaining-left}

-- the units that are their own number
abbrev leads : List ℕ → ℕ → Bool
leads x v = eqb (at x v) v

abbrev led : ℕ → List ℕ → ℕ
led n x = count n (leads x)

-- the least number that passes a test, where one does
first_of : (n : ℕ) (p : ℕ → Bool) → ((i : ℕ) × (i < n) × (p i ≡ true) × ((w : ℕ) → w < i → p w ≡ false))
    ⊎ ((w : ℕ) → w < n → p w ≡ false)
first_of zero p = inr (λ w h. absurd (omega arith))
first_of (suc n) p = go (first_of n p) (either (p n))
  where
    go : ((i : ℕ) × (i < n) × (p i ≡ true) × ((w : ℕ) → w < i → p w ≡ false)) ⊎ ((w : ℕ) → w < n → p w ≡ false) →
        (p n ≡ true) ⊎ (p n ≡ false)
        → ((i : ℕ) × (i < suc n) × (p i ≡ true) × ((w : ℕ) → w < i → p w ≡ false)) ⊎ ((w : ℕ) → w < suc n → p w ≡ false)
    go (inl (i, h, e, m)) d = inl (i, omega arith, e, m)
    go (inr none) (inl e) = inl (n, omega arith, e, none)
    go (inr none) (inr e) = inr all
      where
        all : (w : ℕ) → w < suc n → p w ≡ false
        all w h = pick (dec_lt w n)
          where
            pick : Dec (w < n) → p w ≡ false
            pick (yes l) = none w l
            pick (no l) = let q : w ≡ n = omega arith in rw q e

module _ (n : ℕ) (few : n ≤ 256) (E : ℕ → ℕ → Type 0) (inside : Within n E) where
  -- where every unit is its own number, none is without
  all-led : (x : List ℕ) → n ≤ led n x → (v : ℕ) → v < n → at x v ≡ NONE → ⊥
  all-led x full v h e = omega (
    arith,
    count-fewer n (leads x) v h
        (refuted (leads x v) (λ t. omega (arith, eqb-true (at x v) v t))),
  )

  -- only the numbers of units count, and which links there are
  sound-same : (L M : ℕ → ℕ → Type 0) (g h : ℕ → ℕ) → ((u v : ℕ) → M u v ↔ L u v) → ((v : ℕ) → v < n → g v ≡ h v) →
      Sound NONE n E L g → Sound NONE n E M h
  sound-same L M g h links same S =
      record {
        links = λ u v m. let (e, a, b) = S.links u v ((links u v).0 m) in let (p, q) =
            inside u v e in (e, sym (same u p) ∙ a, sym (same v q) ∙ b);
        kept = λ u v e c o. (links u v).1 (S.kept u v e c (same u (inside u v e).0 ∙ o));
        right = λ v l k. rw (← (same v l)) (S.right v l (λ o. k (sym (same v l) ∙ o)));
      }

  -- what passes from x on leave: y after j more
  pub record Done (x y : List ℕ) (j : ℕ) : Type 0 where
    pub right : (v : ℕ) → v < n → LeastOf E v (at y v)
    pub led-by : led n x + j ≤ led n y
    pub past : (v : ℕ) → n ≤ v → at y v ≡ at x v
    pub size : length y ≡ length x

  passes-done : (k : ℕ) (t x : List ℕ) → n ≤ length x → Sound NONE n E (Link t) (at x) → n ≤ led n x + k →
      Done x (passes k n t x).0 (passes k n t x).1
  unfolding passes
  passes-done zero t x l S b =
      record {
        right = λ v h. S.right v h (all-led x (omega arith) v h);
        led-by = omega arith;
        past = λ v h. refl;
        size = refl;
      }
  passes-done (suc k) t x l S b = go (either (unfinished n x)) (passes-done k (remaining f c t) y)
    where
      f : List ℕ
      f = min_forward n t

      c : List ℕ
      c = min_backward n t f

      y : List ℕ
      y = over n (marked f c x) x

      within : Within n (Link t)
      within u v e = inside u v (S.links u v e).0

      F : Least n (Turned (Link t)) (λ (v : ℕ). v) (at f)
      F = forward-least n t within

      B : Least n (Link t) (sources NONE (at f)) (at c)
      B = backward-least n t f within

      after : (v : ℕ) → v < n → numbers NONE (at f) (at c) (at x) v ≡ at y v
      after v h = sym (get_d_over n (marked f c x) x v 0 h (omega arith))

      sound : Sound NONE n E (Link (remaining f c t)) (at y)
      sound =
          sound-same (Left NONE (at f) (at c) (Link t)) (Link (remaining f c t)) (numbers NONE (at f) (at c) (at x))
          (at y) (remaining-left f c t) after
          (pass-sound NONE inside (omega arith) S (at f) (at c) F B)

      more : unfinished n x ≡ true → led n x < led n y
      more e = pick (first_of n (λ (v : ℕ). eqb (at x v) NONE))
        where
          same : led n y ≡ count n (λ (v : ℕ). eqb (numbers NONE (at f) (at c) (at x) v) v)
          same = count_cong n (leads y) (λ (v : ℕ). eqb (numbers NONE (at f) (at c) (at x) v) v)
              (λ v h. rw (after v h) refl)

          pick : ((i : ℕ) × (i < n) × (eqb (at x i) NONE ≡ true) × ((w : ℕ) → w < i → eqb (at x w) NONE ≡ false))
              ⊎ ((w : ℕ) → w < n → eqb (at x w) NONE ≡ false) → led n x < led n y
          pick (inl (i, h, o, m)) =
              omega (
                arith,
                same,
                more-led NONE inside (omega arith) S (at f) (at c) F B i h (eqb-true (at x i) NONE o)
                    (λ w q z. eqb-false (at x w) NONE (m w q) z),
              )
          pick (inr none) =
              let (i, h, o) = (some-exact n (λ (v : ℕ). eqb (at x v) NONE)).0 e in
              absurd (not_both (eqb (at x i) NONE) o (none i h))

      go : (unfinished n x ≡ true) ⊎ (unfinished n x ≡ false)
          → (n ≤ length y → Sound NONE n E (Link (remaining f c t)) (at y) → n ≤ led n y + k →
          Done y (passes k n (remaining f c t) y).0 (passes k n (remaining f c t) y).1)
          → Done x (passes (suc k) n t x).0 (passes (suc k) n t x).1
      go (inr e) later =
          rw e
          (record {
            right = λ v h. S.right v h (eqb-false (at x v) NONE (some-none n (λ (w : ℕ). eqb (at x w) NONE) e v h));
            led-by = omega arith;
            past = λ v h. refl;
            size = refl;
          })
      go (inl e) later =
          let grows = more e in
          let D = later (omega (arith, length_over n (marked f c x) x)) sound (omega arith) in
          rw e
          (record {
            right = D.right;
            led-by = omega (arith, D.led-by);
            past = λ v h. D.past v h ∙ get_d_over_past n (marked f c x) x v 0 h;
            size = D.size ∙ length_over n (marked f c x) x;
          })

-- ---- the groups, by the units that lead them

-- the units below n that are their own number
unfoldable leaders : ℕ → List ℕ → List ℕ
leaders zero y = []
leaders (suc n) y = cond (leads y n) (n ∷ leaders n y) (leaders n y)

length-leaders : (n : ℕ) (y : List ℕ) → length (leaders n y) ≡ led n y
unfolding leaders
length-leaders zero y = refl
length-leaders (suc n) y = go (leads y n) (length-leaders n y)
  where
    go : (b : Bool) → length (leaders n y) ≡ led n y →
        length (cond b (n ∷ leaders n y) (leaders n y)) ≡ led n y + cond b 1 0
    go true e = omega arith
    go false e = omega arith

leader_in : (n : ℕ) (y : List ℕ) (r : ℕ) → r < n → at y r ≡ r → Mem r (leaders n y)
unfolding leaders
leader_in zero y r h e = absurd (omega arith)
leader_in (suc n) y r h e = go (ℕ_discrete r n) (either (leads y n)) (leader_in n y r)
  where
    go : Dec (r ≡ n) → (leads y n ≡ true) ⊎ (leads y n ≡ false) → (r < n → at y r ≡ r → Mem r (leaders n y)) →
        Mem r (cond (leads y n) (n ∷ leaders n y) (leaders n y))
    go (yes q) (inl t) below = rw t (inl q)
    go (yes q) (inr t) below = absurd (eqb-false (at y n) n t (rw (← q) e))
    go (no q) (inl t) below = rw t (inr (below (omega arith) e))
    go (no q) (inr t) below = rw t (below (omega arith) e)

leader_is : (n : ℕ) (y : List ℕ) (r : ℕ) → Mem r (leaders n y) → (r < n) × (at y r ≡ r)
unfolding leaders
leader_is zero y r m = absurd m
leader_is (suc n) y r m = go (either (leads y n)) m (leader_is n y r)
  where
    go : (leads y n ≡ true) ⊎ (leads y n ≡ false) → Mem r (cond (leads y n) (n ∷ leaders n y) (leaders n y)) →
        (Mem r (leaders n y) → (r < n) × (at y r ≡ r)) → (r < suc n) × (at y r ≡ r)
    go (inl t) m below = by (rw t at m)
      where
        by : (r ≡ n) ⊎ Mem r (leaders n y) → (r < suc n) × (at y r ≡ r)
        by (inl q) = (omega arith, rw q (eqb-true (at y n) n t))
        by (inr k) = let w = below k in let l : r < n = w.0 in (omega arith, w.1)
    go (inr t) m below = let w = below (rw t at m) in let l : r < n = w.0 in (omega arith, w.1)

leaders_distinct : (n : ℕ) (y : List ℕ) → Distinct (leaders n y)
unfolding leaders
leaders_distinct zero y = tt
leaders_distinct (suc n) y = go (either (leads y n)) (leaders_distinct n y)
  where
    go : (leads y n ≡ true) ⊎ (leads y n ≡ false) → Distinct (leaders n y) →
        Distinct (cond (leads y n) (n ∷ leaders n y) (leaders n y))
    go (inl t) d = rw t (λ m. omega (arith, (leader_is n y n m).0), d)
    go (inr t) d = rw t d

-- a list without repeats is no longer than one that has all its members
sub_length : (l k : List ℕ) → Distinct l → ((r : ℕ) → Mem r l → Mem r k) → length l ≤ length k
sub_length [] k d sub = omega arith
sub_length (x ∷ l) k d sub = go (mem_split x k (sub x (inl refl))) (sub_length l)
  where
    go : (s : List ℕ) × (t : List ℕ) × (k ≡ s ++ x ∷ t) →
        ((k : List ℕ) → Distinct l → ((r : ℕ) → Mem r l → Mem r k) → length l ≤ length k)
        → suc (length l) ≤ length k
    go (s, t, e) later =
        omega (arith, ap length e, length-append s (x ∷ t), length-append s t, later (s ++ t) d.1 rest)
      where
        rest : (r : ℕ) → Mem r l → Mem r (s ++ t)
        rest r m = by (mem_cases r s (x ∷ t) (subst (λ (q : List ℕ). Mem r q) e (sub r (inr m))))
          where
            by : Mem r s ⊎ Mem r (x ∷ t) → Mem r (s ++ t)
            by (inl h) = mem_left r s t h
            by (inr (inl h)) = absurd (d.0 (subst (λ (z : ℕ). Mem z l) h m))
            by (inr (inr h)) = mem_right r s t h

-- the numbers of the units of a list
unfoldable numbers_of : List ℕ → List ℕ → List ℕ
numbers_of y [] = []
numbers_of y (r ∷ l) = at y r ∷ numbers_of y l

number_in_lem : (y l : List ℕ) (r : ℕ) → Mem r l → Mem (at y r) (numbers_of y l)
unfolding numbers_of
number_in_lem y [] r m = absurd m
number_in_lem y (q ∷ l) r (inl e) = inl (ap (at y) e)
number_in_lem y (q ∷ l) r (inr m) = inr (number_in_lem y l r m)

length-numbers : (y l : List ℕ) → length (numbers_of y l) ≡ length l
unfolding numbers_of
length-numbers y [] = refl
length-numbers y (r ∷ l) = ap suc (length-numbers y l)

module _ (n : ℕ) (E : ℕ → ℕ → Type 0) (inside : Within n E) (y : List ℕ) (right : (v : ℕ) → v < n →
    LeastOf E v (at y v)) where
  pub number-below : (v : ℕ) → v < n → at y v < n
  number-below v h = walk_within n E inside v (at y v) h (right v h).in_group.0

  -- a number is its own
  number-own : (v : ℕ) → v < n → at y (at y v) ≡ at y v
  number-own v h =
      sym ((same_group E v (at y v) (at y v) (at y (at y v)) (right v h) (right (at y v) (number-below v h))).1
      (right v h).in_group)

  leaders-each : OneOfEach n E (leaders n y)
  leaders-each = record {
    units = λ r m. (leader_is n y r m).0;
    covers = covers;
    apart = apart;
    once = leaders_distinct n y;
  }
    where
      covers : (v : ℕ) → v < n → (r : ℕ) × Mem r (leaders n y) × Mutual E v r
      covers v h = (at y v, leader_in n y (at y v) (number-below v h) (number-own v h), (right v h).in_group)

      apart : (r s : ℕ) → Mem r (leaders n y) → Mem s (leaders n y) → Mutual E r s → r ≡ s
      apart r s mr ms g =
          let a = leader_is n y r mr in
          let b = leader_is n y s ms in
          sym a.1 ∙ ((same_group E r s (at y r) (at y s) (right r a.0) (right s b.0)).1 g ∙ b.1)

  -- the leaders are no more than the units of any list that has one of each group: they are these units' numbers
  led-groups : (l : List ℕ) → OneOfEach n E l → led n y ≤ length l
  led-groups l each =
      omega (
        arith,
        length-leaders n y,
        length-numbers y l,
        sub_length (leaders n y) (numbers_of y l) (leaders_distinct n y) among,
      )
    where
      among : (v : ℕ) → Mem v (leaders n y) → Mem v (numbers_of y l)
      among v m =
          let (h, own) = leader_is n y v m in
          let (r, k, g) = each.covers v h in
          let e : at y v ≡ at y r = (same_group E v r (at y v) (at y r) (right v h) (right r (each.units r k))).1 g in
          let q : at y r ≡ v = sym e ∙ own in
          rw q at (number_in_lem y l r k)

pub strong : (n : ℕ) (t out : List ℕ) → n ≤ 256 → n ≤ length out → Within n (Link t) →
    Strong n t out (min_label n t out).0 (min_label n t out).1
unfolding min_label
strong n t out few room inside =
    record {
      numbered = number-below n (Link t) inside y D.right;
      least = D.right;
      same = λ v w hv hw. same_group (Link t) v w (at y v) (at y w) (D.right v hv) (D.right w hw);
      groups = (leaders n y, leaders-each n (Link t) inside y D.right);
      few = λ l each. omega (arith, D.led-by, led-groups n (Link t) inside y D.right l each);
      past = λ v h. D.past v h ∙ get_d_over_past n (λ (v : ℕ). NONE) out v 0 h;
      size = D.size ∙ length_over n (λ (v : ℕ). NONE) out;
    }
  where
    x : List ℕ
    x = over n (λ (v : ℕ). NONE) out

    y : List ℕ
    y = (passes n n t x).0

    blank : (v : ℕ) → v < n → at x v ≡ NONE
    blank v h = get_d_over n (λ (v : ℕ). NONE) out v 0 h (omega arith)

    S : Sound NONE n (Link t) (Link t) (at x)
    S =
        record {
          links = λ u v l. let (p, q) = inside u v l in (l, blank u p, blank v q);
          kept = λ u v e c o. e;
          right = λ v h k. absurd (k (blank v h));
        }

    D : Done n few (Link t) inside x y (passes n n t x).1
    D = passes-done n few (Link t) inside n t x (omega (arith, length_over n (λ (v : ℕ). NONE) out)) S (omega arith)
