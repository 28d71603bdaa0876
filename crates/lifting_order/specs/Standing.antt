-- What is kept of the units while they come to stand: whether each is within reach, how much it waits for, and the
-- order so far. One unit more stands.
use Rattle.std.specs.Prelude.{◌≡◌, Bool, cond, not, ◌&&◌, ◌||◌, ◌⊎◌, ◌≢◌, List, [], ◌∷◌, ◌++◌, ℕ, zero, suc, ◌+◌, ◌-◌}
use Rattle.std.specs.Prelude.{◌*◌, ◌≤◌, ◌<◌, min, eqb, length, set, drop}
use Rattle.std.proofs.Math.Path.{refl, sym, ap}
use Rattle.std.proofs.Common.{ap₂, ◌∙◌, inl, inr, add-one, arith, length-set, get_or-set_same, get_or-set_other}
use Rattle.std.proofs.Common.{eqb-true, eq-eqb, ne_eqb, lt-ltb, le-ltb}
use Rattle.std.proofs.Math.Bool.{true, false, or_assoc}
use Rattle.std.proofs.Math.Decide.{ℕ_discrete}
use Rattle.std.proofs.Math.ListN.{get_or}
use Rattle.base_lists.specs.Counts.{count_none, count-positive, count_cong, count_le}
use Rattle.base_lists.specs.Folds.{some, count, least}
use Rattle.base_lists.specs.FoldLaws.{fold_cong}
use Rattle.base_lists.specs.LeastLaws.{least-is, least_start}
use Rattle.base_lists.specs.Parts.{memb}
use Rattle.base_lists.specs.Some.{some-exact, some-none, some_or}
use Rattle.base_lists.specs.Tables.{over}
use Rattle.base_lists.specs.Tests.{either, refuted, and_left, and_right, or_swap}
use Rattle.table.specs.Table.{link_count, end_a, end_b}
use Rattle.lifting_order.specs.Order.{reaches, held, blocks, free, may_stand, next_up, grow, order_of}
use Rattle.lifting_order.specs.Chains.{Words}
use Rattle.lifting_order.specs.Marking.{joins, precedes, walked, touched-at, released_at, walked-length, set_at}

-- ---- how the tests change where v comes to stand

reaches_more : (t s : List ℕ) (v w j : ℕ) → reaches t (v ∷ s) w j ≡ (reaches t s w j || joins t v w j)
reaches_more t s v w j =
    rw (
      one (eqb (end_a t j) w) (eqb (end_b t j) v) (memb s (end_b t j)),
      one (eqb (end_b t j) w) (eqb (end_a t j) v) (memb s (end_a t j)),
    )
    (or_swap (eqb (end_a t j) w && memb s (end_b t j)) (eqb (end_b t j) v && eqb (end_a t j) w)
    (eqb (end_b t j) w && memb s (end_a t j)) (eqb (end_a t j) v && eqb (end_b t j) w))
  where
    one : (a c x : Bool) → (a && (c || x)) ≡ ((a && x) || (c && a))
    one true true true = refl
    one true true false = refl
    one true false true = refl
    one true false false = refl
    one false true x = refl
    one false false x = refl

-- within reach is who was, and who is linked to v
held_more : (t s : List ℕ) (v w : ℕ) → held t (v ∷ s) w ≡ (held t s w || some (link_count t) (joins t v w))
held_more t s v w =
    rw (some_or (link_count t) (reaches t (v ∷ s) w) (reaches t s w) (joins t v w) (λ j l. reaches_more t s v w j))
    (sym (or_assoc (eqb w 0) (some (link_count t) (reaches t s w)) (some (link_count t) (joins t v w))))

-- how many pairs are in the way of w
abbrev pub waits : List ℕ → List ℕ → ℕ → ℕ
waits p s w = count (link_count p) (blocks p s w)

free-waits : (p s : List ℕ) (w : ℕ) → free p s w ≡ eqb (waits p s w) 0
free-waits p s w = go (either (some (link_count p) (blocks p s w)))
  where
    go : (some (link_count p) (blocks p s w) ≡ true) ⊎ (some (link_count p) (blocks p s w) ≡ false) →
        free p s w ≡ eqb (waits p s w) 0
    go (inl e) =
        let (k, h, q) = (some-exact (link_count p) (blocks p s w)).0 e in
        let c : 1 ≤ waits p s w = count-positive (link_count p) (blocks p s w) k h q in
        rw (e, refuted (eqb (waits p s w) 0) (λ z. omega (arith, eqb-true (waits p s w) 0 z))) refl
    go (inr e) = rw (
      e,
      eq-eqb (waits p s w) 0
          (count_none (link_count p) (blocks p s w) (some-none (link_count p) (blocks p s w) e)),
    ) refl

-- the pairs "w before v" are in the way no longer
waits-less : (p s : List ℕ) (v w : ℕ) → memb s v ≡ false →
    waits p (v ∷ s) w + count (link_count p) (precedes p v w) ≡ waits p s w
waits-less p s v w fresh = all (link_count p)
  where
    one : (a d x : Bool) → (d ≡ true → x ≡ false) →
        cond (a && not (d || x)) 1 0 + cond (d && a) 1 0 ≡ cond (a && not x) 1 0
    one true true x h = rw (h refl) refl
    one true false true h = refl
    one true false false h = refl
    one false true x h = refl
    one false false x h = refl

    same : (k : ℕ) → eqb (end_b p k) v ≡ true → memb s (end_b p k) ≡ false
    same k e = rw (eqb-true (end_b p k) v e) fresh

    all : (m : ℕ) → count m (blocks p (v ∷ s) w) + count m (precedes p v w) ≡ count m (blocks p s w)
    all zero = refl
    all (suc m) = omega (arith, all m, one (eqb (end_a p m) w) (eqb (end_b p m) v) (memb s (end_b p m)) (same m))

-- ---- the tables

-- by unit: 1 where it is within reach, else 0; how many pairs are in its way, and one more where it stands
pub record Tables (t p near wait s : List ℕ) : Type 0 where
  pub near-long : length near ≡ 256
  pub wait-long : length wait ≡ 256
  pub reach : (w : ℕ) → w < 256 → get_or near w 0 ≡ cond (held t s w) 1 0
  pub way : (w : ℕ) → w < 256 → get_or wait w 0 ≡ waits p s w + cond (memb s w) 1 0

-- what the tables say of v: within reach, and nothing in its way
abbrev pub ready : List ℕ → List ℕ → ℕ → Bool
ready near wait v = not (eqb (get_or near v 0) 0) && eqb (get_or wait v 0) 0

ready-may : (t p near wait s : List ℕ) (v : ℕ) → Tables t p near wait s → v < 256 → ready near wait v
    ≡ may_stand t p s v
ready-may t p near wait s v h l =
    rw (h.reach v l, h.way v l, free-waits p s v) (go (held t s v) (memb s v) (ℕ_discrete (waits p s v) 0))
  where
    go : (a b : Bool) → Dec (waits p s v ≡ 0)
        → (not (eqb (cond a 1 0) 0) && eqb (waits p s v + cond b 1 0) 0) ≡ (not b && (a && eqb (waits p s v) 0))
    go true true d = rw (ne_eqb (waits p s v + 1) 0 (omega arith)) refl
    go true false (yes e) = rw e refl
    go true false (no e) = rw (ne_eqb (waits p s v) 0 e, ne_eqb (waits p s v + 0) 0 (omega arith)) refl
    go false true d = refl
    go false false d = refl

pub next-ready : (n : ℕ) (t p near wait s : List ℕ) → n ≤ 256 → Tables t p near wait s →
    next_up n (ready near wait) ≡ next_up n (may_stand t p s)
next-ready n t p near wait s l h =
    fold_cong min n (λ v. cond (ready near wait v) v n) (λ v. cond (may_stand t p s v) v n) n
    (λ v b. ap (λ (z : Bool). cond z v n) (ready-may t p near wait s v h (omega arith)))

-- a turn of the loop that looks for it
pub next_more : (n v : ℕ) (may : ℕ → Bool) (x new : ℕ) → x ≡ least v (λ u. cond (may u) u n) n →
    new ≡ min x (cond (may v) v n)
    → new ≡ least (v + 1) (λ u. cond (may u) u n) n
next_more n v may x new was put = rw (put, was, add-one)

-- where one is found, it is a unit
pub next-below : (n v : ℕ) (may : ℕ → Bool) → n ≤ 256 → v ≡ next_up n may → v ≢ n → v < 256
next-below n v may l e d = omega (arith, least_start n (λ u. cond (may u) u n) n)

-- the unit that is next may stand
next-stands : (n : ℕ) (may : ℕ → Bool) → next_up n may < n → may (next_up n may) ≡ true
next-stands n may l = go (least-is n (λ v. cond (may v) v n) n)
  where
    go : (next_up n may ≡ n) ⊎ ((i : ℕ) × (i < n) × (next_up n may ≡ cond (may i) i n)) → may (next_up n may) ≡ true
    go (inl e) = absurd (omega arith)
    go (inr (i, h, e)) = by (either (may i))
      where
        by : (may i ≡ true) ⊎ (may i ≡ false) → may (next_up n may) ≡ true
        by (inl b) = let q : next_up n may ≡ i = rw b at e in rw q b
        by (inr b) = let q : next_up n may ≡ n = rw b at e in absurd (omega arith)

-- v comes to stand
tables_more : (t p near wait s near' wait₁ wait₂ : List ℕ) (v : ℕ) → length t ≡ 2 * link_count t →
    length p ≡ 2 * link_count p → v < 256
    → may_stand t p s v ≡ true → Tables t p near wait s → near' ≡ walked true t v near → wait₁ ≡ walked false p v wait →
    wait₂ ≡ set wait₁ v 1
    → Tables t p near' wait₂ (v ∷ s)
tables_more t p near wait s near' wait₁ wait₂ v et ep l may h en e1 e2 =
    record {
      near-long = rw en (walked-length true t v near ∙ h.near-long);
      wait-long = rw e2 (length-set wait₁ v 1 ∙ long);
      reach = λ w b. rw en (touched-at t v w near et (omega (arith, h.near-long)) ∙ near-at w b);
      way = λ w b. rw e2 (way_at w b (ℕ_discrete w v));
    }
  where
    long : length wait₁ ≡ 256
    long = rw e1 (walked-length false p v wait ∙ h.wait-long)

    fresh : memb s v ≡ false
    fresh = go (memb s v) (and_left (not (memb s v)) (held t s v && free p s v) may)
      where
        go : (b : Bool) → not b ≡ true → b ≡ false
        go true e = sym e
        go false e = refl

    none : waits p s v ≡ 0
    none = eqb-true (waits p s v) 0 (sym (free-waits p s v)
        ∙ and_right (held t s v) (free p s v) (and_right (not (memb s v)) (held t s v && free p s v) may))

    near-at : (w : ℕ) → w < 256 → cond (some (link_count t) (joins t v w)) 1 (get_or near w 0)
        ≡ cond (held t (v ∷ s) w) 1 0
    near-at w b = rw (h.reach w b, held_more t s v w) (go (held t s w) (some (link_count t) (joins t v w)))
      where
        go : (a c : Bool) → ◌≡◌ {A = ℕ} (cond c 1 (cond a 1 0)) (cond (a || c) 1 0)
        go true true = refl
        go true false = refl
        go false c = refl

    way_at : (w : ℕ) → w < 256 → Dec (w ≡ v) → get_or (set wait₁ v 1) w 0 ≡ waits p (v ∷ s) w
        + cond (memb (v ∷ s) w) 1 0
    way_at w b (yes e) =
        let z : waits p (v ∷ s) v ≡ 0 = omega (arith, waits-less p s v v fresh, none) in
        rw (e, eq-eqb v v refl, z) (get_or-set_same wait₁ v 1 0 (omega (arith, long)))
    way_at w b (no e) =
        let now : get_or wait₁ w 0 ≡ get_or wait w 0 - count (link_count p) (precedes p v w) =
        rw e1 (released_at p v w wait ep (omega (arith, h.wait-long))) in
        let same : get_or (set wait₁ v 1) w 0 ≡ get_or wait₁ w 0 = get_or-set_other wait₁ v w 1 0 e in
        rw (ne_eqb w v e, same, now, h.way w b)
        (less (waits p s w) (waits p (v ∷ s) w) (count (link_count p) (precedes p v w)) (cond (memb s w) 1 0)
        (waits-less p s v w fresh))
      where
        less : (x y c d : ℕ) → y + c ≡ x → x + d - c ≡ y + d
        less x y c d q = omega arith

-- ---- the tables as they begin

pub reached-at : (x : List ℕ) → length x ≡ 256 → ((w : ℕ) → w < 256 → get_or x w 0 ≡ 0) → (w : ℕ) → w < 256 →
    get_or (set x 0 1) w 0 ≡ cond (eqb w 0) 1 0
reached-at x l h zero b = get_or-set_same x 0 1 0 (omega arith)
reached-at x l h (suc w) b = rw (ne_eqb (suc w) 0 (omega arith)) (get_or-set_other x 0 (suc w) 1 0 (omega arith)
    ∙ h (suc w) b)

-- one pair more
pub waiting-more : (p wait new : List ℕ) (k : ℕ) → Words p → k < link_count p → length wait ≡ 256
    → ((w : ℕ) → w < 256 → get_or wait w 0 ≡ count k (λ j. eqb (end_a p j) w)) →
    new ≡ set wait (end_a p k) (min (get_or wait (end_a p k) 0 + 1) 2048)
    → (w : ℕ) → w < 256 → get_or new w 0 ≡ count (k + 1) (λ j. eqb (end_a p j) w)
waiting-more p wait new k g l long h e w b =
    rw (e, add-one k) (set_at wait (end_a p k) w (min (get_or wait (end_a p k) 0 + 1) 2048) (omega arith)
    ∙ go (ℕ_discrete (end_a p k) w))
  where
    go : Dec (end_a p k ≡ w) → cond (eqb (end_a p k) w) (min (get_or wait (end_a p k) 0 + 1) 2048) (get_or wait w 0)
        ≡ count k (λ j. eqb (end_a p j) w) + cond (eqb (end_a p k) w) 1 0
    go (yes q) =
        let few : count k (λ j. eqb (end_a p j) w) ≤ k = count_le k (λ j. eqb (end_a p j) w) in
        rw (eq-eqb (end_a p k) w q) (ap (λ (u : ℕ). min (get_or wait u 0 + 1) 2048) q
        ∙ omega (arith, h w b, few, g.few))
    go (no q) = rw (ne_eqb (end_a p k) w q) (h w b ∙ omega arith)

-- ---- the order so far

-- from place k on the table holds s
abbrev pub Laid : List ℕ → ℕ → List ℕ → Type 0
Laid o k s = (i : ℕ) → i < length s → get_or o (k + i) 0 ≡ get_or s i 0

laid_more : (o s : List ℕ) (k v : ℕ) → k < length o → Laid o (suc k) s → Laid (set o k v) k (v ∷ s)
laid_more o s k v l h zero b = let e : k + 0 ≡ k = omega arith in rw e (get_or-set_same o k v 0 l)
laid_more o s k v l h (suc i) b =
    let e : k + suc i ≡ suc k + i = omega arith in
    rw e (get_or-set_other o k (suc k + i) v 0 (omega arith) ∙ h i (omega arith))

-- laid over a slice
pub laid-over : (s : List ℕ) (f : ℕ → ℕ) (out : List ℕ) → length s ≤ length out →
    ((i : ℕ) → i < length s → f i ≡ get_or s i 0)
    → over (length s) f out ≡ s ++ drop (length s) out
laid-over [] f out l h = refl
laid-over (x ∷ s) f [] l h = absurd (omega arith)
laid-over (x ∷ s) f (y ∷ out) l h =
    ap₂ (λ (z : ℕ) (r : List ℕ). z ∷ r) (h 0 (omega arith))
    (laid-over s (λ i. f (suc i)) out (omega arith) (λ i b. h (suc i) (omega arith)))

-- ---- the whole

-- what the code relies on: at most 256 units, whole links and pairs, names below 256
pub record Given (n : ℕ) (t p : List ℕ) : Type 0 where
  pub few : n ≤ 256
  pub links : Words t
  pub whole-links : length t ≡ 2 * link_count t
  pub pairs : Words p
  pub whole-pairs : length p ≡ 2 * link_count p

-- where so many units are left, the tables are those of the units that stand
pub record Growing (n : ℕ) (t p order near wait : List ℕ) (left : ℕ) : Type 0 where
  pub up : List ℕ
  pub many : length up + left ≡ n
  pub tables : Tables t p near wait up
  pub laid : Laid order left up
  pub rest : order_of n t p ≡ grow n t p left up

-- at the end: so many are left, and the table holds the others in the order
pub record Found (n : ℕ) (t p order : List ℕ) (left : ℕ) : Type 0 where
  pub many : length (order_of n t p) + left ≡ n
  pub laid : Laid order left (order_of n t p)

found : (n : ℕ) (t p order : List ℕ) (left : ℕ) (s : List ℕ) → order_of n t p ≡ s → length s + left ≡ n →
    Laid order left s → Found n t p order left
found n t p order left s e many laid = record { many = rw e many; laid = rw e laid }

module _ (n : ℕ) (t p : List ℕ) (g : Given n t p) where
  -- nothing stands: unit 0 is within reach, and each pair is in the way of its first
  pub growing_begun : (order near wait : List ℕ) → length near ≡ 256 → length wait ≡ 256 →
      ((w : ℕ) → w < 256 → get_or near w 0 ≡ cond (eqb w 0) 1 0)
      → ((w : ℕ) → w < 256 → get_or wait w 0 ≡ count (link_count p) (λ k. eqb (end_a p k) w)) →
      Growing n t p order near wait n
  unfolding order_of
  growing_begun order near wait a b hn hw =
      record {
        up = [];
        many = omega arith;
        tables =
            record {
              near-long = a;
              wait-long = b;
              reach = λ w l. hn w l ∙ alone w;
              way = λ w l. hw w l ∙ in_way w;
            };
        laid = λ i l. absurd (omega arith);
        rest = refl;
      }
    where
      and-true : (b : Bool) → b ≡ (b && true)
      and-true true = refl
      and-true false = refl

      or-false : (b : Bool) → b ≡ (b || false)
      or-false true = refl
      or-false false = refl

      never : (a b : Bool) → ((a && false) || (b && false)) ≡ false
      never true true = refl
      never true false = refl
      never false true = refl
      never false false = refl

      unreached : (w m : ℕ) → some m (reaches t [] w) ≡ false
      unreached w zero = refl
      unreached w (suc m) = rw (unreached w m) (never (eqb (end_a t m) w) (eqb (end_b t m) w))

      alone : (w : ℕ) → ◌≡◌ {A = ℕ} (cond (eqb w 0) 1 0) (cond (held t [] w) 1 0)
      alone w = ap (λ (b : Bool). cond b 1 0) (or-false (eqb w 0)
          ∙ ap (λ (b : Bool). eqb w 0 || b) (sym (unreached w (link_count t))))

      in_way : (w : ℕ) → count (link_count p) (λ k. eqb (end_a p k) w) ≡ waits p [] w + 0
      in_way w = count_cong (link_count p) (λ k. eqb (end_a p k) w) (blocks p [] w)
          (λ k l. and-true (eqb (end_a p k) w))
          ∙ omega arith

  -- a turn: v comes to stand
  pub growing_turn : (order near wait order' near' wait₁ wait₂ : List ℕ) (left v : ℕ) → length order ≡ 256 → left ≢ 0 →
      Growing n t p order near wait left
      → v ≡ next_up n (ready near wait) → v ≢ n → order' ≡ set order (left - 1) v → near' ≡ walked true t v near →
      wait₁ ≡ walked false p v wait
      → wait₂ ≡ set wait₁ v 1 → Growing n t p order' near' wait₂ (left - 1)
  unfolding grow
  growing_turn order near wait order' near' wait₁ wait₂ left v long z h ev nv eo en e1 e2 =
      record {
        up = v ∷ h.up;
        many = omega (arith, h.many);
        tables = tables_more t p near wait h.up near' wait₁ wait₂ v g.whole-links g.whole-pairs
            (omega (arith, below, g.few)) may h.tables en e1 e2;
        laid = rw eo (laid_more order h.up (left - 1) v (omega (arith, h.many, g.few))
            (λ i l. ap (λ (k : ℕ). get_or order (k + i) 0) one ∙ h.laid i l));
        rest = h.rest ∙ (ap (λ (k : ℕ). grow n t p k h.up) (sym one) ∙ step (left - 1));
      }
    where
      next : v ≡ next_up n (may_stand t p h.up)
      next = ev ∙ next-ready n t p near wait h.up g.few h.tables

      below : v < n
      below = omega (arith, next, least_start n (λ v. cond (may_stand t p h.up v) v n) n)

      may : may_stand t p h.up v ≡ true
      may = rw next (next-stands n (may_stand t p h.up) (rw (sym next) below))

      one : suc (left - 1) ≡ left
      one = omega arith

      step : (k : ℕ) → grow n t p (suc k) h.up ≡ grow n t p k (v ∷ h.up)
      step k = rw (sym next, lt-ltb v n below) refl

  -- none is left
  pub growing_done : (order near wait : List ℕ) (left : ℕ) → left ≡ 0 → Growing n t p order near wait left →
      Found n t p order left
  unfolding grow
  growing_done order near wait left e h =
      found n t p order left h.up (h.rest ∙ ap (λ (k : ℕ). grow n t p k h.up) e) h.many h.laid

  -- some are left, and none may stand next
  pub growing_stuck : (order near wait : List ℕ) (left v : ℕ) → left ≢ 0 → Growing n t p order near wait left →
      v ≡ next_up n (ready near wait) → v ≡ n
      → Found n t p order left
  unfolding grow
  growing_stuck order near wait left v z h ev e =
      found n t p order left h.up (h.rest
      ∙ (ap (λ (k : ℕ). grow n t p k h.up) one ∙ stop (left - 1))) h.many h.laid
    where
      next : next_up n (may_stand t p h.up) ≡ n
      next = sym (ev ∙ next-ready n t p near wait h.up g.few h.tables) ∙ e

      one : left ≡ suc (left - 1)
      one = omega arith

      stop : (k : ℕ) → grow n t p (suc k) h.up ≡ h.up
      stop k = rw (next, le-ltb n n (omega arith)) refl
