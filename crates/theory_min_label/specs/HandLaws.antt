-- Links that hand labels on in any order, until no label falls, settle at the least labels.
use Rattle.std.specs.Prelude.{◌≡◌, refl, Bool, true, false, cond, ◌&&◌, ◌||◌, ◌⊎◌, eqb, ltb, length, get_or, drop}
use Rattle.std.proofs.Math.Path.{sym}
use Rattle.std.proofs.Common.{◌∙◌, inl, inr, length-drop, get_or-set_other, eqb-true, eq-eqb, ltb-true, ltb-false}
use Rattle.std.proofs.Math.Bool.{or_assoc}
use Rattle.std.proofs.lemmas.Bool.{false≢true}
use mathlib.Core.List.{List, [], ◌∷◌}
use Prim.Native.Nat.{ℕ, zero, suc, ◌+◌, ◌-◌, ◌*◌, ◌≤◌, ◌<◌}
use Rattle.std.proofs.Math.Decide.{ℕ_discrete}
use native.Mathlib.Omega.{arith}
use Rattle.std.proofs.Math.ListN.{set, length-set}
use Rattle.std.proofs.Math.Seq.{get_or-set_same}
use Rattle.base_lists.specs.Sums.{sum_more}
use Rattle.base_lists.specs.Tests.{either, and_left, and_right, or_false-left, or_false-right}
use Rattle.base_lists.specs.Rests.{rest-two}
use Rattle.table.specs.Table.{end_a, end_b}
use Rattle.table.specs.TableLaws.{end_a-later, end_b-later}
use Rattle.theory_graph.specs.Rings.{Connected}
use Rattle.theory_graph.specs.Routes.{connected_trans, connected-link, connected_refl}
use Rattle.theory_min_label.specs.MinLabel.{at, giver, taker}
use Rattle.theory_min_label.specs.Groups.{Link}
use Rattle.theory_min_label.specs.Spread.{Within, walk_within, Least, settled}
use Rattle.theory_min_label.specs.MinLabelLaws.{Hears}
use Rattle.theory_min_label.specs.Hands.{Live, lowers, handed, swept, falls, Spread, Settled, total, Ends, Room}
use Rattle.theory_min_label.specs.Hands.{Site}

-- ---- labels handed on

pub spread_refl : (H : ℕ → ℕ → Type 0) (x : List ℕ) → Spread H x x
spread_refl H x = record { size = refl; lower = λ v. omega arith; from = λ v. (v, connected_refl H v, refl) }

pub spread_trans : (H : ℕ → ℕ → Type 0) (x y z : List ℕ) → Spread H x y → Spread H y z → Spread H x z
spread_trans H x y z p q =
    record {
      size = q.size ∙ p.size;
      lower = λ v. omega (arith, p.lower v, q.lower v);
      from = λ v.
          let (w, c, e) = q.from v in
          let (u, d, k) = p.from w in
          (u, connected_trans H v w u c d, e ∙ k);
    }

-- the labels that are least: settled, and handed on from the first ones
pub spread-least : (n : ℕ) (H : ℕ → ℕ → Type 0) (init : ℕ → ℕ) (x y : List ℕ) → Within n H →
    ((v : ℕ) → v < n → at x v ≡ init v)
    → Spread H x y → Settled H y → Least n H init (at y)
spread-least n H init x y inside first s still =
    settled n H init (at y) inside (λ v h. omega (arith, s.lower v, first v h)) still
    (λ v h. let (w, c, e) = s.from v in (w, c, e ∙ first w (walk_within n H inside v w h c)))

ends-later : (k a b : ℕ) (t : List ℕ) → Ends k (a ∷ b ∷ t) → Ends k t
ends-later k a b t h i l = h (suc (suc i)) (omega arith)

-- both ends of every link are units
pub ends-within : (n : ℕ) (t : List ℕ) → Ends n t → Within n (Link t)
ends-within n [] h u v l = absurd l
ends-within n (a ∷ []) h u v l = absurd l
ends-within n (a ∷ b ∷ t) h u v (inl (p, q)) = (rw p (h 0 (omega arith)), rw q (h 1 (omega arith)))
ends-within n (a ∷ b ∷ t) h u v (inr l) = ends-within n t (ends-later n a b t h) u v l

-- ---- one link

pub giver-below : (d : Bool) (a b k : ℕ) → a < k → b < k → giver d a b < k
giver-below true a b k ha hb = ha
giver-below false a b k ha hb = hb

taker-below : (d : Bool) (a b k : ℕ) → a < k → b < k → taker d a b < k
taker-below true a b k ha hb = hb
taker-below false a b k ha hb = ha

hears-link : (d : Bool) (L : ℕ → ℕ → Type 0) (a b : ℕ) → L a b → Hears d L (taker d a b) (giver d a b)
hears-link true L a b h = h
hears-link false L a b h = h

pub length-handed : (d : Bool) (key x : List ℕ) (a b : ℕ) → length (handed d key x a b) ≡ length x
length-handed d key x a b = go (lowers d key x a b)
  where
    go : (l : Bool) → length (cond l (set x (taker d a b) (at x (giver d a b))) x) ≡ length x
    go true = simp length-set
    go false = refl

module _ (d : Bool) (t key x : List ℕ) (a b : ℕ) (room : taker d a b < length x) where
  pub spread_hand : Link t a b → Spread (Hears d (Live t key)) x (handed d key x a b)
  spread_hand l = go (either (lowers d key x a b))
    where
      H : ℕ → ℕ → Type 0
      H = Hears d (Live t key)

      go : (lowers d key x a b ≡ true) ⊎ (lowers d key x a b ≡ false) → Spread H x (handed d key x a b)
      go (inr e) = rw e (spread_refl H x)
      go (inl e) =
          rw e (record {
            size = simp length-set;
            lower = λ v. lower v (ℕ_discrete v (taker d a b));
            from = λ v. from v (ℕ_discrete v (taker d a b));
          })
        where
          one : eqb (at key a) (at key b) ≡ true
          one = and_left (eqb (at key a) (at key b)) (ltb (at x (giver d a b)) (at x (taker d a b))) e

          less : at x (giver d a b) < at x (taker d a b)
          less =
              ltb-true (at x (giver d a b)) (at x (taker d a b))
              (and_right (eqb (at key a) (at key b)) (ltb (at x (giver d a b)) (at x (taker d a b))) e)

          new : List ℕ
          new = set x (taker d a b) (at x (giver d a b))

          lower : (v : ℕ) → Dec (v ≡ taker d a b) → at new v ≤ at x v
          lower v (yes q) = rw q (omega (arith, less, get_or-set_same x (taker d a b) (at x (giver d a b)) 0 room))
          lower v (no q) = omega (arith, get_or-set_other x (taker d a b) v (at x (giver d a b)) 0 q)

          from : (v : ℕ) → Dec (v ≡ taker d a b) → (w : ℕ) × Connected H v w × (at new v ≡ at x w)
          from v (yes q) =
              let s : H (taker d a b) (giver d a b) =
              hears-link d (Live t key) a b (l, eqb-true (at key a) (at key b) one) in
              rw q
              ((
                giver d a b,
                connected-link H (taker d a b) (giver d a b) s,
                get_or-set_same x (taker d a b) (at x (giver d a b)) 0 room,
              ))
          from v (no q) = (v, connected_refl H v, get_or-set_other x (taker d a b) v (at x (giver d a b)) 0 q)

  hand_total : lowers d key x a b ≡ true → total (handed d key x a b) < total x
  unfolding total
  hand_total e =
      rw (e, length-set x (taker d a b) (at x (giver d a b)))
      (omega (
        arith,
        less,
        sum_more (length x) (at x) (at new) (taker d a b) (at x (taker d a b) - at x (giver d a b)) room
            (omega (arith, less, get_or-set_same x (taker d a b) (at x (giver d a b)) 0 room))
            (λ i h q. sym (get_or-set_other x (taker d a b) i (at x (giver d a b)) 0 q)),
      ))
    where
      new : List ℕ
      new = set x (taker d a b) (at x (giver d a b))

      less : at x (giver d a b) < at x (taker d a b)
      less =
          ltb-true (at x (giver d a b)) (at x (taker d a b))
          (and_right (eqb (at key a) (at key b)) (ltb (at x (giver d a b)) (at x (taker d a b))) e)

  hand_total_le : total (handed d key x a b) ≤ total x
  hand_total_le = go (either (lowers d key x a b))
    where
      go : (lowers d key x a b ≡ true) ⊎ (lowers d key x a b ≡ false) → total (handed d key x a b) ≤ total x
      go (inl e) = omega (arith, hand_total e)
      go (inr e) = rw e (omega arith)

-- ---- every link

pub swept-spread : (d : Bool) (t key s x : List ℕ) → ((a b : ℕ) → Link s a b → Link t a b) → Ends (length x) s
    → Spread (Hears d (Live t key)) x (swept d key s x)
unfolding swept
swept-spread d t key [] x sub h = spread_refl (Hears d (Live t key)) x
swept-spread d t key (a ∷ []) x sub h = spread_refl (Hears d (Live t key)) x
swept-spread d t key (a ∷ b ∷ s) x sub h =
    let ha : a < length x = h 0 (omega arith) in
    let hb : b < length x = h 1 (omega arith) in
    let e = length-handed d key x a b in
    spread_trans (Hears d (Live t key)) x (handed d key x a b) (swept d key s (handed d key x a b))
    (spread_hand d t key x a b (taker-below d a b (length x) ha hb) (sub a b (inl (refl, refl))))
    (swept-spread d t key s (handed d key x a b) (λ u v l. sub u v (inr l)) (rw e (ends-later (length x) a b s h)))

swept-total_le : (d : Bool) (key s x : List ℕ) → Ends (length x) s → total (swept d key s x) ≤ total x
unfolding swept
swept-total_le d key [] x h = omega arith
swept-total_le d key (a ∷ []) x h = omega arith
swept-total_le d key (a ∷ b ∷ s) x h =
    let ha : a < length x = h 0 (omega arith) in
    let hb : b < length x = h 1 (omega arith) in
    let e = length-handed d key x a b in
    omega (
      arith,
      hand_total_le d [] key x a b (taker-below d a b (length x) ha hb),
      swept-total_le d key s (handed d key x a b) (rw e (ends-later (length x) a b s h)),
    )

-- where a label falls, the sum does
pub swept-total : (d : Bool) (key s x : List ℕ) → Ends (length x) s → falls d key s x ≡ true →
    total (swept d key s x) < total x
unfolding swept falls
swept-total d key [] x h f = absurd (false≢true f)
swept-total d key (a ∷ []) x h f = absurd (false≢true f)
swept-total d key (a ∷ b ∷ s) x h f = go (either (lowers d key x a b))
    (swept-total d key s x (ends-later (length x) a b s h))
  where
    go : (lowers d key x a b ≡ true) ⊎ (lowers d key x a b ≡ false) →
        (falls d key s x ≡ true → total (swept d key s x) < total x)
        → total (swept d key s (handed d key x a b)) < total x
    go (inl e) later =
        let below : taker d a b < length x = taker-below d a b (length x) (h 0 (omega arith)) (h 1 (omega arith)) in
        let q = length-handed d key x a b in
        omega (
          arith,
          hand_total d [] key x a b below e,
          swept-total_le d key s (handed d key x a b) (rw q (ends-later (length x) a b s h)),
        )
    go (inr e) later = rw e (later (rw e at f))

-- where none does, the labels are settled
still : (d : Bool) (key s x : List ℕ) → falls d key s x ≡ false → (a b : ℕ) → Link s a b → lowers d key x a b ≡ false
unfolding falls
still d key [] x f a b l = absurd l
still d key (c ∷ []) x f a b l = absurd l
still d key (u ∷ v ∷ s) x f a b (inl (p, q)) = rw (p, q) (or_false-left (lowers d key x u v) (falls d key s x) f)
still d key (u ∷ v ∷ s) x f a b (inr l) =
    still d key s x (or_false-right (lowers d key x u v) (falls d key s x) f) a b l

not_less : (k m p q : ℕ) → k ≡ m → (eqb k m && ltb p q) ≡ false → q ≤ p
not_less k m p q e f = ltb-false p q (rw (eq-eqb k m e) at f)

pub still-settled : (d : Bool) (t key x : List ℕ) → falls d key t x ≡ false → Settled (Hears d (Live t key)) x
still-settled true t key x f v w (l, e) =
    not_less (at key w) (at key v) (at x w) (at x v) e (still true key t x f w v l)
still-settled false t key x f v w (l, e) =
    not_less (at key v) (at key w) (at x w) (at x v) e (still false key t x f v w l)

-- ---- as a loop meets them

pub swept-next : (d : Bool) (key t x : List ℕ) (i : ℕ) → i + 1 < length t
    → swept d key (drop i t) x ≡ swept d key (drop (i + 2) t) (handed d key x (get_or t i 0) (get_or t (i + 1) 0))
unfolding swept
swept-next d key t x i h = rw (rest-two t i 0 h) refl

pub falls-next : (d : Bool) (key t x : List ℕ) (i : ℕ) (fell : Bool) → i + 1 < length t
    → (fell || falls d key (drop i t) x)
    ≡ ((fell || lowers d key x (get_or t i 0) (get_or t (i + 1) 0)) || falls d key (drop (i + 2) t) x)
unfolding falls
falls-next d key t x i fell h = rw (rest-two t i 0 h) (sym (or_assoc fell _ _))

short : (d : Bool) (key t x : List ℕ) → length t ≤ 1 → (swept d key t x ≡ x) × (falls d key t x ≡ false)
unfolding swept falls
short d key [] x h = (refl, refl)
short d key (a ∷ []) x h = (refl, refl)
short d key (a ∷ b ∷ t) x h = absurd (omega arith)

pub links_end : (d : Bool) (key t x : List ℕ) (i : ℕ) → length t ≤ i + 1 →
    (swept d key (drop i t) x ≡ x) × (falls d key (drop i t) x ≡ false)
links_end d key t x i h = short d key (drop i t) x (omega (arith, length-drop i t))

-- a position holds a link
pub link_at : (t : List ℕ) (j : ℕ) → 2 * j + 1 < length t → Link t (end_a t j) (end_b t j)
link_at [] j h = absurd (omega arith)
link_at (a ∷ []) j h = absurd (omega arith)
link_at (a ∷ b ∷ t) zero h = inl (refl, refl)
link_at (a ∷ b ∷ t) (suc j) h = rw (end_a-later a b t j, end_b-later a b t j) (inr (link_at t j (omega arith)))

-- the link at a position hands a label on
pub relaxed : (d : Bool) (t key x new : List ℕ) (j : ℕ) → 2 * j + 1 < length t → Ends 256 t → length x ≡ 256
    → new ≡ handed d key x (end_a t j) (end_b t j) → Spread (Hears d (Live t key)) x new
relaxed d t key x new j h ends full e =
    let ha : end_a t j < length x = rw full (ends (2 * j) (omega arith)) in
    let hb : end_b t j < length x = rw full (ends (2 * j + 1) h) in
    rw e (spread_hand d t key x (end_a t j) (end_b t j) (taker-below d (end_a t j) (end_b t j) (length x) ha hb)
    (link_at t j h))

-- a sweep
module _ (d : Bool) (t key x new : List ℕ) (ends : Ends 256 t) (full : length x ≡ 256) (e : new ≡ swept d key t x) where
  pub sweep_spread : Spread (Hears d (Live t key)) x new
  sweep_spread = rw e (swept-spread d t key t x (λ a b l. l) (rw full ends))

  pub sweep_less : falls d key t x ≡ true → total new < total x
  sweep_less f = rw e (swept-total d key t x (rw full ends) f)

-- ---- of a table that passes the checks

pub site-room : (n : ℕ) (t key x : List ℕ) → Site n t → length key ≡ 256 → length x ≡ 256 → Room t key x
site-room n t key x s k l = record { ends = λ i h. omega (arith, s.ends i h, s.few); keys = k; labels = l }

hears-within : (d : Bool) (n : ℕ) (t key : List ℕ) → Within n (Link t) → Within n (Hears d (Live t key))
hears-within true n t key inside v w h = let p = inside w v h.0 in (p.1, p.0)
hears-within false n t key inside v w h = inside v w h.0

-- labels handed on from the first ones until they are settled
pub labels-least : (d : Bool) (n : ℕ) (t key : List ℕ) (init : ℕ → ℕ) (x y : List ℕ) → Site n t →
    ((v : ℕ) → v < 256 → at x v ≡ init v)
    → Spread (Hears d (Live t key)) x y × Settled (Hears d (Live t key)) y → Least n (Hears d (Live t key)) init (at y)
labels-least d n t key init x y s first p =
    spread-least n (Hears d (Live t key)) init x y (hears-within d n t key (ends-within n t s.ends))
    (λ v h. first v (omega (arith, s.few))) p.0 p.1
