-- The tree (T-04): units joined one by one to those that it has, over links that count. `seq` lists its k units in the
-- order in which they came.
use Rattle.std.specs.Prelude.{◌≡◌, refl, Bool, true, false, cond, not, ◌&&◌, ◌⊎◌, ◌≢◌, List, [], ◌∷◌, eqb, length, set}
use Rattle.std.proofs.Common.{sym, ap, subst, ◌∙◌, inl, inr, arith, eq-eqb, ne_eqb}
use Prim.Native.Nat.{ℕ, zero, suc, ◌+◌, ◌≤◌, ◌<◌}
use Rattle.std.proofs.Math.Decide.{ℕ_discrete, dec_lt}
use Rattle.std.proofs.Math.ListN.{length-set}
use Rattle.std.proofs.Math.Seq.{get_or-set_same, get_or-set_other}
use Rattle.base_lists.specs.Counts.{count_le, count_next}
use Rattle.base_lists.specs.Folds.{count}
use Rattle.base_lists.specs.Tests.{either, cond_true, cond_false, and_left, and_right, and-true, not_both}
use Rattle.table.specs.Table.{end_a, end_b}
use Rattle.spec_rules.specs.Basics.{ABSENT, at}
use Rattle.theory_graph.specs.Rings.{SameLink}
use Rattle.theory_graph.proofs.Together.{ends-apart}
use Rattle.theory_reach.specs.Site.{Site}
use Rattle.theory_ears.specs.Present.{Present, present-graph}
use Rattle.theory_ears.specs.Steps.{seen, leads_out}

-- v is a unit that the tree has
abbrev pub Known : ℕ → List ℕ → ℕ → Type 0
Known n parent v = (v < n) × (seen parent v ≡ true)

pub record Tree (n : ℕ) (E : ℕ → ℕ → Type 0) (a : ℕ) (parent seq : List ℕ) (k : ℕ) : Type 0 where
  pub room : length parent ≡ 256
  pub space : length seq ≡ 256
  pub root : Known n parent a
  pub depth : ℕ → ℕ
  pub up : (v : ℕ) → Known n parent v → v ≢ a →
      Known n parent (at parent v) × E v (at parent v) × (depth (at parent v) < depth v)
  pub placed : (v : ℕ) → Known n parent v → (depth v < k) × (at seq (depth v) ≡ v)
  pub listed : (i : ℕ) → i < k → Known n parent (at seq i) × (depth (at seq i) ≡ i)
  pub counted : k ≡ count n (seen parent)

-- what an order needs of it
pub record Spanning (n : ℕ) (E : ℕ → ℕ → Type 0) (a : ℕ) (parent : List ℕ) (d : ℕ → ℕ) (top : ℕ) : Type 0 where
  pub root : Known n parent a
  pub up : (v : ℕ) → Known n parent v → v ≢ a →
      Known n parent (at parent v) × E v (at parent v) × (d (at parent v) < d v)
  pub bound : (v : ℕ) → Known n parent v → d v ≤ top

-- no link that counts leads out
abbrev pub Whole : (ℕ → Bool) → ℕ → List ℕ → List ℕ → Type 0
Whole ok m ends parent = (j : ℕ) → j < m → leads_out ok ends parent j ≡ false

pub tree-few : (n : ℕ) (E : ℕ → ℕ → Type 0) (a : ℕ) (parent seq : List ℕ) (k : ℕ) → Tree n E a parent seq k → k ≤ n
tree-few n E a parent seq k T = omega (arith, T.counted, count_le n (seen parent))

pub spanning : {n : ℕ} {E : ℕ → ℕ → Type 0} {a : ℕ} {parent seq : List ℕ} {k : ℕ} (T : Tree n E a parent seq k) →
    Spanning n E a parent T.depth (suc n)
spanning {n} {E} {a} {parent} {seq} {k} T =
    record { root = T.root; up = T.up; bound = λ v q. omega (arith, (T.placed v q).0, tree-few n E a parent seq k T) }

module _ {n m : ℕ} {ends : List ℕ} (site : Site n m ends) (ok : ℕ → Bool) where
  abbrev E : ℕ → ℕ → Type 0
  E = Present ok m ends

  small : (v : ℕ) → v < n → (v < 256) × (v ≢ ABSENT)
  small v l = (omega (arith, site.few_units), λ e. omega (arith, site.few_units))

  present-seen : (parent : List ℕ) (v w : ℕ) → at parent v ≡ w → w ≢ ABSENT → seen parent v ≡ true
  present-seen parent v w e h = rw (e, ne_eqb w ABSENT h) refl

  -- ---- one unit more

  module _ (a : ℕ) (parent seq : List ℕ) (k : ℕ) (T : Tree n E a parent seq k) (u w : ℕ) (ku : Known n parent u)
      (lw : w < n) (off : seen parent w ≡ false) (l : E w u) where
    parent' : List ℕ
    parent' = set parent w u

    seq' : List ℕ
    seq' = set seq k w

    d' : ℕ → ℕ
    d' z = cond (eqb z w) k (T.depth z)

    apart : (z : ℕ) → Known n parent z → z ≢ w
    apart z k e = not_both (seen parent z) k.1 (rw e off)

    at_new : at parent' w ≡ u
    unfolding parent'
    at_new = get_or-set_same parent w u 0 (omega (arith, T.room, (small w lw).0))

    at_old : (z : ℕ) → z ≢ w → at parent' z ≡ at parent z
    unfolding parent'
    at_old z e = get_or-set_other parent w z u 0 e

    d-old : (z : ℕ) → z ≢ w → d' z ≡ T.depth z
    unfolding d'
    d-old z e = cond_false (eqb z w) k (T.depth z) (ne_eqb z w e)

    d-new : d' w ≡ k
    unfolding d'
    d-new = cond_true (eqb w w) k (T.depth w) (eq-eqb w w refl)

    seen-old : (z : ℕ) → z ≢ w → seen parent' z ≡ seen parent z
    seen-old z e = rw (at_old z e) refl

    known-old : (z : ℕ) → Known n parent z → Known n parent' z
    known-old z q = (q.0, seen-old z (apart z q) ∙ q.1)

    known-new : Known n parent' w
    known-new = (lw, present-seen parent' w u at_new (small u ku.0).1)

    known-cases : (z : ℕ) → Known n parent' z → (z ≡ w) ⊎ Known n parent z
    known-cases z q = go (ℕ_discrete z w)
      where
        go : Dec (z ≡ w) → (z ≡ w) ⊎ Known n parent z
        go (yes e) = inl e
        go (no e) = inr (q.0, sym (seen-old z e) ∙ q.1)

    one_more : count n (seen parent') ≡ suc (count n (seen parent))
    one_more = count_next n (seen parent') (seen parent) w lw known-new.1 off (λ i b e. seen-old i e)

    fits : k < 256
    fits = omega (arith, one_more, count_le n (seen parent'), T.counted, site.few_units)

    seq-new : at seq' k ≡ w
    unfolding seq'
    seq-new = get_or-set_same seq k w 0 (omega (arith, T.space, fits))

    seq-old : (i : ℕ) → i < k → at seq' i ≡ at seq i
    unfolding seq'
    seq-old i h = get_or-set_other seq k i w 0 (λ e. omega arith)

    pub attach : Tree n E a (set parent w u) (set seq k w) (k + 1)
    unfolding parent' seq'
    attach =
        record {
          room = length-set parent w u ∙ T.room;
          space = length-set seq k w ∙ T.space;
          root = known-old a T.root;
          depth = d';
          up = λ v q h. up v h (known-cases v q);
          placed = λ v q. placed v (known-cases v q);
          listed = λ i h. listed i h (dec_lt i k);
          counted = omega (arith, one_more, T.counted);
        }
      where
        New : ℕ → ℕ → Type 0
        New v p = Known n parent' p × E v p × (d' p < d' v)

        up : (v : ℕ) → v ≢ a → (v ≡ w) ⊎ Known n parent v → New v (at parent' v)
        up v h (inl e) =
            subst (λ (z : ℕ). New z (at parent' z)) (sym e)
            (subst (λ (p : ℕ). New w p) (sym at_new) (
              known-old u ku,
              l,
              omega (arith, d-new, d-old u (apart u ku), (T.placed u ku).0),
            ))
        up v h (inr q) =
            let r = T.up v q h in
            subst (λ (p : ℕ). New v p) (sym (at_old v (apart v q))) (
              known-old (at parent v) r.0,
              r.1,
              let i : T.depth (at parent v) < T.depth v =
                  r.2 in omega (arith, d-old v (apart v q), d-old (at parent v) (apart (at parent v) r.0)),
            )

        Place : ℕ → ℕ → Type 0
        Place v d = (d < k + 1) × (at seq' d ≡ v)

        placed : (v : ℕ) → (v ≡ w) ⊎ Known n parent v → Place v (d' v)
        placed v (inl e) = subst (λ (z : ℕ). Place z (d' z)) (sym e)
            (subst (Place w) (sym d-new) (omega arith, seq-new))
        placed v (inr q) =
            let p = T.placed v q in
            let i : T.depth v < k = p.0 in
            subst (Place v) (sym (d-old v (apart v q))) (omega arith, seq-old (T.depth v) i ∙ p.1)

        Listed : ℕ → ℕ → Type 0
        Listed i v = Known n parent' v × (d' v ≡ i)

        listed : (i : ℕ) → i < k + 1 → Dec (i < k) → Listed i (at seq' i)
        listed i h (yes b) =
            let q = T.listed i b in
            subst (Listed i) (sym (seq-old i b)) (
              known-old (at seq i) q.0,
              d-old (at seq i) (apart (at seq i) q.0) ∙ q.1,
            )
        listed i h (no b) =
            let e : i ≡ k = omega arith in
            subst (λ (z : ℕ). Listed z (at seq' z)) (sym e) (subst (Listed k) (sym seq-new) (known-new, d-new))

  -- ---- a link that leads out

  not_seen : (b : Bool) → not b ≡ true → b ≡ false
  not_seen true e = sym e
  not_seen false e = refl

  -- one store in each table for either end
  pub attach-link : (a : ℕ) (parent seq : List ℕ) (k j u v : ℕ) (s : Bool) → Tree n E a parent seq k → j < m →
      leads_out ok ends parent j ≡ true
      → u ≡ end_a ends j → v ≡ end_b ends j → s ≡ seen parent u
      → Tree n E a (set parent (cond s v u) (cond s u v)) (set seq k (cond s v u)) (k + 1)
  attach-link a parent seq k j u v s T lj t eu ev es = rw (es, eu, ev) (go (either (seen parent (end_a ends j))))
    where
      x : ℕ
      x = end_a ends j

      y : ℕ
      y = end_b ends j

      okj : ok j ≡ true
      okj = and_left (ok j) (cond (seen parent x) (not (seen parent y)) (seen parent y)) t

      rest : cond (seen parent x) (not (seen parent y)) (seen parent y) ≡ true
      rest = and_right (ok j) (cond (seen parent x) (not (seen parent y)) (seen parent y)) t

      Goal : Bool → Type 0
      Goal b = Tree n E a (set parent (cond b y x) (cond b x y)) (set seq k (cond b y x)) (k + 1)

      go : (seen parent (end_a ends j) ≡ true) ⊎ (seen parent (end_a ends j) ≡ false)
          → Goal (seen parent (end_a ends j))
      go (inl e) =
          subst Goal (sym e)
          (attach a parent seq k T x y (
            site.below_a j lj,
            e,
          ) (site.below_b j lj) (not_seen (seen parent y)
          (sym (cond_true (seen parent x) (not (seen parent y)) (seen parent y) e) ∙ rest))
          (j, lj, okj, inr (refl, refl)))
      go (inr e) =
          subst Goal (sym e)
          (attach a parent seq k T y x (
            site.below_b j lj,
            sym (cond_false (seen parent x) (not (seen parent y)) (seen parent y) e) ∙ rest,
          ) (site.below_a j lj) e
          (j, lj, okj, inl (refl, refl)))

  -- ---- from the first link on

  module _ (a b : ℕ) (la : a < n) (lb : b < n) (l : E a b) (blank seq : List ℕ) (room : length blank ≡ 256)
      (space : length seq ≡ 256)
      (absent : (i : ℕ) → i < 256 → at blank i ≡ ABSENT) where
    abbrev start : List ℕ
    start = set (set blank a a) b a

    abbrev first : List ℕ
    first = set (set seq 0 a) 1 b

    apart_ab : a ≢ b
    apart_ab = ends-apart (present-graph site ok) a b l

    begun-a : at start a ≡ a
    begun-a = get_or-set_other (set blank a a) b a a 0 apart_ab
        ∙ get_or-set_same blank a a 0 (omega (arith, room, (small a la).0))

    begun-b : at start b ≡ a
    begun-b = get_or-set_same (set blank a a) b a 0 (omega (arith, length-set blank a a, room, (small b lb).0))

    begun-other : (z : ℕ) → z < n → z ≢ a → z ≢ b → at start z ≡ ABSENT
    begun-other z lz na nb = get_or-set_other (set blank a a) b z a 0 nb ∙ get_or-set_other blank a z a 0 na
        ∙ absent z (small z lz).0

    known-a : Known n start a
    known-a = (la, present-seen start a a begun-a (small a la).1)

    known-b : Known n start b
    known-b = (lb, present-seen start b a begun-b (small a la).1)

    only_two : (z : ℕ) → Known n start z → (z ≡ a) ⊎ (z ≡ b)
    only_two z k = go (ℕ_discrete z a) (ℕ_discrete z b)
      where
        go : Dec (z ≡ a) → Dec (z ≡ b) → (z ≡ a) ⊎ (z ≡ b)
        go (yes e) q = inl e
        go (no e) (yes q) = inr q
        go (no e) (no q) = absurd (not_both (seen start z) k.1 (rw (begun-other z k.0 e q) refl))

    pub tree-begun : Tree n E a (set (set blank a a) b a) (set (set seq 0 a) 1 b) 2
    tree-begun =
        record {
          room = length-set (set blank a a) b a ∙ length-set blank a a ∙ room;
          space = length-set (set seq 0 a) 1 b ∙ length-set seq 0 a ∙ space;
          root = known-a;
          depth = depth;
          up = λ v k h. up v h (only_two v k);
          placed = λ v k. placed v (only_two v k);
          listed = listed;
          counted = sym two;
        }
      where
        depth : ℕ → ℕ
        depth z = cond (eqb z a) 0 1

        depth-a : depth a ≡ 0
        depth-a = cond_true (eqb a a) 0 1 (eq-eqb a a refl)

        depth-b : depth b ≡ 1
        depth-b = cond_false (eqb b a) 0 1 (ne_eqb b a (λ e. apart_ab (sym e)))

        seq-a : at first 0 ≡ a
        seq-a = get_or-set_other (set seq 0 a) 1 0 b 0 (λ e. omega arith)
            ∙ get_or-set_same seq 0 a 0 (omega (arith, space))

        seq-b : at first 1 ≡ b
        seq-b = get_or-set_same (set seq 0 a) 1 b 0 (omega (arith, length-set seq 0 a, space))

        New : ℕ → ℕ → Type 0
        New v p = Known n start p × E v p × (depth p < depth v)

        up : (v : ℕ) → v ≢ a → (v ≡ a) ⊎ (v ≡ b) → New v (at start v)
        up v h (inl e) = absurd (h e)
        up v h (inr e) =
            subst (λ (z : ℕ). New z (at start z)) (sym e)
            (subst (λ (p : ℕ). New b p) (sym begun-b) (
              known-a,
              (present-graph site ok).flip a b l,
              omega (arith, depth-a, depth-b),
            ))

        Place : ℕ → ℕ → Type 0
        Place v d = (d < 2) × (at first d ≡ v)

        placed : (v : ℕ) → (v ≡ a) ⊎ (v ≡ b) → Place v (depth v)
        placed v (inl e) = subst (λ (z : ℕ). Place z (depth z)) (sym e)
            (subst (Place a) (sym depth-a) (omega arith, seq-a))
        placed v (inr e) = subst (λ (z : ℕ). Place z (depth z)) (sym e)
            (subst (Place b) (sym depth-b) (omega arith, seq-b))

        Listed : ℕ → ℕ → Type 0
        Listed i v = Known n start v × (depth v ≡ i)

        listed : (i : ℕ) → i < 2 → Listed i (at first i)
        listed zero h = subst (Listed 0) (sym seq-a) (known-a, depth-a)
        listed (suc zero) h = subst (Listed 1) (sym seq-b) (known-b, depth-b)
        listed (suc (suc i)) h = absurd (omega arith)

        only-a : ℕ → Bool
        only-a z = eqb z a

        none : ℕ → Bool
        none z = false

        two : count n (seen start) ≡ 2
        two =
            omega (
              arith,
              count_next n (seen start) only-a b lb known-b.1 (ne_eqb b a (λ e. apart_ab (sym e))) others,
              count_next n only-a none a la (eq-eqb a a refl) refl (λ i h e. ne_eqb i a e),
              zeros n,
            )
          where
            zeros : (k : ℕ) → count k none ≡ 0
            zeros zero = refl
            zeros (suc k) = omega (arith, zeros k)

            others : (i : ℕ) → i < n → i ≢ b → seen start i ≡ only-a i
            others i h nb = go (ℕ_discrete i a)
              where
                go : Dec (i ≡ a) → seen start i ≡ only-a i
                go (yes e) = rw e known-a.1 ∙ sym (eq-eqb i a e)
                go (no e) = rw (begun-other i h e nb) refl ∙ sym (ne_eqb i a e)

  -- the tree has with a unit all that links that count join to it
  pub spreads : (parent : List ℕ) → Whole ok m ends parent → (u v : ℕ) → Known n parent u → Present ok m ends u v →
      Known n parent v
  spreads parent W u v k (j, lj, o, s) = go s (W j lj)
    where
      pass : (A B : Bool) → (ok j && cond A (not B) B) ≡ false → A ≡ B
      pass true true e = refl
      pass true false e = absurd (not_both (ok j && true) (and-true (ok j) true o refl) e)
      pass false true e = absurd (not_both (ok j && true) (and-true (ok j) true o refl) e)
      pass false false e = refl

      go : SameLink (end_a ends j) (end_b ends j) u v → leads_out ok ends parent j ≡ false → Known n parent v
      go (inl (e, f)) t = (
        rw (← f) (site.below_b j lj),
        rw (← f) (sym (pass (seen parent (end_a ends j)) (seen parent (end_b ends j)) t) ∙ rw e k.1),
      )
      go (inr (e, f)) t = (
        rw (← e) (site.below_a j lj),
        rw (← e) (pass (seen parent (end_a ends j)) (seen parent (end_b ends j)) t ∙ rw f k.1),
      )
