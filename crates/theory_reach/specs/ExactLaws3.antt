-- The exact rules of stages 7 to 10 have the values of the rules: where every place has its unit, and little and big
-- stay within the places.
use Rattle.std.specs.Prelude.{◌≡◌, true, false, ◌&&◌, List}
use Rattle.std.proofs.Math.Path.{refl}
use Rattle.std.proofs.Math.Bool.{cond, not}
use Rattle.std.proofs.Math.Option.{some}
use Prim.Native.Nat.{ℕ, ◌+◌, ◌-◌, ◌%◌, ◌^◌, ◌≤◌, ◌<◌, min}
use Rattle.std.proofs.Common.{arith}
use Rattle.std.proofs.Math.Dec.{eqb, ltb, leb}
use borrow.Author.Tests.{ne_eqb, not-true, ltb-true, lt-ltb, le-leb}
use Rattle.base_lists.specs.All.{cond-keeps}
use Rattle.base_lists.specs.Tests.{and_left, and_right}
use Rattle.table.specs.Table.{end_a, end_b}
use Rattle.spec_rules.specs.Basics.{ABSENT, MAX-NUMBER, at, bounded, is_root}
use Rattle.spec_rules.specs.BoundLaws.{Names}
use Rattle.spec_rules.specs.Range.{place_heard, local_of, unit_at, local_at, end_place, global_first, range_first}
use Rattle.spec_rules.specs.Range.{little_first}
use Rattle.spec_rules.specs.Range.{big_first, odd, moves_little, moves_big, with_little, with_big, range_later}
use Rattle.spec_rules.specs.Range.{little_later}
use Rattle.spec_rules.specs.Range.{big_later, global_later}
use Rattle.spec_rules.specs.Aux.{within, joins_ends, link_joins_round, joins_parent, parent_joins_round, heard_over}
use Rattle.spec_rules.specs.Aux.{least_joined, aux_round}
use Rattle.spec_rules.specs.Labels.{naming_unit, class_round, label_of, label_round}
use Rattle.theory_reach.specs.Partial.{Value, read, minus, both, nots, ands, ors, ifs, folds, overs}
use Rattle.theory_reach.specs.ExactRules
use Rattle.theory_reach.specs.ExactLaws1.{end-a, end-b, root, marked, off, heards, below_of}

-- ---- stage 7, the first round

unit-at : (n : ℕ) (pre : List ℕ) {x : Value} {q : ℕ} → x ≡ some q → ExactRules.unit_at? n pre x ≡ some (unit_at n pre q)
unfolding ExactRules.unit_at? unit_at
unit-at n pre {x} {q} e =
    folds min n _ (λ (v : ℕ). cond (eqb (at pre v) q) v ABSENT)
    (λ v k. ifs (both eqb (read n pre refl k) e) (λ r. refl) (λ r. refl)) refl

module _ (n m : ℕ) (ends : List ℕ) (below_a : (j : ℕ) → j < m → end_a ends j < n) (below_b : (j : ℕ) → j < m →
    end_b ends j < n) (parent pre : List ℕ) where
  local-of : (op : ℕ → ℕ → ℕ) {x : Value} {v : ℕ} → x ≡ some v → v < n →
      ExactRules.local_of? op n m ends parent pre x ≡ some (local_of op m ends parent pre v)
  unfolding ExactRules.local_of? ExactRules.place_heard? local_of
  local-of op {x} {v} e l =
      folds op m _ (place_heard ends parent pre v)
      (λ j k.
      ifs (off n (end-a m ends refl k) (end-b m ends refl k) (below_a j k) (below_b j k) parent)
      (λ q. heards n (end-a m ends refl k) (end-b m ends refl k) (below_a j k) (below_b j k) pre e l)
      (λ q. read n pre e l))
      (read n pre e l)

  module _ (few : n ≤ ABSENT) (taken : (q : ℕ) → q < n → unit_at n pre q < n) where
    local-at : (op : ℕ → ℕ → ℕ) {x : Value} {q : ℕ} → x ≡ some q → q < n →
        ExactRules.local_at? op n m ends parent pre x ≡ some (local_at op n m ends parent pre q)
    unfolding ExactRules.local_at? local_at
    local-at op {x} {q} e l =
        rw (ne_eqb (unit_at n pre q) ABSENT (omega (arith, taken q l))) (local-of op (unit-at n pre e) (taken q l))

    pub global-first : (op : ℕ → ℕ → ℕ) (global : List ℕ)
        → ExactRules.global_first? op n m ends parent pre global ≡ some (global_first op n m ends parent pre global)
    unfolding ExactRules.global_first? global_first
    global-first op global = overs n _ (local_at op n m ends parent pre) global (λ q l. local-at op refl l)

    module _ (nd : List ℕ) (nd_some : (v : ℕ) → v < n → 1 ≤ at nd v) (within : (v : ℕ) → v < n →
        at pre v + at nd v ≤ n) where
      last-place : (v : ℕ) → v < n → ExactRules.last_place? n nd pre (some v) ≡ some (end_place nd pre v - 1)
      unfolding ExactRules.last_place?
      last-place v l = minus (both ◌+◌ (read n pre refl l) (read n nd refl l)) refl (omega (arith, nd_some v l))

      pub range-first : (op : ℕ → ℕ → ℕ) (range : List ℕ)
          → ExactRules.range_first? op n m ends parent nd pre range ≡ some (range_first op n m ends parent nd pre range)
      unfolding ExactRules.range_first? range_first
      range-first op range =
          overs n _ _ range
          (λ v l.
          let s = nd_some v l in
          let w = within v l in
          rw (
            le-leb 1 (end_place nd pre v) (omega arith),
            le-leb (end_place nd pre v) n w,
          ) (local-at op (last-place v l) (omega arith)))

      pub big-first : n ≤ MAX-NUMBER → (big : List ℕ) → ExactRules.big_first? n nd pre big
          ≡ some (big_first n nd pre big)
      unfolding ExactRules.big_first? big_first
      big-first small big =
          overs n _ _ big
          (λ v l. let b : bounded (end_place nd pre v - 1)
          ≡ end_place nd pre v - 1 = omega (arith, within v l) in rw b (last-place v l))

pub little-first : (n : ℕ) (pre little : List ℕ) →
    ExactRules.little_first? n pre little ≡ some (little_first n pre little)
unfolding ExactRules.little_first? little_first
little-first n pre little = overs n _ (at pre) little (λ v l. read n pre refl l)

-- ---- stage 7, the later rounds

odds : (i : ℕ) {x : Value} {a : ℕ} → x ≡ some a → ExactRules.odd? i x ≡ some (odd i a)
unfolding ExactRules.odd?
odds i e = nots (both eqb (both ◌%◌ e refl) refl)

pub global-later : (op : ℕ → ℕ → ℕ) (i n : ℕ) (global : List ℕ) →
    ExactRules.global_later? op i n global ≡ some (global_later op i n global)
unfolding ExactRules.global_later? global_later
global-later op i n global =
    overs n _ (λ (q : ℕ). cond (not (odd i q) && ltb (q + 2 ^ i) n) (op (at global q) (at global (q + 2 ^ i)))
    (at global q)) global
    (λ q l.
    ifs (ands (nots (odds i refl)) (λ r. both ltb (both ◌+◌ refl refl) refl))
    (λ r. both op (read n global refl l)
    (read n global (both ◌+◌ refl refl) (ltb-true (q + 2 ^ i) n (and_right (not (odd i q)) (ltb (q + 2 ^ i) n) r))))
    (λ r. read n global refl l))

-- where big moves it is a segment's length or more, and both stay within the places
module _ (i n : ℕ) (small : n ≤ MAX-NUMBER) (little big : List ℕ) (big_below : (v : ℕ) → v < n → at big v < n)
    (steps : (v : ℕ) → v < n → moves_little i little big v ≡ true → at little v + 2 ^ i ≤ at big v)
    (room : (v : ℕ) → v < n → moves_big i little big v ≡ true → 2 ^ i ≤ at big v) where
  moves-little : (v : ℕ) → v < n → ExactRules.moves_little? i n little big (some v) ≡ some (moves_little i little big v)
  unfolding ExactRules.moves_little?
  moves-little v l = ands (both ltb (read n little refl l) (read n big refl l)) (λ q. odds i (read n little refl l))

  moves-big : (v : ℕ) → v < n → ExactRules.moves_big? i n little big (some v) ≡ some (moves_big i little big v)
  unfolding ExactRules.moves_big?
  moves-big v l = ands (both ltb (read n little refl l) (read n big refl l)) (λ q. odds i (read n big refl l))

  with_little_lem : (op : ℕ → ℕ → ℕ) (global : List ℕ) (v : ℕ) → v < n → {x : Value} {a : ℕ} → x ≡ some a
      → ExactRules.with_little? op i n global little big (some v) x ≡ some (with_little op i n global little big v a)
  unfolding ExactRules.with_little? with_little
  with_little_lem op global v l e =
      ifs (moves-little v l)
      (λ q.
      let k : at little v < n = omega (arith, steps v l q, big_below v l) in
      rw (lt-ltb (at little v) n k) (both op e (read n global (read n little refl l) k)))
      (λ q. e)

  with_big_lem : (op : ℕ → ℕ → ℕ) (global : List ℕ) (v : ℕ) → v < n → {x : Value} {a : ℕ} → x ≡ some a
      → ExactRules.with_big? op i n global little big (some v) x ≡ some (with_big op i n global little big v a)
  unfolding ExactRules.with_big? with_big
  with_big_lem op global v l e =
      ifs (moves-big v l)
      (λ q.
      let h : 2 ^ i ≤ at big v = room v l q in
      let k : at big v - 2 ^ i < n = omega (arith, big_below v l) in
      rw (le-leb (2 ^ i) (at big v) h, lt-ltb (at big v - 2 ^ i) n k)
      (both op e (read n global (minus (read n big refl l) refl h) k)))
      (λ q. e)

  pub range-later : (op : ℕ → ℕ → ℕ) (global range : List ℕ)
      → ExactRules.range_later? op i n global little big range ≡ some (range_later op i n global little big range)
  unfolding ExactRules.range_later? range_later
  range-later op global range =
      overs n _ _ range (λ v l. with_big_lem op global v l (with_little_lem op global v l (read n range refl l)))

  pub little-later : ExactRules.little_later? i n big little ≡ some (little_later i n big little)
  unfolding ExactRules.little_later? little_later
  little-later =
      overs n _ (λ (v : ℕ). cond (moves_little i little big v) (bounded (at little v + 2 ^ i)) (at little v)) little
      (λ v l.
      ifs (moves-little v l)
      (λ q.
      let b : bounded (at little v + 2 ^ i) ≡ at little v + 2 ^ i = omega (arith, steps v l q, big_below v l) in
      rw b (both ◌+◌ (read n little refl l) refl))
      (λ q. read n little refl l))

  pub big-later : ExactRules.big_later? i n little big ≡ some (big_later i n little big)
  unfolding ExactRules.big_later? big_later
  big-later =
      overs n _ (λ (v : ℕ). cond (moves_big i little big v) (at big v - 2 ^ i) (at big v)) big
      (λ v l. ifs (moves-big v l) (λ q. minus (read n big refl l) refl (room v l q)) (λ q. read n big refl l))

-- ---- stages 8 and 9

module _ (n : ℕ) (parent : List ℕ) (names : (v : ℕ) → v < n → Names n (at parent v)) where
  above : (v : ℕ) → v < n → not (is_root parent v) ≡ true → at parent v < n
  above v l q = below_of n parent names v l (not-true (is_root parent v) q)

  pub parent-joins : (nd pre low high joins : List ℕ)
      → ExactRules.parent_joins_round? n parent nd pre low high joins
      ≡ some (parent_joins_round n parent nd pre low high joins)
  unfolding ExactRules.parent_joins_round? ExactRules.joins_parent? parent_joins_round joins_parent
  parent-joins nd pre low high joins =
      overs n _ _ joins
      (λ u l.
      let up = read n parent refl l in
      marked
      (ands
      (ands (nots (root n parent refl l)) (λ q. nots (root n parent up (above u l q))))
      (λ q.
      let k = above u l (and_left (not (is_root parent u)) (not (is_root parent (at parent u))) q) in
      ors (both ltb (read n low refl l) (read n pre up k))
      (λ r. both leb (both ◌+◌ (read n pre up k) (read n nd up k)) (read n high refl l)))))

  -- a join of a with b, which is there where a is no root
  over-join : (value : List ℕ) {x y z w : Value} {mark a b v : ℕ} → x ≡ some mark → y ≡ some a → z ≡ some b →
      w ≡ some v → a < n → v < n
      → (is_root parent a ≡ false → b < n) →
      ExactRules.heard_over? n parent value x y z w ≡ some (heard_over parent value mark a b v)
  unfolding ExactRules.heard_over? ExactRules.joined?
  over-join value {mark = mark} {a = a} {b = b} e f g h la lv lb =
      ifs
      (ands (ands (nots (both eqb e refl)) (λ q. nots (root n parent f la)))
      (λ q. nots (root n parent g (lb (not-true (is_root parent a)
      (and_right (not (eqb mark 0)) (not (is_root parent a)) q))))))
      (λ q.
      let r = and_left (not (eqb mark 0) && not (is_root parent a)) (not (is_root parent b)) q in
      heards n f g la (lb (not-true (is_root parent a) (and_right (not (eqb mark 0)) (not (is_root parent a)) r))) value
      h
      lv)
      (λ q. read n value h lv)

  withins : (nd pre : List ℕ) {x y : Value} {u v : ℕ} → x ≡ some u → y ≡ some v → u < n → v < n
      → ExactRules.within? n nd pre x y ≡ some (within nd pre u v)
  unfolding ExactRules.within?
  withins nd pre e f lu lv =
      ands (both leb (read n pre e lu) (read n pre f lv))
      (λ q. both ltb (read n pre f lv) (both ◌+◌ (read n pre e lu) (read n nd e lu)))

  joins-ends : (nd pre : List ℕ) {x y : Value} {a b : ℕ} → x ≡ some a → y ≡ some b → a < n → b < n
      → ExactRules.joins_ends? n parent nd pre x y ≡ some (joins_ends parent nd pre a b)
  unfolding ExactRules.joins_ends?
  joins-ends nd pre e f la lb =
      ands (ands (off n e f la lb parent) (λ q. nots (withins nd pre e f la lb))) (λ q. nots (withins nd pre f e lb la))

  module _ (m : ℕ) (ends : List ℕ) (below_a : (j : ℕ) → j < m → end_a ends j < n) (below_b : (j : ℕ) → j < m →
      end_b ends j < n) where
    pub link-joins : (nd pre joins : List ℕ) →
        ExactRules.link_joins_round? n m ends parent nd pre joins ≡ some (link_joins_round m ends parent nd pre joins)
    unfolding ExactRules.link_joins_round? link_joins_round
    link-joins nd pre joins =
        overs m _ _ joins (λ j k. marked
        (joins-ends nd pre (end-a m ends refl k) (end-b m ends refl k) (below_a j k) (below_b j k)))

    least-joined : (linkJoins parentJoins value : List ℕ) (v : ℕ) → v < n
        → ExactRules.least_joined? n m ends parent linkJoins parentJoins value (some v)
        ≡ some (least_joined n m ends parent linkJoins parentJoins value v)
    unfolding ExactRules.least_joined? least_joined
    least-joined linkJoins parentJoins value v l =
        ifs (root n parent refl l) (λ q. refl)
        (λ q.
        folds min n _ (λ (u : ℕ). heard_over parent value (at parentJoins u) u (at parent u) v)
        (λ u k. over-join value (read n parentJoins refl k) refl (read n parent refl k) refl k l
        (below_of n parent names u k))
        (folds min m _ (λ (j : ℕ). heard_over parent value (at linkJoins j) (end_a ends j) (end_b ends j) v)
        (λ j k. over-join value (read m linkJoins refl k) (end-a m ends refl k) (end-b m ends refl k) refl
        (below_a j k) l (λ r. below_b j k))
        (read n value refl l)))

    pub aux-round : (made : ℕ) (linkJoins parentJoins color : List ℕ)
        → ExactRules.aux_round? n m made ends parent linkJoins parentJoins color
        ≡ some (aux_round n m made ends parent linkJoins parentJoins color)
    unfolding ExactRules.aux_round? aux_round
    aux-round made linkJoins parentJoins color = overs n _ _ color (least-joined linkJoins parentJoins _)

-- ---- stage 10

module _ (n : ℕ) (parent pre : List ℕ) {x y : Value} {a b : ℕ} (e : x ≡ some a) (f : y ≡ some b) (la : a < n)
    (lb : b < n) where
  naming : ExactRules.naming_unit? n parent pre x y ≡ some (naming_unit parent pre a b)
  unfolding ExactRules.naming_unit? naming_unit
  naming =
      ifs (ands (both eqb (read n parent e la) f) (λ q. both eqb (read n parent f lb) e)) (λ q. both min e f)
      (λ q.
      ifs (both eqb (read n parent f lb) e) (λ r. f)
      (λ r. ifs (both eqb (read n parent e la) f) (λ t. e)
      (λ t. ifs (both ltb (read n pre f lb) (read n pre e la)) (λ u. e) (λ u. f))))

  naming-below : naming_unit parent pre a b < n
  unfolding naming_unit
  naming-below =
      cond-keeps (λ (u : ℕ). u < n) (eqb (at parent a) b && eqb (at parent b) a) _ _ (omega arith)
      (cond-keeps (λ (u : ℕ). u < n) (eqb (at parent b) a) _ _ lb
      (cond-keeps (λ (u : ℕ). u < n) (eqb (at parent a) b) _ _ la
      (cond-keeps (λ (u : ℕ). u < n) (ltb (at pre b) (at pre a)) _ _ la lb)))

pub class-round : (n m : ℕ) (ends : List ℕ) → ((j : ℕ) → j < m → end_a ends j < n)
    → ((j : ℕ) → j < m → end_b ends j < n)
    → (parent pre color class : List ℕ) →
    ExactRules.class_round? n m ends parent pre color class ≡ some (class_round m ends parent pre color class)
unfolding ExactRules.class_round? class_round
class-round n m ends below_a below_b parent pre color class =
    overs m _ _ class
    (λ j k.
    let e = end-a m ends refl k in
    let f = end-b m ends refl k in
    read n color (naming n parent pre e f (below_a j k) (below_b j k))
    (naming-below n parent pre e f (below_a j k) (below_b j k)))

pub label_round_lem : (m : ℕ) (class label : List ℕ) →
    ExactRules.label_round? m class label ≡ some (label_round m class label)
unfolding ExactRules.label_round? ExactRules.label_of? label_round label_of
label_round_lem m class label =
    overs m _ (label_of m class) label
    (λ j l.
    folds min m _ (λ (k : ℕ). cond (eqb (at class k) (at class j)) k ABSENT)
    (λ k i. ifs (both eqb (read m class refl i) (read m class refl l)) (λ q. refl) (λ q. refl)) refl)
