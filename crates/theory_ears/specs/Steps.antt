-- What the ring is made from (T-04), step by step: a tree from the first end of the first link, an order of units that
-- grows by ears, and the tests of both. `parent` holds a parent, absent where the tree has not come; `pos` holds a
-- place from 1, 0 off the order.
use Rattle.std.specs.Prelude.{Bool, true, false, cond, not, ◌&&◌, List, [], ◌∷◌, ℕ, zero, suc, ◌+◌, ◌-◌, min, eqb, ltb}
use Rattle.std.specs.Prelude.{length, set}
use Rattle.base_lists.specs.Tables.{over}
use Rattle.table.specs.Table.{end_a, end_b}
use Rattle.spec_rules.specs.Basics.{ABSENT, at}
use Rattle.theory_ears.specs.Upright.{ended, chain}

-- ---- the tree

abbrev pub seen : List ℕ → ℕ → Bool
seen parent v = not (eqb (at parent v) ABSENT)

-- link j counts, and the tree has one of its ends
abbrev pub leads_out : (ℕ → Bool) → List ℕ → List ℕ → ℕ → Bool
leads_out ok ends parent j = ok j && cond (seen parent (end_a ends j)) (not (seen parent (end_b ends j)))
    (seen parent (end_b ends j))

-- ---- the order

abbrev pub on_order : List ℕ → ℕ → Bool
on_order pos v = not (eqb (at pos v) 0)

-- the unit of the order that v hangs on, and the units from v up to it
abbrev pub anchor : ℕ → List ℕ → List ℕ → ℕ → ℕ
anchor k parent pos v = ended (at parent) (on_order pos) k v

abbrev pub hanging : ℕ → List ℕ → List ℕ → ℕ → List ℕ
hanging k parent pos v = chain (at parent) (on_order pos) k v

-- link j of the tree's units ties two that are held by two units of the order, not both on it
abbrev pub ties : (ℕ → Bool) → List ℕ → List ℕ → List ℕ → List ℕ → ℕ → Bool
ties ok ends parent pos held j =
    ok j
    && seen parent (end_a ends j)
    && not (eqb (at held (end_a ends j)) (at held (end_b ends j)))
    && not (on_order pos (end_a ends j) && on_order pos (end_b ends j))

-- places i, then the next, .. for the units of a list: where `placing`, each unit's place in a table by unit, else each
-- place's unit in a row
abbrev pub laid : Bool → (ℕ → ℕ) → ℕ → List ℕ → List ℕ → List ℕ
laid placing next i [] t = t
laid placing next i (z ∷ l) t = laid placing next (next i) l (set t (cond placing z i) (cond placing i z))

-- the next place as the code counts: up to 2,048, or down
abbrev pub onward : Bool → ℕ → ℕ
onward up i = cond up (min (i + 1) 2048) (i - 1)

-- by unit, places i, i + 1, .. and i, i − 1, ..
abbrev pub up_from : ℕ → List ℕ → List ℕ → List ℕ
up_from i l pos = laid true suc i l pos

abbrev pub down_from : ℕ → List ℕ → List ℕ → List ℕ
down_from i l pos = laid true (onward false) i l pos

-- what stands past place q moves on by c
unfoldable pub moved : ℕ → ℕ → ℕ → List ℕ → List ℕ
moved n q c pos = over n (λ (v : ℕ). cond (ltb q (at pos v)) (min (at pos v + c) 2048) (at pos v)) pos

-- an ear: the way from u's anchor down to u, over the link to v and up to v's anchor, put in after u's anchor
unfoldable pub woven : ℕ → List ℕ → List ℕ → ℕ → ℕ → List ℕ
woven n parent pos u v =
    let q = at pos (anchor (suc n) parent pos u) in
    let s = hanging (suc n) parent pos u in
    let t = hanging (suc n) parent pos v in
    up_from (suc (q + length s)) t (down_from (q + length s) s (moved n q (length s + length t) pos))

-- the units from v up, so many
abbrev pub climb : List ℕ → ℕ → ℕ → List ℕ
climb up zero v = []
climb up (suc k) v = v ∷ climb up k (at up v)
