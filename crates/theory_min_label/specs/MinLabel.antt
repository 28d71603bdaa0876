-- The survey of one-way links (document 02, T-11): the min-label method of source document 000, section 6.1, without
-- its two optimisations. A table of words, two a link: from and to.
use Rattle.std.specs.Prelude.{Bool, true, false, cond, not, ◌&&◌, List, [], ◌∷◌, ℕ, zero, suc, min, eqb, get_or}
use Rattle.base_lists.specs.Folds.{some}
use Rattle.base_lists.specs.Tables.{tab, over}

-- no label, or no number yet: the source's ∞ (document 01: absent)
abbrev pub NONE : ℕ
NONE = 65535

-- an entry of a table
abbrev pub at : List ℕ → ℕ → ℕ
at x v = get_or x v 0

-- the unit that a link (a, b) hands a label on from, and the one that gets it: forward from a to b, backward from b to
-- a
abbrev pub giver : Bool → ℕ → ℕ → ℕ
giver forward a b = cond forward a b

abbrev pub taker : Bool → ℕ → ℕ → ℕ
taker forward a b = cond forward b a

-- the least of a unit's own label and of those that its links hand it
unfoldable pub received : Bool → List ℕ → List ℕ → ℕ → ℕ
received forward [] x v = at x v
received forward (a ∷ []) x v = at x v
received forward (a ∷ b ∷ t) x v =
    let others = received forward t x v in
    cond (eqb (taker forward a b) v) (min (at x (giver forward a b)) others) others

-- so many rounds in which every unit at once hands its label on; n of them are enough for n units
unfoldable pub propagated : ℕ → ℕ → Bool → List ℕ → List ℕ → List ℕ
propagated zero n forward t x = x
propagated (suc k) n forward t x = propagated k n forward t (tab n (received forward t x))

-- step 1: forward least labels, at first each unit's own
unfoldable pub min_forward : ℕ → List ℕ → List ℕ
min_forward n t = propagated n n true t (tab n (λ (v : ℕ). v))

-- step 2: backward least labels, at first only of the units that are their own forward label
abbrev pub source : List ℕ → ℕ → ℕ
source f v = cond (eqb (at f v) v) v NONE

unfoldable pub min_backward : ℕ → List ℕ → List ℕ → List ℕ
min_backward n t f = propagated n n false t (tab n (source f))

-- step 3, marking: a unit whose two labels are equal has its number
abbrev pub marked : List ℕ → List ℕ → List ℕ → ℕ → ℕ
marked f b x v = cond (eqb (at x v) NONE) (cond (eqb (at f v) (at b v)) (at f v) NONE) (at x v)

-- step 4, removal: a link stays whose ends have the same two labels and no number; one that crosses goes
abbrev pub stays : List ℕ → List ℕ → ℕ → ℕ → Bool
stays f b u v = eqb (at f u) (at f v) && (eqb (at b u) (at b v) && not (eqb (at f u) (at b u)))

unfoldable pub remaining : List ℕ → List ℕ → List ℕ → List ℕ
remaining f b [] = []
remaining f b (u ∷ []) = []
remaining f b (u ∷ v ∷ t) = let others = remaining f b t in cond (stays f b u v) (u ∷ v ∷ others) others

-- some unit has no number yet
abbrev pub unfinished : ℕ → List ℕ → Bool
unfinished n x = some n (λ (v : ℕ). eqb (at x v) NONE)

-- passes until every unit has its number, at most so many: the numbers, and how many passes
unfoldable pub passes : ℕ → ℕ → List ℕ → List ℕ → List ℕ × ℕ
passes zero n t x = (x, zero)
passes (suc k) n t x =
    let f = min_forward n t in
    let b = min_backward n t f in
    let later = passes k n (remaining f b t) (over n (marked f b x) x) in
    let more : List ℕ × ℕ = (later.0, suc later.1) in
    cond (unfinished n x) more (x, zero)

-- at first no unit has a number; each pass gives one to the least that has none, so n passes are enough
unfoldable pub min_label : ℕ → List ℕ → List ℕ → List ℕ × ℕ
min_label n t out = passes n n t (over n (λ (v : ℕ). NONE) out)
