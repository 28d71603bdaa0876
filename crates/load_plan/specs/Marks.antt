-- Units whose parent is a neighbour, by marks: one pass over the links, each of which marks an end whose parent is the
-- other.
use Rattle.std.specs.Prelude.{◌≡◌, refl, Bool, true, false, cond, not, ◌&&◌, ◌||◌, List, ℕ, zero, suc, ◌+◌, ◌≤◌, ◌<◌}
use Rattle.std.specs.Prelude.{eqb, length, get_or, set}
use Rattle.std.proofs.Common.{sym, ap, ◌∙◌, le_antisymm, add-one, arith, length-set, get_or-set_same, get_or-set_other}
use Rattle.std.proofs.Common.{eqb-true, eq-eqb, ne_eqb}
use Rattle.std.proofs.Math.Decide.{ℕ_discrete}
use Rattle.base_lists.specs.Folds.{some}
use Rattle.base_lists.specs.Tests.{same_test}
use Rattle.table.specs.Table.{end_a, end_b}
use Rattle.spec_rules.specs.Basics.{at}
use Rattle.spec_rules.specs.Planned.{parent_link}

-- unit v is marked where w is its parent
unfoldable pub marked : List ℕ → ℕ → ℕ → List ℕ → List ℕ
marked parents v w t = set t v (cond (eqb (at parents v) w) 1 (at t v))

-- the marks after j links
abbrev pub MarksAt : List ℕ → List ℕ → ℕ → List ℕ → Type 0
MarksAt table parents j t = (length t ≡ 256)
    × ((v : ℕ) → v < 256 → get_or t v 0 ≡ cond (some j (parent_link table parents v)) 1 0)

pub marks-none : (table parents t : List ℕ) → length t ≡ 256 → ((v : ℕ) → v < 256 → get_or t v 0 ≡ 0) →
    MarksAt table parents 0 t
marks-none table parents t l z = (l, z)

-- an entry after one mark
mark-entry : (parents : List ℕ) (a w : ℕ) (t : List ℕ) (v : ℕ) → v < length t
    → get_or (marked parents a w t) v 0 ≡ cond (eqb a v && eqb w (at parents v)) 1 (get_or t v 0)
unfolding marked
mark-entry parents a w t v l = go (ℕ_discrete a v)
  where
    turned : eqb (at parents v) w ≡ eqb w (at parents v)
    turned = same_test _ _ (λ e. eq-eqb w (at parents v) (sym (eqb-true (at parents v) w e)))
        (λ e. eq-eqb (at parents v) w (sym (eqb-true w (at parents v) e)))

    go : Dec (a ≡ v) → get_or (set t a (cond (eqb (at parents a) w) 1 (at t a))) v 0
        ≡ cond (eqb a v && eqb w (at parents v)) 1 (get_or t v 0)
    go (yes e) = rw (e, eq-eqb v v refl, get_or-set_same t v (cond (eqb (at parents v) w) 1 (at t v)) 0 l, turned) refl
    go (no e) = rw (ne_eqb a v e, get_or-set_other t a v (cond (eqb (at parents a) w) 1 (at t a)) 0 (λ q. e (sym q)))
        refl

mark_or : (s p q : Bool) → ◌≡◌ {A = ℕ} (cond q 1 (cond p 1 (cond s 1 0))) (cond (s || (p || q)) 1 0)
mark_or true true true = refl
mark_or true true false = refl
mark_or true false true = refl
mark_or true false false = refl
mark_or false true true = refl
mark_or false true false = refl
mark_or false false true = refl
mark_or false false false = refl

-- one link more
marks-more : (table parents : List ℕ) (j : ℕ) (t new : List ℕ) → MarksAt table parents j t
    → new ≡ marked parents (end_b table j) (end_a table j) (marked parents (end_a table j) (end_b table j) t) →
    MarksAt table parents (j + 1) new
unfolding marked
marks-more table parents j t new (l, now) put = (rw put (long2 ∙ long1 ∙ l), entries)
  where
    long1 : length (marked parents (end_a table j) (end_b table j) t) ≡ length t
    long1 = length-set t (end_a table j) _

    long2 : length (marked parents (end_b table j) (end_a table j) (marked parents (end_a table j) (end_b table j) t))
        ≡ length (marked parents (end_a table j) (end_b table j) t)
    long2 = length-set (marked parents (end_a table j) (end_b table j) t) (end_b table j) _

    entries : (v : ℕ) → v < 256 → get_or new v 0 ≡ cond (some (j + 1) (parent_link table parents v)) 1 0
    entries v h =
        ap (λ (t : List ℕ). get_or t v 0) put
        ∙ mark-entry parents (end_b table j) (end_a table j) (marked parents (end_a table j) (end_b table j) t) v
        (omega (arith, long1, l))
        ∙ ap (λ (x : ℕ). cond (eqb (end_b table j) v && eqb (end_a table j) (at parents v)) 1 x)
        (mark-entry parents (end_a table j) (end_b table j) t v (omega (arith, l))
        ∙ ap (λ (x : ℕ). cond (eqb (end_a table j) v && eqb (end_b table j) (at parents v)) 1 x) (now v h))
        ∙ mark_or (some j (parent_link table parents v)) (eqb (end_a table j) v && eqb (end_b table j) (at parents v))
        (eqb (end_b table j) v && eqb (end_a table j) (at parents v))
        ∙ ap (λ (k : ℕ). cond (some k (parent_link table parents v)) 1 0) (sym (add-one j))

-- as the loop marks
pub marks-step : (table parents : List ℕ) (j : ℕ) (t one new : List ℕ) (a b : ℕ) → MarksAt table parents j t →
    a ≡ end_a table j → b ≡ end_b table j
    → one ≡ marked parents a b t → new ≡ marked parents b a one → MarksAt table parents (j + 1) new
marks-step table parents j t one new a b now p q first second =
    marks-more table parents j t new now (rw (sym p, sym q, sym first) second)

-- all links
pub marks-all : (table parents : List ℕ) (m j : ℕ) (t : List ℕ) → MarksAt table parents j t → j ≤ m → m ≤ j
    → (v : ℕ) → v < 256 → get_or t v 0 ≡ cond (some m (parent_link table parents v)) 1 0
marks-all table parents m j t now l g v h = rw (le_antisymm g l) (now.1 v h)
