-- The order of the frames, line by line.
use Rattle.std.specs.Prelude.{◌≡◌, ℕ, suc, Bool, true, false, cond, ◌⊎◌, List, [], ◌∷◌, length, ◌==◌, refl}
use Rattle.std.proofs.Common.{◌∙◌, inl, inr, arith, ne_eqb}
use Rattle.std.proofs.Math.Decide.{ℕ_discrete}
use Rattle.base_lists.specs.Tests.{either}
use Rattle.file_frames.specs.Kinds.{UNITS, END, link_kind}
use Rattle.file_spec.specs.File.{Line, kind_of, in_order_after, in_order}
use Rattle.file_spec.proofs.LineSteps.{after-link}

-- how far it has come: at the start, past the unit count, past the number of links, or broken
abbrev pub START : ℕ
START = 0

abbrev pub LINKS : ℕ
LINKS = 1

abbrev pub ENDED : ℕ
ENDED = 2

abbrev pub BROKEN : ℕ
BROKEN = 3

-- and past one frame more
abbrev pub next_order : ℕ → ℕ → ℕ
next_order order kind =
    cond (order == START) (cond (kind == UNITS) LINKS BROKEN)
    (cond (order == LINKS) (cond (link_kind kind) LINKS (cond (kind == END) ENDED BROKEN)) BROKEN)

-- the lines that are left keep it
unfoldable pub order_from : ℕ → List Line → Bool
order_from order ls =
    cond (order == START) (in_order ls) (cond (order == LINKS) (in_order_after ls)
    (cond (order == ENDED) (length ls == 0) false))

after-start : (l : Line) (ls : List Line) → in_order (l ∷ ls) ≡ order_from (cond (kind_of l == UNITS) LINKS BROKEN) ls
unfolding in_order order_from
after-start l ls = go (ℕ_discrete (kind_of l) UNITS)
  where
    go : Dec (kind_of l ≡ UNITS) → in_order (l ∷ ls) ≡ order_from (cond (kind_of l == UNITS) LINKS BROKEN) ls
    go (yes e) = rw e
    go (no n) = rw (ne_eqb (kind_of l) UNITS n)

after-other : (l : Line) (ls : List Line) → link_kind (kind_of l) ≡ false
    → in_order_after (l ∷ ls) ≡ order_from (cond (kind_of l == END) ENDED BROKEN) ls
unfolding in_order_after order_from
after-other l ls n = go ls (ℕ_discrete (kind_of l) END)
  where
    go : (ls : List Line) → Dec (kind_of l ≡ END) →
        in_order_after (l ∷ ls) ≡ order_from (cond (kind_of l == END) ENDED BROKEN) ls
    go [] (yes e) = rw e
    go [] (no m) = rw (ne_eqb (kind_of l) END m)
    go (k ∷ ls) (yes e) = rw (e, ne_eqb (suc (length ls)) 0 (omega arith))
    go (k ∷ ls) (no m) = rw (ne_eqb (kind_of l) END m, n)

after-links : (l : Line) (ls : List Line)
    → in_order_after (l ∷ ls)
    ≡ order_from (cond (link_kind (kind_of l)) LINKS (cond (kind_of l == END) ENDED BROKEN)) ls
unfolding order_from
after-links l ls = go (either (link_kind (kind_of l)))
  where
    go : (link_kind (kind_of l) ≡ true) ⊎ (link_kind (kind_of l) ≡ false)
        → in_order_after (l ∷ ls) ≡ order_from
        (cond (link_kind (kind_of l)) LINKS (cond (kind_of l == END) ENDED BROKEN)) ls
    go (inl e) = after-link l ls e ∙ rw e
    go (inr n) = after-other l ls n ∙ rw n

pub neither : (b : Bool) → cond b false false ≡ false
neither true = refl
neither false = refl

pub order-next : (order : ℕ) (l : Line) (ls : List Line) →
    order_from order (l ∷ ls) ≡ order_from (next_order order (kind_of l)) ls
unfolding order_from
order-next order l ls = go (ℕ_discrete order START) (ℕ_discrete order LINKS)
  where
    go : Dec (order ≡ START) → Dec (order ≡ LINKS) →
        order_from order (l ∷ ls) ≡ order_from (next_order order (kind_of l)) ls
    go (yes e) d = rw e (after-start l ls)
    go (no n) (yes e) = rw e (after-links l ls)
    go (no n) (no m) =
        rw (
          ne_eqb order START n,
          ne_eqb order LINKS m,
          ne_eqb (suc (length ls)) 0 (omega arith),
        ) (neither (order == ENDED))
