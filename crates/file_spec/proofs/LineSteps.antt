-- What the definitions say of lines, one line after the other.
use Rattle.std.specs.Prelude.{◌≡◌, true, false, cond, ◌⊎◌, List, [], ◌∷◌, ℕ, suc, ◌+◌, ◌*◌, eqb, length}
use Rattle.std.proofs.Math.Path.{refl}
use Rattle.std.proofs.Common.{◌∙◌, inl, inr, zero-add, one-add, arith}
use Rattle.std.proofs.lemmas.Bool.{false≢true}
use borrow.Author.Tests.{eqb-true}
use Rattle.base_lists.specs.Tests.{either, or_cases, and_left, and_right}
use Rattle.file_frames.specs.Kinds.{UNITS, BARE-LINK, LINK, END, link_kind}
use Rattle.file_spec.specs.File.{Line, kind_of, number_at, in_order_after, in_order, link_frames, stated_count}
use Rattle.file_spec.specs.File.{units_in}
use Rattle.file_spec.specs.File.{ends_in, level_of, levels_in}

module _ (l : Line) (ls : List Line) where
  pub frames_more : link_frames (l ∷ ls) ≡ cond (link_kind (kind_of l)) 1 0 + link_frames ls
  unfolding link_frames
  frames_more = refl

  pub frames_units : kind_of l ≡ UNITS → link_frames (l ∷ ls) ≡ link_frames ls
  frames_units k = frames_more ∙ rw (k, zero-add)

  -- a link's line
  module _ (k : link_kind (kind_of l) ≡ true) where
    pub frames_link : link_frames (l ∷ ls) ≡ suc (link_frames ls)
    frames_link = frames_more ∙ rw (k, one-add)

    pub ends-link : ends_in (l ∷ ls) ≡ number_at l 1 ∷ number_at l 3 ∷ ends_in ls
    unfolding ends_in
    ends-link = rw k

    pub levels-link : levels_in (l ∷ ls) ≡ level_of l ∷ levels_in ls
    unfolding levels_in
    levels-link = rw k

  -- any other
  module _ (n : link_kind (kind_of l) ≡ false) where
    pub ends-other : ends_in (l ∷ ls) ≡ ends_in ls
    unfolding ends_in
    ends-other = rw n

    pub levels-other : levels_in (l ∷ ls) ≡ levels_in ls
    unfolding levels_in
    levels-other = rw n

  pub ends-units : kind_of l ≡ UNITS → ends_in (l ∷ ls) ≡ ends_in ls
  ends-units k = ends-other (rw k)

  pub levels-units : kind_of l ≡ UNITS → levels_in (l ∷ ls) ≡ levels_in ls
  levels-units k = levels-other (rw k)

  pub units-first : units_in (l ∷ ls) ≡ number_at l 1
  unfolding units_in
  units-first = refl

  pub first-units : in_order (l ∷ ls) ≡ true → (kind_of l ≡ UNITS) × (in_order_after ls ≡ true)
  unfolding in_order
  first-units h = (
    eqb-true (kind_of l) UNITS (and_left (eqb (kind_of l) UNITS) (in_order_after ls) h),
    and_right (eqb (kind_of l) UNITS) (in_order_after ls) h,
  )

-- a link's line is not the last
link_no_end : (k : ℕ) → link_kind k ≡ true → eqb k END ≡ false
link_no_end k e = go (or_cases (eqb k BARE-LINK) (eqb k LINK) e)
  where
    go : (eqb k BARE-LINK ≡ true) ⊎ (eqb k LINK ≡ true) → eqb k END ≡ false
    go (inl q) = rw (eqb-true k BARE-LINK q)
    go (inr q) = rw (eqb-true k LINK q)

pub after-link : (l : Line) (ls : List Line) → link_kind (kind_of l) ≡ true → in_order_after (l ∷ ls)
    ≡ in_order_after ls
unfolding in_order_after
after-link l [] e = link_no_end (kind_of l) e
after-link l (k ∷ ls) e = rw e

pub no_order_lem : in_order [] ≡ true → ⊥
unfolding in_order
no_order_lem h = false≢true h

pub stated-later : (l m : Line) (ls : List Line) → stated_count (l ∷ m ∷ ls) ≡ stated_count (m ∷ ls)
unfolding stated_count
stated-later l m ls = refl

-- some line follows the unit count
pub stated-after : (l : Line) (ls : List Line) → in_order_after ls ≡ true → stated_count (l ∷ ls) ≡ stated_count ls
unfolding in_order_after stated_count
stated-after l [] h = absurd (false≢true h)
stated-after l (m ∷ ls) h = refl

-- two ends and a level a link
pub length-ends : (ls : List Line) → length (ends_in ls) ≡ 2 * link_frames ls
unfolding ends_in link_frames
length-ends [] = refl
length-ends (l ∷ ls) = go (length-ends ls) (either (link_kind (kind_of l)))
  where
    go : length (ends_in ls) ≡ 2 * link_frames ls → (link_kind (kind_of l) ≡ true) ⊎ (link_kind (kind_of l) ≡ false)
        → length (ends_in (l ∷ ls)) ≡ 2 * link_frames (l ∷ ls)
    go later (inl k) = rw k (omega arith)
    go later (inr n) = rw n (omega arith)

pub length-levels : (ls : List Line) → length (levels_in ls) ≡ link_frames ls
unfolding levels_in link_frames
length-levels [] = refl
length-levels (l ∷ ls) = go (length-levels ls) (either (link_kind (kind_of l)))
  where
    go : length (levels_in ls) ≡ link_frames ls → (link_kind (kind_of l) ≡ true) ⊎ (link_kind (kind_of l) ≡ false)
        → length (levels_in (l ∷ ls)) ≡ link_frames (l ∷ ls)
    go later (inl k) = rw k (omega arith)
    go later (inr n) = rw n (omega arith)
