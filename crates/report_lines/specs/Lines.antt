-- The lines of all units and of all links: what the tables say in each, and the lines one after the other over the
-- front of a slice.
use Rattle.std.specs.Prelude.{◌≡◌, ℕ, ◌+◌, ◌*◌, ◌<◌, ◌≤◌, cond, List, ◌++◌, length, drop, nat_le}
use Rattle.std.proofs.Common.{◌∙◌, add-one, le-leb}
use Rattle.std.proofs.lemmas.Bool.{lt-leb}
use Rattle.base_lists.specs.Lent.{lent, back}
use Rattle.base_lists.specs.Gathered.{length-gathered, gathered}
use Rattle.file_frames.specs.Frame.{line_of, line_over, line_length}
use Rattle.file_frames.specs.Bodies.{unit_body, label_body}
use Rattle.file_frames.specs.FrameLaws.{length-line}
use Rattle.file_frames.specs.FrameRests.{line-next}
use Rattle.spec_rules.specs.Basics.{at}

-- the body that the tables give the line of unit v, and of the link at position j
abbrev pub unit_row : List ℕ → List ℕ → List ℕ → List ℕ → ℕ → List ℕ
unit_row color parent place singles v = unit_body v (at color v) (at parent v) (at place v) (at singles v)

abbrev pub label_row : List ℕ → List ℕ → ℕ → List ℕ
label_row label lones j = label_body j (at label j) (at lones j)

-- n lines of so many characters
abbrev pub lines_of : ℕ → (ℕ → List ℕ) → List ℕ
lines_of n body = gathered n (λ (i : ℕ). line_of (body i))

-- a slice after they were written at its front; as it was, where they do not fit
unfoldable pub lines_over : ℕ → ℕ → (ℕ → List ℕ) → List ℕ → List ℕ
lines_over long n body out = cond (nat_le (long * n) (length out)) (lines_of n body ++ drop (long * n) out) out

pub lines_over-fits : (long n : ℕ) (body : ℕ → List ℕ) (out : List ℕ) → long * n ≤ length out
    → lines_over long n body out ≡ lines_of n body ++ drop (long * n) out
unfolding lines_over
lines_over-fits long n body out h = rw (le-leb (long * n) (length out) h)

pub lines_over-short : (long n : ℕ) (body : ℕ → List ℕ) (out : List ℕ) → length out < long * n →
    lines_over long n body out ≡ out
unfolding lines_over
lines_over-short long n body out h = rw (lt-leb (long * n) (length out) h)

pub length-lines : (long n : ℕ) (body : ℕ → List ℕ) → ((i : ℕ) → line_length (body i) ≡ long) →
    length (lines_of n body) ≡ long * n
length-lines long n body h =
    length-gathered n long (λ (i : ℕ). line_of (body i)) (λ (i : ℕ) (l : i < n). length-line (body i) ∙ h i)

-- one line more, written to the lent rest past those laid down
pub lines_next : (k : ℕ) (body : ℕ → List ℕ) (out : List ℕ) (at : ℕ) → length (lines_of k body) ≡ at →
    at + line_length (body k) ≤ length out
    → back at (lines_of k body ++ drop at out) (line_over (body k) (lent at (lines_of k body ++ drop at out)))
    ≡ lines_of (k + 1) body ++ drop (at + line_length (body k)) out
lines_next k body out at e h = rw (add-one k) (line-next (body k) (lines_of k body) out at e h)
