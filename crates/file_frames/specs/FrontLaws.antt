-- The line of a file that characters begin with, by its tests.
use Rattle.std.specs.Prelude.{◌≡◌, ℕ, ◌*◌, ◌%◌, ◌<◌, ◌≤◌, true, false, ◌&&◌, ◌⊎◌, List, length, take, ◌==◌, ◌≢◌}
use Rattle.std.specs.Prelude.{slice_index, slice_index_or, refl}
use Rattle.std.proofs.Math.Path.{sym}
use Rattle.std.proofs.Common.{ap, ◌∙◌, inl, inr, arith}
use Rattle.std.proofs.Math.Decide.{ℕ_discrete}
use Rattle.std.proofs.Math.ListN.{get_or-eq_default}
use borrow.Author.Tests.{eq-eqb, ne_eqb}
use Rattle.base_lists.specs.Tests.{either}
use Rattle.file_frames.specs.Frame.{LF, line_front, all_digits, sum_of, bytes_of}
use Rattle.file_frames.specs.Kinds.{frame_bytes, kind_front, file_front, line_kind}

-- ---- the tests

module _ (s : List ℕ) (bytes : ℕ) (size : bytes ≡ frame_bytes (kind_front s)) where
  pub front_unknown : bytes ≡ 0 → file_front s ≡ false
  unfolding file_front
  front_unknown z = let e : frame_bytes (kind_front s) ≡ 0 = sym size ∙ z in rw e

  pub front-other : (bytes ≢ 0) → (slice_index s (2 * bytes) ≢ LF) → file_front s ≡ false
  unfolding file_front line_front
  front-other n h = rw (← size, ne_eqb bytes 0 n, ne_eqb (slice_index s (2 * bytes)) LF h)

  pub front-short : (bytes ≢ 0) → length s ≤ 2 * bytes → file_front s ≡ false
  front-short n h =
      let past : slice_index_or s (2 * bytes) 0 ≡ 0 = get_or-eq_default s 0 h in
      front-other n (λ e. omega (arith, e, past))

  pub front-line : (bytes ≢ 0) → slice_index s (2 * bytes) ≡ LF
      → file_front s ≡ (all_digits (take (2 * bytes) s) && sum_of (bytes_of (take (2 * bytes) s)) % 256 == 0)
  unfolding file_front line_front
  front-line n e = rw (← size, ne_eqb bytes 0 n, eq-eqb (slice_index s (2 * bytes)) LF e)

-- one character has no kind
pub front-few : (s : List ℕ) → length s < 2 → file_front s ≡ false
front-few s h = go (ℕ_discrete (frame_bytes (kind_front s)) 0)
  where
    go : Dec (frame_bytes (kind_front s) ≡ 0) → file_front s ≡ false
    go (yes e) = front_unknown s (frame_bytes (kind_front s)) refl e
    go (no n) = front-short s (frame_bytes (kind_front s)) refl n (omega arith)

-- ---- the kind, by the test

pub kind-none : (s : List ℕ) → file_front s ≡ false → 0 ≡ line_kind s
unfolding line_kind
kind-none s e = rw e

pub kind-some : (s : List ℕ) (kind : ℕ) → kind ≡ kind_front s → file_front s ≡ true → kind ≡ line_kind s
unfolding line_kind
kind-some s kind k e = rw (e, k)

-- 0 is no kind of a file
pub none-front : (s : List ℕ) → line_kind s ≡ 0 → file_front s ≡ false
unfolding line_kind
none-front s e = go (either (file_front s))
  where
    go : (file_front s ≡ true) ⊎ (file_front s ≡ false) → file_front s ≡ false
    go (inr h) = h
    go (inl h) = front_unknown s (frame_bytes (kind_front s)) refl (ap frame_bytes (rw h at e))

pub some-front : (s : List ℕ) → (line_kind s ≢ 0) → (file_front s ≡ true) × (kind_front s ≡ line_kind s)
unfolding line_kind
some-front s n = go (either (file_front s))
  where
    go : (file_front s ≡ true) ⊎ (file_front s ≡ false) → (file_front s ≡ true) × (kind_front s ≡ line_kind s)
    go (inl h) = (h, rw h)
    go (inr h) = absurd (n (rw h))
