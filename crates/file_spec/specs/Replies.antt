-- What a reply tells: document 01's number, and the values that come back with it.
use Rattle.std.specs.Prelude.{◌≡◌, List, [], ◌∷◌, ℕ, ℤ}
use Rattle.std.proofs.Math.Decide.{ℕ_discrete}
use Rattle.std.proofs.Common.{ne_eqb}
use Rattle.file_spec.specs.File.{reading_of, reading_number, reading_values, writing_of, writing_number, writing_values}
use Rattle.file_spec.specs.File.{unless, lines_of, read_refusal, units_in, link_frames, read_reply, file_length}
use Rattle.file_spec.specs.File.{write_refusal, write_reply}
use Rattle.file_spec.specs.RoundTrip.{copy_refusal, copy_reply, rewrite_refusal, rewrite_reply}
use Rattle.table.specs.Table.{link_count}
use Rattle.file_spec.specs.declared.Reading.{Reading}
use Rattle.file_spec.specs.declared.Writing.{Writing}

-- refusal k, and these values where there is none
abbrev ReadTells : Reading → ℕ → List ℕ → Type 0
ReadTells r k values = (reading_number r ≡ k) × (reading_values r ≡ unless k values)

abbrev WriteTells : Writing → ℕ → List ℕ → Type 0
WriteTells r k values = (writing_number r ≡ k) × (writing_values r ≡ unless k values)

reading_tells : (k n m : ℕ) → ReadTells (reading_of k n m) k (n ∷ m ∷ [])
reading_tells k n m = go (ℕ_discrete k 0)
  where
    go : Dec (k ≡ 0) → ReadTells (reading_of k n m) k (n ∷ m ∷ [])
    go (yes e) = (rw e, rw e)
    go (no z) = (rw (ne_eqb k 0 z), rw (ne_eqb k 0 z))

writing_tells : (k m : ℕ) → WriteTells (writing_of k m) k (m ∷ [])
writing_tells k m = go (ℕ_discrete k 0)
  where
    go : Dec (k ≡ 0) → WriteTells (writing_of k m) k (m ∷ [])
    go (yes e) = (rw e, rw e)
    go (no z) = (rw (ne_eqb k 0 z), rw (ne_eqb k 0 z))

-- ---- the replies of each call

pub read-tells : (s : List ℕ) (places spaces : ℕ) (r : Reading) → r ≡ read_reply s places spaces
    → ReadTells r (read_refusal (lines_of s) places spaces) (units_in (lines_of s) ∷ link_frames (lines_of s) ∷ [])
unfolding read_reply
read-tells s places spaces r e = rw e (reading_tells (read_refusal (lines_of s) places spaces) (units_in (lines_of s))
    (link_frames (lines_of s)))

pub write_tells : (n : ℕ) (t : List ℕ) (ls : List ℤ) (places : ℕ) (r : Writing) → r ≡ write_reply n t ls places
    → WriteTells r (write_refusal n t ls places) (file_length (link_count t) ∷ [])
unfolding write_reply
write_tells n t ls places r e = rw e (writing_tells (write_refusal n t ls places) (file_length (link_count t)))

pub copy_tells : (n : ℕ) (t : List ℕ) (ls : List ℤ) (chars places spaces : ℕ) (r : Reading) →
    r ≡ copy_reply n t ls chars places spaces
    → ReadTells r (copy_refusal n t ls chars places spaces) (n ∷ link_count t ∷ [])
unfolding copy_reply
copy_tells n t ls chars places spaces r e =
    rw e (reading_tells (copy_refusal n t ls chars places spaces) n (link_count t))

pub rewrite_tells : (s : List ℕ) (places spaces chars : ℕ) (r : Writing) → r ≡ rewrite_reply s places spaces chars
    → WriteTells r (rewrite_refusal s places spaces chars) (file_length (link_frames (lines_of s)) ∷ [])
unfolding rewrite_reply
rewrite_tells s places spaces chars r e =
    rw e (writing_tells (rewrite_refusal s places spaces chars) (file_length (link_frames (lines_of s))))
