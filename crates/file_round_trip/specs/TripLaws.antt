-- The round trips call by call: what the first call replies, and what the second then finds.
use Rattle.std.specs.Prelude.{◌≡◌, refl, Bool, true, false, cond, ◌||◌, List, [], ◌∷◌, ℕ, ◌*◌, ◌≤◌, ◌<◌, eqb, ltb}
use Rattle.std.specs.Prelude.{length, take, drop, ℤ}
use Rattle.std.proofs.Math.Path.{sym}
use Rattle.std.proofs.Common.{ap, ◌∙◌, arith, take_at}
use Rattle.std.proofs.Math.Decide.{ℕ_discrete, dec_lt}
use borrow.Author.Tests.{eqb-true, eqb-false, ne_eqb, lt-ltb, le-ltb}
use Rattle.table.specs.RefusalLaws.{first_some, first-none}
use Rattle.table.specs.Table.{link_count, fresh_tests, fresh_refusal}
use Rattle.file_spec.specs.File.{lines_of, units_in, ends_in, levels_in, link_frames, file_of, file_length}
use Rattle.file_spec.specs.File.{read_refusal}
use Rattle.file_spec.specs.File.{read_reply, read_words, read_levels, write_refusal, write_reply, written_file}
use Rattle.file_spec.specs.RoundTrip.{copy_refusal, copy_reply, copied_words, copied_levels, rewrite_refusal}
use Rattle.file_spec.specs.RoundTrip.{rewrite_reply}
use Rattle.file_spec.specs.RoundTrip.{rewritten_file}
use Rattle.file_spec.proofs.LineSteps.{length-ends}
use Rattle.file_spec.proofs.ReadLaws.{unread-told, read_told}
use Rattle.file_write.specs.WriteLaws.{write_table, write_14, write_0, length-file, written-table, written-stored}
use Rattle.file_write.specs.WriteLaws.{written_one, written-fits}
use Rattle.file_spec.proofs.WrittenLaws.{ReadBack, written_read}
use Rattle.file_spec.proofs.RewrittenLaws.{read-written}
use Rattle.file_spec.specs.declared.Reading.{Reading}
use Rattle.file_spec.specs.declared.Reading.TheVariants.{Read}
use Rattle.file_spec.specs.declared.Writing.{Writing}
use Rattle.file_spec.specs.declared.Writing.TheVariants.{Written}

-- ---- what a reply says

written_says : (b : Bool) (m k x : ℕ) → cond b (Written m) (Writing.Refused k) ≡ Written x → (b ≡ true) × (x ≡ m)
written_says true m k x e = (refl, cc)
written_says false m k x e = absurd (let z : ◌≡◌ {A = ℕ} 0 1 = cc in omega arith)

unwritten_says : (b : Bool) (m k x : ℕ) → cond b (Written m) (Writing.Refused k) ≡ Writing.Refused x →
    (b ≡ false) × (x ≡ k)
unwritten_says true m k x e = absurd (let z : ◌≡◌ {A = ℕ} 0 1 = cc in omega arith)
unwritten_says false m k x e = (refl, cc)

-- ---- a table written, then read

module _ (n : ℕ) (t : List ℕ) (ls : List ℤ) (chars places spaces : ℕ) where
  short : Bool
  short = ltb chars (file_length (link_count t)) || (ltb places (length t) || ltb spaces (length ls))

  copy_table : (fresh_refusal n t ls ≡ 0 → ⊥) → copy_refusal n t ls chars places spaces ≡ fresh_refusal n t ls
  unfolding copy_refusal fresh_refusal short
  copy_table h = first_some (fresh_tests n t ls) ((14, short) ∷ []) h

  copy_last : fresh_refusal n t ls ≡ 0 → copy_refusal n t ls chars places spaces ≡ cond short 14 0
  unfolding copy_refusal fresh_refusal short
  copy_last e = first-none (fresh_tests n t ls) ((14, short) ∷ []) (omega arith) e

module _ (n : ℕ) (t : List ℕ) (ls : List ℤ) (chars : ℕ) where
  -- the writing was refused
  module _ (k : ℕ) (e : write_reply n t ls chars ≡ Writing.Refused k) where
    refused_with : (k ≡ write_refusal n t ls chars) × (write_refusal n t ls chars ≡ 0 → ⊥)
    unfolding write_reply
    refused_with =
        let s = unwritten_says (eqb (write_refusal n t ls chars) 0) (file_length (link_count t))
        (write_refusal n t ls chars) k e in
        (s.1, eqb-false (write_refusal n t ls chars) 0 s.0)

    same-refusal : (places spaces : ℕ) → copy_refusal n t ls chars places spaces ≡ write_refusal n t ls chars
    unfolding short
    same-refusal places spaces = go (ℕ_discrete (fresh_refusal n t ls) 0)
      where
        go : Dec (fresh_refusal n t ls ≡ 0) → copy_refusal n t ls chars places spaces ≡ write_refusal n t ls chars
        go (yes z) = at (dec_lt chars (file_length (link_count t)))
          where
            at : Dec (chars < file_length (link_count t)) →
                copy_refusal n t ls chars places spaces ≡ write_refusal n t ls chars
            at (yes h) =
                copy_last n t ls chars places spaces z
                ∙ rw (lt-ltb chars (file_length (link_count t)) h) (write_14 n t ls chars z h)
            at (no h) = absurd (refused_with.1 (sym (write_0 n t ls chars z (omega arith))))
        go (no z) = copy_table n t ls chars places spaces z ∙ write_table n t ls chars z

    pub copy_refused : (places spaces : ℕ) → Reading.Refused k ≡ copy_reply n t ls chars places spaces
    unfolding copy_reply
    copy_refused places spaces = rw (
      same-refusal places spaces,
      ne_eqb (write_refusal n t ls chars) 0 refused_with.1,
      refused_with.0,
    )

    pub copy_kept : (words : List ℕ) (spaces : ℕ) → words ≡ copied_words n t ls chars words spaces
    unfolding copied_words
    copy_kept words spaces = rw (
      same-refusal (length words) spaces,
      ne_eqb (write_refusal n t ls chars) 0 refused_with.1,
    )

    pub copy_kept-levels : (places : ℕ) (levels : List ℤ) → levels ≡ copied_levels n t ls chars places levels
    unfolding copied_levels
    copy_kept-levels places levels = rw (
      same-refusal places (length levels),
      ne_eqb (write_refusal n t ls chars) 0 refused_with.1,
    )

  -- it was not
  module _ (m : ℕ) (e : write_reply n t ls chars ≡ Written m) where
    unrefused : (write_refusal n t ls chars ≡ 0) × (m ≡ file_length (link_count t))
    unfolding write_reply
    unrefused =
        let s = written_says (eqb (write_refusal n t ls chars) 0) (file_length (link_count t))
        (write_refusal n t ls chars) m e in
        (eqb-true (write_refusal n t ls chars) 0 s.0, s.1)

    table-passes : fresh_refusal n t ls ≡ 0
    table-passes = written-table n t ls chars unrefused.0

    -- what reading the file finds
    found : ReadBack n t ls
    found = written_read n t ls (written-stored n t ls chars unrefused.0)

    -- the first m bytes are the file
    pub written-front : (file : List ℕ) → chars ≡ length file → take m (written_file n t ls file) ≡ file_of n t ls
    unfolding written_file
    written-front file c =
        rw (← c, unrefused.0, unrefused.1)
        (take_at (file_of n t ls) (drop (length (file_of n t ls)) file) (file_length (link_count t))
        (length-file n t ls (written_one n t ls chars unrefused.0)))

    pub written-long : (file : List ℕ) → chars ≡ length file → m ≤ length file
    written-long file c = omega (arith, unrefused.1, written-fits n t ls chars unrefused.0, c)

    same_reading : (places spaces : ℕ) →
        read_refusal (lines_of (file_of n t ls)) places spaces ≡ copy_refusal n t ls chars places spaces
    unfolding short
    same_reading places spaces =
        let fits = le-ltb chars (file_length (link_count t)) (written-fits n t ls chars unrefused.0) in
        found.refusal places spaces ∙ sym (copy_last n t ls chars places spaces table-passes ∙ rw fits)

    pub copy_read : (places spaces : ℕ) → read_reply (file_of n t ls) places spaces
        ≡ copy_reply n t ls chars places spaces
    unfolding read_reply copy_reply
    copy_read places spaces =
        let b = found in
        rw (same_reading places spaces, b.units, b.links)

    pub copy_words : (words : List ℕ) (spaces : ℕ) →
        read_words (file_of n t ls) words spaces ≡ copied_words n t ls chars words spaces
    unfolding read_words copied_words
    copy_words words spaces = rw (same_reading (length words) spaces, found.ends)

    pub copy_levels : (places : ℕ) (levels : List ℤ) →
        read_levels (file_of n t ls) places levels ≡ copied_levels n t ls chars places levels
    unfolding read_levels copied_levels
    copy_levels places levels = rw (same_reading places (length levels), found.levels)

-- ---- a file read, then written

module _ (s : List ℕ) (places spaces : ℕ) where
  -- the reading was refused
  module _ (k : ℕ) (e : read_reply s places spaces ≡ Reading.Refused k) where
    unread-refusal : (chars : ℕ) → rewrite_refusal s places spaces chars ≡ read_refusal (lines_of s) places spaces
    unfolding rewrite_refusal
    unread-refusal chars = rw (ne_eqb (read_refusal (lines_of s) places spaces) 0 (unread-told s places spaces k e).1)

    pub rewrite_refused : (chars : ℕ) → Writing.Refused k ≡ rewrite_reply s places spaces chars
    unfolding rewrite_reply
    rewrite_refused chars = rw (
      unread-refusal chars,
      ne_eqb (read_refusal (lines_of s) places spaces) 0 (unread-told s places spaces k e).1,
      (unread-told s places spaces k e).0,
    )

    pub rewrite_kept : (out : List ℕ) → out ≡ rewritten_file s places spaces out
    unfolding rewritten_file
    rewrite_kept out = rw (
      unread-refusal (length out),
      ne_eqb (read_refusal (lines_of s) places spaces) 0 (unread-told s places spaces k e).1,
    )

  -- it was not
  module _ (u m : ℕ) (e : read_reply s places spaces ≡ Read u m) where
    same_writing : (chars : ℕ)
        → rewrite_refusal s places spaces chars
        ≡ write_refusal (units_in (lines_of s)) (ends_in (lines_of s)) (levels_in (lines_of s)) chars
    unfolding rewrite_refusal
    same_writing chars = rw (read_told s places spaces u m e).0

    same_count : link_count (ends_in (lines_of s)) ≡ link_frames (lines_of s)
    same_count = omega (arith, length-ends (lines_of s))

    pub rewrite_written : (chars : ℕ) → write_reply u (ends_in (lines_of s)) (levels_in (lines_of s)) chars
        ≡ rewrite_reply s places spaces chars
    unfolding write_reply rewrite_reply
    rewrite_written chars = rw (same_writing chars, (read_told s places spaces u m e).1, same_count)

    pub rewrite_bytes : (out : List ℕ) →
        written_file u (ends_in (lines_of s)) (levels_in (lines_of s)) out ≡ rewritten_file s places spaces out
    unfolding written_file rewritten_file
    rewrite_bytes out = rw (
      same_writing (length out),
      (read_told s places spaces u m e).1,
      read-written s places spaces (read_told s places spaces u m e).0,
    )
