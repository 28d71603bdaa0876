-- Writing: the reply by its tests, and the lines of the links laid down one after the other.
use Rattle.std.specs.Prelude.{◌≡◌, refl, List, [], ◌∷◌, ◌++◌, ℕ, zero, suc, ◌+◌, ◌*◌, ◌/◌, ◌≤◌, ◌<◌, get_or, take, drop}
use Rattle.std.specs.Prelude.{ℤ, pos}
use Rattle.std.proofs.Math.Path.{sym}
use Rattle.std.proofs.Common.{ap, ◌∙◌, append_assoc, append-nil, ne_eqb, lt-ltb, le-ltb, length-take-le}
use Rattle.std.proofs.Math.Decide.{ℕ_discrete, dec_lt}
use native.Mathlib.Omega.{arith}
use Rattle.std.proofs.Math.Dec.{ltb}
use Rattle.std.proofs.Math.ListN.{length, length-append}
use Rattle.table_levels.specs.Level.{level_byte}
use Rattle.base_lists.specs.Lent.{lent, back, back-next}
use Rattle.table.specs.Refusals.{first_of}
use Rattle.table.specs.RefusalLaws.{first_some, first-none}
use Rattle.table.specs.Table.{link_count, max_links, end_a, end_b, fresh_tests, stored_refusal, fresh_refusal}
use Rattle.table.proofs.Passes.{table-levelled}
use Rattle.table.proofs.FreshReplies.{fresh-accepted}
use Rattle.table.specs.TableLaws.{end_a-later, end_b-later}
use Rattle.file_frames.specs.Frame.{line_of, line_over}
use Rattle.file_frames.specs.FrameLaws.{length-line}
use Rattle.file_frames.specs.FrameRests.{line_over-fits, line-next}
use Rattle.file_frames.specs.Bodies.{units_body, link_body, end_body}
use Rattle.file_spec.specs.File.{link_lines, file_of, file_length, write_refusal, write_reply, written_file}
use Rattle.file_spec.specs.declared.Writing.{Writing}
use Rattle.file_spec.specs.declared.Writing.TheVariants.{Written}

-- ---- the reply

module _ (n : ℕ) (t : List ℕ) (ls : List ℤ) (places : ℕ) where
  pub write_table : (fresh_refusal n t ls ≡ 0 → ⊥) → fresh_refusal n t ls ≡ write_refusal n t ls places
  unfolding write_refusal fresh_refusal
  write_table h = sym (first_some (fresh_tests n t ls) ((14, ltb places (file_length (link_count t))) ∷ []) h)

  write_last : fresh_refusal n t ls ≡ 0 →
      write_refusal n t ls places ≡ first_of ((14, ltb places (file_length (link_count t))) ∷ [])
  unfolding write_refusal fresh_refusal
  write_last e = first-none (fresh_tests n t ls) ((14, ltb places (file_length (link_count t))) ∷ []) (omega arith) e

  pub write_14 : fresh_refusal n t ls ≡ 0 → places < file_length (link_count t) → 14 ≡ write_refusal n t ls places
  write_14 e h = sym (write_last e ∙ rw (lt-ltb places (file_length (link_count t)) h))

  pub write_0 : fresh_refusal n t ls ≡ 0 → file_length (link_count t) ≤ places → 0 ≡ write_refusal n t ls places
  write_0 e h = sym (write_last e ∙ rw (le-ltb places (file_length (link_count t)) h))

-- ---- the lines of the links

-- at most 1,024 links, and a level for each
pub record Levelled (t : List ℕ) (ls : List ℤ) : Type 0 where
  pub few : link_count t ≤ max_links
  pub one : length ls ≡ link_count t

abbrev pub link_line : ℕ → ℕ → ℤ → List ℕ
link_line a b z = line_of (link_body a b (level_byte z))

length-link_line : (a b : ℕ) (z : ℤ) → length (link_line a b z) ≡ 15
length-link_line a b z = length-line (link_body a b (level_byte z))

pub length-link_lines : (t : List ℕ) (ls : List ℤ) → length ls ≡ link_count t → length (link_lines t ls)
    ≡ 15 * link_count t
unfolding link_lines
length-link_lines [] ls e = refl
length-link_lines (a ∷ []) ls e = refl
length-link_lines (a ∷ b ∷ t) [] e = absurd (omega (arith, e))
length-link_lines (a ∷ b ∷ t) (z ∷ ls) e =
    length-append (link_line a b z) (link_lines t ls)
    ∙ omega (arith, length-link_line a b z, length-link_lines t ls (omega arith))

-- one link more
link_lines-more : (t : List ℕ) (ls : List ℤ) (j : ℕ) → length ls ≡ link_count t → j < link_count t
    → link_lines (take (2 * (j + 1)) t) (take (j + 1) ls)
    ≡ link_lines (take (2 * j) t) (take j ls) ++ link_line (end_a t j) (end_b t j) (get_or ls j (pos 0))
unfolding link_lines
link_lines-more [] ls j e h = absurd (omega arith)
link_lines-more (a ∷ []) ls j e h = absurd (omega arith)
link_lines-more (a ∷ b ∷ t) [] j e h = absurd (omega (arith, e))
link_lines-more (a ∷ b ∷ t) (z ∷ ls) zero e h = append-nil (link_line a b z)
link_lines-more (a ∷ b ∷ t) (z ∷ ls) (suc j) e h =
    let x : 2 * (suc j + 1) ≡ suc (suc (2 * (j + 1))) = omega arith in
    let y : 2 * suc j ≡ suc (suc (2 * j)) = omega arith in
    let w : suc j + 1 ≡ suc (j + 1) = omega arith in
    rw (end_a-later a b t j, end_b-later a b t j, x, y, w)
    (ap (λ (l : List ℕ). link_line a b z ++ l) (link_lines-more t ls j (omega (arith, e)) (omega arith))
    ∙ sym (append_assoc (link_line a b z) (link_lines (take (2 * j) t) (take j ls))
    (link_line (end_a t j) (end_b t j) (get_or ls j (pos 0)))))

-- a last word without a second end has no line
pub link_lines-all : (t : List ℕ) (ls : List ℤ) → length ls ≡ link_count t →
    link_lines (take (2 * link_count t) t) (take (link_count t) ls) ≡ link_lines t ls
unfolding link_lines
link_lines-all [] ls e = refl
link_lines-all (a ∷ []) ls e = refl
link_lines-all (a ∷ b ∷ t) [] e = absurd (omega (arith, e))
link_lines-all (a ∷ b ∷ t) (z ∷ ls) e =
    let x : 2 * link_count (a ∷ b ∷ t) ≡ suc (suc (2 * link_count t)) = omega arith in
    let y : link_count (a ∷ b ∷ t) ≡ suc (link_count t) = omega arith in
    rw (x, y) (ap (λ (l : List ℕ). link_line a b z ++ l) (link_lines-all t ls (omega (arith, e))))

length-lines : (t : List ℕ) (ls : List ℤ) (j : ℕ) → length ls ≡ link_count t → j ≤ link_count t →
    length (link_lines (take (2 * j) t) (take j ls)) ≡ 15 * j
length-lines t ls j e h =
    let x : length (take (2 * j) t) ≡ 2 * j = length-take-le (2 * j) t (omega arith) in
    let y : length (take j ls) ≡ j = length-take-le j ls (omega arith) in
    omega (arith, length-link_lines (take (2 * j) t) (take j ls) (omega arith))

-- the line of link j written to the rest of the slice
pub lines_next : (t : List ℕ) (ls : List ℤ) (out : List ℕ) (j : ℕ) → length ls ≡ link_count t → j < link_count t →
    15 * link_count t ≤ length out
    → back (15 * j) (link_lines (take (2 * j) t) (take j ls) ++ drop (15 * j) out)
    (line_over (link_body (end_a t j) (end_b t j) (level_byte (get_or ls j (pos 0))))
    (lent (15 * j) (link_lines (take (2 * j) t) (take j ls) ++ drop (15 * j) out)))
    ≡ link_lines (take (2 * (j + 1)) t) (take (j + 1) ls) ++ drop (15 * (j + 1)) out
lines_next t ls out j e h fits =
    let x : 15 * (j + 1) ≡ 15 * j + 15 = omega arith in
    rw (link_lines-more t ls j e h, x)
    (line-next (link_body (end_a t j) (end_b t j) (level_byte (get_or ls j (pos 0))))
    (link_lines (take (2 * j) t) (take j ls)) out (15 * j)
    (length-lines t ls j e (omega arith)) (omega arith))

-- ---- the whole file

module _ (n : ℕ) (t : List ℕ) (ls : List ℤ) (out : List ℕ) (one : length ls ≡ link_count t)
    (fits : file_length (link_count t) ≤ length out) where
  -- the unit count
  laid-units : line_over (units_body n) out ≡ line_of (units_body n) ++ drop 9 out
  laid-units = line_over-fits (units_body n) out (omega arith)

  -- then the links
  laid-links : back 9 (line_of (units_body n) ++ drop 9 out)
      (link_lines t ls ++ drop (15 * link_count t) (lent 9 (line_of (units_body n) ++ drop 9 out)))
      ≡ (line_of (units_body n) ++ link_lines t ls) ++ drop (9 + 15 * link_count t) out
  laid-links =
      back-next (λ (r : List ℕ). link_lines t ls ++ drop (15 * link_count t) r) (link_lines t ls)
      (line_of (units_body n)) out 9 (15 * link_count t)
      (length-line (units_body n)) refl

  -- then their number
  laid_end : back (9 + 15 * link_count t) ((line_of (units_body n) ++ link_lines t ls)
      ++ drop (9 + 15 * link_count t) out)
      (line_over (end_body (link_count t))
      (lent (9 + 15 * link_count t) ((line_of (units_body n) ++ link_lines t ls) ++ drop (9 + 15 * link_count t) out)))
      ≡ file_of n t ls ++ drop (file_length (link_count t)) out
  unfolding file_of
  laid_end =
      let u = line_of (units_body n) in
      let long : length (u ++ link_lines t ls) ≡ 9 + 15 * link_count t =
      length-append u (link_lines t ls) ∙ omega (arith, length-line (units_body n), length-link_lines t ls one) in
      let e : 9 + 15 * link_count t + 9 ≡ file_length (link_count t) = omega arith in
      rw (← e) (line-next (end_body (link_count t)) (u ++ link_lines t ls) out (9
      + 15 * link_count t) long (omega arith))

  pub file-laid : back (9 + 15 * link_count t)
      (back 9 (line_over (units_body n) out)
      (link_lines t ls ++ drop (15 * link_count t) (lent 9 (line_over (units_body n) out))))
      (line_over (end_body (link_count t))
      (lent (9 + 15 * link_count t)
      (back 9 (line_over (units_body n) out)
      (link_lines t ls ++ drop (15 * link_count t) (lent 9 (line_over (units_body n) out))))))
      ≡ file_of n t ls ++ drop (file_length (link_count t)) out
  file-laid = rw (laid-units, laid-links) laid_end

-- ---- the reply and the bytes of a call

pub write_refused : (n : ℕ) (t : List ℕ) (ls : List ℤ) (places k : ℕ) → k ≡ write_refusal n t ls places → (k ≡ 0 → ⊥) →
    Writing.Refused k ≡ write_reply n t ls places
unfolding write_reply
write_refused n t ls places k e z = rw (← e, ne_eqb k 0 z)

pub bytes-refused : (n : ℕ) (t : List ℕ) (ls : List ℤ) (out : List ℕ) (k : ℕ) → k ≡ write_refusal n t ls (length out) →
    (k ≡ 0 → ⊥) → out ≡ written_file n t ls out
unfolding written_file
bytes-refused n t ls out k e z = rw (← e, ne_eqb k 0 z)

pub length-file : (n : ℕ) (t : List ℕ) (ls : List ℤ) → length ls ≡ link_count t →
    length (file_of n t ls) ≡ file_length (link_count t)
unfolding file_of
length-file n t ls one =
    simp length-append
    (omega (arith, length-line (units_body n), length-link_lines t ls one, length-line (end_body (link_count t))))

module _ (n : ℕ) (t : List ℕ) (ls : List ℤ) (places : ℕ) (e : write_refusal n t ls places ≡ 0) where
  -- the table passes the checks of a fresh one, and so those of a stored one, and the file fits
  pub written-table : fresh_refusal n t ls ≡ 0
  written-table = go (ℕ_discrete (fresh_refusal n t ls) 0)
    where
      go : Dec (fresh_refusal n t ls ≡ 0) → fresh_refusal n t ls ≡ 0
      go (yes z) = z
      go (no z) = write_table n t ls places z ∙ e

  pub written-stored : stored_refusal n t ls ≡ 0
  written-stored = fresh-accepted n t ls written-table

  pub written-fits : file_length (link_count t) ≤ places
  written-fits = go (dec_lt places (file_length (link_count t)))
    where
      go : Dec (places < file_length (link_count t)) → file_length (link_count t) ≤ places
      go (yes h) = absurd (omega (arith, write_14 n t ls places written-table h, e))
      go (no h) = omega arith

  pub written_one : length ls ≡ link_count t
  written_one = table-levelled n t ls written-stored

  pub write_accepted : Written (18 + 15 * (length t / 2)) ≡ write_reply n t ls places
  unfolding write_reply
  write_accepted = rw e

pub bytes-accepted : (n : ℕ) (t : List ℕ) (ls : List ℤ) (out : List ℕ) → write_refusal n t ls (length out) ≡ 0
    → file_of n t ls ++ drop (file_length (link_count t)) out ≡ written_file n t ls out
unfolding written_file
bytes-accepted n t ls out e = rw (e, length-file n t ls (written_one n t ls (length out) e))
