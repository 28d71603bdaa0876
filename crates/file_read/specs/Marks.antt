-- Characters as digits, by a table: a character's mark is its value as a digit, or 16, a bit that no digit has. So the
-- marks of a line, joined bit by bit, tell whether all its characters are digits.
use Rattle.std.specs.Prelude.{◌≡◌, ℕ, ◌+◌, ◌%◌, ◌<◌, ◌≤◌, Bool, true, false, cond, ◌&&◌, List, length, drop, replicate}
use Rattle.std.specs.Prelude.{◌≢◌, bit_or, nat_lt, slice_index, slice_index_or, slice_set, refl}
use Rattle.std.proofs.Common.{sym, ap, ◌∙◌, arith, length-set, get_or-set_same, get_or-set_other, lt-ltb, le-ltb}
use Rattle.std.proofs.Math.Path.{subst⁻¹}
use Rattle.std.proofs.Math.Decide.{ℕ_discrete, dec_lt}
use Rattle.std.proofs.lemmas.List.{length-replicate, get_or-replicate}
use Rattle.std.proofs.lemmas.Nat.{or_lt, and_le_l, and_le_r}
use Rattle.std.specs.Int.Bits.{or_add_and}
use Rattle.file_frames.specs.Frame.{digit_of, digit_value, byte_at, all_digits, bytes_of, sum_of}
use Rattle.file_frames.specs.FrameLaws.{digit_back, digit_forth, value_le}
use Rattle.file_frames.specs.FrameRests.{digits-later, digits-end, digit_sum_later}

-- a table of the marks of all characters
abbrev pub Marks : List ℕ → Type 0
Marks t = (length t ≡ 256) × ((c : ℕ) → c < 256 → slice_index t c ≡ digit_value c)

-- the same where only the digits below d are told from others
abbrev mark_below : ℕ → ℕ → ℕ
mark_below d c = cond (nat_lt (digit_value c) d) (digit_value c) 16

abbrev pub MarksBelow : ℕ → List ℕ → Type 0
MarksBelow d t = (length t ≡ 256) × ((c : ℕ) → c < 256 → slice_index t c ≡ mark_below d c)

-- ---- the table, digit by digit

below_none : (c : ℕ) → 16 ≡ mark_below 0 c
below_none c = rw (le-ltb (digit_value c) 0 (omega arith))

pub marks-none : MarksBelow 0 (replicate 256 16)
marks-none = (length-replicate {A = ℕ} 256 16, λ c h. get_or-replicate {A = ℕ} 256 c 16 0 h ∙ below_none c)

-- one digit more tells no other character from the rest
below_other : (d c : ℕ) → (digit_value c ≢ d) → mark_below d c ≡ mark_below (d + 1) c
below_other d c n = go (dec_lt (digit_value c) d)
  where
    go : Dec (digit_value c < d) → mark_below d c ≡ mark_below (d + 1) c
    go (yes h) = rw (lt-ltb (digit_value c) d h, lt-ltb (digit_value c) (d + 1) (omega arith))
    go (no h) = rw (le-ltb (digit_value c) d (omega arith), le-ltb (digit_value c) (d + 1) (omega (arith, n, h)))

below-same : (d c : ℕ) → digit_value c ≡ d → d ≡ mark_below (d + 1) c
below-same d c e = rw (e, lt-ltb d (d + 1) (omega arith))

digit_below : (d : ℕ) → d < 16 → digit_of d < 256
digit_below d h = go (dec_lt d 10)
  where
    go : Dec (d < 10) → digit_of d < 256
    go (yes l) = rw (lt-ltb d 10 l) (omega arith)
    go (no n) = rw (le-ltb d 10 (omega arith)) (omega arith)

marks-told : (t : List ℕ) (d : ℕ) → d < 16 → MarksBelow d t → MarksBelow (d + 1) (slice_set t (digit_of d) d)
marks-told t d h m = (length-set t (digit_of d) d ∙ m.0, λ c l. go c l (ℕ_discrete c (digit_of d)))
  where
    same : slice_index_or (slice_set t (digit_of d) d) (digit_of d) 0 ≡ mark_below (d + 1) (digit_of d)
    same = get_or-set_same t (digit_of d) d 0 (omega (arith, digit_below d h, m.0))
        ∙ below-same d (digit_of d) (digit_back d h)

    go : (c : ℕ) → c < 256 → Dec (c ≡ digit_of d) → slice_index (slice_set t (digit_of d) d) c ≡ mark_below (d + 1) c
    go c l (yes e) = subst⁻¹ (λ (x : ℕ). slice_index (slice_set t (digit_of d) d) x ≡ mark_below (d + 1) x) e same
    go c l (no n) =
        let other : digit_value c ≡ d → ⊥ = λ q. n (sym (digit_forth c (omega (arith, q, h))) ∙ ap digit_of q) in
        get_or-set_other t (digit_of d) c d 0 n ∙ m.1 c l ∙ below_other d c other

pub marks-next : (t : List ℕ) (d at : ℕ) → d < 16 → at ≡ digit_of (d % 16) → MarksBelow d t →
    MarksBelow (d + 1) (slice_set t at d)
marks-next t d at h e m =
    let small : d % 16 ≡ d = omega arith in
    subst⁻¹ (λ (x : ℕ). MarksBelow (d + 1) (slice_set t x d)) (e ∙ ap digit_of small) (marks-told t d h m)

below_all : (c : ℕ) → mark_below 16 c ≡ digit_value c
below_all c = go (dec_lt (digit_value c) 16)
  where
    go : Dec (digit_value c < 16) → mark_below 16 c ≡ digit_value c
    go (yes h) = rw (lt-ltb (digit_value c) 16 h)
    go (no n) = rw (le-ltb (digit_value c) 16 (omega arith)) (omega (arith, value_le c, n))

pub marks-all : (t : List ℕ) (d : ℕ) → d ≡ 16 → MarksBelow d t → Marks t
marks-all t d e m = let all : MarksBelow 16 t = rw e at m in (all.0, λ c h. all.1 c h ∙ below_all c)

-- ---- marks joined

-- two numbers have no bit of 16 or more exactly when their bits together have none
or_small : (x y : ℕ) → nat_lt (bit_or x y) 16 ≡ (nat_lt x 16 && nat_lt y 16)
or_small x y = go (dec_lt x 16) (dec_lt y 16)
  where
    go : Dec (x < 16) → Dec (y < 16) → nat_lt (bit_or x y) 16 ≡ (nat_lt x 16 && nat_lt y 16)
    go (yes h) (yes k) = rw (lt-ltb x 16 h, lt-ltb y 16 k, lt-ltb (bit_or x y) 16 (or_lt 4 x y h k))
    go (yes h) (no k) = rw (
      lt-ltb x 16 h,
      le-ltb y 16 (omega arith),
      le-ltb (bit_or x y) 16 (omega (arith, or_add_and x y, and_le_l x y)),
    )
    go (no h) k = rw (le-ltb x 16 (omega arith), le-ltb (bit_or x y) 16 (omega (arith, or_add_and x y, and_le_r x y)))

and_and : (a b c d : Bool) → (a && b && c && d) ≡ (a && (b && (c && d)))
and_and true true c d = refl
and_and true false c d = refl
and_and false b c d = refl

-- the marks seen with two more, and what is left
pub marks-more : (s : List ℕ) (seen i : ℕ) → i + 1 < length s → all_digits s ≡ (nat_lt seen 16 && all_digits (drop i s))
    → all_digits s ≡ (nat_lt
    (bit_or (bit_or seen (digit_value (slice_index s i))) (digit_value (slice_index s (i + 1)))) 16
    && all_digits (drop (i + 2) s))
marks-more s seen i h e =
    let a = digit_value (slice_index s i) in
    let b = digit_value (slice_index s (i + 1)) in
    e
    ∙ ap (λ (d : Bool). nat_lt seen 16 && d) (digits-later s i h)
    ∙ sym (and_and (nat_lt seen 16) (nat_lt a 16) (nat_lt b 16) (all_digits (drop (i + 2) s)))
    ∙ ap (λ (d : Bool). d && all_digits (drop (i + 2) s))
    (sym (or_small (bit_or seen a) b ∙ ap (λ (d : Bool). d && nat_lt b 16) (or_small seen a)))

-- all characters seen
pub marks-seen : (s : List ℕ) (seen i : ℕ) → length s ≤ i → all_digits s ≡ (nat_lt seen 16 && all_digits (drop i s)) →
    all_digits s ≡ nat_lt seen 16
marks-seen s seen i h e = e ∙ ap (λ (d : Bool). nat_lt seen 16 && d) (digits-end s i h) ∙ and_end (nat_lt seen 16)
  where
    and_end : (a : Bool) → (a && true) ≡ a
    and_end true = refl
    and_end false = refl

-- the sum with one byte more, and what is left
pub sum_more : (s : List ℕ) (i sum b next all : ℕ) → i + 1 < length s → b ≡ byte_at s i → next ≡ (sum + b) % 256
    → (sum + sum_of (bytes_of (drop i s))) % 256 ≡ all → (next + sum_of (bytes_of (drop (i + 2) s))) % 256 ≡ all
sum_more s i sum b next all h e n a = omega (arith, digit_sum_later s i h)
