-- The table of a number drawn pair by pair into an array of twenty words.
use Rattle.std.specs.Prelude.{◌≡◌, refl, Bool, true, false, cond, List, [], ◌∷◌, ◌++◌, ℕ, zero, suc, ◌+◌, ◌*◌, ◌-◌}
use Rattle.std.specs.Prelude.{◌/◌, ◌%◌, ◌^◌, ◌≤◌, ◌<◌, min, eqb, length, get_or, drop, set, replicate}
use Rattle.std.proofs.Common.{sym, ap, ◌∙◌, append_assoc, append-nil, add-one, arith, length-append}
use Rattle.std.proofs.lemmas.List.{length-replicate}
use Rattle.base_lists.specs.Puts.{put_two}
use Rattle.base_lists.specs.Folds.{sum}
use Rattle.spec_rules.specs.Basics.{bounded}
use Rattle.small_tables.specs.declared.Drawing.{Drawing}
use Rattle.small_tables.specs.Small.{pairs_with, pairs_from, pairs_of, chosen, words_of, table_of}

-- words at the front of twenty, 0 past them
unfoldable pub laid : List ℕ → List ℕ
laid t = t ++ drop (length t) (replicate 20 0)

unfoldable pub blank : ℕ → Drawing
blank number = record { words = replicate 20 0; count = 0; rest = number }

-- what the lowest bit makes of a drawing
unfoldable pub takes : ℕ → ℕ → Drawing → Drawing
takes a b x =
    cond (eqb (x.rest % 2) 1)
    (record {
      words = set (set x.words x.count a) (x.count + 1) b;
      count = bounded (x.count + 2);
      rest = x.rest / 2;
    })
    (record { words = x.words; count = x.count; rest = x.rest / 2 })

-- over the pairs of a with the k units from b on, and over those of the k units from a on
unfoldable pub row_by : ℕ → ℕ → ℕ → Drawing → Drawing
row_by a b zero x = x
row_by a b (suc k) x = row_by a (suc b) k (takes a b x)

unfoldable pub rows_by : ℕ → ℕ → Drawing → Drawing
rows_by a zero x = x
rows_by a (suc k) x = rows_by (suc a) k (row_by a (suc a) k x)

row_next : (a b n : ℕ) (x : Drawing) → b < n → row_by a b (n - b) x ≡ row_by a (b + 1) (n - (b + 1)) (takes a b x)
unfolding row_by
row_next a b n x l = let e : n - b ≡ suc (n - (b + 1)) = omega arith in rw (e, add-one b) refl

pub row_done : (a b n : ℕ) (x : Drawing) → n ≤ b → row_by a b (n - b) x ≡ x
unfolding row_by
row_done a b n x l = let e : n - b ≡ 0 = omega arith in rw e refl

-- one pair more, one row more
pub row-turn : (a b n : ℕ) (x y z : Drawing) → z ≡ row_by a b (n - b) x → b < n → y ≡ takes a b x →
    z ≡ row_by a (b + 1) (n - (b + 1)) y
row-turn a b n x y z e l f = e ∙ row_next a b n x l ∙ ap (row_by a (b + 1) (n - (b + 1))) (sym f)

rows_next : (a n : ℕ) (x : Drawing) → a < n →
    rows_by a (n - a) x ≡ rows_by (a + 1) (n - (a + 1)) (row_by a (a + 1) (n - (a + 1)) x)
unfolding rows_by
rows_next a n x l = let e : n - a ≡ suc (n - (a + 1)) = omega arith in rw (e, add-one a) refl

pub rows_turn : (a n : ℕ) (x y z : Drawing) → z ≡ rows_by a (n - a) x → a < n → y ≡ row_by a (a + 1) (n - (a + 1)) x →
    z ≡ rows_by (a + 1) (n - (a + 1)) y
rows_turn a n x y z e l f = e ∙ rows_next a n x l ∙ ap (rows_by (a + 1) (n - (a + 1))) (sym f)

rows_done : (a n : ℕ) (x : Drawing) → n ≤ a → rows_by a (n - a) x ≡ x
unfolding rows_by
rows_done a n x l = let e : n - a ≡ 0 = omega arith in rw e refl

-- ---- what a drawing holds

-- t is drawn; with the pairs that are left it will be the whole
record Ahead (x : Drawing) (ps : List (ℕ × ℕ)) (w : List ℕ) : Type 0 where
  t : List ℕ
  words : x.words ≡ laid t
  count : x.count ≡ length t
  fits : length t + 2 * length ps ≤ 20
  whole : t ++ words_of (chosen ps x.rest) ≡ w

-- two words more
laid-two : (t : List ℕ) (a b : ℕ) → length t + 2 ≤ 20 →
    set (set (laid t) (length t) a) (length t + 1) b ≡ laid (t ++ a ∷ b ∷ [])
unfolding laid
laid-two t a b l =
    let e : length (t ++ a ∷ b ∷ []) ≡ length t + 2 = length-append t (a ∷ b ∷ []) in
    put_two t (replicate 20 0) (length t) a b refl (rw (length-replicate {A = ℕ} 20 0) l) ∙ rw e refl

pair_step : (a b : ℕ) (ps : List (ℕ × ℕ)) (w : List ℕ) (x : Drawing) → Ahead x ((a, b) ∷ ps) w →
    Ahead (takes a b x) ps w
unfolding takes
pair_step a b ps w x d = go (eqb (x.rest % 2) 1) d.whole
  where
    go : (s : Bool) → d.t ++ words_of (cond s ((a, b) ∷ chosen ps (x.rest / 2)) (chosen ps (x.rest / 2))) ≡ w
        → Ahead (cond s (record {
          words = set (set x.words x.count a) (x.count + 1) b;
          count = bounded (x.count + 2);
          rest = x.rest / 2;
        })
        (record { words = x.words; count = x.count; rest = x.rest / 2 })) ps w
    go true e =
        record {
          t = d.t ++ a ∷ b ∷ [];
          words = rw (d.words, d.count) (laid-two d.t a b (omega (arith, d.fits)));
          count = let e : length (d.t ++ a ∷ b ∷ []) ≡ length d.t + 2 =
              length-append d.t (a ∷ b ∷ []) in omega (arith, e, d.count, d.fits);
          fits = let e : length (d.t ++ a ∷ b ∷ []) ≡ length d.t + 2 =
              length-append d.t (a ∷ b ∷ []) in omega (arith, e, d.fits);
          whole = append_assoc d.t (a ∷ b ∷ []) (words_of (chosen ps (x.rest / 2))) ∙ e;
        }
    go false e = record { t = d.t; words = d.words; count = d.count; fits = omega (arith, d.fits); whole = e }

row_step : (a b k : ℕ) (ps : List (ℕ × ℕ)) (w : List ℕ) (x : Drawing) → Ahead x (pairs_with a b k ++ ps) w →
    Ahead (row_by a b k x) ps w
unfolding row_by
row_step a b zero ps w x d = d
row_step a b (suc k) ps w x d = row_step a (suc b) k ps w (takes a b x)
    (pair_step a b (pairs_with a (suc b) k ++ ps) w x d)

rows_step : (a k : ℕ) (w : List ℕ) (x : Drawing) → Ahead x (pairs_from a k) w → Ahead (rows_by a k x) [] w
unfolding rows_by
rows_step a zero w x d = d
rows_step a (suc k) w x d = rows_step (suc a) k w (row_by a (suc a) k x)
    (row_step a (suc a) k (pairs_from (suc a) k) w x d)

begin_with : (n number : ℕ) → 2 * length (pairs_of n) ≤ 20 → Ahead (blank number) (pairs_of n) (table_of n number)
unfolding blank laid table_of
begin_with n number l = record { t = []; words = refl; count = refl; fits = omega (arith, l); whole = refl }

pub few-pairs : (n : ℕ) → n ≤ 5 → 2 * length (pairs_of n) ≤ 20
few-pairs zero l = omega arith
few-pairs (suc zero) l = omega arith
few-pairs (suc (suc zero)) l = omega arith
few-pairs (suc (suc (suc zero))) l = omega arith
few-pairs (suc (suc (suc (suc zero)))) l = omega arith
few-pairs (suc (suc (suc (suc (suc zero))))) l = omega arith
few-pairs (suc (suc (suc (suc (suc (suc n)))))) l = absurd (omega arith)

-- drawn from nothing, the table
drawn : (n number : ℕ) → n ≤ 5 → ((rows_by 0 n (blank number)).words ≡ laid (table_of n number))
    × ((rows_by 0 n (blank number)).count ≡ length (table_of n number))
drawn n number l = let d = rows_step 0 n (table_of n number) (blank number) begun in done (rows_by 0 n (blank number)) d
  where
    begun : Ahead (blank number) (pairs_of n) (table_of n number)
    begun = begin_with n number (few-pairs n l)

    done : (y : Drawing) → Ahead y [] (table_of n number) →
        (y.words ≡ laid (table_of n number)) × (y.count ≡ length (table_of n number))
    done y d = let e : d.t ≡ table_of n number =
        sym (append-nil d.t) ∙ d.whole in (rw e at d.words, rw e at d.count)

-- what is left when all rows are drawn
pub table_done : (units number n a : ℕ) (first x : Drawing) → n ≡ min units 5 → first ≡ blank number →
    rows_by 0 (n - 0) first ≡ rows_by a (n - a) x → n ≤ a
    → (x.words ≡ laid (table_of (min units 5) number)) × (x.count ≡ length (table_of (min units 5) number))
table_done units number n a first x e f g l =
    let all : n - 0 ≡ min units 5 = omega arith in
    let is : rows_by 0 (min units 5) (blank number) ≡ x = rw (all, f) at (g ∙ rows_done a n x l) in
    rw is at (drawn (min units 5) number (omega arith))

-- ---- the mask

small_power : (i : ℕ) → i ≤ 5 → 2 ^ i ≤ 32
small_power zero l = omega arith
small_power (suc zero) l = omega arith
small_power (suc (suc zero)) l = omega arith
small_power (suc (suc (suc zero))) l = omega arith
small_power (suc (suc (suc (suc zero)))) l = omega arith
small_power (suc (suc (suc (suc (suc zero))))) l = omega arith
small_power (suc (suc (suc (suc (suc (suc i)))))) l = absurd (omega arith)

-- what unit i adds
pub bit-small : (t : Bool) (bit more : ℕ) → more ≡ cond t bit 0 → more ≤ bit
bit-small true bit more e = omega arith
bit-small false bit more e = omega arith

-- the sums and bits after unit i
pub mask-more : (singles : List Bool) (i set bit more : ℕ) → i < 5 → bit ≡ 2 ^ i → set < bit →
    set ≡ sum i (λ (k : ℕ). cond (get_or singles k false) (2 ^ k) 0)
    → more ≡ cond (get_or singles i false) bit 0
    → (i + 1 ≤ 5) × (bit * 2 ≡ 2 ^ (i + 1)) × (set + more < bit * 2) × (bit * 2 ≤ 32)
    × (set + more ≡ sum (i + 1) (λ (k : ℕ). cond (get_or singles k false) (2 ^ k) 0))
mask-more singles i set bit more l b s e m =
    let twice : bit * 2 ≡ 2 ^ suc i = omega arith in
    rw (add-one i) (
      omega arith,
      twice,
      omega (arith, bit-small (get_or singles i false) bit more m),
      omega (arith, twice, small_power (suc i) (omega arith)),
      rw (m, e, b) refl,
    )
