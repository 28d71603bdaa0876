-- Words laid down one by one.
use Rattle.std.specs.Prelude.{◌≡◌, refl, List, [], ◌∷◌, ℕ, zero, suc, ◌+◌, ◌≤◌, ◌<◌, length, get_or, set, drop}
use Rattle.std.proofs.Common.{sym, ap, ◌∙◌, not-suc-le-zero, arith, drop_of_length-le}
use Rattle.std.proofs.lemmas.List.Edits.{sets}

stored_next_lem : (l ws : List ℕ) (i k : ℕ) → k < length ws →
    sets l i (drop k ws) ≡ sets (set l i (get_or ws k 0)) (suc i) (drop (suc k) ws)
stored_next_lem l [] i k h = absurd (not-suc-le-zero h)
stored_next_lem l (w ∷ ws) i zero h = refl
stored_next_lem l (w ∷ ws) i (suc k) h = stored_next_lem l ws i k (omega arith)

-- the word at k stored at `at + k`, and the rest after it
pub store-next : (l ws : List ℕ) (at k : ℕ) → k < length ws
    → sets l (at + k) (drop k ws) ≡ sets (set l (at + k) (get_or ws k 0)) (at + (k + 1)) (drop (k + 1) ws)
store-next l ws at k h =
    let i : suc (at + k) ≡ at + (k + 1) = omega arith in
    let j : suc k ≡ k + 1 = omega arith in
    rw (sym i, sym j) (stored_next_lem l ws (at + k) k h)

-- nothing is left
pub store-end : (l ws : List ℕ) (at k : ℕ) → length ws ≤ k → sets l (at + k) (drop k ws) ≡ l
store-end l ws at k h = rw (drop_of_length-le ws {i = k} h) refl

pub store-begin : (l ws : List ℕ) (at : ℕ) → sets l at ws ≡ sets l (at + 0) (drop 0 ws)
store-begin l ws at = let i : at ≡ at + 0 = omega arith in rw (sym i) refl
