-- Stores in order over a list: what is laid down so far, followed by the rest of the list as it was.
use Rattle.std.specs.Prelude.{◌≡◌, List, [], ◌∷◌, ◌++◌, ℕ, suc, ◌+◌, ◌≤◌, ◌<◌, length, get_or, drop, set}
use Rattle.std.proofs.Common.{sym, ◌∙◌, append_assoc, add-one, arith, length-append, drop-cons}
use Rattle.std.proofs.lemmas.List.{set_at}
use Rattle.std.proofs.Math.Seq.{append_snoc}

module _ {ℓ} {A : Type ℓ} where
  -- one element more
  pub put_one : (p o : List A) (n : ℕ) (x : A) → length p ≡ n → n < length o →
      set (p ++ drop n o) n x ≡ (p ++ x ∷ []) ++ drop (n + 1) o
  put_one p o n x e h = rw (
    add-one,
    drop-cons o n x h,
    set_at p (get_or o n x) (drop (suc n) o) x n e,
  ) (sym (append_snoc p x (drop (suc n) o)))

  -- two elements more
  pub put_two : (p o : List A) (n : ℕ) (x y : A) → length p ≡ n → n + 2 ≤ length o
      → set (set (p ++ drop n o) n x) (n + 1) y ≡ (p ++ x ∷ y ∷ []) ++ drop (n + 2) o
  put_two p o n x y e h =
      let longer : length (p ++ x ∷ []) ≡ n + 1 = length-append p (x ∷ []) ∙ omega arith in
      let further : n + 2 ≡ n + 1 + 1 = omega arith in
      rw (
        put_one p o n x e (omega arith),
        put_one (p ++ x ∷ []) o (n + 1) y longer (omega arith),
        further,
        append_assoc p (x ∷ []) (y ∷ []),
      )
