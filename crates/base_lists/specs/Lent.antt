-- A slice whose rest from a place on is lent to a call, `&xs[at..]` or `&mut xs[at..]`: what the call is lent, and the
-- whole after it.
use Rattle.std.specs.Prelude.{◌≡◌, List, ◌++◌, ℕ, ◌+◌, ◌-◌, length, take, drop}
use Rattle.std.proofs.Common.{sym, append_assoc, append-nil, arith, length-drop, drop_of_length-le, take_all, take_at}
use Rattle.std.proofs.Common.{drop_at, drop-drop}

module _ {ℓ} {A : Type ℓ} where
  -- what is lent
  abbrev pub lent : ℕ → List A → List A
  lent at xs = take (length xs - at) (drop at xs)

  -- the whole after the call left ys there
  abbrev pub back : ℕ → List A → List A → List A
  back at xs ys = take at xs ++ (ys ++ drop (length xs - at) (drop at xs))

  pub lent-rest : (at : ℕ) (xs : List A) → lent at xs ≡ drop at xs
  lent-rest at xs = take_all (length xs - at) (drop at xs) (omega (arith, length-drop at xs))

  back-rest : (at : ℕ) (xs ys : List A) → back at xs ys ≡ take at xs ++ ys
  back-rest at xs ys =
      rw (drop_of_length-le (drop at xs) {i = length xs - at} (omega (arith, length-drop at xs)), append-nil ys)

  -- a part laid down over the rest, past what is laid down already: f is what the call does to the slice that it is
  -- lent
  pub back-next : (f : List A → List A) (part p out : List A) (at n : ℕ) → length p ≡ at →
      f (drop at out) ≡ part ++ drop n (drop at out)
      → back at (p ++ drop at out) (f (lent at (p ++ drop at out))) ≡ (p ++ part) ++ drop (at + n) out
  back-next f part p out at n e h =
      let xs = p ++ drop at out in
      rw (
        back-rest at xs (f (lent at xs)),
        lent-rest at xs,
        take_at p (drop at out) at e,
        drop_at p (drop at out) at e,
        h,
        drop-drop n at out,
      )
      (sym (append_assoc p part (drop (at + n) out)))
