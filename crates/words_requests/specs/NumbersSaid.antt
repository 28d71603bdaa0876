-- What the word that is lent for the passes holds, by the reply of `one_way`.
use Rattle.std.specs.Prelude.{◌≡◌, refl, true, false, ◌⊎◌, List, ℕ, eqb, length}
use Rattle.std.proofs.Common.{sym, ap, ◌∙◌, inl, inr}
use Rattle.base_lists.specs.Tests.{either}
use Rattle.words_calls.specs.FileFace.{word_said}
use Rattle.one_way.specs.declared.Numbering.{Numbering}
use Rattle.one_way.specs.declared.Numbering.TheVariants.{Passes, Refused}
use Rattle.theory_min_label.specs.MinLabel.{min_label}
use Rattle.one_way.specs.Numbering.{strong_refusal, strong_reply, strong_numbers, number_of}

abbrev pub passes_said : Numbering → ℕ → ℕ
passes_said (Passes k) old = k
passes_said (Refused k) old = old

passes-said : (n : ℕ) (t out : List ℕ) (old : ℕ)
    → passes_said (strong_reply n t out) old ≡ word_said (strong_refusal n t (length out)) (min_label n t out).1 old
unfolding strong_reply
passes-said n t out old = go (either (eqb (strong_refusal n t (length out)) 0))
  where
    go : (eqb (strong_refusal n t (length out)) 0 ≡ true) ⊎ (eqb (strong_refusal n t (length out)) 0 ≡ false)
        → passes_said (strong_reply n t out) old ≡ word_said (strong_refusal n t (length out)) (min_label n t out).1 old
    go (inl e) = rw e refl
    go (inr e) = rw e refl

-- of the case that the reply is
pub strong-said : (n : ℕ) (t out : List ℕ) (old : ℕ) (reply x : Numbering) (new : List ℕ) → reply ≡ x →
    reply ≡ strong_reply n t out → new ≡ strong_numbers n t out
    → number_of reply ≡ strong_refusal n t (length out)
    → (number_of x ≡ strong_refusal n t (length out))
    × ((new ≡ strong_numbers n t out)
    × (passes_said x old ≡ word_said (strong_refusal n t (length out)) (min_label n t out).1 old))
strong-said n t out old reply x new is e numbers number = (
  ap number_of (sym is) ∙ number,
  (
    numbers,
    ap (λ (y : Numbering). passes_said y old) (sym is ∙ e) ∙ passes-said n t out old,
  ),
)
