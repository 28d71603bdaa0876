-- What a word that is lent for a value of a reply holds after a call without a state.
use Rattle.std.specs.Prelude.{cond, ℕ, eqb}

-- the value; as it was, where refusal k came up
abbrev pub word_said : ℕ → ℕ → ℕ → ℕ
word_said k value old = cond (eqb k 0) value old
