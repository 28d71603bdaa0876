-- The call (document 02, T-11): what it refuses, what it replies, and what the lent slice holds afterwards.
use Rattle.std.specs.Prelude.{ℕ, Bool, cond, List, [], ◌∷◌, ◌++◌, length, ◌==◌, nat_lt}
use Rattle.table.specs.Refusals.{first_of}
use Rattle.table.specs.Table.{pair_tests}
use Rattle.theory_min_label.specs.MinLabel.{min_label}
use Rattle.one_way.specs.declared.Numbering.{Numbering}
use Rattle.one_way.specs.declared.Numbering.TheVariants.{Passes, Refused}

-- the table's checks, 9 of ordered pairs; then 14: the slice has fewer than n words
abbrev pub strong_tests : ℕ → List ℕ → ℕ → List (ℕ × Bool)
strong_tests n t words = pair_tests n t ++ ((14, nat_lt words n) ∷ [])

unfoldable pub strong_refusal : ℕ → List ℕ → ℕ → ℕ
strong_refusal n t words = first_of (strong_tests n t words)

-- the reply: the number of passes
unfoldable pub strong_reply : ℕ → List ℕ → List ℕ → Numbering
strong_reply n t out = cond (strong_refusal n t (length out) == 0) (Passes (min_label n t out).1)
    (Refused (strong_refusal n t (length out)))

-- the slice: the number of each unit and the rest as it was, or all as it was
unfoldable pub strong_numbers : ℕ → List ℕ → List ℕ → List ℕ
strong_numbers n t out = cond (strong_refusal n t (length out) == 0) (min_label n t out).0 out

-- a reply's number, 0 where nothing is refused, and its values
abbrev pub number_of : Numbering → ℕ
number_of (Passes k) = 0
number_of (Refused k) = k

abbrev pub values_of : Numbering → List ℕ
values_of (Passes k) = k ∷ []
values_of (Refused k) = []
