-- Stage 10 as code makes it: the label of a link is the first position in its class.
use Rattle.std.specs.Prelude.{◌≡◌, List, ℕ, ◌<◌, get_or}
use Rattle.base_lists.specs.Tables.{over, over_cong}
use Rattle.spec_rules.specs.Basics.{ABSENT, at}
use Rattle.spec_rules.specs.Buckets.{BUCKETS, lookup, lookup-right}
use Rattle.spec_rules.specs.FirstLaws.{first_at}
use Rattle.spec_rules.specs.Labels.{label_of, label_round}

-- a link's label from the buckets of its classes
abbrev pub label_by : ℕ → List ℕ → List ℕ → ℕ → ℕ → ℕ
label_by m class first absent j = lookup (first_at m class) first absent (at class j)

pub label_round_lem : (m : ℕ) (class first : List ℕ) (absent : ℕ) (label : List ℕ)
    → ((q : ℕ) → q < BUCKETS → get_or first q 0 ≡ first_at m class q) → absent ≡ first_at m class ABSENT
    → over m (label_by m class first absent) label ≡ label_round m class label
unfolding label_round label_of first_at
label_round_lem m class first absent label known lost =
    over_cong m (label_by m class first absent) (label_of m class) label
    (λ (j : ℕ) (l : j < m). lookup-right (first_at m class) first absent known lost (at class j))
