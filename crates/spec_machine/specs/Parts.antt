-- T-14: a site's parts. For each label the units that its links touch, less one; and the groups that its units form.
use Rattle.std.specs.Prelude.{Bool, cond, ◌&&◌, List, ℕ, ◌-◌, eqb}
use Rattle.base_lists.specs.Folds.{sum, count, some}
use Rattle.spec_rules.specs.Basics.{at}
use Rattle.spec_rules.specs.Labels.{touches}

-- unit u is an end of a link with label c
abbrev pub touched_by : ℕ → List ℕ → List ℕ → ℕ → ℕ → Bool
touched_by m ends label c u = some m (λ (k : ℕ). eqb (at label k) c && touches ends u k)

-- the number of units that the links with label c touch
abbrev pub touched : ℕ → ℕ → List ℕ → List ℕ → ℕ → ℕ
touched n m ends label c = count n (touched_by m ends label c)

-- position j is a label: each label is the least position of its links, so it is its own
abbrev pub is_label : List ℕ → ℕ → Bool
is_label label j = eqb (at label j) j

-- over all labels, the units touched, less one
unfoldable pub parts : ℕ → ℕ → List ℕ → List ℕ → ℕ
parts n m ends label = sum m (λ (j : ℕ). cond (is_label label j) (touched n m ends label j - 1) 0)

-- the units of one colour are a group: as many as units that equal their colour
unfoldable pub groups : ℕ → List ℕ → ℕ
groups n color = count n (λ (v : ℕ). eqb (at color v) v)
