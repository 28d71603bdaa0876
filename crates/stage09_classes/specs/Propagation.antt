-- How the code of stage 9 propagates classes: over the joins of links, then between each unit and its head.
use Rattle.std.specs.Prelude.{cond, not, List, ℕ, zero, suc, min, eqb}
use Rattle.base_lists.specs.Folds.{least}
use Rattle.base_lists.specs.Scatter.{takes_in}
use Rattle.table.specs.Table.{end_a, end_b}
use Rattle.spec_rules.specs.Basics.{at, heard}

-- ---- joins of links

-- what v hears over a join that may be marked
abbrev pub heard_if : List ℕ → ℕ → ℕ → ℕ → ℕ → ℕ
heard_if said mark a b v = cond (not (eqb mark 0)) (heard said a b v) (at said v)

-- what v has heard over the joins of the first j links
unfoldable pub over_links : ℕ → List ℕ → List ℕ → List ℕ → ℕ → ℕ
over_links j ends marks said v =
    least j (λ (i : ℕ). heard_if said (at marks i) (end_a ends i) (end_b ends i) v) (at said v)

-- ---- joins with parents

-- the first k units tell their heads
unfoldable pub to_heads : ℕ → ℕ → List ℕ → List ℕ → List ℕ → List ℕ
to_heads zero n heads said t = t
to_heads (suc k) n heads said t = takes_in min n (to_heads k n heads said t) (at heads k) (at said k)

-- what the head of unit u tells it
abbrev pub by_head : List ℕ → List ℕ → ℕ → ℕ
by_head heads said u = at said (at heads u)
