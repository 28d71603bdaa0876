-- Unit by unit.
use mathlib.Core.List.{List}
use Prim.Native.Nat.{ℕ, ◌+◌, ◌≤◌}
use Rattle.stage09_aux.specs.Pairs.{Hears, links_heard, joins_heard}
use Rattle.stage09_aux.proofs.pairs.of_parents.Given as goal

abbrev pub invariant-loop-u : goal.invariant-loop-u
invariant-loop-u l =
    (l.count ≤ l.had + l.u)
    × ((m : ℕ) (ends linked : List ℕ) → Hears l.had l.initial.pairs (links_heard m ends l.parent linked) →
    Hears l.count l.pairs (joins_heard l.u m ends l.parent linked l.parents))
