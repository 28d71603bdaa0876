-- Entry by entry.
use Rattle.std.proofs.Common.{◌≡◌, ℕ, ◌<◌, ◌≤◌, get_or}
use Rattle.base_lists.specs.Tables.{over}
use Rattle.stage07_range.proofs.local.begin_from.Given as goal

abbrev pub invariant-loop-v : goal.invariant-loop-v
invariant-loop-v g l =
    (l.v ≤ l.n)
    × ((f : ℕ → ℕ) → ((v u : ℕ) → v < l.n → goal.F-post g l.unit v u → get_or l.lows u 0 ≡ f v)
    → l.low ≡ over l.v f l.initial.low)
    × ((f : ℕ → ℕ) → ((v u : ℕ) → v < l.n → goal.F-post g l.unit v u → get_or l.highs u 0 ≡ f v)
    → l.high ≡ over l.v f l.initial.high)
