-- Link by link, from the values as they were.
use mathlib.Core.Path.{◌≡◌}
use Rattle.base_lists.specs.Tables.{over}
use Rattle.spec_rules.specs.Components.{least_heard}
use Rattle.stage01_components.proofs.heard.Given as goal

abbrev pub invariant-loop-j : goal.invariant-loop-j
invariant-loop-j l = l.new ≡ over l.n (least_heard l.j l.ends l.value) l.value
