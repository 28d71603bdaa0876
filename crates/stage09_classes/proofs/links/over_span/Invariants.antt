-- Link by link, from the values as they were.
use mathlib.Core.Path.{◌≡◌}
use Rattle.base_lists.specs.Tables.{over}
use Rattle.stage09_classes.specs.Propagation.{over_links}
use Rattle.stage09_classes.proofs.links.over_span.Given as goal

abbrev pub invariant-loop-j : goal.invariant-loop-j
invariant-loop-j l =
    l.initial.t ≡ over l.units (over_links l.from l.ends l.linked l.said) l.said →
    l.t ≡ over l.units (over_links l.j l.ends l.linked l.said) l.said
