-- Span by span, from the values as they were; where none is marked nothing is heard.
use mathlib.Core.Path.{◌≡◌}
use Prim.Native.Nat.{◌*◌, min}
use Rattle.base_lists.specs.Tables.{over}
use Rattle.stage09_classes.specs.Propagation.{over_links}
use Rattle.stage09_classes.proofs.links.propagate.Given as goal

abbrev pub invariant-loop-span : goal.invariant-loop-span
invariant-loop-span l =
    l.initial.t ≡ l.said → l.t ≡ over l.units (over_links (min (32 * l.span) l.links) l.ends l.linked l.said) l.said
