-- Span by span, from the values as they were; where none is marked nothing is heard.
use mathlib.Core.Path.{◌≡◌, ◌∙◌}
use Prim.Native.Nat.{◌+◌, ◌*◌, min}
use native.Mathlib.Omega.{arith}
use Rattle.stage09_classes.specs.LinkLaws.{links-none, links-rest}
use borrow.Author.Rules.{rules}
use Rattle.stage09_classes.proofs.links.propagate.Goals as goal
use Rattle.stage09_classes.proofs.links.propagate.Goals.{then-any_marked, else-any_marked}

pub loop-span-init : goal.loop-span-init
loop-span-init c =
    let a = c.args in
    let none : min 0 a.links ≡ 0 = omega arith in
    λ e. rw none (e ∙ links-none a.units a.ends.now a.linked.now a.said.now)

pub loop-span-preserved : goal.loop-span-preserved
loop-span-preserved c =
    let a = c.args in
    let from : min (32 * c.loop-span.span) a.links ≡ 32 * c.loop-span.span = search rules in
    let to : min (32 * (c.loop-span.span + 1)) a.links ≡ c.min-to.result = search rules in
    elim c.if-any_marked.branch [
      | then-any_marked w ↦ λ e. rw (w.t-is, to) (w.over_span.ensures (rw from at (c.loop-span.invariant e)))
      | else-any_marked w ↦ λ e. rw (w.t-is, to)
          (links-rest a.units a.ends.now a.linked.now a.said.now (32 * c.loop-span.span) c.min-to.result _
          (search rules) (c.any_marked.ensures w.if-any_marked.false) (rw from at (c.loop-span.invariant e)))
    ]
