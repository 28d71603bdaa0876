-- The passes made and those to come are all of them.
use Rattle.std.proofs.Common.{◌≡◌, length}
use Rattle.theory_min_label.specs.Going.{Going}
use Rattle.one_way.proofs.pass.passes.Given as goal

abbrev pub invariant-loop-made : goal.invariant-loop-made
invariant-loop-made l = (length l.key ≡ 256) × Going l.units l.links l.initial.out l.made l.key l.out
