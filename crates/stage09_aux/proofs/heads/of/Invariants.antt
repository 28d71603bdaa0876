-- Unit by unit.
use mathlib.Core.Path.{◌≡◌}
use Rattle.base_lists.specs.Tables.{over}
use Rattle.stage09_aux.specs.Heads.{head_of}
use Rattle.stage09_aux.proofs.heads.of.Given as goal

abbrev pub invariant-loop-u : goal.invariant-loop-u
invariant-loop-u l = l.new ≡ over l.u (head_of l.parent l.parents) l.initial.new
