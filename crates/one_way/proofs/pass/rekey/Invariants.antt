-- Entry by entry.
use Rattle.std.proofs.Common.{◌≡◌}
use Rattle.base_lists.specs.Tables.{over}
use Rattle.theory_min_label.specs.Hands.{key_of}
use Rattle.one_way.proofs.pass.rekey.Given as goal

abbrev pub invariant-loop-v : goal.invariant-loop-v
invariant-loop-v l = l.key ≡ over l.v (key_of l.f l.b) l.initial.key
