-- Lengths stay.
use Rattle.std.proofs.Common.{◌≡◌, length}
use Rattle.stage02_leap.proofs.ahead.chain.Given as goal

abbrev pub invariant-loop-j : goal.invariant-loop-j
invariant-loop-j l = (length l.first ≡ 256) × (length l.next ≡ 2048)
