-- Each level moves the cursor on, in the same stream.
use Rattle.std.proofs.Common.{◌≡◌}
use Rattle.base_streams.proofs.reader.Reader.any_levels.Given as goal

abbrev pub invariant-loop-i : goal.invariant-loop-i
invariant-loop-i l = l.self.stream.now ≡ l.fn.self.stream.now
