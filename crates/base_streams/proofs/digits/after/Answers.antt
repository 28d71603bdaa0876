-- By whether the stream goes on.
use mathlib.Core.Path.{refl}
use borrow.Author.Tests.{lt-ltb, le-ltb}
use Rattle.base_streams.proofs.digits.after.Goals as goal

pub returns-then-end-stream : goal.returns-then-end-stream
returns-then-end-stream c = rw (lt-ltb c.args.end _ c.if-end-stream.true) refl

pub returns-else-end-stream : goal.returns-else-end-stream
returns-else-end-stream c = rw (le-ltb c.args.end _ c.if-end-stream.false) refl
