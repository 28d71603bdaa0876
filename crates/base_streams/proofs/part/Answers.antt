-- By the first fault, or none.
use mathlib.Core.Path.{sym, ◌∙◌}
use Rattle.base_streams.specs.StreamLaws.{part-fault, part-empty, part_open, part-read}
use Rattle.base_streams.proofs.part.Goals as goal

pub returns-then-cursor : goal.returns-then-cursor
returns-then-cursor c = part-fault c.args.stream.now c.args.cursor c.args.from c.if-cursor.true

pub returns-then-end-from : goal.returns-then-end-from
returns-then-end-from c =
    part-empty c.args.stream.now c.args.cursor c.args.from c.read-read.result.end c.if-cursor.false
    c.read-read.ensures.1 c.if-end-from.true

pub returns-then-not-closed : goal.returns-then-not-closed
returns-then-not-closed c =
    part_open c.args.stream.now c.args.cursor c.args.from c.read-read.result.end c.if-cursor.false
    c.read-read.ensures.1 c.if-end-from.false (sym c.closed.ensures ∙ c.if-not-closed.true)

pub returns : goal.returns
returns c =
    part-read c.args.stream.now c.args.cursor c.args.from c.read-read.result.end c.if-cursor.false
    c.read-read.ensures.1 c.read-read.result.value c.after.result c.if-end-from.false (sym c.closed.ensures
    ∙ c.if-not-closed.false) c.read-read.ensures.0 c.after.ensures
