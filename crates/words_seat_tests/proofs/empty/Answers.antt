-- By the unit count, then by the stage.
use Rattle.std.proofs.Common.{◌∙◌, ne_eqb}
use Rattle.words_seat_tests.specs.EmptyLaws.{units-there, stage_decides}
use Rattle.words_seat_tests.proofs.empty.Goals as goal

pub returns-then-seat-eq0 : goal.returns-then-seat-eq0
returns-then-seat-eq0 c = stage_decides c.args.seat.now c.if-seat-eq0.true c.clock_at.result c.clock_at.ensures

pub returns-else-seat-eq0 : goal.returns-else-seat-eq0
returns-else-seat-eq0 c = ne_eqb _ 0 c.if-seat-eq0.false ∙ units-there c.args.seat.now c.if-seat-eq0.false
