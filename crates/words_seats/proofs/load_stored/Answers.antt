-- By the seat, then by the load of its words.
use Rattle.spec_machine.specs.Load.{Input}
use Rattle.spec_channel.specs.Office.{stored}
use Rattle.words_seats.specs.ServeLaws.{loads-none, loads-one}
use Rattle.words_seats.proofs.load_stored.Goals as goal

pub returns-then-seat-gt-LAST_SEAT : goal.returns-then-seat-gt-LAST_SEAT
returns-then-seat-gt-LAST_SEAT c =
    let a = c.args in
    let input : Input = record { units = a.units; words = a.table.now; levels = a.levels.now } in
    let all = loads-none a.seats.now a.seat (stored input) c.seats.ensures c.if-seat-gt-LAST_SEAT.true in
    record { number = all.0; seats = all.1.0; words = all.1.1 }

pub returns : goal.returns
returns c =
    let a = c.args in
    let input : Input = record { units = a.units; words = a.table.now; levels = a.levels.now } in
    let all = loads-one a.seats.now a.seat (stored input) c.seats.ensures c.if-seat-gt-LAST_SEAT.false
    c.load_stored-number.result _
    c.seats-2.ensures c.load_stored-number.ensures.number c.load_stored-number.ensures.words in
    record { number = all.0; seats = all.1.0; words = all.1.1 }
