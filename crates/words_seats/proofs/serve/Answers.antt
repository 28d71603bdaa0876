-- The turn, the other seats, whether some seat waits, and its round.
use Rattle.std.proofs.Common.{◌≡◌, not, length, ap, rules}
use Rattle.words_seats.specs.ServeLaws.{Judged, told-high, seat-served, told-others, told_over, told-refused}
use Rattle.words_seats.specs.ServeLaws.{told-given, ticks-words}
use Rattle.words_seats.proofs.serve.Goals as goal

pub returns-then-last-gt-LAST_SEAT : goal.returns-then-last-gt-LAST_SEAT
returns-then-last-gt-LAST_SEAT c =
    let a = c.args in
    ticks-words a.last 10 a.last a.seats.now a.seats.now c.seats.ensures c.seats.ensures
    (told-high a.last a.seats.now c.if-last-gt-LAST_SEAT.true)

pub returns-then-not-others_sound : goal.returns-then-not-others_sound
returns-then-not-others_sound c =
    let a = c.args in
    let eight : length a.seats.now ≡ 8 = search rules in
    let judged : Judged a.last a.seats.now c.pick-next.result c.others_sound.result =
    record {
      eight = eight;
      is = seat-served a.last a.seats.now eight c.flags.result c.pick-next.result c.flags.ensures c.pick-next.ensures;
      turn = c.if-last-gt-LAST_SEAT.false;
      told = c.others_sound.ensures;
    } in
    ticks-words a.last 10 a.last a.seats.now a.seats.now c.seats.ensures c.seats.ensures
    (told-others _ _ _ _ judged (ap not c.if-not-others_sound.true))

pub returns-then-next-gt-LAST_SEAT : goal.returns-then-next-gt-LAST_SEAT
returns-then-next-gt-LAST_SEAT c =
    let a = c.args in
    let eight : length a.seats.now ≡ 8 = search rules in
    let judged : Judged a.last a.seats.now c.pick-next.result c.others_sound.result =
    record {
      eight = eight;
      is = seat-served a.last a.seats.now eight c.flags.result c.pick-next.result c.flags.ensures c.pick-next.ensures;
      turn = c.if-last-gt-LAST_SEAT.false;
      told = c.others_sound.ensures;
    } in
    ticks-words a.last 11 a.last a.seats.now a.seats.now c.seats.ensures c.seats.ensures
    (told_over _ _ _ _ judged (ap not c.if-not-others_sound.false) c.if-next-gt-LAST_SEAT.true)

pub returns-then-number-ne0 : goal.returns-then-number-ne0
returns-then-number-ne0 c =
    let a = c.args in
    let eight : length a.seats.now ≡ 8 = search rules in
    let judged : Judged a.last a.seats.now c.pick-next.result c.others_sound.result =
    record {
      eight = eight;
      is = seat-served a.last a.seats.now eight c.flags.result c.pick-next.result c.flags.ensures c.pick-next.ensures;
      turn = c.if-last-gt-LAST_SEAT.false;
      told = c.others_sound.ensures;
    } in
    ticks-words a.last c.round-number.result a.last a.seats.now _ c.seats.ensures
    c.seats-2.ensures
    (told-refused _ _ _ _ judged (ap not c.if-not-others_sound.false) c.if-next-gt-LAST_SEAT.false
    c.round-number.result _
    c.round-number.ensures.number c.round-number.ensures.words c.if-number-ne0.true)

pub returns : goal.returns
returns c =
    let a = c.args in
    let eight : length a.seats.now ≡ 8 = search rules in
    let judged : Judged a.last a.seats.now c.pick-next.result c.others_sound.result =
    record {
      eight = eight;
      is = seat-served a.last a.seats.now eight c.flags.result c.pick-next.result c.flags.ensures c.pick-next.ensures;
      turn = c.if-last-gt-LAST_SEAT.false;
      told = c.others_sound.ensures;
    } in
    ticks-words a.last 0 c.pick-next.result a.seats.now _ c.seats.ensures
    c.seats-2.ensures
    (told-given _ _ _ _ judged (ap not c.if-not-others_sound.false) c.if-next-gt-LAST_SEAT.false c.round-number.result _
    c.round-number.ensures.number c.round-number.ensures.words c.if-number-ne0.false)
