-- By its two tests.
use mathlib.Core.Path.{refl}
use borrow.Author.Tests.{eq-eqb, ne_eqb}
use Rattle.words_seat_tests.proofs.other_spoilt.Goals as goal

pub returns-then-i-but : goal.returns-then-i-but
returns-then-i-but c = rw (ne_eqb _ _ c.if-i-but.true) c.spoilt.ensures

pub returns-else-i-but : goal.returns-else-i-but
returns-else-i-but c = rw (eq-eqb _ _ c.if-i-but.false) refl
