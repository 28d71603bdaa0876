-- By whether the number has the place.
use mathlib.Core.Path.{refl}
use borrow.Author.Tests.{le-leb, lt-leb}
use Rattle.base_streams.proofs.text.digit.Goals as goal

pub returns-then-value-power : goal.returns-then-value-power
returns-then-value-power c =
    rw (lt-leb c.args.power c.args.value c.if-value-power.true) (record {
      place = refl;
      bytes = refl;
    })

pub returns : goal.returns
returns c =
    rw (le-leb c.args.power c.args.value c.if-value-power.false) (record {
      place = refl;
      bytes = c.put_byte.ensures;
    })
