-- By whether the place is in the slice.
use mathlib.Core.Path.{refl, sym}
use native.Mathlib.Omega.{arith}
use lib.Seq.{set_out}
use borrow.Author.Tests.{le-leb, lt-leb}
use Rattle.base_streams.proofs.text.byte.Goals as goal

pub returns-then-out-at : goal.returns-then-out-at
returns-then-out-at c =
    rw (lt-leb c.args.at _ c.if-out-at.true) (record {
      place = refl;
      bytes = sym (set_out _ c.args.at c.args.x (omega (arith, c.if-out-at.true)));
    })

pub returns : goal.returns
returns c =
    rw (le-leb c.args.at _ c.if-out-at.false) (record {
      place = refl;
      bytes = c.put_byte.ensures;
    })
