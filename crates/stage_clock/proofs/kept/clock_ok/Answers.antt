-- A stage that is none, and else the tests that are left.
use Rattle.std.proofs.Common.{refl, le-leb}
use Rattle.std.proofs.lemmas.Bool.{lt-leb}
use Rattle.spec_machine.specs.WellFormed.{clock_ok}
use Rattle.stage_clock.proofs.kept.clock_ok.Goals.{then-c-lt1-via-then-c-lt1}
use Rattle.stage_clock.proofs.kept.clock_ok.Goals.{then-c-lt1-via-else-c-lt1+then-c-gt-FINISHED}
use Rattle.stage_clock.proofs.kept.clock_ok.Goals as goal

pub returns-then-c-lt1 : goal.returns-then-c-lt1
unfolding clock_ok
returns-then-c-lt1 c =
    let k = c.args.c.stage in
    elim c.then-c-lt1.branch [
      | then-c-lt1-via-then-c-lt1 w ↦ rw (lt-leb 1 k w.if-c-lt1.true) refl
      | then-c-lt1-via-else-c-lt1+then-c-gt-FINISHED w ↦
          rw (le-leb 1 k w.if-c-lt1.false, lt-leb k 11 w.if-c-gt-FINISHED.true) refl
    ]

pub returns : goal.returns
unfolding clock_ok
returns c =
    let k = c.args.c.stage in
    rw (c.made_ok.ensures, le-leb 1 k c.if-c-lt1.false, le-leb k 11 c.if-c-gt-FINISHED.false) refl
