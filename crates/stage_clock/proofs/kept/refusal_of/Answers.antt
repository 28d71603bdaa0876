-- All words, or the first.
use native.Mathlib.Omega.{arith}
use lib.ListN.{length-take}
use lib.Seq.{take_all}
use Rattle.stage_clock.proofs.kept.refusal_of.Goals as goal

pub returns-then-ends-words : goal.returns-then-ends-words
returns-then-ends-words c =
    rw (take_all c.args.words c.args.ends.now
    (omega arith)) c.bare_refusal.ensures

pub slice_bounds-bare_refusal-end : goal.slice_bounds-bare_refusal-end
slice_bounds-bare_refusal-end c =
    rw (length-take c.args.words
    c.args.ends.now) (omega arith)
