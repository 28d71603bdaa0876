-- The words that there is room for, laid down at the front.
use mathlib.Core.Path.{◌≡◌}
use native.Mathlib.Omega.{arith}
use lib.ListN.{length, take, length-take}
use Rattle.base_copies.specs.CopyLaws.{laid-front}
use Rattle.spec_machine.specs.LoadLaws.{held-words}
use Rattle.load_begin.proofs.first_words.Goals as goal

pub held-count-requires : goal.held-count-requires
held-count-requires c = tt

pub slice_bounds-lay-end : goal.slice_bounds-lay-end
slice_bounds-lay-end c =
    let w = c.args.words.now in
    rw (length-take c.held-count.result w) (omega (arith, c.held-count.ensures))

pub lay-requires : goal.lay-requires
lay-requires c = tt

pub returns : goal.returns
returns c =
    let a = c.args in
    let w = a.words.now in
    let count = c.held-count.result in
    let same : take count w ≡ take (length a.to.now) w =
    held-words (length a.to.now) count w c.held-count.ensures in
    rw same at (laid-front (take count w) a.to.now c.lay.ensures
    (rw (length-take count w) (omega (arith, c.held-count.ensures))))
