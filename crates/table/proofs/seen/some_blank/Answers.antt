-- What the marks passed say is the test of as many marks.
use Rattle.std.proofs.Common.{◌≡◌, refl, sym, ◌∙◌, rules}
use Rattle.table.specs.Seen.{some_blank}
use Rattle.table.specs.SeenLaws.{blank-next}
use Rattle.table.proofs.seen.some_blank.Goals as goal

pub loop-v-init : goal.loop-v-init
unfolding some_blank
loop-v-init c = refl

pub loop-v-preserved : goal.loop-v-preserved
loop-v-preserved c =
    blank-next c.loop-v.v c.args.marks.now ∙ rw (c.byte.ensures, c.loop-v.invariant) refl

pub returns : goal.returns
returns c =
    let a = c.args in
    let all : c.loop-v.v ≡ a.units = search rules in
    sym (rw (← all) c.loop-v.invariant)
