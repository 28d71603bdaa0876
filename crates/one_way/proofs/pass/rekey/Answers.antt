-- Entry by entry.
use Rattle.std.proofs.Common.{refl}
use Rattle.base_lists.specs.Rounds.{over-more}
use Rattle.theory_min_label.specs.Hands.{key_of}
use Rattle.one_way.proofs.pass.rekey.Goals as goal

pub loop-v-preserved : goal.loop-v-preserved
loop-v-preserved c =
    over-more c.loop-v.v (key_of c.args.f.now c.args.b.now) c.args.key.now c.loop-v.key _ c.key_of.result
    c.loop-v.invariant (rw (c.key_of.ensures, c.word.ensures, c.word-in-loop-v.ensures) refl) refl
