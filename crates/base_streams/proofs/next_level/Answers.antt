-- By the number read and its sign.
use mathlib.Core.Path.{refl, ap, ◌∙◌}
use lib.Dec.{eqb}
use lib.Signed.{mag}
use Prim.Native.Nat.{◌<◌}
use mir.Syntax.{w16}
use mir.ValLaws.{to_z-of_z}
use Rattle.base_streams.specs.Stream.{part_at}
use Rattle.base_streams.specs.StreamLaws.{level-fault, level_great, level-read, signed-small}
use Rattle.base_streams.proofs.next_level.Goals as goal

pub returns-then-after : goal.returns-then-after
returns-then-after c =
    level-fault c.args.stream.now c.args.cursor c.part-number.result (c.part-number.ensures
    ∙ ap (part_at c.args.stream.now c.args.cursor) c.start.ensures) c.if-after.true

pub returns-then-number-gt32767 : goal.returns-then-number-gt32767
returns-then-number-gt32767 c =
    level_great c.args.stream.now c.args.cursor c.part-number.result (c.part-number.ensures
    ∙ ap (part_at c.args.stream.now c.args.cursor) c.start.ensures) c.if-after.false c.if-number-gt32767.true

pub returns : goal.returns
returns c =
    let fits : mag c.signed.result < 32768 =
    rw c.signed.ensures (signed-small (eqb c.byte-negative.result 45) c.part-number.result.value
    c.if-number-gt32767.false) in
    level-read c.args.stream.now c.args.cursor c.part-number.result (c.part-number.ensures
    ∙ ap (part_at c.args.stream.now c.args.cursor) c.start.ensures) _ c.if-after.false c.if-number-gt32767.false
    (to_z-of_z w16 c.signed.result (record { sfits = fits }) ∙ (c.signed.ensures ∙ rw c.byte-negative.ensures refl))
