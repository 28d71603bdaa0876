-- The word at the byte has its two characters.
use Rattle.std.proofs.Common.{length, ap, ◌∙◌, arith}
use Rattle.report_lines.specs.Pairs.{length_pairs, pair-at, pair-first, pair-second, hex_stored}
use Rattle.report_lines.proofs.pairs.put.Goals as goal

pub bounds-pairs-b : goal.bounds-pairs-b
bounds-pairs-b c = omega (arith, ap length c.requires.0 ∙ length_pairs 256)

pub returns : goal.returns
returns c =
    let b = c.args.b in
    rw (
      c.to_le_bytes.ensures,
      c.requires.0,
      pair-at b (omega arith),
      pair-first b (omega arith),
      pair-second b (omega arith),
    )
    (hex_stored c.args.at b c.args.out.now)
