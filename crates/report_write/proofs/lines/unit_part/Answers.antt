-- The flags give the lines and the count.
use Rattle.spec_rules.specs.Labels.{single}
use Rattle.report_flags.specs.Flags.{flags_count}
use Rattle.report_write.proofs.lines.unit_part.Goals as goal

pub returns : goal.returns
returns c =
    record {
      singles = rw (c.count_flags.ensures, c.singles-singles.ensures)
          (flags_count 256 c.args.units
          (single c.args.links c.args.ends.now c.args.label.now) c.requires);
      lines = rw (c.unit_lines.ensures, c.singles-singles.ensures);
    }
