-- The flags give the lines and the count.
use Rattle.spec_rules.specs.Labels.{lone}
use Rattle.report_flags.specs.Flags.{flags_count}
use Rattle.report_write.proofs.lines.link_part.Goals as goal

pub returns : goal.returns
returns c =
    record {
      lones = rw (c.count_flags.ensures, c.lones-lones.ensures)
          (flags_count 1024 c.args.links (lone c.args.links c.args.label.now) c.requires);
      lines = rw (c.link_lines.ensures, c.lones-lones.ensures);
    }
