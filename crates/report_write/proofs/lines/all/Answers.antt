-- The four parts, each over the front of what is left.
use Rattle.report_write.specs.ReportWritten.{parts-down}
use Rattle.report_write.proofs.lines.all.Goals as goal

pub returns : goal.returns
returns c =
    let a = c.args in
    parts-down a.units a.links a.rounds a.requests a.ends.now a.label.now a.color.now
    a.parent.now a.place.now a.out.now _ _ _ _ _ _
    c.head_line.ensures c.unit_part-singles.ensures.lines c.link_part-lones.ensures.lines c.tail_line.ensures
    c.unit_part-singles.ensures.singles c.link_part-lones.ensures.lones
