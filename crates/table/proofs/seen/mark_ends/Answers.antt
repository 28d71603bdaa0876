-- The marks of the rest, after the links passed, are the marks of the whole table.
use Rattle.std.proofs.Common.{◌≡◌, sym, ◌∙◌, ◌*◌, ◌+◌, rules, arith}
use Rattle.table.specs.SeenLaws.{seen_next, seen_end}
use Rattle.table.proofs.seen.mark_ends.Goals as goal

pub loop-j-preserved : goal.loop-j-preserved
loop-j-preserved c =
    let t = c.args.table.now in
    let e : 2 * (c.loop-j.j + 1) ≡ 2 * c.loop-j.j + 2 = omega arith in
    rw (e, c.put_byte-in-loop-j.ensures, c.put_byte.ensures)
    (c.loop-j.invariant ∙ seen_next c.loop-j.marks t (2 * c.loop-j.j) (search rules))

pub returns : goal.returns
returns c =
    sym (c.loop-j.invariant ∙ seen_end c.loop-j.marks c.args.table.now (2 * c.loop-j.j) (search rules))
