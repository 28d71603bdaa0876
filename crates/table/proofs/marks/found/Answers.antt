-- The search of the rest, with the marks of the links passed, is the search of the whole table.
use Rattle.std.proofs.Common.{◌≡◌, sym, ap, ◌∙◌, ◌*◌, ◌+◌, rules, arith}
use Rattle.table.specs.Marks.{place_as, marked}
use Rattle.table.specs.MarkLaws.{found_here, found-later, found-end}
use Rattle.table.proofs.marks.found.Goals as goal

pub returns-then-is_marked : goal.returns-then-is_marked
returns-then-is_marked c =
    sym
    (c.loop-j.invariant
    ∙ found_here (place_as c.args.ordered) c.loop-j.marks c.args.table.now (2 * c.loop-j.j) (search rules)
    (ap (marked c.loop-j.marks) (sym c.place-p.ensures) ∙ sym c.is_marked.ensures ∙ c.if-is_marked.true))

pub loop-j-preserved : goal.loop-j-preserved
loop-j-preserved c =
    let e : 2 * (c.loop-j.j + 1) ≡ 2 * c.loop-j.j + 2 = omega arith in
    rw (e, c.set_mark.ensures, c.place-p.ensures)
    (c.loop-j.invariant
    ∙ found-later (place_as c.args.ordered) c.loop-j.marks c.args.table.now (2 * c.loop-j.j) (search rules)
    (ap (marked c.loop-j.marks) (sym c.place-p.ensures) ∙ sym c.is_marked.ensures ∙ c.if-is_marked.false))

pub returns : goal.returns
returns c =
    sym (c.loop-j.invariant ∙ found-end (place_as c.args.ordered) c.loop-j.marks
    c.args.table.now (2 * c.loop-j.j) (search rules))
