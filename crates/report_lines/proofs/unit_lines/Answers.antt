-- The lines passed are laid down, and the rest is as it was.
use Rattle.std.proofs.Common.{◌≡◌, ◌+◌, ◌*◌, sym, refl, arith, rules}
use Rattle.report_lines.specs.Lines.{unit_row, lines_over-fits, lines_over-short, length-lines, lines_next}
use Rattle.report_lines.proofs.unit_lines.Goals as goal

pub returns-then-out-units : goal.returns-then-out-units
returns-then-out-units c =
    let a = c.args in
    sym (lines_over-short 23 a.units (unit_row a.color.now a.parent.now a.place.now a.singles.now)
    a.out.now c.if-out-units.true)

pub loop-v-preserved : goal.loop-v-preserved
loop-v-preserved c =
    let a = c.args in
    let body = unit_row a.color.now a.parent.now a.place.now a.singles.now in
    let further : 23 * c.loop-v.v + 23 ≡ 23 * (c.loop-v.v + 1) = omega arith in (
      search rules,
      search rules,
      rw (c.unit_at.ensures, c.loop-v.invariant.2, ← further)
          (lines_next c.loop-v.v body a.out.now (23 * c.loop-v.v) (length-lines 23 c.loop-v.v body (λ i. refl))
          (omega (
            arith,
            c.if-out-units.false,
            c.loop-v-test.true,
          ))),
    )

pub returns : goal.returns
returns c =
    let a = c.args in
    let e : c.loop-v.v ≡ a.units = omega arith in
    rw (
      lines_over-fits 23 a.units (unit_row a.color.now a.parent.now a.place.now a.singles.now)
          a.out.now c.if-out-units.false,
      ← e,
    ) c.loop-v.invariant.2
