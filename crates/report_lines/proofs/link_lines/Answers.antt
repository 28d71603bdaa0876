-- The lines passed are laid down, and the rest is as it was.
use Rattle.std.proofs.Common.{◌≡◌, ◌+◌, ◌*◌, sym, refl, arith, rules}
use Rattle.report_lines.specs.Lines.{label_row, lines_over-fits, lines_over-short, length-lines, lines_next}
use Rattle.report_lines.proofs.link_lines.Goals as goal

pub returns-then-out-links : goal.returns-then-out-links
returns-then-out-links c =
    let a = c.args in
    sym (lines_over-short 15 a.links (label_row a.label.now a.lones.now) a.out.now c.if-out-links.true)

pub loop-j-preserved : goal.loop-j-preserved
loop-j-preserved c =
    let a = c.args in
    let body = label_row a.label.now a.lones.now in
    let further : 15 * c.loop-j.j + 15 ≡ 15 * (c.loop-j.j + 1) = omega arith in (
      search rules,
      search rules,
      rw (c.link_at.ensures, c.loop-j.invariant.2, ← further)
          (lines_next c.loop-j.j body a.out.now (15 * c.loop-j.j) (length-lines 15 c.loop-j.j body (λ i. refl))
          (omega (
            arith,
            c.if-out-links.false,
            c.loop-j-test.true,
          ))),
    )

pub returns : goal.returns
returns c =
    let a = c.args in
    let e : c.loop-j.j ≡ a.links = omega arith in
    rw (
      lines_over-fits 15 a.links (label_row a.label.now a.lones.now) a.out.now
          c.if-out-links.false,
      ← e,
    ) c.loop-j.invariant.2
