-- By whether the line fits.
use mathlib.Core.Path.{refl, ◌∙◌}
use Rattle.handset_lines.specs.Lines.{FOREMAN-LINE, foreman_body}
use Rattle.handset_lines.specs.LineLaws.{line-short, line-fits}
use native.Mathlib.Omega.{arith}
use Rattle.handset_lines.proofs.foreman.write.Goals as goal

pub returns-then-out-lt-LENGTH : goal.returns-then-out-lt-LENGTH
returns-then-out-lt-LENGTH c =
    let a = c.args in let all = line-short FOREMAN-LINE (foreman_body a.status) a.out.now
    (omega (arith, c.if-out-lt-LENGTH.true)) in record { number = all.0; bytes = all.1 }

pub returns : goal.returns
returns c =
    let a = c.args in
    let fits = line-fits FOREMAN-LINE (foreman_body a.status) a.out.now refl (omega (arith, c.if-out-lt-LENGTH.false))
    in record {
      number = fits.0;
      bytes = rw (
        c.low_byte-2.ensures,
        c.high_byte.ensures,
        c.low_byte.ensures,
      ) at c.write.ensures ∙ fits.1;
    }
