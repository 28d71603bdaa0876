-- By whether there is one yet.
use mathlib.Core.Path.{refl, ap₂, ◌∙◌}
use lib.IntN.{ℤ}
use mir.Syntax.{w16}
use mir.ValLaws.{to_z-of_z}
use borrow.Author.Tests.{eq-eqb, ne_eqb}
use Rattle.spec_rules.specs.Tree.{better}
use Rattle.stage02_round.proofs.choice.takes.Goals as goal

pub returns-then-best-eq-ABSENT : goal.returns-then-best-eq-ABSENT
returns-then-best-eq-ABSENT c = rw (eq-eqb c.args.best 65535 c.if-best-eq-ABSENT.true) refl

pub returns-else-best-eq-ABSENT : goal.returns-else-best-eq-ABSENT
returns-else-best-eq-ABSENT c =
    let a = c.args in
    rw (ne_eqb a.best 65535 c.if-best-eq-ABSENT.false)
    (c.better.ensures ∙ ap₂ (λ (z y : ℤ). better z a.w y a.best) (to_z-of_z w16 a.level c.ranges.level)
    (to_z-of_z w16 a.held c.ranges.held))
