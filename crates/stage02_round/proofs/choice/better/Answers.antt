-- The machine reads both levels back from their bits, and tells equal levels by equal bits.
use mathlib.Core.Path.{◌≡◌, sym, ap, ap₂, ◌∙◌}
use lib.Signed.{lt_z}
use mir.Syntax.{w16}
use mir.Val.{to_z, of_z}
use mir.ValLaws.{to_z-of_z}
use borrow.Author.Tests.{ne_eqb}
use Rattle.stage02_round.specs.Comparison.{better-above, better-below, better-tie}
use Rattle.stage02_round.proofs.choice.better.Goals as goal

pub returns-then-level-held : goal.returns-then-level-held
returns-then-level-held c =
    let a = c.args in
    let read : lt_z (to_z w16 (of_z w16 a.held)) (to_z w16 (of_z w16 a.level)) ≡ lt_z a.held a.level
    = ap₂ lt_z (to_z-of_z w16 a.held c.ranges.held) (to_z-of_z w16 a.level c.ranges.level) in
    c.if-level-held.true ∙ sym (better-above a.level a.w a.held a.best (sym read ∙ c.if-level-held.true))

pub returns-then-level-held-2 : goal.returns-then-level-held-2
returns-then-level-held-2 c =
    let same : c.args.level ≡ c.args.held
    = sym (to_z-of_z w16 c.args.level c.ranges.level) ∙ ap (to_z w16) c.if-level-held-2.true
    ∙ to_z-of_z w16 c.args.held c.ranges.held in
    sym (better-tie c.args.level c.args.w c.args.held c.args.best same)

pub returns-else-level-held-2 : goal.returns-else-level-held-2
returns-else-level-held-2 c =
    let a = c.args in
    let read : lt_z (to_z w16 (of_z w16 a.held)) (to_z w16 (of_z w16 a.level)) ≡ lt_z a.held a.level
    = ap₂ lt_z (to_z-of_z w16 a.held c.ranges.held) (to_z-of_z w16 a.level c.ranges.level) in
    ne_eqb (of_z w16 a.level) (of_z w16 a.held) c.if-level-held-2.false
    ∙ sym (better-below a.level a.w a.held a.best (sym read
    ∙ c.if-level-held.false) (λ q. c.if-level-held-2.false (ap (of_z w16) q)))
