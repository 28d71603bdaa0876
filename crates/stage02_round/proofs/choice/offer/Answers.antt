-- The best so far as the two tables hold it, kept or put anew.
use Rattle.std.proofs.Common.{rules}
use mathlib.Core.Path.{◌≡◌, sym, ap, ap₂, ◌∙◌}
use mathlib.Core.Bool.{◌||◌}
use Prim.Native.Nat.{◌%◌}
use lib.Dec.{eqb}
use lib.IntN.{ℤ, pos}
use lib.ListN.{set}
use lib.Seq.{set-get_or}
use mir.Syntax.{w16}
use mir.ValLaws.{to_z-of_z}
use Rattle.spec_rules.specs.Tree.{better, Neighbor}
use Rattle.spec_rules.specs.TreeLaws.{neighbor_at, prefer-new, prefer-old}
use Rattle.stage02_round.proofs.choice.offer.Goals as goal

pub returns-then-takes : goal.returns-then-takes
returns-then-takes c =
    let a = c.args in
    let now : Neighbor = neighbor_at a.held.now a.best.now (a.v % 256) in
    let told : c.takes.result ≡ (eqb now.unit 65535 || better a.level a.w now.level now.unit)
    = c.takes.ensures
    ∙ ap₂ (λ (z y : ℤ). eqb now.unit 65535 || better z a.w y now.unit) (to_z-of_z w16 a.level c.ranges.level)
    (to_z-of_z w16 now.level (search rules)) in
    let new = prefer-new now a.level a.w (sym told ∙ c.if-takes.true) in record {
      levels = ap (set a.held.now (a.v % 256)) (to_z-of_z w16 a.level c.ranges.level
          ∙ ap (λ (x : Neighbor). x.level) (sym new));
      units = ap (set a.best.now (a.v % 256)) (ap (λ (x : Neighbor). x.unit) (sym new));
    }

pub returns-else-takes : goal.returns-else-takes
returns-else-takes c =
    let a = c.args in
    let now : Neighbor = neighbor_at a.held.now a.best.now (a.v % 256) in
    let told : c.takes.result ≡ (eqb now.unit 65535 || better a.level a.w now.level now.unit)
    = c.takes.ensures
    ∙ ap₂ (λ (z y : ℤ). eqb now.unit 65535 || better z a.w y now.unit) (to_z-of_z w16 a.level c.ranges.level)
    (to_z-of_z w16 now.level (search rules)) in
    let old = prefer-old now a.level a.w (sym told ∙ c.if-takes.false) in record {
      levels = sym (ap (λ (x : Neighbor). set a.held.now (a.v % 256) x.level) old
          ∙ set-get_or a.held.now (a.v % 256) (pos 0));
      units = sym (ap (λ (x : Neighbor). set a.best.now (a.v % 256) x.unit) old
          ∙ set-get_or a.best.now (a.v % 256) 0);
    }
