-- A clock in another stage, and a tick.
use mathlib.Core.Path.{◌≡◌, sym, ◌∙◌}
use mathlib.Core.Bool.{true}
use Prim.Native.Nat.{min}
use native.Mathlib.Omega.{arith}
use Rattle.spec_machine.specs.InStage.{in_stage, may-tick}
use Rattle.stage_clock.proofs.tick.ticked.Goals as goal

pub next-requires : goal.next-requires
next-requires c =
    let on : in_stage c.args.units c.args.stage c.args.c ≡ true = sym c.within.ensures ∙ c.if-within.true in
    let m = may-tick _ _ _ on in
    (m.1.0, (m.1.1.0, m.1.1.1))

pub returns-then-within : goal.returns-then-within
returns-then-within c =
    let on : in_stage c.args.units c.args.stage c.args.c ≡ true = sym c.within.ensures ∙ c.if-within.true in
    let a = c.args in
    let all : min a.units 256 ≡ a.units = omega (arith, (may-tick _ _ _ on).0) in
    rw (on, c.next.ensures, c.is_last.ensures, all)
