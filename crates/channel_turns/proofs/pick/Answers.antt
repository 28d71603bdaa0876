-- Seat by seat, from the one after the last served.
use mathlib.Core.Bool.{false}
use Prim.Native.Nat.{ℕ, ◌-◌}
use native.Mathlib.Omega.{arith}
use lib.ListN.{get_or}
use Rattle.spec_channel.specs.Turns.{seat_after}
use Rattle.spec_channel.proofs.TurnLaws.{picked-found, picked_none, one_more}
use borrow.Author.Rules.{rules}
use Rattle.channel_turns.proofs.pick.Goals as goal

pub loop-d-init : goal.loop-d-init
loop-d-init c = (search rules, λ j h. absurd (omega arith))

pub returns-then-waits-seat : goal.returns-then-waits-seat
returns-then-waits-seat c =
    let a = c.args in
    picked-found a.last (λ (i : ℕ). get_or a.waits i false) c.loop-d.d (search rules) c.if-waits-seat.true
    c.loop-d.invariant.1

pub loop-d-preserved : goal.loop-d-preserved
loop-d-preserved c =
    let a = c.args in (
      search rules,
      one_more (λ (j : ℕ). get_or a.waits (seat_after a.last j) false) c.loop-d.d c.loop-d.invariant.1
          c.if-waits-seat.false,
    )

pub returns : goal.returns
returns c =
    let a = c.args in
    picked_none a.last (λ (i : ℕ). get_or a.waits i false)
    (λ j h. c.loop-d.invariant.1 j (omega (arith, c.loop-d-test.false)))
