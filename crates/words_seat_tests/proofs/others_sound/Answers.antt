-- Seat by seat.
use mathlib.Core.Path.{refl, sym, ◌∙◌}
use mathlib.Core.Bool.{Bool, false, not, ◌&&◌}
use mathlib.Core.List.{List, []}
use Prim.Native.Nat.{ℕ, ◌-◌}
use native.Mathlib.Omega.{arith}
use lib.Dec.{eqb}
use lib.ListN.{length, get_or}
use Rattle.words_layout.specs.Layout.{state_of}
use Rattle.spec_channel.specs.Office.{spoilt}
use Rattle.words_seat_tests.specs.SeatLaws.{search_found, search_more, search_none}
use borrow.Author.Rules.{rules}
use Rattle.words_seat_tests.proofs.others_sound.Goals as goal

-- what is looked for
abbrev other : List (List ℕ) → ℕ → ℕ → Bool
other seats but i = not (eqb i but) && spoilt (state_of (get_or seats i []))

pub loop-i-init : goal.loop-i-init
loop-i-init c = (search rules, refl)

pub returns-then-other_spoilt : goal.returns-then-other_spoilt
returns-then-other_spoilt c =
    let a = c.args in
    search_found (other a.seats.now a.but) c.loop-i.i (length a.seats.now) (search rules)
    (sym c.other_spoilt.ensures ∙ c.if-other_spoilt.true)

pub loop-i-preserved : goal.loop-i-preserved
loop-i-preserved c =
    let a = c.args in (
      search rules,
      search_more (other a.seats.now a.but) c.loop-i.i c.loop-i.invariant.1
          (sym c.other_spoilt.ensures ∙ c.if-other_spoilt.false),
    )

pub returns : goal.returns
returns c =
    let a = c.args in
    search_none (other a.seats.now a.but) c.loop-i.i (length a.seats.now) c.loop-i.invariant.1
    c.loop-i.invariant.0 (omega (arith, c.loop-i-test.false))
