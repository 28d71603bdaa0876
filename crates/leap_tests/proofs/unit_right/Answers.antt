-- A unit that waits or does not.
use Rattle.std.proofs.Common.{get_or, sym, refl, ◌∙◌, eq-eqb, ne_eqb, lt-ltb, le-ltb}
use Rattle.leap_tests.specs.Found.{wait_in, unit_right}
use Rattle.leap_tests.proofs.unit_right.Goals as goal

pub returns-then-wait_in-eq0 : goal.returns-then-wait_in-eq0
unfolding unit_right
returns-then-wait_in-eq0 c =
    let a = c.args in
    rw (
      eq-eqb (wait_in (get_or a.key.now a.v 0)) 0 (sym c.wait_in.ensures ∙ c.if-wait_in-eq0.true),
      c.last_in-last.ensures,
    ) refl

pub returns-then-last-here : goal.returns-then-last-here
unfolding unit_right
returns-then-last-here c =
    let a = c.args in
    let waits = ne_eqb (wait_in (get_or a.key.now a.v 0)) 0 (λ q. c.if-wait_in-eq0.false (c.wait_in.ensures ∙ q)) in
    rw (waits, lt-ltb _ _ (rw c.last_in-last.ensures at c.if-last-here.true), c.led.ensures) refl

pub returns-else-last-here : goal.returns-else-last-here
unfolding unit_right
returns-else-last-here c =
    let a = c.args in
    let waits = ne_eqb (wait_in (get_or a.key.now a.v 0)) 0 (λ q. c.if-wait_in-eq0.false (c.wait_in.ensures ∙ q)) in
    rw (waits, sym c.last_in-last.ensures, le-ltb _ _ c.if-last-here.false) refl
