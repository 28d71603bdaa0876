-- Place by place.
use mathlib.Core.Path.{◌≡◌, refl, sym, ◌∙◌}
use Prim.Native.Nat.{◌+◌, ◌-◌, ◌≤◌}
use native.Mathlib.Omega.{arith}
use lib.Dec.{leb}
use borrow.Author.Tests.{le-leb, lt-leb}
use Rattle.base_streams.specs.Text.{decimal}
use Rattle.base_streams.specs.TextLaws.{tens-positive, tens-next, sets_past, shown-bytes, shown-length}
use Rattle.base_streams.specs.TextLaws.{shown-last, place_le, tens-nine}
use borrow.Author.Rules.{rules}
use Rattle.base_streams.proofs.text.number.Goals as goal

pub returns-then-out-at : goal.returns-then-out-at
returns-then-out-at c =
    rw (lt-leb c.args.at _ c.if-out-at.true) (record {
      place = refl;
      bytes = sym (sets_past (decimal c.args.value) _ c.args.at (omega (arith, c.if-out-at.true)));
    })

pub loop-i-init : goal.loop-i-init
loop-i-init c = (search rules, search rules, tens-nine, refl, refl, refl)

pub digit-end-requires : goal.digit-end-requires
digit-end-requires c = (rw c.loop-i.invariant.2 (tens-positive (9 - c.loop-i.i)), search rules)

pub loop-i-preserved : goal.loop-i-preserved
loop-i-preserved c =
    let k = 9 - c.loop-i.i in
    let z : k ≡ 0 → ⊥ = λ e. omega (arith, e, c.loop-i-test.true) in
    let less : 9 - (c.loop-i.i + 1) ≡ k - 1 = omega arith in
    let l : c.digit-end.result ≤ c.loop-i.end + 1 =
    rw c.digit-end.ensures.place (place_le (leb c.loop-i.power c.args.value) c.loop-i.end) in
    let b = shown-bytes k c.args.value c.digit-end.result c.loop-i.out _ c.loop-i.end
    c.loop-i.power z c.loop-i.invariant.2 c.digit-end.ensures.place c.digit-end.ensures.bytes in
    let n = shown-length k c.args.value c.digit-end.result c.loop-i.out _ c.loop-i.end
    c.loop-i.power z c.loop-i.invariant.2 c.digit-end.ensures.place c.digit-end.ensures.bytes in rw less (
      search rules,
      omega (arith, l, c.loop-i.invariant.1),
      tens-next k c.loop-i.power z c.loop-i.invariant.2,
      search rules,
      c.loop-i.invariant.4 ∙ b,
      c.loop-i.invariant.5 ∙ n,
    )

pub returns : goal.returns
returns c =
    let e = shown-last (9 - c.loop-i.i) c.args.value (omega (arith, c.loop-i-test.false)) in
    let a = c.loop-i.invariant.4 in
    let b = c.loop-i.invariant.5 in
    rw (le-leb c.args.at _ c.if-out-at.false) (record {
      place = sym ((rw e at b));
      bytes = c.put_byte.ensures ∙ sym (rw e at a);
    })
