-- The given table, then the two units.
use mathlib.Core.Path.{◌≡◌, refl, sym, ap, ◌∙◌}
use mathlib.Core.Bool.{not, ◌||◌}
use mathlib.Core.List.{[], ◌∷◌}
use native.Mathlib.Omega.{arith}
use lib.Dec.{eqb, leb, ltb}
use lib.ListN.{length}
use Prim.Native.Nat.{◌≤◌}
use Rattle.table.specs.Refusals.{first_of}
use Rattle.live_table.specs.Live.{held, live_of, less_link}
use Rattle.live_table.specs.LiveCalls.{given_refusal, withdraw_refusal, withdraw_answer}
use Rattle.live_table.specs.GivenLaws.{given-links}
use Rattle.value_live.specs.View.{of}
use Rattle.value_live.specs.CallLaws.{answer-refused, answer-made, withdraw-early, withdraw-late, pair_found}
use borrow.Author.Rules.{rules}
use Rattle.value_live.proofs.whole.Live.withdraw.Goals as goal

pub returns-then-number-ne0 : goal.returns-then-number-ne0
unfolding withdraw_answer
returns-then-number-ne0 c =
    let a = c.args in
    answer-refused (withdraw_refusal a.a a.b (of a.self)) c.refusal-number.result (of a.self) _
    (withdraw-early (of a.self) a.a a.b c.refusal-number.result c.refusal-number.ensures c.if-number-ne0.true)
    c.if-number-ne0.true

pub place_in-j-requires : goal.place_in-j-requires
place_in-j-requires c =
    let passed : given_refusal (of
    c.args.self) ≡ 0 = sym c.refusal-number.ensures ∙ c.if-number-ne0.false in
    let few : c.args.self.links
    ≤ 1024 = given-links (of c.args.self) (passed) in
    let sized : (length
    c.args.self.ends ≡ 2048)
    × (length c.args.self.levels ≡ 1024) = search rules in
    omega (arith, few, (sized).0)

pub returns-then-own-ne0 : goal.returns-then-own-ne0
unfolding withdraw_answer
returns-then-own-ne0 c =
    let sized : (length
    c.args.self.ends ≡ 2048)
    × (length c.args.self.levels ≡ 1024) = search rules in
    let passed : given_refusal (of
    c.args.self) ≡ 0 = sym c.refusal-number.ensures ∙ c.if-number-ne0.false in
    let own : c.pair_refusal-own.result
    ≡ first_of
    ((
      7,
      leb c.args.self.units c.args.a || leb c.args.self.units c.args.b,
    )
    ∷ (
      8,
      eqb c.args.a c.args.b,
    )
    ∷ (
      21,
      not (ltb c.place_in-j.result
          c.args.self.links),
    )
    ∷ []) = c.pair_refusal-own.ensures in
    let late : c.pair_refusal-own.result
    ≡ withdraw_refusal c.args.a c.args.b (of c.args.self) = let a = c.args in
    let full = sized in
    withdraw-late (of a.self) full.0 full.1 (passed) a.a a.b c.place_in-j.result
    c.place_in-j.ensures c.pair_refusal-own.result (own) in
    let a = c.args in
    answer-refused (withdraw_refusal a.a a.b (of a.self)) c.pair_refusal-own.result (of a.self) _
    (late) c.if-own-ne0.true

pub shorter-requires : goal.shorter-requires
shorter-requires c =
    let own : c.pair_refusal-own.result
    ≡ first_of
    ((
      7,
      leb c.args.self.units c.args.a || leb c.args.self.units c.args.b,
    )
    ∷ (
      8,
      eqb c.args.a c.args.b,
    )
    ∷ (
      21,
      not (ltb c.place_in-j.result
          c.args.self.links),
    )
    ∷ []) = c.pair_refusal-own.ensures in
    let passed : given_refusal (of
    c.args.self) ≡ 0 = sym c.refusal-number.ensures ∙ c.if-number-ne0.false in
    let few : c.args.self.links
    ≤ 1024 = given-links (of c.args.self) (passed) in
    let a = c.args in (
      pair_found c.place_in-j.result a.self.links c.pair_refusal-own.result
          (leb a.self.units a.a || leb a.self.units a.b) (eqb a.a a.b) (own) c.if-own-ne0.false,
      few,
    )

pub returns : goal.returns
unfolding withdraw_answer
returns c =
    let sized : (length
    c.args.self.ends ≡ 2048)
    × (length c.args.self.levels ≡ 1024) = search rules in
    let passed : given_refusal (of
    c.args.self) ≡ 0 = sym c.refusal-number.ensures ∙ c.if-number-ne0.false in
    let own : c.pair_refusal-own.result
    ≡ first_of
    ((
      7,
      leb c.args.self.units c.args.a || leb c.args.self.units c.args.b,
    )
    ∷ (
      8,
      eqb c.args.a c.args.b,
    )
    ∷ (
      21,
      not (ltb c.place_in-j.result
          c.args.self.links),
    )
    ∷ []) = c.pair_refusal-own.ensures in
    let late : c.pair_refusal-own.result
    ≡ withdraw_refusal c.args.a c.args.b (of c.args.self) = let a = c.args in
    let full = sized in
    withdraw-late (of a.self) full.0 full.1 (passed) a.a a.b c.place_in-j.result
    c.place_in-j.ensures c.pair_refusal-own.result (own) in
    let a = c.args in
    let made = c.shorter.ensures ∙ ap (λ j. live_of (less_link j (held (of a.self))))
    c.place_in-j.ensures in
    rw made (answer-made (withdraw_refusal a.a a.b (of a.self)) 0 (of a.self) _ (sym c.if-own-ne0.false
    ∙ late) refl)
