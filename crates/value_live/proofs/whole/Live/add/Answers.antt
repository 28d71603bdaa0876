-- The given table, then the link.
use mathlib.Core.Path.{◌≡◌, refl, sym, ◌∙◌}
use mathlib.Core.Bool.{not, ◌||◌}
use mathlib.Core.List.{[], ◌∷◌}
use native.Mathlib.Omega.{arith}
use lib.Dec.{eqb, leb, ltb}
use lib.ListN.{length}
use Prim.Native.Nat.{◌≤◌}
use mir.Syntax.{w16}
use mir.ValLaws.{to_z-of_z}
use Rattle.table_levels.specs.Level.{in_range}
use Rattle.table.specs.Refusals.{first_of}
use Rattle.live_table.specs.LiveCalls.{given_refusal, add_refusal, add_answer}
use Rattle.live_table.specs.GivenLaws.{given-links}
use Rattle.value_live.specs.View.{of}
use Rattle.value_live.specs.CallLaws.{answer-refused, answer-made, add-early, add-late, link-few}
use borrow.Author.Rules.{rules}
use Rattle.value_live.proofs.whole.Live.add.Goals as goal

pub returns-then-number-ne0 : goal.returns-then-number-ne0
unfolding add_answer
returns-then-number-ne0 c =
    let a = c.args in
    answer-refused (add_refusal a.a a.b a.level (of a.self)) c.refusal-number.result (of a.self) _
    (add-early (of a.self) a.a a.b a.level c.refusal-number.result c.refusal-number.ensures c.if-number-ne0.true)
    c.if-number-ne0.true

pub place_in-j-requires : goal.place_in-j-requires
place_in-j-requires c =
    let passed : given_refusal (of
    c.args.self) ≡ 0 = sym c.refusal-number.ensures ∙ c.if-number-ne0.false in
    let few : c.args.self.links
    ≤ 1024 = given-links (of c.args.self) (passed) in
    let sized : (length
    c.args.self.ends ≡ 2048)
    × (length c.args.self.levels ≡ 1024) = search rules in
    omega (arith, few, (sized).0)

pub returns-then-own-ne0 : goal.returns-then-own-ne0
unfolding add_answer
returns-then-own-ne0 c =
    let sized : (length
    c.args.self.ends ≡ 2048)
    × (length c.args.self.levels ≡ 1024) = search rules in
    let passed : given_refusal (of
    c.args.self) ≡ 0 = sym c.refusal-number.ensures ∙ c.if-number-ne0.false in
    let own : c.link_refusal-own.result
    ≡ first_of
    ((
      6,
      leb 1024 c.args.self.links,
    )
    ∷ (
      16,
      not (in_range c.args.level),
    )
    ∷ (
      7,
      leb c.args.self.units c.args.a || leb c.args.self.units c.args.b,
    )
    ∷ (
      8,
      eqb c.args.a c.args.b,
    )
    ∷ (
      9,
      ltb c.place_in-j.result
          c.args.self.links,
    )
    ∷ []) = rw (to_z-of_z w16 c.args.level c.ranges.level) at c.link_refusal-own.ensures in
    let late : c.link_refusal-own.result
    ≡ add_refusal c.args.a c.args.b c.args.level (of c.args.self) = let a = c.args in
    let full = sized in
    add-late (of a.self) full.0 full.1 (passed) a.a a.b c.place_in-j.result
    c.place_in-j.ensures a.level c.link_refusal-own.result (own) in
    let a = c.args in
    answer-refused (add_refusal a.a a.b a.level (of a.self)) c.link_refusal-own.result (of a.self) _
    (late) c.if-own-ne0.true

pub longer-requires : goal.longer-requires
longer-requires c =
    let own : c.link_refusal-own.result
    ≡ first_of
    ((
      6,
      leb 1024 c.args.self.links,
    )
    ∷ (
      16,
      not (in_range c.args.level),
    )
    ∷ (
      7,
      leb c.args.self.units c.args.a || leb c.args.self.units c.args.b,
    )
    ∷ (
      8,
      eqb c.args.a c.args.b,
    )
    ∷ (
      9,
      ltb c.place_in-j.result
          c.args.self.links,
    )
    ∷ []) = rw (to_z-of_z w16 c.args.level c.ranges.level) at c.link_refusal-own.ensures in
    let a = c.args in
    link-few a.self.links c.link_refusal-own.result (not (in_range a.level))
    (leb a.self.units a.a || leb a.self.units a.b) (eqb a.a a.b)
    (ltb c.place_in-j.result a.self.links) (own) c.if-own-ne0.false

pub returns : goal.returns
unfolding add_answer
returns c =
    let sized : (length
    c.args.self.ends ≡ 2048)
    × (length c.args.self.levels ≡ 1024) = search rules in
    let passed : given_refusal (of
    c.args.self) ≡ 0 = sym c.refusal-number.ensures ∙ c.if-number-ne0.false in
    let own : c.link_refusal-own.result
    ≡ first_of
    ((
      6,
      leb 1024 c.args.self.links,
    )
    ∷ (
      16,
      not (in_range c.args.level),
    )
    ∷ (
      7,
      leb c.args.self.units c.args.a || leb c.args.self.units c.args.b,
    )
    ∷ (
      8,
      eqb c.args.a c.args.b,
    )
    ∷ (
      9,
      ltb c.place_in-j.result
          c.args.self.links,
    )
    ∷ []) = rw (to_z-of_z w16 c.args.level c.ranges.level) at c.link_refusal-own.ensures in
    let late : c.link_refusal-own.result
    ≡ add_refusal c.args.a c.args.b c.args.level (of c.args.self) = let a = c.args in
    let full = sized in
    add-late (of a.self) full.0 full.1 (passed) a.a a.b c.place_in-j.result
    c.place_in-j.ensures a.level c.link_refusal-own.result (own) in
    let a = c.args in
    rw (c.longer.ensures, to_z-of_z w16 a.level c.ranges.level)
    (answer-made (add_refusal a.a a.b a.level (of a.self)) 0 (of a.self) _ (sym c.if-own-ne0.false
    ∙ late) refl)
