-- Stage 1 as rounds of the least value over the links.
use Rattle.std.specs.Prelude.{◌≡◌, refl, true, ◌&&◌, List, ℕ}
use Rattle.std.proofs.Math.Path.{sym}
use Rattle.std.proofs.Common.{arith}
use borrow.Author.Tests.{eq-eqb, ne_eqb}
use Rattle.base_lists.specs.Tables.{over}
use Rattle.base_lists.specs.Tests.{refuted, and_right, and-true}
use Rattle.spec_rules.specs.Components.{color_ends}
use Rattle.spec_rules.specs.ComponentsLaws.{color_round_lem}
use Rattle.spec_rules.specs.Fits.{links_fit}
use Rattle.spec_state.specs.declared.groups.Clock.{Clock}
use Rattle.spec_machine.specs.InStage.{in_stage, stands}
use Rattle.leap_least.specs.Leapt.{Spreads}
use Rattle.stage01_components.specs.declared.Ran.{Ran}
use Rattle.stage01_components.specs.Rounds.{on, one}

-- the values, the clock and the rounds made
abbrev pub ran : List ℕ → Clock → ℕ → Ran
ran color c made = record { color = color; clock = c; made = made }

-- what the units say in the first round
abbrev pub numbers : ℕ → List ℕ → List ℕ
numbers n color = over n (λ (v : ℕ). v) color

-- any values will do
abbrev pub Any : List ℕ → Type 0
Any color = ⊥ → ⊥

module _ (n m : ℕ) (ends : List ℕ) where
  pub spreads : links_fit n m ends ≡ true → Spreads ran (on n m ends) (one n m ends) n m 1 ends (numbers n) Any
  unfolding one color_ends
  spreads fit =
      record {
        from = omega arith;
        to = omega arith;
        runs = λ color c made inside. and-true (links_fit n m ends) (in_stage n 1 c) fit inside;
        rests = λ color c made e. refuted (links_fit n m ends && in_stage n 1 c)
            (λ t. omega (arith, e, stands n 1 c (and_right (links_fit n m ends) (in_stage n 1 c) t)));
        first = λ color c made e fine. rw (
          sym (color_round_lem n m c.made ends color (numbers n color) (rw e refl)),
          eq-eqb c.made 0 e,
        ) refl;
        later = λ color c made h fine. rw (
          sym (color_round_lem n m c.made ends color color (rw (ne_eqb c.made 0 h) refl)),
          ne_eqb c.made 0 h,
        ) refl;
        keeps = λ color fine. fine;
      }
