-- T-14, "the sum over all labels": `spec_machine/Parts.parts` sums over the positions that are their own label. Of a
-- finished survey these are exactly the labels that its links carry, each once.
use Rattle.std.specs.Prelude.{◌≡◌, true, ◌↔◌, ℕ, ◌<◌}
use Rattle.std.proofs.Common.{sym, ap, ◌∙◌, eqb-true, eq-eqb}
use Rattle.spec_machine.specs.Parts.{is_label}
use Rattle.spec_machine.specs.State.{State}
use Rattle.spec_machine.specs.Load.{Input, links_in}
use Rattle.spec_machine.specs.Report.{link_label}
use Rattle.theory_reach.specs.Reach.{SurveyRight}

pub record LabelsCarried (input : Input) (e : State) : Type 0 where
  -- every label is a position
  pub below : (k : ℕ) → k < links_in input → link_label e k < links_in input
  -- a position is its own label exactly where some link carries it as its label
  pub carried : (j : ℕ) → j < links_in input →
      (is_label e.labels.label j ≡ true) ↔ ((k : ℕ) × (k < links_in input) × (link_label e k ≡ j))

pub labels-carried : (input : Input) (e : State) → SurveyRight input e → LabelsCarried input e
labels-carried input e right =
    record {
      below = λ k l. (right.firsts k l).0;
      carried = λ j l. (
        λ t. (j, l, eqb-true (link_label e j) j t),
        λ (k, h, q). eq-eqb (link_label e j) j (ap (link_label e) (sym q) ∙ (right.firsts k h).1 ∙ q),
      );
    }
