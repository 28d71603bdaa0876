-- T-14: the parts of a finished survey add up, whichever load it came from and whichever tree was used.
use Rattle.std.specs.Prelude.{◌≡◌, ◌↔◌, ℕ, ◌+◌, ◌≤◌, ◌<◌}
use Rattle.spec_machine.specs.Parts.{parts, groups}
use Rattle.theory_graph.specs.Rings.{Connected}
use Rattle.spec_machine.specs.State.{State, units, links}
use Rattle.spec_machine.specs.Load.{Input, links_in}
use Rattle.spec_machine.specs.Report.{unit_color}
use Rattle.theory_reach.specs.Site.{Link}

-- over all labels of a survey, the units that a label's links touch, less one; and its groups
abbrev pub parts_of : State → ℕ
parts_of e = parts (units e) (links e) e.table.ends e.labels.label

abbrev pub groups_of : State → ℕ
groups_of e = groups (units e) e.components.color

pub record PartsRight (input : Input) (e : State) : Type 0 where
  -- the sum over all labels is the units less the groups
  pub sum : parts_of e + groups_of e ≡ input.units
  -- the groups are the connected components: a unit is counted where it is the least of those linked up with it
  pub components : (v : ℕ) → v < input.units
      → (unit_color e v ≡ v) ↔ ((w : ℕ) → Connected (Link (links_in input) input.words) v w → v ≤ w)
