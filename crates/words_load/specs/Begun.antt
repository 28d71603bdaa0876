-- A state with the groups of a load, in two halves.
use Rattle.spec_machine.specs.State
use Rattle.spec_machine.specs.State.{State}
use Rattle.spec_machine.specs.Load.{blank_components, blank_plan, blank_tree, blank_tour, blank_ranking, blank_order}
use Rattle.spec_machine.specs.Load.{blank_range, blank_global, blank_aux, blank_labels}

abbrev pub front_begun : State → State
front_begun s =
    State.with_plan blank_plan
    (State.with_order blank_order
    (State.with_ranking blank_ranking (State.with_tour blank_tour
    (State.with_tree blank_tree (State.with_components blank_components s)))))

abbrev pub back_begun : State → State
back_begun s = State.with_labels blank_labels
    (State.with_aux blank_aux (State.with_global blank_global (State.with_range blank_range s)))
