-- One round of stage 2 on the tables that it changes, and that it is a step of the state.
use Rattle.std.specs.Prelude.{◌≡◌, refl, Bool, true, false, cond, not, ◌&&◌, ◌||◌, ◌≢◌, List, ℕ, ◌+◌, eqb, ℤ}
use Rattle.std.proofs.Common.{ap, arith, ne_eqb}
use Rattle.spec_rules.specs.Tree.{parent_round, dist_round, tree_ends}
use Rattle.spec_rules.specs.Planned.{planned_parents, planned_dists}
use Rattle.spec_rules.specs.Fits.{links_fit}
use Rattle.spec_machine.specs.State
use Rattle.spec_machine.specs.State.{State, units, links}
use Rattle.spec_machine.specs.Step
use Rattle.spec_machine.specs.Step.{next_clock}
use Rattle.spec_machine.specs.InStage.{in_stage, last_at}
use Rattle.spec_machine.specs.StageSteps.{Stage, step_by, on-links}
use Rattle.stage02_tree.specs.declared.Ran.{Ran}

-- the stage makes a round: its links fit, and the clock stands in it
abbrev pub on : ℕ → ℕ → List ℕ → Ran → Bool
on n m ends x = links_fit n m ends && in_stage n 2 x.clock

-- a tree of the planner's is taken over where one is given (document 02, T-05)
abbrev taken : ℕ → Bool
taken given = not (eqb given 0)

unfoldable pub parents_after : ℕ → ℕ → ℕ → ℕ → List ℕ → List ℕ → List ℤ → List ℕ → List ℕ → List ℕ → List ℕ
parents_after n m made given plan ends levels color dist parent =
    cond (taken given) (planned_parents n plan parent) (parent_round n m made ends levels color dist parent)

unfoldable pub dists_after : ℕ → ℕ → ℕ → ℕ → List ℕ → List ℕ → List ℤ → List ℕ → List ℕ → List ℕ
dists_after n m made given plan ends levels color dist =
    cond (taken given) (planned_dists n plan color dist) (dist_round n m made ends levels color dist)

unfoldable pub ends_after : ℕ → ℕ → ℕ → ℕ → List ℕ → List ℤ → List ℕ → List ℕ → Bool
ends_after n m made given ends levels color dist = taken given || tree_ends n m made ends levels color dist

module _ (n m made given : ℕ) (plan ends : List ℕ) (levels : List ℤ) (color dist parent : List ℕ) where
  pub after-plan : given ≢ 0
      → (planned_parents n plan parent ≡ parents_after n m made given plan ends levels color dist parent)
      × ((planned_dists n plan color dist ≡ dists_after n m made given plan ends levels color dist)
      × (true ≡ ends_after n m made given ends levels color dist))
  unfolding parents_after dists_after ends_after
  after-plan h = rw (ne_eqb given 0 h) (refl, (refl, refl))

  pub after_search : given ≡ 0
      → (parent_round n m made ends levels color dist parent
      ≡ parents_after n m made given plan ends levels color dist parent)
      × ((dist_round n m made ends levels color dist ≡ dists_after n m made given plan ends levels color dist)
      × (tree_ends n m made ends levels color dist ≡ ends_after n m made given ends levels color dist))
  unfolding parents_after dists_after ends_after
  after_search e = rw e (refl, (refl, refl))

unfoldable pub one : ℕ → ℕ → ℕ → List ℕ → List ℕ → List ℤ → List ℕ → Ran → Ran
one n m given plan ends levels color x =
    record {
      parent = parents_after n m x.clock.made given plan ends levels color x.dist x.parent;
      dist = dists_after n m x.clock.made given plan ends levels color x.dist;
      clock = next_clock (last_at n (ends_after n m x.clock.made given ends levels color x.dist) x.clock) 0
          x.clock;
      made = x.made + 1;
    }

-- the state with these tables and clock
abbrev pub into : State → Ran → State
into s x = State.with_clock x.clock (State.with_tree (record { parent = x.parent; dist = x.dist }) s)

-- either tree, table by table
tree-either : (s : State)
    → State.with_tree
    (record {
      parent = parents_after (units s) (links s) s.clock.made s.plan.given s.plan.parent s.table.ends
          s.table.levels s.components.color s.tree.dist s.tree.parent;
      dist = dists_after (units s) (links s) s.clock.made s.plan.given s.plan.parent s.table.ends
          s.table.levels s.components.color s.tree.dist;
    })
    s
    ≡ Step.tree s
unfolding parents_after dists_after Step.tree Step.tree_planned Step.tree_searched
tree-either s = go (taken s.plan.given)
  where
    go : (b : Bool)
        → State.with_tree
        (record {
          parent = cond b (planned_parents (units s) s.plan.parent s.tree.parent)
              (parent_round (units s) (links s) s.clock.made s.table.ends s.table.levels
              s.components.color s.tree.dist s.tree.parent);
          dist = cond b (planned_dists (units s) s.plan.parent s.components.color s.tree.dist)
              (dist_round (units s) (links s) s.clock.made s.table.ends s.table.levels s.components.color
              s.tree.dist);
        })
        s
        ≡ cond b (Step.tree_planned s) (Step.tree_searched s)
    go true = refl
    go false = refl

pub stage : (s : State)
    → Stage 2 (units s) (links_fit (units s) (links s) s.table.ends) (λ (x : Ran). x.clock)
    (one (units s) (links s) s.plan.given s.plan.parent s.table.ends s.table.levels
    s.components.color) (λ (x : Ran). x.made) (into s)
unfolding one last_at ends_after
stage s =
    on-links s (omega arith) (λ x. refl) (λ x. refl) (λ x. refl)
    (λ x w e. rw (step_by 2 tt (into s x) e) (ap (State.with_clock _) (tree-either (into s x))))
