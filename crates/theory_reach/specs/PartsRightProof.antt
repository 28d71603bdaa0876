-- The proof of PartsRight: of a finished state the tree, its classes and its colours are still there.
use Rattle.std.specs.Prelude.{◌≡◌, ◌↔◌, List, ℕ, ◌+◌, ◌≤◌, ◌<◌}
use Rattle.std.proofs.Common.{ap, ◌∙◌, arith}
use Rattle.spec_rules.specs.Basics.{at}
use Rattle.theory_graph.specs.Rings.{Connected}
use Rattle.theory_graph.specs.Walks.{walk_map}
use Rattle.theory_graph.specs.Routes.{connected_refl}
use Rattle.spec_state.specs.declared.groups.Table.{Table}
use Rattle.spec_machine.specs.State.{State, units, links, FINISHED}
use Rattle.spec_machine.specs.Load.{Input, links_in, ends_of, table_of}
use Rattle.spec_machine.specs.Step
use Rattle.spec_machine.specs.Report.{unit_color}
use Rattle.theory_reach.specs.Site.{Link}
use Rattle.theory_reach.specs.Colors.{Colored}
use Rattle.theory_reach.specs.Invariant.{Base, In11, Reached, in1, in2, in3, in4, in5, in6, in7, in8, in9, in10}
use Rattle.theory_reach.specs.Invariant.{in11}
use Rattle.theory_reach.specs.Loaded.{same-links}
use Rattle.theory_reach.specs.PartsAddUp.{parts-add_up}
use Rattle.theory_reach.specs.Reach.{base-steps, reached-steps, table-steps}
use Rattle.theory_reach.specs.Started.{Started}
use Rattle.theory_reach.specs.PartsRight.{parts_of, groups_of, PartsRight}

-- a route over one set of links is one over another that has them
connected-more : (E F : ℕ → ℕ → Type 0) → ((u v : ℕ) → E u v → F u v) → (a b : ℕ) → Connected E a b → Connected F a b
connected-more E F more a b c = (c.0, (walk_map E F a c.0 (λ x y s e. more x y e) c.1.0, c.1.1))

last-stage : (s : State) → Reached s → s.clock.stage ≡ FINISHED → In11 s
last-stage s (in1 i) f = absurd (omega (arith, i.stage))
last-stage s (in2 i) f = absurd (omega (arith, i.stage))
last-stage s (in3 i) f = absurd (omega (arith, i.stage))
last-stage s (in4 i) f = absurd (omega (arith, i.stage))
last-stage s (in5 i) f = absurd (omega (arith, i.stage))
last-stage s (in6 i) f = absurd (omega (arith, i.stage))
last-stage s (in7 i) f = absurd (omega (arith, i.stage))
last-stage s (in8 i) f = absurd (omega (arith, i.stage))
last-stage s (in9 i) f = absurd (omega (arith, i.stage))
last-stage s (in10 i) f = absurd (omega (arith, i.stage))
last-stage s (in11 i) f = i

sum_of : (s : State) → Base s → In11 s → parts_of s + groups_of s ≡ units s
sum_of s b i =
    parts-add_up b.site i.numbered.treed.rooted i.numbered.ordered i.classes s.labels.class
    s.labels.label i.named i.labelled

-- a unit equals its colour exactly where it is the least of those linked up with it
least-of : {n m : ℕ} {ends color : List ℕ} → Colored n m ends color → (v : ℕ) → v < n
    → (at color v ≡ v) ↔ ((w : ℕ) → Connected (Link m ends) v w → v ≤ w)
least-of {m = m} {ends = ends} {color = color} c v l = (
  λ e w k. let h : at color v ≤ w = c.lowest v w l k in omega (arith, e, h),
  λ h. let a : v ≤ at color v = h (at color v) (c.reached v l) in let b : at color v ≤ v =
      c.lowest v v l (connected_refl (Link m ends) v) in omega arith,
)

module _ {input : Input} {s₀ : State} (S : Started input s₀) where
  over-words : (s : State) → s.table ≡ table_of input → Base s → In11 s → PartsRight input s
  over-words s e b i =
      record {
        sum = sum_of s b i ∙ ap (λ (t : Table). t.units) e;
        components = λ v l.
            let q = least-of i.numbered.treed.colored v (rw e l) in
            let there = connected-more (Link (links_in input) (ends_of input.words))
            (Link (links_in input) input.words) (λ x y k. (same-links input S.accepted x y).0 k) in
            let back = connected-more (Link (links_in input) input.words)
            (Link (links_in input) (ends_of input.words)) (λ x y k. (same-links input S.accepted x y).1 k) in
            (λ x w k. (rw e at (q.0 x)) w (back v w k), λ h. q.1 (rw e (λ w k. h w (there v w k))));
      }

  -- whenever it is finished
  pub parts-right : (k : ℕ) → (Step.steps k s₀).clock.stage ≡ FINISHED → PartsRight input (Step.steps k s₀)
  parts-right k f =
      over-words (Step.steps k s₀) (table-steps S k) (base-steps S k)
      (last-stage (Step.steps k s₀) (reached-steps S k) f)
