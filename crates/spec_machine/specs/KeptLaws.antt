-- Laws by which the code that judges a state goes.
use Rattle.std.specs.Prelude.{◌≡◌, refl, Bool, true, false, ◌&&◌, List, [], ◌∷◌, ◌++◌, ℕ, ◌*◌, ◌≤◌, min}
use Rattle.std.proofs.Common.{sym, ap, ◌∙◌, arith}
use Rattle.std.proofs.Math.Bool.{and-true}
use Rattle.base_lists.specs.All.{every-exact, every_append}
use Rattle.base_lists.specs.Folds.{every}
use Rattle.table_levels.specs.Level.{in_range}
use Rattle.table.proofs.Passes.{passes}
use Rattle.spec_rules.specs.Fits.{links_fit, within-fit}
use Rattle.spec_rules.specs.Bounds.{name_ok, number_ok, dist_ok}
use Rattle.spec_rules.specs.BoundLaws.{Names, name-exact}
use Rattle.spec_machine.specs.State.{State}
use Rattle.spec_machine.specs.State.{units, links, words}
use Rattle.spec_rules.specs.Ceilings as Ceilings
use Rattle.spec_machine.specs.Step.{countdown}
use Rattle.spec_machine.specs.WellFormed.{arc_tables, number_tables, table_ok, clock_ok, entries_ok, well_formed}
use Rattle.spec_machine.specs.Kept.{Kept, kept-exact}

-- a well-formed state has at most 256 units, so that its countdown is what the code counts
pub kept-countdown : (s : State) → well_formed s ≡ true →
    Ceilings.countdown (min (units s) 256) s.clock.stage s.clock.made ≡ countdown s
kept-countdown s w =
    let few : units s ≤ 256 = (passes (units s) (words s) ((kept-exact s).0 w).passes).few_units in
    let all : min (units s) 256 ≡ units s = omega (arith, few) in
    rw all refl

-- the tables of units after the ends, and the tables of numbers in three groups: what the code judges together
abbrev other_unit_tables : State → List (List ℕ)
other_unit_tables s = s.components.color ∷ s.tree.parent ∷ s.aux.color ∷ s.labels.class ∷ s.plan.parent ∷ []

abbrev sum_tables : State → List (List ℕ)
sum_tables s = s.ranking.sum ∷ s.order.forward ∷ s.order.nd ∷ s.order.pre ∷ []

abbrev range_tables : State → List (List ℕ)
range_tables s = s.range.low ∷ s.range.high ∷ s.range.little ∷ s.range.big ∷ []

abbrev join_tables : State → List (List ℕ)
join_tables s = s.global.low ∷ s.global.high ∷ s.aux.parents ∷ s.aux.links ∷ []

numbers-parts : (s : State)
    → every (every number_ok) (number_tables s)
    ≡ (every (every number_ok) (sum_tables s)
    && (every (every number_ok) (range_tables s) && every (every number_ok) (join_tables s)))
numbers-parts s =
    every_append (every number_ok) (sum_tables s) (range_tables s ++ join_tables s)
    ∙ ap (λ (b : Bool). every (every number_ok) (sum_tables s) && b)
    (every_append (every number_ok) (range_tables s) (join_tables s))

entries-parts : (s : State)
    → (every (name_ok (units s)) s.table.ends
    && every (every (name_ok (units s))) (other_unit_tables s)
    && every (every (name_ok (2 * units s))) (arc_tables s)
    && every (name_ok (links s)) s.labels.label
    && every dist_ok s.tree.dist
    && (every (every number_ok) (sum_tables s)
    && (every (every number_ok) (range_tables s) && every (every number_ok) (join_tables s)))
    && every in_range s.table.levels
    && number_ok s.plan.given)
    ≡ entries_ok s
unfolding entries_ok
entries-parts s =
    rw (
      numbers-parts s,
      and-true (every (name_ok (links s)) s.labels.label),
      and-true (every dist_ok s.tree.dist),
    ) refl

-- the links of a well-formed state fit
pub links-fit : (s : State) → well_formed s ≡ true → links_fit (units s) (links s) s.table.ends ≡ true
links-fit s w =
    let k : Kept s = (kept-exact s).0 w in
    within-fit (units s) (links s) s.table.ends k.few (passes (units s) (words s) k.passes).ends_exist

-- its parents are units or absent
pub parents-fit : (s : State) → well_formed s ≡ true → every (name_ok (units s)) s.tree.parent ≡ true
parents-fit s w =
    let k : Kept s = (kept-exact s).0 w in
    (every-exact (name_ok (units s)) (Names (units s)) (name-exact (units s)) s.tree.parent).1 k.unit_names.1.1.0

-- the whole test, part by part: a front that fails,
pub kept-front : (s : State) → (table_ok (units s) (links s) s.table.ends && clock_ok (units s) s.clock) ≡ false →
    well_formed s ≡ false
unfolding well_formed
kept-front s e = rw e refl

-- and one that passes, with the entries by what they are
pub kept-parts : (s : State) (e f a l d n1 n2 n3 v g x1 x2 x3 x4 x5 x6 x7 x8 r : Bool) →
    (table_ok (units s) (links s) s.table.ends && clock_ok (units s) s.clock) ≡ true
    → e ≡ every (name_ok (units s)) s.table.ends
    → f ≡ every (every (name_ok (units s))) (other_unit_tables s)
    → a ≡ every (every (name_ok (2 * units s))) (arc_tables s)
    → l ≡ every (name_ok (links s)) s.labels.label
    → d ≡ every dist_ok s.tree.dist
    → n1 ≡ every (every number_ok) (sum_tables s)
    → n2 ≡ every (every number_ok) (range_tables s)
    → n3 ≡ every (every number_ok) (join_tables s)
    → v ≡ every in_range s.table.levels
    → g ≡ number_ok s.plan.given
    → x1 ≡ (e && f) → x2 ≡ (x1 && a) → x3 ≡ (x2 && l) → x4 ≡ (x3 && d) → x5 ≡ (n2 && n3) → x6 ≡ (n1 && x5) →
    x7 ≡ (x4 && x6) → x8 ≡ (x7 && v) → r ≡ (x8 && g)
    → r ≡ well_formed s
unfolding well_formed
kept-parts s e f a l d n1 n2 n3 v g x1 x2 x3 x4 x5 x6 x7 x8 r front he hf ha hl hd h1 h2 h3 hv hg y1 y2 y3 y4 y5 y6 y7
    y8 y9 =
    rw (y9, y8, y7, y6, y5, y4, y3, y2, y1) (rw (he, hf, ha, hl, hd, h1, h2, h3, hv, hg) (rw front (entries-parts s)))
