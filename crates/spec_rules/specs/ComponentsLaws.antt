-- Stage 1 as a loop over the links makes it.
use Rattle.std.specs.Prelude.{◌≡◌, refl, Bool, true, false, cond, List, ℕ, ◌+◌, ◌<◌, eqb}
use Rattle.std.proofs.Common.{add-one}
use Rattle.base_lists.specs.Tables.{over, over-over}
use Rattle.base_lists.specs.Rounds.{over-same}
use Rattle.base_lists.specs.Scatter.{fold_again}
use Rattle.table.specs.Table.{end_a, end_b}
use Rattle.spec_rules.specs.Basics.{at, heard}
use Rattle.spec_rules.specs.HeardLaws.{hears, hears-over}
use Rattle.spec_rules.specs.Components.{least_heard, color_said, color_round}

-- before any link each unit has heard itself
pub heard-none : (n : ℕ) (ends said : List ℕ) → said ≡ over n (least_heard 0 ends said) said
unfolding least_heard
heard-none n ends said = over-same 0 n _ said (λ (v : ℕ) (l : v < n). refl)

-- one link more
pub heard-more : (n j : ℕ) (ends said t new : List ℕ) → t ≡ over n (least_heard j ends said) said
    → new ≡ hears false n said (end_a ends j) (end_b ends j) t → new ≡ over n (least_heard (j + 1) ends said) said
unfolding least_heard
heard-more n j ends said t new was put =
    rw (put, was, add-one j)
    (hears-over false n said (end_a ends j) (end_b ends j) (least_heard j ends said) said
    (λ (v : ℕ). fold_again false j (λ (k : ℕ). heard said (end_a ends k) (end_b ends k) v) (at said v)))

-- what was said differs from the old values below n only, so a table over it is one over them
pub over-said : (test : Bool) (n : ℕ) (f : ℕ → ℕ) (old : List ℕ) →
    over n f (cond test (over n (λ (v : ℕ). v) old) old) ≡ over n f old
over-said true n f old = over-over n f (λ (v : ℕ). v) old
over-said false n f old = refl

pub color_round_lem : (n m made : ℕ) (ends color said : List ℕ) → said ≡ color_said n made color
    → over n (least_heard m ends said) said ≡ color_round n m made ends color
unfolding color_round
color_round_lem n m made ends color said e =
    rw e (over-said (eqb made 0) n (least_heard m ends (color_said n made color)) color)
