-- A finished survey's labels, lone links and single points are the graph's, and the graph has no levels.
use Rattle.std.specs.Prelude.{◌≡◌, refl, Bool, true, false, ◌↔◌, List, ℕ, zero, suc, ◌≤◌, ◌<◌, ℤ, length, replicate}
use Rattle.std.proofs.Common.{sym, ap, ◌∙◌, le_antisymm, eq-eqb}
use Rattle.std.proofs.Math.Decide.{ℕ_discrete}
use Rattle.std.proofs.lemmas.List.{length-replicate}
use Rattle.base_lists.specs.Folds.{every}
use Rattle.base_lists.specs.Tests.{same_test}
use Rattle.table_levels.specs.Level.{LOWEST, in_range}
use Rattle.table.specs.Table.{link_count, levels_differ, count_refusal, level_refusal}
use Rattle.table.specs.TableLaws.{levels-passed, table-counts, table-ends}
use Rattle.table.proofs.Passes.{table-levelled, table-range}
use Rattle.spec_machine.specs.State.{State}
use Rattle.spec_machine.specs.Load.{bare, stored_load_refusal, begun, loaded}
use Rattle.spec_machine.specs.Report.{link_label}
use Rattle.theory_reach.specs.Started.{loaded-started}
use Rattle.theory_reach.specs.Reach.{SurveyRight, end-right}
use Rattle.theory_reach.specs.AnyLevels.{with_levels, Alike, AnyLevels, WithoutLevels}

-- two tests that decide one thing
agree : {P : Type 0} (a b : Bool) → (a ≡ true) ↔ P → (b ≡ true) ↔ P → a ≡ b
agree a b p q = same_test a b (λ e. q.1 (p.0 e)) (λ e. p.1 (q.0 e))

module _ (n : ℕ) (words : List ℕ) (one two : List ℤ) (e f : State)
    (p : SurveyRight (with_levels n words one) e) (q : SurveyRight (with_levels n words two) f) where
  -- the least position of a class in one survey is in that class in the other
  label_below : (j : ℕ) → j < link_count words → link_label f j ≤ link_label e j
  label_below j l = go (ℕ_discrete (link_label e j) j)
    where
      k : ℕ
      k = link_label e j

      below : k < link_count words
      below = (p.firsts j l).0

      go : Dec (k ≡ j) → link_label f j ≤ k
      go (yes i) = (q.firsts j l).2 k below (ap (link_label f) i)
      go (no i) = (q.firsts j l).2 k below ((q.labels k j below l i).1 ((p.labels k j below l i).0 (p.firsts j l).1))

pub both-alike : (n : ℕ) (words : List ℕ) (one two : List ℤ) (e f : State)
    → SurveyRight (with_levels n words one) e → SurveyRight (with_levels n words two) f → Alike n (link_count words) e f
both-alike n words one two e f p q =
    record {
      labels = λ j l. le_antisymm (label_below n words two one f e q p j l) (label_below n words one two e f p q j l);
      lones = λ j l. agree _ _ (p.lones j l) (q.lones j l);
      singles = λ u l. agree _ _ (p.singles u l) (q.singles u l);
    }

pub any-levels : AnyLevels
unfolding loaded begun
any-levels n words one two a b =
    record {
      countdowns = refl;
      ends = λ k l x y. both-alike n words one two _ _ (end-right (loaded-started (with_levels n words one) a) k x)
          (end-right (loaded-started (with_levels n words two) b) l y);
    }

-- ---- without levels

lowest-range : (k : ℕ) → every in_range (replicate k LOWEST) ≡ true
unfolding in_range
lowest-range zero = refl
lowest-range (suc k) = lowest-range k

module _ (n : ℕ) (words : List ℕ) (levels : List ℤ) (e : stored_load_refusal (with_levels n words levels) ≡ 0) where
  counts : count_refusal n words ≡ 0
  counts = go (ℕ_discrete (count_refusal n words) 0)
    where
      go : Dec (count_refusal n words ≡ 0) → count_refusal n words ≡ 0
      go (yes z) = z
      go (no z) = table-counts n words levels z ∙ e

  -- levels of which there are as many as links, all in range
  pass : (ls : List ℤ) → length ls ≡ link_count words → every in_range ls ≡ true → level_refusal words ls ≡ 0
  pass ls h r =
      let d : levels_differ words ls ≡ false = rw (eq-eqb (length ls) (link_count words) h) refl in
      sym (levels-passed words ls d r)

  bare-accepted : stored_load_refusal (bare n words) ≡ 0
  bare-accepted =
      sym (table-ends n words (replicate (link_count words) LOWEST) counts
      (pass (replicate (link_count words) LOWEST) (length-replicate (link_count words) LOWEST)
      (lowest-range (link_count words))))
      ∙ table-ends n words levels counts (pass levels (table-levelled n words levels e) (table-range n words levels e))
      ∙ e

pub without-levels : WithoutLevels
without-levels n words levels e = (
  bare-accepted n words levels e,
  any-levels n words levels (bare n words).levels e (bare-accepted n words levels e),
)
