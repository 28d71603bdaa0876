-- A table that passes still passes without one of its links.
use Rattle.std.specs.Prelude.{◌≡◌, List, ℕ, ◌+◌, ◌-◌, ◌*◌, ◌<◌, length, get_or, ℤ}
use Rattle.std.proofs.Common.{sym, ◌∙◌, inl, inr, arith}
use Rattle.std.proofs.Math.Decide.{dec_lt}
use Rattle.base_lists.specs.All.{every-at}
use Rattle.table_levels.specs.Level.{HIGHEST, in_range}
use Rattle.table_levels.specs.LevelLaws.{range-exact}
use Rattle.table.proofs.Passes.{Passes, passes, table-alone, table-levelled, table-range}
use Rattle.table.specs.RefusalLaws.{SomeCause}
use Rattle.table.specs.Table.{link_count, stored_refusal}
use Rattle.table.specs.TableCauses.{stored_reasons}
use Rattle.spec_machine.specs.Load.{Input, links_in}
use Rattle.live_table.specs.Live.{without, less_link}
use Rattle.live_table.specs.LiveCalls.{open_refusal}
use Rattle.live_table.specs.PassedLaws.{passes_none}
use Rattle.live_table.specs.WithoutLaws.{length_without, moved, moved-few, moved_apart, length-less, links-less}
use Rattle.live_table.specs.WithoutLaws.{ends-moved, level-moved, without-before, without-after}

module _ (n : ℕ) (t : List ℕ) (ls : List ℤ) (e : stored_refusal n t ls ≡ 0) (j : ℕ) (h : j < link_count t) where
  abbrev less : List ℕ
  less = without (2 * j) 2 t

  abbrev fewer : List ℤ
  fewer = without j 1 ls

  whole : Passes n t
  whole = passes n t (table-alone n t ls e)

  levelled : length ls ≡ link_count t
  levelled = table-levelled n t ls e

  heard : j < length ls
  heard = omega (arith, levelled)

  one_less : length fewer ≡ length ls - 1
  one_less = length_without j 1 ls (omega (arith, heard))

  -- a word that is left stood in the table
  word-left : (i : ℕ) → i < length less → get_or less i 0 < n
  word-left i l = go (dec_lt i (2 * j))
    where
      go : Dec (i < 2 * j) → get_or less i 0 < n
      go (yes b) = rw (without-before (2 * j) 2 t (omega arith) i 0 b)
          (whole.ends_exist i (omega (arith, l, length-less t j h)))
      go (no b) = rw (without-after (2 * j) 2 t (omega arith) i 0 (omega arith))
          (whole.ends_exist (i + 2) (omega (arith, l, length-less t j h)))

  few : (k : ℕ) → k < link_count less → moved j k < link_count t
  few k l = moved-few j k (link_count t) h (omega (arith, l, links-less t j h))

  none : SomeCause (stored_reasons n less fewer) → ⊥
  unfolding stored_reasons
  none (inl (inl z)) = omega (arith, z, whole.some_unit)
  none (inl (inr l)) = omega (arith, l, whole.few_units)
  none (inr (inl w)) = omega (arith, w.1, length-less t j h, whole.pairs)
  none (inr (inr (inl l))) = omega (arith, l, links-less t j h, whole.few_links)
  none (inr (inr (inr (inl d)))) = d (omega (arith, one_less, levelled, links-less t j h))
  none (inr (inr (inr (inr (inl w))))) =
      w.2
      (rw (level-moved ls j heard w.0 HIGHEST)
      ((range-exact (get_or ls (moved j w.0) HIGHEST)).0
      (every-at in_range ls (moved j w.0) HIGHEST (table-range n t ls e)
      (moved-few j w.0 (length ls) heard (omega (arith, w.1, one_less))))))
  none (inr (inr (inr (inr (inr (inl w)))))) = omega (arith, w.2, word-left w.0 w.1)
  none (inr (inr (inr (inr (inr (inr (inl w))))))) =
      let m = ends-moved t j h w.0 in
      whole.ends_differ (moved j w.0) (few w.0 w.1) (sym m.0 ∙ w.2 ∙ m.1)
  none (inr (inr (inr (inr (inr (inr (inr (inl w)))))))) =
      let m = ends-moved t j h w.0 in
      let k = ends-moved t j h w.1 in
      whole.once (moved j w.0) (moved j w.1) (moved_apart j w.0 w.1 w.2) (few w.0 w.3)
      (few w.1 w.4)
      (rw (← m.0, ← m.1, ← k.0, ← k.1) w.5)
  none (inr (inr (inr (inr (inr (inr (inr (inr z)))))))) = elim z [ ]

  pub less-passes : stored_refusal n less fewer ≡ 0
  less-passes = passes_none n less fewer none

pub withdrawn-passes : (x : Input) (j : ℕ) → open_refusal x ≡ 0 → j < links_in x → open_refusal (less_link j x) ≡ 0
withdrawn-passes x j e h = less-passes x.units x.words x.levels e j h
