-- The table of every kept state, whether or not a load reaches it, is a site: what is made from the links alone is
-- right for each of them.
use Rattle.std.specs.Prelude.{◌≡◌, List, ℕ, ◌+◌, ◌*◌, ◌<◌, length}
use Rattle.std.proofs.Common.{sym, ◌∙◌, arith, get_or-take, length-take-le}
use Rattle.table.specs.Table.{link_count, end_a, end_b}
use Rattle.table.proofs.Passes.{Passes, passes}
use Rattle.spec_machine.specs.State.{State, units, links, words}
use Rattle.spec_machine.specs.Kept.{Kept}
use Rattle.theory_reach.specs.Site.{Site}

pub kept_site : (s : State) → length s.table.ends ≡ 2048 → Kept s → Site (units s) (links s) s.table.ends
kept_site s full k =
    record {
      some_unit = p.some_unit;
      few_units = p.few_units;
      few_links = k.few;
      below_a = λ j l. rw (end-a j l) at (p.ends_exist (2 * j) (omega (arith, long)));
      below_b = λ j l. rw (end-b j l) at (p.ends_exist (2 * j + 1) (omega (arith, long)));
      differ = λ j l q. p.ends_differ j (within j l) (end-a j l ∙ q ∙ sym (end-b j l));
      once = λ j i d lj li q. p.once j i d (within j lj) (within i li)
          (rw (end-a j lj, end-b j lj, end-a i li, end-b i li) q);
    }
  where
    p : Passes (units s) (words s)
    p = passes (units s) (words s) k.passes

    long : length (words s) ≡ 2 * links s
    long = length-take-le (2 * links s) s.table.ends (omega (arith, k.few, full))

    within : (j : ℕ) → j < links s → j < link_count (words s)
    within j l = omega (arith, long)

    end-a : (j : ℕ) → j < links s → end_a (words s) j ≡ end_a s.table.ends j
    end-a j l = get_or-take (2 * links s) s.table.ends (2 * j) 0 (omega arith)

    end-b : (j : ℕ) → j < links s → end_b (words s) j ≡ end_b s.table.ends j
    end-b j l = get_or-take (2 * links s) s.table.ends (2 * j + 1) 0 (omega arith)
