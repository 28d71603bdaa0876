-- From a load: the site that it draws, and that the loaded state is at the start of stage 1.
use Rattle.std.specs.Prelude.{◌≡◌, refl, ◌⊎◌, ◌↔◌, List, ◌++◌, ℕ, ◌+◌, ◌*◌, ◌≤◌, ◌<◌, length, drop}
use Rattle.std.proofs.Common.{sym, ap, ◌∙◌, inr, arith}
use Rattle.std.proofs.Math.Logic.{inl}
use Rattle.std.proofs.Math.ListN.{get_or-replicate, get_or-append}
use Rattle.table.specs.Table.{link_count, end_a, end_b, stored_refusal}
use Rattle.table.proofs.Passes.{Passes, passes, table-alone}
use Rattle.spec_rules.specs.Basics.{ABSENT, at}
use Rattle.theory_graph.specs.Rings.{SameLink}
use Rattle.spec_machine.specs.State.{State}
use Rattle.spec_machine.specs.State.{units, links}
use Rattle.spec_machine.specs.Load.{Input, stored_load_refusal, absents, zeros, ends_of, begun, loaded}
use Rattle.theory_reach.specs.Site.{Site, Link}
use Rattle.theory_reach.specs.Sized.{loaded-sized}
use Rattle.theory_reach.specs.Invariant.{Base, Fresh, In1, Reached, in1}

module _ (input : Input) (e : stored_load_refusal input ≡ 0) where
  p : Passes input.units input.words
  p = passes input.units input.words (table-alone input.units input.words input.levels e)

  -- the ends in the state's array are the table's
  pub end-a : (j : ℕ) → j < link_count input.words → end_a (ends_of input.words) j ≡ end_a input.words j
  end-a j l = get_or-append input.words (drop (length input.words) (absents 2048)) 0 (2 * j)
      (omega (arith, p.pairs))

  pub end-b : (j : ℕ) → j < link_count input.words → end_b (ends_of input.words) j ≡ end_b input.words j
  end-b j l = get_or-append input.words (drop (length input.words) (absents 2048)) 0 (2 * j + 1)
      (omega (arith, p.pairs))

  -- so a link of the state is a link of the table
  pub same-links : (u v : ℕ) → Link (link_count input.words) (ends_of input.words) u v
      ↔ Link (link_count input.words) input.words u v
  same-links u v = (
    λ (j, l, s). (j, l, rw (end-a j l, end-b j l) at s),
    λ (j, l, s). (j, l, rw (end-a j l, end-b j l) s),
  )

  pub site-loaded : Site input.units (link_count input.words) (ends_of input.words)
  site-loaded =
      record {
        some_unit = p.some_unit;
        few_units = p.few_units;
        few_links = p.few_links;
        below_a = λ j l. rw (end-a j l) (p.ends_exist (2 * j) (omega (arith, p.pairs)));
        below_b = λ j l. rw (end-b j l) (p.ends_exist (2 * j + 1) (omega (arith, p.pairs)));
        differ = λ j l q. p.ends_differ j l (sym (end-a j l) ∙ q ∙ end-b j l);
        once = λ j k d lj lk s. p.once j k d lj lk (rw (end-a j lj, end-b j lj, end-a k lk, end-b k lk) at s);
      }

  -- the site over the table's own words
  pub site-words : Site input.units (link_count input.words) input.words
  site-words =
      record {
        some_unit = p.some_unit;
        few_units = p.few_units;
        few_links = p.few_links;
        below_a = λ j l. p.ends_exist (2 * j) (omega (arith, p.pairs));
        below_b = λ j l. p.ends_exist (2 * j + 1) (omega (arith, p.pairs));
        differ = λ j l q. p.ends_differ j l q;
        once = λ j k d lj lk s. p.once j k d lj lk s;
      }

  pub base-loaded : Base (loaded input)
  unfolding loaded begun
  base-loaded = record { site = site-loaded; sized = loaded-sized input }

  pub absent-at : (v : ℕ) → v < input.units → at (absents 256) v ≡ ABSENT
  unfolding absents
  absent-at v l = get_or-replicate 256 v ABSENT 0 (omega (arith, p.few_units))

  pub reached-loaded : Reached (loaded input)
  unfolding loaded begun
  reached-loaded =
      in1 (record {
        stage = refl;
        quiet = refl;
        plan = inl refl;
        fresh = record { parents = absent-at; distances = absent-at };
        colors = inl refl;
      })
