-- Over the joins of links, one after the other.
use Rattle.std.specs.Prelude.{◌≡◌, refl, Bool, cond, not, ◌||◌, List, ℕ, ◌+◌, ◌≤◌, ◌<◌, min, eqb, get_or, set}
use Rattle.std.proofs.Common.{sym, ◌∙◌, arith, eqb-true, lt-ltb}
use Rattle.std.proofs.Math.Bool.{false}
use Rattle.std.proofs.Math.Numerals.{add-one}
use Rattle.std.proofs.Math.Decide.{dec_lt}
use Rattle.std.proofs.lemmas.Bool.{not-false}
use Rattle.base_lists.specs.Tests.{or_false-left, or_false-right}
use Rattle.base_lists.specs.Tables.{over, over_cong}
use Rattle.base_lists.specs.Rounds.{over-same}
use Rattle.base_lists.specs.Scatter.{takes_in, fold_again}
use Rattle.table.specs.Table.{end_a, end_b}
use Rattle.spec_rules.specs.Basics.{at}
use Rattle.spec_rules.specs.HeardLaws.{hears, hears-over_if}
use Rattle.stage09_classes.specs.Absorbed.{least-rest}
use Rattle.stage09_classes.specs.Propagation.{heard_if, over_links}

module _ (n : ℕ) (ends marks said : List ℕ) where
  pub links-none : said ≡ over n (over_links 0 ends marks said) said
  unfolding over_links
  links-none = over-same 0 n (λ (v : ℕ). at said v) said (λ i l. refl)

  pub links-more : (j : ℕ) (t new : List ℕ) → t ≡ over n (over_links j ends marks said) said
      → new ≡ cond (not (eqb (at marks j) 0)) (hears false n said (end_a ends j) (end_b ends j) t) t
      → new ≡ over n (over_links (j + 1) ends marks said) said
  unfolding over_links
  links-more j t new was put =
      rw (put, was, add-one j)
      (hears-over_if (not (eqb (at marks j) 0)) false n said (end_a ends j) (end_b ends j)
      (over_links j ends marks said) said
      (λ (v : ℕ). fold_again false j (λ (i : ℕ). heard_if said (at marks i) (end_a ends i) (end_b ends i) v)
      (at said v)))

  unmarked : (mark a b v : ℕ) → mark ≡ 0 → heard_if said mark a b v ≡ at said v
  unmarked mark a b v e = rw e

  -- links that are not marked
  pub links-rest : (k m : ℕ) (t : List ℕ) → k ≤ m → ((i : ℕ) → k ≤ i → i < m → at marks i ≡ 0)
      → t ≡ over n (over_links k ends marks said) said → t ≡ over n (over_links m ends marks said) said
  unfolding over_links
  links-rest k m t l none was =
      was
      ∙ over_cong n (over_links k ends marks said) (over_links m ends marks said) said
      (λ (v : ℕ) (h : v < n).
      least-rest m k (λ (i : ℕ). heard_if said (at marks i) (end_a ends i) (end_b ends i) v) (at said v) l
      (λ (i : ℕ) (a : k ≤ i) (b : i < m). unmarked (at marks i) (end_a ends i) (end_b ends i) v (none i a b)))

-- a test of some mark from `from` on, one more
pub none_more : (from k : ℕ) (marks : List ℕ) (any new : Bool) →
    (any ≡ false → (i : ℕ) → from ≤ i → i < k → at marks i ≡ 0)
    → new ≡ (any || not (eqb (at marks k) 0)) → new ≡ false → (i : ℕ) → from ≤ i → i < k + 1 → at marks i ≡ 0
none_more from k marks any new before put e i a l = go (dec_lt i k)
  where
    failed : (any || not (eqb (at marks k) 0)) ≡ false
    failed = sym put ∙ e

    last : i ≡ k → at marks i ≡ 0
    last q = rw q (eqb-true (at marks k) 0
        (not-false (eqb (at marks k) 0) (or_false-right any (not (eqb (at marks k) 0)) failed)))

    go : Dec (i < k) → at marks i ≡ 0
    go (yes h) = before (or_false-left any (not (eqb (at marks k) 0)) failed) i a h
    go (no h) = last (omega arith)

-- a link of two units, as the code lowers their entries
pub hears-within : (n : ℕ) (said t new : List ℕ) (a b : ℕ) → a < n → b < n
    → new ≡ set (set t a (min (get_or t a 0) (at said b))) b
    (min (get_or (set t a (min (get_or t a 0) (at said b))) b 0) (at said a))
    → new ≡ hears false n said a b t
unfolding hears takes_in
hears-within n said t new a b ha hb put = rw (lt-ltb a n ha, lt-ltb b n hb) put
