-- What a live table made of lists that pass holds is these lists, and a change of it is refused as it is of them.
use Rattle.std.specs.Prelude.{◌≡◌, ℕ, ◌*◌, take, ℤ}
use Rattle.std.proofs.Math.Path.{refl, ap}
use Rattle.std.proofs.Common.{◌∙◌, arith, take_at}
use Rattle.table.proofs.Passes.{passes, table-alone, table-levelled}
use Rattle.table.specs.Refusals.{first_of}
use Rattle.table.specs.RefusalLaws.{first-none}
use Rattle.spec_machine.specs.Load.{Input, links_in, ends_of, levels_of}
use Rattle.live_table.specs.CountLaws.{right-counted}
use Rattle.live_table.specs.Live.{held, live_of}
use Rattle.live_table.specs.LiveCalls.{open_refusal, given_tests, link_tests, pair_tests, given_refusal, link_refusal}
use Rattle.live_table.specs.LiveCalls.{pair_refusal, add_refusal, withdraw_refusal}
use Rattle.live_table.specs.PassedLaws.{passed}

module _ (x : Input) (e : open_refusal x ≡ 0) where
  words-of : take (2 * links_in x) (ends_of x.words) ≡ x.words
  words-of = take_at x.words _ (2 * links_in x)
      (passes x.units x.words (table-alone x.units x.words x.levels e)).pairs

  levels-of : take (links_in x) (levels_of x.levels) ≡ x.levels
  levels-of = take_at x.levels _ (links_in x) (table-levelled x.units x.words x.levels e)

  pub held_of : held (live_of x) ≡ x
  unfolding live_of
  held_of = rw (words-of, levels-of) refl

  given-of : given_refusal (live_of x) ≡ 0
  unfolding given_refusal live_of
  given-of =
      let p = passed x.units x.words x.levels e in
      rw (
        words-of,
        levels-of,
        p.four,
        p.six,
        p.sixteen,
        p.seven,
        p.eight,
        p.nine,
        right-counted (links_in x) x.words,
      ) refl

  pub add-of : (a b : ℕ) (level : ℤ) → add_refusal a b level (live_of x) ≡ link_refusal a b level x
  unfolding add_refusal given_refusal link_refusal
  add-of a b level =
      first-none (given_tests (live_of x)) (link_tests a b level (held (live_of x))) (omega arith) given-of
      ∙ ap (λ (y : Input). first_of (link_tests a b level y)) held_of

  pub withdraw-of : (a b : ℕ) → withdraw_refusal a b (live_of x) ≡ pair_refusal a b x
  unfolding withdraw_refusal given_refusal pair_refusal
  withdraw-of a b =
      first-none (given_tests (live_of x)) (pair_tests a b (held (live_of x))) (omega arith) given-of
      ∙ ap (λ (y : Input). first_of (pair_tests a b y)) held_of
