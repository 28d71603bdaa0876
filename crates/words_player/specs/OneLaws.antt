-- One call on words as an exchange, from the contracts of `words_calls`, kind by kind.
use Rattle.std.specs.Prelude.{◌≡◌, refl, List, [], ◌∷◌, ℕ}
use Rattle.std.proofs.Common.{ne_eqb}
use Rattle.spec_machine.specs.State.{State}
use Rattle.words_layout.specs.Layout.{state_of}
use Rattle.words_known.specs.Left.{Left}
use Rattle.spec_claim.specs.Play.{Call, round, run, status, unit, link, report, answer_to, slice_after}
use Rattle.words_claim.specs.Exchange.{number_to, lent_after, made_after}
use Rattle.words_claim.specs.ExchangeLaws.{round-made, run-made, status-made, unit-made, link-made, report-made}
use Rattle.words_player.specs.Played.{call_of, out_after, OneMade}

module _ (before after : List ℕ) (r : ℕ) where
  pub one-round : r ≡ number_to round before → Left before after (answer_to round (state_of before)) →
      OneMade round before after
  one-round n w = record { exchange = _; is = refl; made = round-made before after r n w }

  pub one-run : (budget given made : ℕ) → r ≡ number_to (run budget) before
      → Left before after (answer_to (run budget) (state_of before)) → made ≡ made_after budget before given
      → OneMade (run budget) before after
  one-run budget given made n w m =
      record { exchange = _; is = refl; made = run-made budget before after given r made n w m }

module _ (words given : List ℕ) (r : ℕ) (lent : List ℕ) where
  pub one-status : r ≡ number_to status words → lent ≡ lent_after status words given → OneMade status words words
  one-status n l = record { exchange = _; is = refl; made = status-made words given r lent n l }

  pub one_unit : (v : ℕ) → r ≡ number_to (unit v) words → lent ≡ lent_after (unit v) words given →
      OneMade (unit v) words words
  one_unit v n l = record { exchange = _; is = refl; made = unit-made words given r lent v n l }

  pub one_link : (j : ℕ) → r ≡ number_to (link j) words → lent ≡ lent_after (link j) words given →
      OneMade (link j) words words
  one_link j n l = record { exchange = _; is = refl; made = link-made words given r lent j n l }

  pub one-report : r ≡ number_to (report given) words → lent ≡ lent_after (report given) words given →
      OneMade (report given) words words
  one-report n l = record { exchange = _; is = refl; made = report-made words given r lent n l }

-- ---- by its kind

module _ (kind a : ℕ) (out before after : List ℕ) where
  -- the call, and the slice after it
  abbrev Means : Call → List ℕ → Type 0
  Means call left = OneMade call before after → OneMade (call_of kind a out) before after
      × (left ≡ out_after kind out (state_of before))

  pub means_round : kind ≡ 1 → Means round out
  means_round e m = rw e (m, refl)

  pub means_run : kind ≡ 2 → Means (run a) out
  means_run e m = rw e (m, refl)

  pub means_unit : kind ≡ 4 → Means (unit a) out
  means_unit e m = rw e (m, refl)

  pub means_link : kind ≡ 5 → Means (link a) out
  means_link e m = rw e (m, refl)

  pub means_report : kind ≡ 6 → Means (report out) (slice_after (report out) (state_of before))
  means_report e m = rw e (m, refl)

  pub means_status : (kind ≡ 1 → ⊥) → (kind ≡ 2 → ⊥) → (kind ≡ 4 → ⊥) → (kind ≡ 5 → ⊥) → (kind ≡ 6 → ⊥) →
      Means status out
  means_status n1 n2 n4 n5 n6 m =
      rw (ne_eqb kind 1 n1, ne_eqb kind 2 n2, ne_eqb kind 4 n4, ne_eqb kind 5 n5, ne_eqb kind 6 n6)
      (m, refl)
