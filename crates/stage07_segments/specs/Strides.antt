-- The segments of a later round by strides: between two multiples of twice the span no segment changes.
use Rattle.std.specs.Prelude.{◌≡◌, refl, Bool, true, false, not, cond, ◌&&◌, List, ℕ, ◌+◌, ◌-◌, ◌%◌, ◌≤◌, ◌<◌, eqb}
use Rattle.std.specs.Prelude.{length, get_or, set}
use Rattle.std.proofs.Common.{sym, ◌∙◌, le_refl, arith, length-set, get_or-set_same, get_or-set_other, lt-ltb, le-ltb}
use Rattle.std.proofs.Common.{ne_eqb}
use Rattle.std.proofs.Math.Decide.{dec_lt, ℕ_discrete}
use Rattle.base_lists.specs.Multiples.{Multiple, multiple_step, no_remainder, multiple_remainder}
use Rattle.base_lists.specs.Tables.{over, length_over, get_d_over}
use Rattle.base_lists.specs.Rounds.{over_ext}
use Rattle.table_values.specs.Passes.{read_past}
use Rattle.spec_rules.specs.Basics.{at}
use Rattle.spec_rules.specs.MoveLaws.{global_by}

module _ (op : ℕ → ℕ → ℕ) (span period n : ℕ) (old : List ℕ) where
  -- at a multiple with a segment a span on
  joins : (q : ℕ) → Multiple period q → q + span < n →
      global_by op span period n old q ≡ op (at old q) (at old (q + span))
  joins q m h = rw (multiple_remainder period q m, lt-ltb (q + span) n h)

  -- at no multiple
  between : (q : ℕ) → (q % period ≡ 0 → ⊥) → global_by op span period n old q ≡ at old q
  between q h = rw (ne_eqb (q % period) 0 h)

  -- without one
  last : (q : ℕ) → n ≤ q + span → global_by op span period n old q ≡ at old q
  last q h = rw (le-ltb (q + span) n h) (go (not (not (eqb (q % period) 0))))
    where
      go : (b : Bool) → cond (b && false) (op (at old q) (at old (q + span))) (at old q) ≡ at old q
      go true = refl
      go false = refl

  -- a turn: from a multiple to the next
  pub stride : (q : ℕ) (t new : List ℕ) (own next x : ℕ) → 0 < period → Multiple period q → q + span < n
      → t ≡ over q (global_by op span period n old) old → own ≡ get_or t q 0 → next ≡ get_or t (q + span) 0 →
      x ≡ op own next → new ≡ set t q x
      → new ≡ over (q + period) (global_by op span period n old) old
  stride q t new own next x wide m h was is-own is-next is put =
      over_ext 0 (q + period) (global_by op span period n old) old new same below past
    where
      length-t : length t ≡ length old
      length-t = rw was (length_over q (global_by op span period n old) old)

      same : length new ≡ length old
      same = rw put (length-set t q x ∙ length-t)

      kept : (i : ℕ) → q ≤ i → get_or t i 0 ≡ get_or old i 0
      kept = read_past q (global_by op span period n old) old t was

      value : x ≡ global_by op span period n old q
      value = is ∙ rw (is-own, is-next, kept q (le_refl q), kept (q + span) (omega arith)) (sym (joins q m h))

      inside : (i : ℕ) → q < i → i < q + period → i % period ≡ 0 → ⊥
      inside i l u e = omega (arith, multiple_step period q i m (no_remainder period i e) l)

      other : (i : ℕ) → (i ≡ q → ⊥) → get_or new i 0 ≡ get_or t i 0
      other i ne = rw put (get_or-set_other t q i x 0 ne)

      go : (i : ℕ) → i < q + period → i < length old → Dec (i < q) → Dec (i ≡ q) →
          get_or new i 0 ≡ global_by op span period n old i
      go i u l (yes b) e =
          other i (λ (s : i ≡ q). omega arith) ∙ rw was (get_d_over q (global_by op span period n old) old i 0 b l)
      go i u l (no b) (yes e) = rw (e, put) (get_or-set_same t q x 0 (omega (arith, length-t)) ∙ value)
      go i u l (no b) (no e) = other i e ∙ kept i (omega arith) ∙ sym (between i (inside i (omega arith) u))

      below : (i : ℕ) → i < q + period → i < length old → get_or new i 0 ≡ global_by op span period n old i
      below i u l = go i u l (dec_lt i q) (ℕ_discrete i q)

      past : (i : ℕ) → q + period ≤ i → i < length old → get_or new i 0 ≡ get_or old i 0
      past i u l = other i (λ (s : i ≡ q). omega arith) ∙ kept i (omega arith)

  -- the end: no segment is left that has another a span on
  pub strides_end : (q : ℕ) (t : List ℕ) → n - span ≤ q → t ≡ over q (global_by op span period n old) old
      → t ≡ over n (global_by op span period n old) old
  strides_end q t end was =
      over_ext 0 n (global_by op span period n old) old t length-t
      (λ (i : ℕ) (u : i < n) (l : i < length old). below i l (dec_lt i q))
      (λ (i : ℕ) (u : n ≤ i) (l : i < length old). past i u l (dec_lt i q))
    where
      length-t : length t ≡ length old
      length-t = rw was (length_over q (global_by op span period n old) old)

      kept : (i : ℕ) → q ≤ i → get_or t i 0 ≡ get_or old i 0
      kept = read_past q (global_by op span period n old) old t was

      made : (i : ℕ) → i < q → i < length old → get_or t i 0 ≡ global_by op span period n old i
      made i h l = rw was (get_d_over q (global_by op span period n old) old i 0 h l)

      below : (i : ℕ) → i < length old → Dec (i < q) → get_or t i 0 ≡ global_by op span period n old i
      below i l (yes h) = made i h l
      below i l (no h) = kept i (omega arith) ∙ sym (last i (omega arith))

      past : (i : ℕ) → n ≤ i → i < length old → Dec (i < q) → get_or t i 0 ≡ get_or old i 0
      past i u l (yes h) = made i h l ∙ last i (omega arith)
      past i u l (no h) = kept i (omega arith)
