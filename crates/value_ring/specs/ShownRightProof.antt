-- The proof of what T-04 asks, by what `ring_search` tells of the state's tables.
use Rattle.std.specs.Prelude.{◌≡◌, refl, true, ◌⊎◌, List, [], ◌∷◌, ◌++◌, ℕ, zero, suc, ◌≤◌, ◌<◌, ltb, length, get_or}
use Rattle.std.specs.Prelude.{take, drop}
use Rattle.std.proofs.Common.{sym, ap, ◌∙◌, inl, inr, arith, take-append-drop}
use borrow.Author.Tests.{eq-eqb, ltb-false}
use Rattle.table.specs.RefusalLaws.{first-cause, some-cause}
use Rattle.table.specs.Table.{end_a, end_b}
use Rattle.theory_graph.specs.Rings.{Ring, last_of, OnRing}
use Rattle.theory_graph.proofs.Together.{on_ring_more}
use Rattle.theory_graph.specs.Walks.{walk_map, ring-closed, closed-ring}
use Rattle.spec_machine.specs.Kept.{kept-exact}
use Rattle.spec_machine.specs.State.{State, units, links, finished}
use Rattle.spec_machine.specs.WellFormed.{well_formed}
use Rattle.report_write.specs.TwoLinks.{two-passed}
use Rattle.theory_reach.specs.Site.{Link}
use Rattle.theory_ears.specs.Closing.{shows-short}
use Rattle.theory_ears.specs.KeptSite.{kept_site}
use Rattle.theory_ears.specs.Present.{Present, Ringed, Shows, sure}
use Rattle.ring_search.specs.Front.{RingFront}
use Rattle.value_ring.specs.declared.Shown.TheVariants.{NoRing, Refused}
use Rattle.value_ring.specs.declared.Shown.TheVariants as Replies
use Rattle.value_ring.specs.Shown.{Answer, number_of, shown_refusal, shown_reasons}
use Rattle.value_ring.specs.ShownRight.{RingThrough, Laid, RingLaid, Told, ShownRight}

-- ---- rings of the links that count, where all do

ring-map : (E F : ℕ → ℕ → Type 0) → ((u v : ℕ) → E u v → F u v) → (r : List ℕ) → Ring E r → Ring F r
ring-map E F f r R = closed-ring r R.three R.different
    (walk_map E F (last_of r) r (λ u v q e. f u v e) (ring-closed R))

module _ (n m : ℕ) (ends : List ℕ) (i j : ℕ) (out marks new : List ℕ) (r : ℕ) (all : (k : ℕ) → get_or marks k 0 ≡ 0)
    (T : RingFront (sure marks) n m ends i j out new r)
    (past : drop r new ≡ drop r out) where
  link : (u v : ℕ) → Present (sure marks) m ends u v → Link m ends u v
  link u v (k, l, o, q) = (k, l, q)

  present : (u v : ℕ) → Link m ends u v → Present (sure marks) m ends u v
  present u v (k, l, q) = (k, l, eq-eqb (get_or marks k 0) 0 (all k), q)

  pub ring_laid : RingLaid n m ends i j out new r
  ring_laid site hi hj room = go (T site hi hj room)
    where
      go : ((r ≡ 0) × (Ringed (sure marks) m ends i j → ⊥))
          ⊎ (Shows (sure marks) m ends i j (take r new) × (r ≡ length (take r new)))
          → Laid n m ends i j out new r
      go (inl (z, h)) = inl (
        z,
        λ o. h (on_ring_more (Link m ends) (Present (sure marks) m ends) present (end_a ends i) (end_b ends i)
            (end_a ends j) (end_b ends j) o),
        rw z at past,
      )
      go (inr (S, q)) = inr (
        take r new,
        q,
        record {
          ring = ring-map (Present (sure marks) m ends) (Link m ends) link (take r new) S.ring;
          rest = S.rest;
          starts = S.starts;
          first = S.first;
          second = S.second;
          few = shows-short site S;
        },
        sym (take-append-drop r new)
            ∙ (ap (λ (l : List ℕ). take r new ++ l) past ∙ ap (λ (k : ℕ). take r new ++ drop k out) q),
      )

-- ---- the call

module _ (i j : ℕ) (s : State) (out : List ℕ) where
  abbrev refusal : ℕ
  refusal = shown_refusal i j (length out) s

  right : (answer : Answer) (new : List ℕ) → number_of answer.reply ≡ refusal → answer.state ≡ s →
      ((refusal ≡ 0 → ⊥) → new ≡ out)
      → (refusal ≡ 0 → Told (units s) (links s) s.table.ends i j out answer.reply new) →
      ShownRight i j s out answer new
  unfolding shown_refusal
  right answer new e same unwritten told =
      record {
        cause = λ k h. rw e (first-cause (shown_reasons i j (length out) s) k h);
        refused = rw e (some-cause (shown_reasons i j (length out) s) (omega arith));
        state = same;
        unwritten = λ h. unwritten (λ z. h (e ∙ z));
        told = λ z. told (sym e ∙ z);
      }

  pub shown-refused : (r : ℕ) → r ≡ refusal → (r ≡ 0 → ⊥) →
      ShownRight i j s out (record { state = s; reply = Refused r }) out
  shown-refused r e h = right (record { state = s; reply = Refused r }) out e refl (λ z. refl) (λ z. absurd (h (e ∙ z)))

  passed : refusal ≡ 0 → (well_formed s ≡ true) × (i < links s) × (j < links s) × (units s ≤ length out)
  unfolding shown_refusal
  passed e =
      let p = two-passed (well_formed s) (finished s) (links s) i j 14 (ltb (length out) (units s)) (omega arith) e in
      (p.0, p.1, p.2, ltb-false (length out) (units s) p.3)

  module _ (new : List ℕ) (r : ℕ) (e : refusal ≡ 0) (full : length s.table.ends ≡ 2048)
      (L : RingLaid (units s) (links s) s.table.ends i j out new r) where
    abbrev m : ℕ
    m = links s

    abbrev ends : List ℕ
    ends = s.table.ends

    given : Laid (units s) m ends i j out new r
    given = let P = passed e in L (kept_site s full ((kept-exact s).0 P.0)) P.1 P.2 P.3

    pub shown-none : r ≡ 0 → ShownRight i j s out (record { state = s; reply = NoRing }) new
    shown-none z = right (record { state = s; reply = NoRing }) new (sym e) refl (λ h. absurd (h e))
        (λ h. inl (none given))
      where
        none : Laid (units s) m ends i j out new r
            → (NoRing ≡ NoRing) × (OnRing (Link m ends) (end_a ends i) (end_b ends i) (end_a ends j) (end_b ends j) → ⊥)
            × (new ≡ out)
        none (inl (q, h, w)) = (refl, h, w)
        none (inr (l, q, R, w)) = absurd (omega (arith, R.ring.three))

    pub shown-ring : (r ≡ 0 → ⊥) → ShownRight i j s out (record { state = s; reply = Replies.Ring r }) new
    shown-ring h = right (record { state = s; reply = Replies.Ring r }) new (sym e) refl (λ q. absurd (q e))
        (λ q. inr (one given))
      where
        one : Laid (units s) m ends i j out new r
            → (l : List ℕ) × (Replies.Ring r ≡ Replies.Ring (length l)) × RingThrough (units s) m ends i j l
            × (new ≡ l ++ drop (length l) out)
        one (inl (z, q, w)) = absurd (h z)
        one (inr (l, q, R, w)) = (l, ap Replies.Ring q, R, w)
