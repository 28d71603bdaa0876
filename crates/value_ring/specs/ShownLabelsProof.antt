-- The proof that T-04 and demand 3 agree: both speak of the rings of the one table.
use Rattle.std.specs.Prelude.{◌≡◌, refl, ◌⊎◌, ◌↔◌, List, ℕ, zero, suc, ◌<◌}
use Rattle.std.proofs.Common.{sym, ap, subst, ◌∙◌, inl, inr, arith}
use Rattle.std.proofs.Math.Decide.{dec_lt}
use Rattle.table.specs.Table.{end_a, end_b, link_count}
use Rattle.theory_graph.specs.Rings.{Ring, Holds, OnRing}
use Rattle.theory_graph.proofs.Same.{on_ring_same}
use Rattle.spec_state.specs.declared.groups.Table.{Table}
use Rattle.spec_machine.specs.Load.{Input, links_in, stored_load_refusal, table_of, ends_of}
use Rattle.spec_machine.specs.Report.{link_label, link_lone}
use Rattle.spec_machine.specs.State.{State, units, links}
use Rattle.theory_reach.specs.Loaded.{end-a, end-b, same-links}
use Rattle.theory_reach.specs.Reach.{SurveyRight, table-steps}
use Rattle.theory_reach.specs.Site.{Link}
use Rattle.spec_claim.specs.Claim.{Loaded}
use Rattle.spec_claim.proofs.ClaimProof.{claim, started}
use Rattle.spec_claim.specs.Play.{play, used}
use Rattle.value_ring.specs.declared.Shown.{Shown}
use Rattle.value_ring.specs.declared.Shown.TheVariants.{NoRing, Refused}
use Rattle.value_ring.specs.declared.Shown.TheVariants as Replies
use Rattle.value_ring.specs.Shown.{number_of}
use Rattle.value_ring.specs.ShownRight.{RingThrough, Told, ShownRight}
use Rattle.value_ring.specs.ShownLabels.{Agrees, ShownAfterLoad}

-- replies differ
code : Shown → ℕ
code (Replies.Ring n) = 0
code NoRing = 1
code (Refused k) = 2

-- "no ring" exactly where no ring holds both
exact : (n m : ℕ) (ends : List ℕ) (i j : ℕ) (out : List ℕ) (reply : Shown) (new : List ℕ) →
    Told n m ends i j out reply new
    → (reply ≡ NoRing) ↔ (OnRing (Link m ends) (end_a ends i) (end_b ends i) (end_a ends j) (end_b ends j) → ⊥)
unfolding code
exact n m ends i j out reply new (inl (e, none, w)) = (λ q. none, λ h. e)
exact n m ends i j out reply new (inr (r, e, R, w)) = (
  λ q. absurd (let x : 0 ≡ 1 = ap code (sym e ∙ q) in omega arith),
  λ h. absurd (h (r, R.ring, R.first, R.second)),
)

module _ (input : Input) (accepted : stored_load_refusal input ≡ 0) (e : State) (same : e.table ≡ table_of input)
    (S : SurveyRight input e) (i j : ℕ)
    (out : List ℕ) (reply : Shown) (new : List ℕ) (li : i < links_in input) (lj : j < links_in input)
    (told : Told (units e) (links e) e.table.ends i j out reply new) where
  abbrev m : ℕ
  m = links_in input

  abbrev words : List ℕ
  words = input.words

  -- on the state's own table, in the words of the table that was loaded
  exact-words : (reply
      ≡ NoRing) ↔ (OnRing (Link m words) (end_a words i) (end_b words i) (end_a words j) (end_b words j) →
      ⊥)
  exact-words =
      let x = exact (units e) (links e) e.table.ends i j out reply new told in
      let y : (reply ≡ NoRing) ↔ (OnRing (Link m (ends_of words)) (end_a words i) (end_b words i) (end_a words j)
      (end_b words j) → ⊥) =
      rw (
        same,
        end-a input accepted i li,
        end-b input accepted i li,
        end-a input accepted j lj,
        end-b input accepted j lj,
      ) at x in
      let o = on_ring_same (Link m (ends_of words)) (Link m words) (same-links input accepted) (end_a words i)
      (end_b words i) (end_a words j) (end_b words j) in
      (λ q h. y.0 q (o.1 h), λ h. y.1 (λ r. h (o.0 r)))

  agrees : Agrees e i j reply
  agrees =
      record {
        two = λ d. let l = S.labels i j li lj d in (
          λ q h. exact-words.0 q (l.0 h),
          λ h. exact-words.1 (λ r. h (l.1 r)),
        );
        one = λ d. let l = S.lones i li in (
          λ q. l.1 (alone d (exact-words.0 q)),
          λ h. exact-words.1 (λ r. l.0 h r.0 r.1 r.2),
        );
      }
    where
      alone : i ≡ j → (OnRing (Link m words) (end_a words i) (end_b words i) (end_a words j) (end_b words j) → ⊥)
          → (r : List ℕ) → Ring (Link m words) r → Holds r (end_a words i) (end_b words i) → ⊥
      alone d h r R q = h (r, R, q, subst (λ (k : ℕ). Holds r (end_a words k) (end_b words k)) d q)

pub shown-after_load : ShownAfterLoad
shown-after_load input s l calls enough i j out answer new R z =
    let S = started input s l in
    let c = claim input s l calls in
    let t = c.right (c.enough enough) in
    let same : (play calls s).last.table ≡ table_of input =
    ap (λ (x : State). x.table) c.state ∙ table-steps S (used calls (play calls s).replies) in
    let m : links (play calls s).last ≡ links_in input = ap (λ (t : Table). t.links) same in
    let li : i < links_in input = rw m at (below i (λ h. R.refused.1 (inr (inr (inl h))) z)) in
    let lj : j < links_in input = rw m at (below j (λ h. R.refused.1 (inr (inr (inr (inl h)))) z)) in
    agrees input S.accepted (play calls s).last same t.right i j out answer.reply new li lj (R.told z)
  where
    below : (k : ℕ) → ((k < links (play calls s).last → ⊥) → ⊥) → k < links (play calls s).last
    below k h = go (dec_lt k (links (play calls s).last))
      where
        go : Dec (k < links (play calls s).last) → k < links (play calls s).last
        go (yes b) = b
        go (no b) = absurd (h b)
