-- Two rings that share two vertices, and a link of each: one ring through both links.
use Rattle.std.specs.Prelude.{◌≡◌, refl, ◌⊎◌, ◌≢◌, Bool, true, false, cond, ◌||◌, List, [], ◌∷◌, ◌++◌, reverse, ℕ, ◌+◌}
use Rattle.std.specs.Prelude.{◌≤◌, eqb, length}
use Rattle.std.proofs.Common.{sym, ap, subst, ◌∙◌, inl, inr, append_assoc, arith, length-append, eqb-true, eq-eqb}
use Rattle.std.proofs.Math.Decide.{ℕ_discrete}
use Rattle.std.proofs.lemmas.Bool.{eqb-false}
use Rattle.base_lists.specs.Members.{Mem, Distinct, Disjoint, mem_left, mem_right, mem_cases, mem_reverse}
use Rattle.base_lists.specs.Members.{distinct_left, distinct_right, distinct_apart, distinct_join, distinct_reverse}
use Rattle.base_lists.specs.Parts.{before, after, first_on, last_on, past, memb, first-split, first_on_lem, before-off}
use Rattle.base_lists.specs.Parts.{last-split, last_on_lem, past_off, memb_mem, mem_memb, any, any_of}
use Rattle.theory_graph.specs.Rings.{Graph, last, Walk, Step, last_of, first_of, Ring, Follows, Holds, SameLink}
use Rattle.theory_graph.specs.Walks.{last-append, last_of_split, walk_join, walk_left, walk_right, walk_back}
use Rattle.theory_graph.specs.Walks.{ring-closed, closed-ring, step_left, step_right, step_back, step_follows}

-- Of a ring, read from its first vertex to its last: the first and the last vertex that pass a test, and what lies
-- outside these two: past the last and on to the first, over the link from the ring's last vertex to its first.
abbrev enter : (ℕ → Bool) → List ℕ → ℕ
enter on l = first_on on l

abbrev leave : (ℕ → Bool) → List ℕ → ℕ
leave on l = last_on on (after on l)

abbrev outer : (ℕ → Bool) → List ℕ → List ℕ
outer on l = past on (after on l) ++ before on l

-- what `outer` is of a ring on which two different vertices pass
record Outer (E : ℕ → ℕ → Type 0) (on : ℕ → Bool) (l : List ℕ) (x y : ℕ) (o : List ℕ) : Type 0 where
  enters : on x ≡ true
  leaves : on y ≡ true
  apart : x ≢ y
  enter_mem : Mem x l
  leave_mem : Mem y l
  off : (z : ℕ) → Mem z o → on z ≡ true → ⊥
  inside : (z : ℕ) → Mem z o → Mem z l
  different : Distinct o
  way : Walk E y (o ++ x ∷ [])
  over : Step y (o ++ x ∷ []) (last_of l) (first_of l)

first_step : (q : ℕ) (B : List ℕ) (x : ℕ) (A : List ℕ) → Step q (B ++ x ∷ []) q (first_of (B ++ x ∷ A))
first_step q [] x A = inl (refl, refl)
first_step q (b ∷ B) x A = inl (refl, refl)

module _ (E : ℕ → ℕ → Type 0) (on : ℕ → Bool) where
  outer-parts : (B : List ℕ) (x : ℕ) (M : List ℕ) (y : ℕ) (P : List ℕ) → Ring E (B ++ x ∷ (M ++ y ∷ P)) → on x ≡ true →
      on y ≡ true
      → ((v : ℕ) → Mem v B → on v ≡ true → ⊥) → ((v : ℕ) → Mem v P → on v ≡ true → ⊥) →
      Outer E on (B ++ x ∷ (M ++ y ∷ P)) x y (P ++ B)
  outer-parts B x M y P R ox oy offB offP =
      let A = M ++ y ∷ P in
      let d : Distinct (B ++ x ∷ A) = R.different in
      let dA : Distinct (x ∷ A) = distinct_right B (x ∷ A) d in
      let e : last_of (B ++ x ∷ A) ≡ last y P = last_of_split B x A ∙ last-append x M (y ∷ P) in
      let c : Walk E (last y P) (B ++ x ∷ A) = rw e at (ring-closed R) in
      let right : Walk E (last (last y P) B) (x ∷ A) = walk_right E (last y P) B (x ∷ A) c in
      let in-P : (v : ℕ) → Mem v P → Mem v (x ∷ A) = λ v h. inr (mem_right v M (y ∷ P) (inr h)) in
      record {
        enters = ox;
        leaves = oy;
        apart = λ h. dA.0 (mem_right x M (y ∷ P) (inl h));
        enter_mem = mem_right x B (x ∷ A) (inl refl);
        leave_mem = mem_right y B (x ∷ A) (inr (mem_right y M (y ∷ P) (inl refl)));
        off = λ z h. off z (mem_cases z P B h);
        inside = λ z h. inside z in-P (mem_cases z P B h);
        different = distinct_join P B (distinct_right M (y ∷ P) dA.1).1 (distinct_left B (x ∷ A) d)
            (λ v h k. distinct_apart B (x ∷ A) d v k (in-P v h));
        way = rw (append_assoc P B (x ∷ [])) (walk_join E y P (B ++ x ∷ []) (walk_right E x M (y ∷ P) right.1).1
            (walk_join E (last y P) B (x ∷ []) (walk_left E (last y P) B (x ∷ A) c) (right.0, tt)));
        over = rw (
          append_assoc P B (x ∷ []),
          e,
        ) (step_right y P (B ++ x ∷ []) (last y P) (first_of (B ++ x ∷ A)) (first_step (last y P) B x A));
      }
    where
      off : (z : ℕ) → Mem z P ⊎ Mem z B → on z ≡ true → ⊥
      off z (inl h) = offP z h
      off z (inr h) = offB z h

      inside : (z : ℕ) → ((v : ℕ) → Mem v P → Mem v (x ∷ (M ++ y ∷ P))) → Mem z P ⊎ Mem z B →
          Mem z (B ++ x ∷ (M ++ y ∷ P))
      inside z f (inl h) = mem_right z B (x ∷ (M ++ y ∷ P)) (f z h)
      inside z f (inr h) = mem_left z B (x ∷ (M ++ y ∷ P)) h

  outer-of : (l : List ℕ) → Ring E l → (z w : ℕ) → z ≢ w → Mem z l → Mem w l → on z ≡ true → on w ≡ true
      → Outer E on l (enter on l) (leave on l) (outer on l)
  outer-of l R z w n mz mw oz ow = parts (first_on on l) (before on l) (after on l) (first-split on l meets)
      (first_on_lem on l meets) (before-off on l)
    where
      meets : any on l ≡ true
      meets = any_of on z l mz oz

      later : (x : ℕ) (B A : List ℕ) → l ≡ B ++ x ∷ A → ((v : ℕ) → Mem v B → on v ≡ true → ⊥) → (v : ℕ) → Mem v l →
          on v ≡ true → v ≢ x → Mem v A
      later x B A e offB v m o d = cases (mem_cases v B (x ∷ A) (subst (λ (k : List ℕ). Mem v k) e m))
        where
          cases : Mem v B ⊎ Mem v (x ∷ A) → Mem v A
          cases (inl h) = absurd (offB v h o)
          cases (inr (inl h)) = absurd (d h)
          cases (inr (inr h)) = h

      more : (x : ℕ) (B A : List ℕ) → l ≡ B ++ x ∷ A → ((v : ℕ) → Mem v B → on v ≡ true → ⊥) → Dec (z ≡ x) →
          any on A ≡ true
      more x B A e offB (yes h) = any_of on w A (later x B A e offB w mw ow (λ k. n (h ∙ sym k))) ow
      more x B A e offB (no h) = any_of on z A (later x B A e offB z mz oz h) oz

      parts : (x : ℕ) (B A : List ℕ) → l ≡ B ++ x ∷ A → on x ≡ true → ((v : ℕ) → Mem v B → on v ≡ true → ⊥) →
          Outer E on l x (last_on on A) (past on A ++ B)
      parts x B A e ox offB =
          let h = more x B A e offB (ℕ_discrete z x) in
          let s = last-split on A h in
          let g : l ≡ B ++ x ∷ (s.0 ++ last_on on A ∷ past on A) = e ∙ ap (λ (k : List ℕ). B ++ x ∷ k) s.1 in
          let R' = subst (λ (k : List ℕ). Ring E k) g R in
          subst (λ (k : List ℕ). Outer E on k x (last_on on A) (past on A ++ B)) (sym g)
          (outer-parts B x s.0 (last_on on A) (past on A) R' ox (last_on_lem on A h) offB (past_off on A))

-- z is s or t, as a test
abbrev either : ℕ → ℕ → ℕ → Bool
either s t z = eqb z s || eqb z t

either-cases : (s t z : ℕ) → either s t z ≡ true → (z ≡ s) ⊎ (z ≡ t)
either-cases s t z = go (eqb z s) refl
  where
    go : (b : Bool) → eqb z s ≡ b → b || eqb z t ≡ true → (z ≡ s) ⊎ (z ≡ t)
    go true e h = inl (eqb-true z s e)
    go false e h = inr (eqb-true z t h)

either_first : (s t : ℕ) → either s t s ≡ true
either_first s t = rw (eq-eqb s s refl)

either_second : (s t : ℕ) → either s t t ≡ true
either_second s t = go (eqb t s)
  where
    go : (b : Bool) → b || eqb t t ≡ true
    go true = refl
    go false = eq-eqb t t refl

-- Of a ring r with s and t on it: the part between s and t that leads over the link from the last vertex to the first,
-- read from s to t, without its ends.
abbrev arc : ℕ → ℕ → List ℕ → List ℕ
arc s t r = cond (eqb (enter (either s t) r) t) (outer (either s t) r) (reverse (outer (either s t) r))

-- The ring through the link from the last vertex to the first of r and that of q, where two vertices are on both. The
-- ear is the outer part of q, which meets r at its ends alone; the arc of r over r's link closes it.
abbrev pub splice : List ℕ → List ℕ → List ℕ
splice r q =
    let s = enter (memb r) q in
    let t = leave (memb r) q in
    (outer (memb r) q ++ s ∷ []) ++ (arc s t r ++ t ∷ [])

record Arc (E : ℕ → ℕ → Type 0) (r : List ℕ) (s t : ℕ) (a : List ℕ) : Type 0 where
  inside : (z : ℕ) → Mem z a → Mem z r
  not_first : Mem s a → ⊥
  not_last : Mem t a → ⊥
  different : Distinct a
  way : Walk E s (a ++ t ∷ [])
  over : Step s (a ++ t ∷ []) (last_of r) (first_of r) ⊎ Step s (a ++ t ∷ []) (first_of r) (last_of r)

module _ {E : ℕ → ℕ → Type 0} (G : Graph E) where
  arc-of : (s t : ℕ) (r : List ℕ) → Ring E r → s ≢ t → Mem s r → Mem t r → Arc E r s t (arc s t r)
  arc-of s t r R n ms mt = go (enter on r) (leave on r) (outer on r)
      (outer-of E on r R s t n ms mt (either_first s t) (either_second s t))
    where
      on : ℕ → Bool
      on z = either s t z

      go : (x y : ℕ) (o : List ℕ) → Outer E on r x y o → Arc E r s t (cond (eqb x t) o (reverse o))
      go x y o O = cases (eqb x t) refl (either-cases s t x O.enters) (either-cases s t y O.leaves)
        where
          cases : (b : Bool) → eqb x t ≡ b → (x ≡ s) ⊎ (x ≡ t) → (y ≡ s) ⊎ (y ≡ t) → Arc E r s t (cond b o (reverse o))
          cases true e hx (inl k) =
              let h = eqb-true x t e in
              record {
                inside = O.inside;
                not_first = λ m. O.off s m (either_first s t);
                not_last = λ m. O.off t m (either_second s t);
                different = O.different;
                way = rw (h, k) at O.way;
                over = inl (rw (h, k) at O.over);
              }
          cases true e hx (inr k) = absurd (O.apart (eqb-true x t e ∙ sym k))
          cases false e (inr h) hy = absurd (eqb-false x t e h)
          cases false e (inl h) (inl k) = absurd (O.apart (h ∙ sym k))
          cases false e (inl h) (inr k) =
              record {
                inside = λ z m. O.inside z (mem_reverse z o m);
                not_first = λ m. O.off s (mem_reverse s o m) (either_first s t);
                not_last = λ m. O.off t (mem_reverse t o m) (either_second s t);
                different = distinct_reverse o O.different;
                way = walk_back E G.flip t o s (rw (h, k) at O.way);
                over = inr (step_back t o s (last_of r) (first_of r) (rw (h, k) at O.over));
              }

-- two ways between t and s that meet nowhere else make a ring
module _ (E : ℕ → ℕ → Type 0) (t s : ℕ) (o a : List ℕ) where
  two-last : last_of ((o ++ s ∷ []) ++ (a ++ t ∷ [])) ≡ t
  two-last = rw (← append_assoc (o ++ s ∷ []) a (t ∷ [])) (last_of_split ((o ++ s ∷ []) ++ a) t [])

  two_ways : Walk E t (o ++ s ∷ []) → Walk E s (a ++ t ∷ []) → Distinct o → Distinct a → Disjoint o a → s ≢ t
      → (Mem s o → ⊥) → (Mem t o → ⊥) → (Mem s a → ⊥) → (Mem t a → ⊥) → 1 ≤ length o + length a →
      Ring E ((o ++ s ∷ []) ++ (a ++ t ∷ []))
  two_ways wo wa fo fa apart n so to sa ta h =
      closed-ring ((o ++ s ∷ []) ++ (a ++ t ∷ []))
      (omega (arith, length-append (o ++ s ∷ []) (a ++ t ∷ []), length-append o (s ∷ []), length-append a (t ∷ [])))
      (distinct_join (o ++ s ∷ []) (a ++ t ∷ []) (one s o fo so) (one t a fa ta) both)
      (rw two-last (walk_join E t (o ++ s ∷ []) (a ++ t ∷ []) wo (rw (last-append t o (s ∷ [])) wa)))
    where
      one : (z : ℕ) (l : List ℕ) → Distinct l → (Mem z l → ⊥) → Distinct (l ++ z ∷ [])
      one z l d f = distinct_join l (z ∷ []) d (λ m. m, tt) only
        where
          only : Disjoint l (z ∷ [])
          only v m (inl e) = f (rw e at m)
          only v m (inr k) = k

      both : Disjoint (o ++ s ∷ []) (a ++ t ∷ [])
      both z m k = cases (mem_cases z o (s ∷ []) m) (mem_cases z a (t ∷ []) k)
        where
          cases : Mem z o ⊎ Mem z (s ∷ []) → Mem z a ⊎ Mem z (t ∷ []) → ⊥
          cases (inl x) (inl y) = apart z x y
          cases (inl x) (inr (inl y)) = to (rw y at x)
          cases (inl x) (inr (inr y)) = y
          cases (inr (inl x)) (inl y) = sa (rw x at y)
          cases (inr (inl x)) (inr (inl y)) = n (sym x ∙ y)
          cases (inr (inl x)) (inr (inr y)) = y
          cases (inr (inr x)) k = x

  two-first : (u v : ℕ) → Step t (o ++ s ∷ []) u v → Follows ((o ++ s ∷ []) ++ (a ++ t ∷ [])) u v
  two-first u v h =
      step_follows ((o ++ s ∷ []) ++ (a ++ t ∷ [])) u v (rw two-last (step_left t (o ++ s ∷ []) (a ++ t ∷ []) u v h))

  two-second : (u v : ℕ) → Step s (a ++ t ∷ []) u v → Follows ((o ++ s ∷ []) ++ (a ++ t ∷ [])) u v
  two-second u v h =
      step_follows ((o ++ s ∷ []) ++ (a ++ t ∷ [])) u v
      (rw two-last (step_right t (o ++ s ∷ []) (a ++ t ∷ []) u v (rw (last-append t o (s ∷ [])) h)))

module _ {E : ℕ → ℕ → Type 0} (G : Graph E) where
  pub splice-ring : {r q : List ℕ} → Ring E r → Ring E q → (z w : ℕ) → z ≢ w → Mem z r → Mem z q → Mem w r → Mem w q
      → (SameLink (last_of r) (first_of r) (last_of q) (first_of q) → ⊥)
      → Ring E (splice r q) × Holds (splice r q) (last_of r) (first_of r) × Holds (splice r q) (last_of q) (first_of q)
  splice-ring {r} {q} R Q z w n rz qz rw' qw other =
      go (enter (memb r) q) (leave (memb r) q) (outer (memb r) q)
      (outer-of E (memb r) q Q z w n qz qw (mem_memb r z rz) (mem_memb r w rw'))
    where
      go : (s t : ℕ) (o : List ℕ) → Outer E (memb r) q s t o
          → let k = (o ++ s ∷ []) ++ (arc s t r ++ t ∷ []) in Ring E k × Holds k (last_of r) (first_of r)
          × Holds k (last_of q) (first_of q)
      go s t o O = both (arc s t r) (arc-of G s t r R O.apart (memb_mem r s O.enters) (memb_mem r t O.leaves))
        where
          -- ear and arc are not both a link alone: those would be one link
          long : (o' a' : List ℕ) → Step t (o' ++ s ∷ []) (last_of q) (first_of q)
              → Step s (a' ++ t ∷ []) (last_of r) (first_of r) ⊎ Step s (a' ++ t ∷ []) (first_of r) (last_of r) →
              1 ≤ length o' + length a'
          long [] [] (inl h) (inl (inl k)) = absurd (other (inr (k.0 ∙ sym h.1, k.1 ∙ sym h.0)))
          long [] [] (inl h) (inr (inl k)) = absurd (other (inl (k.1 ∙ sym h.0, k.0 ∙ sym h.1)))
          long [] [] (inl h) (inl (inr k)) = absurd k
          long [] [] (inl h) (inr (inr k)) = absurd k
          long [] [] (inr h) k = absurd h
          long [] (x ∷ a') h k = omega arith
          long (x ∷ o') a' h k = omega arith

          both : (a : List ℕ) → Arc E r s t a
              → let k = (o ++ s ∷ []) ++ (a ++ t ∷ []) in Ring E k × Holds k (last_of r) (first_of r)
              × Holds k (last_of q) (first_of q)
          both a A = (
            two_ways E t s o a O.way A.way O.different A.different
                (λ v m k. O.off v m (mem_memb r v (A.inside v k))) O.apart
                (λ m. O.off s m O.enters) (λ m. O.off t m O.leaves) A.not_first A.not_last
                (long o a O.over A.over),
            holds A.over,
            inl (two-first E t s o a (last_of q) (first_of q) O.over),
          )
            where
              holds : Step s (a ++ t ∷ []) (last_of r) (first_of r) ⊎ Step s (a ++ t ∷ []) (first_of r) (last_of r)
                  → Holds ((o ++ s ∷ []) ++ (a ++ t ∷ [])) (last_of r) (first_of r)
              holds (inl h) = inl (two-second E t s o a (last_of r) (first_of r) h)
              holds (inr h) = inr (two-second E t s o a (first_of r) (last_of r) h)
