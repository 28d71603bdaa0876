-- Least labels handed on over a relation: H v w says that v is handed w's label. Nothing asks that w is handed v's.
use Rattle.std.specs.Prelude.{◌≡◌, refl, ◌↔◌, true, List, [], ◌∷◌, ℕ, zero, suc, ◌≤◌, ◌<◌, length}
use Rattle.std.proofs.Common.{◌∙◌, inl, inr, arith}
use Rattle.base_lists.specs.Folds.{count}
use Rattle.base_lists.specs.Counts.{count_true}
use Rattle.base_lists.specs.Members.{Mem}
use Rattle.base_lists.specs.Pigeonhole.{Picked, pigeonhole}
use Rattle.theory_graph.specs.Rings.{last, Walk, Connected}
use Rattle.theory_graph.specs.Walks.{walk_map}
use Rattle.theory_graph.specs.Routes.{simple}

-- both ends of every link are among the n units
abbrev pub Within : ℕ → (ℕ → ℕ → Type 0) → Type 0
Within n H = (v w : ℕ) → H v w → (v < n) × (w < n)

-- a walk stays among them
pub walk_within : (n : ℕ) (H : ℕ → ℕ → Type 0) → Within n H → (v w : ℕ) → v < n → Connected H v w → w < n
walk_within n H inside v w h (l, r) = go v l h r.0 r.1
  where
    go : (x : ℕ) (m : List ℕ) → x < n → Walk H x m → last x m ≡ w → w < n
    go x [] hx u e = rw (← e) hx
    go x (y ∷ m) hx u e = go y m (inside x y u.0).1 u.1 e

-- f v is the least of the first labels of the units that v is handed from over any number of steps
pub record Least (n : ℕ) (H : ℕ → ℕ → Type 0) (init f : ℕ → ℕ) : Type 0 where
  pub below : (v w : ℕ) → v < n → Connected H v w → f v ≤ init w
  pub reached : (v : ℕ) → v < n → (w : ℕ) × Connected H v w × (f v ≡ init w)

pub least_unique : (n : ℕ) (H : ℕ → ℕ → Type 0) (init f g : ℕ → ℕ) → Least n H init f → Least n H init g → (v : ℕ) →
    v < n → f v ≡ g v
least_unique n H init f g a b v h =
    let (w, c, e) = a.reached v h in
    let (x, d, q) = b.reached v h in
    omega (arith, a.below v x h d, b.below v w h c)

pub least-same : (n : ℕ) (H K : ℕ → ℕ → Type 0) (init f : ℕ → ℕ) → ((v w : ℕ) → H v w ↔ K v w) → Least n H init f →
    Least n K init f
least-same n H K init f same a =
    record {
      below = λ v w h c. a.below v w h (moved K H (λ x y k. (same x y).1 k) v w c);
      reached = λ v h. let (w, c, e) = a.reached v h in (w, moved H K (λ x y k. (same x y).0 k) v w c, e);
    }
  where
    moved : (A B : ℕ → ℕ → Type 0) → ((x y : ℕ) → A x y → B x y) → (v w : ℕ) → Connected A v w → Connected B v w
    moved A B f v w (l, r) = (l, (walk_map A B v l (λ x y s k. f x y k) r.0, r.1))

pub least_init : (n : ℕ) (H : ℕ → ℕ → Type 0) (init other f : ℕ → ℕ) → Within n H → ((v : ℕ) → v < n → init v ≡ other v)
    → Least n H init f → Least n H other f
least_init n H init other f inside same a =
    record {
      below = λ v w h c. omega (arith, a.below v w h c, same w (walk_within n H inside v w h c));
      reached = λ v h. let (w, c, e) = a.reached v h in (w, c, e ∙ same w (walk_within n H inside v w h c));
    }

-- labels that are at most the first ones, that no link would lower and that all come from somewhere are the least
pub settled : (n : ℕ) (H : ℕ → ℕ → Type 0) (init f : ℕ → ℕ) → Within n H
    → ((v : ℕ) → v < n → f v ≤ init v) → ((v w : ℕ) → H v w → f v ≤ f w)
    → ((v : ℕ) → v < n → (w : ℕ) × Connected H v w × (f v ≡ init w)) → Least n H init f
settled n H init f inside own falls reached =
    record { below = λ v w h c. go v c.0 h c.1.0 c.1.1; reached = reached }
  where
    go : {w : ℕ} (v : ℕ) (l : List ℕ) → v < n → Walk H v l → last v l ≡ w → f v ≤ init w
    go v [] h r e = rw (← e) (own v h)
    go v (x ∷ l) h r e = omega (arith, falls v x r.0, go x l (inside v x r.0).1 r.1 e)

-- val k v is the label of v after k rounds: each hands every label on, and no label comes from nowhere
pub record Rounds (n : ℕ) (H : ℕ → ℕ → Type 0) (init : ℕ → ℕ) (val : ℕ → ℕ → ℕ) : Type 0 where
  pub start : (v : ℕ) → v < n → val zero v ≡ init v
  pub own : (k v : ℕ) → v < n → val (suc k) v ≤ val k v
  pub near : (k v w : ℕ) → H v w → val (suc k) v ≤ val k w
  pub reached : (k v : ℕ) → v < n → (w : ℕ) × Connected H v w × (val k v ≡ init w)

module _ {n : ℕ} {H : ℕ → ℕ → Type 0} {init : ℕ → ℕ} {val : ℕ → ℕ →
    ℕ} (inside : Within n H) (rounds : Rounds n H init val) where
  -- k rounds carry a label k steps
  carried : (k v : ℕ) (l : List ℕ) → v < n → length l ≤ k → Walk H v l → val k v ≤ init (last v l)
  carried zero v [] h b r = omega (arith, rounds.start v h)
  carried (suc k) v [] h b r = omega (arith, rounds.own k v h, carried k v [] h (omega arith) r)
  carried zero v (x ∷ l) h b r = absurd (omega arith)
  carried (suc k) v (x ∷ l) h b r =
      omega (arith, rounds.near k v x r.0, carried k x l (inside v x r.0).1 (omega arith) r.1)

  -- n rounds carry it everywhere
  pub rounds-least : Least n H init (val n)
  rounds-least = record { below = far; reached = rounds.reached n }
    where
      among : (v : ℕ) (l : List ℕ) → v < n → Walk H v l → (z : ℕ) → Mem z (v ∷ l) → Picked (λ (i : ℕ). true) n z
      among v [] h r z (inl e) = record { below = rw e h; passes = refl }
      among v [] h r z (inr m) = absurd m
      among v (x ∷ l) h r z (inl e) = record { below = rw e h; passes = refl }
      among v (x ∷ l) h r z (inr m) = among x l (inside v x r.0).1 r.1 z m

      far : (v w : ℕ) → v < n → Connected H v w → val n v ≤ init w
      far v w h (l, r) =
          let (m, s, e, f, d) = simple H v l r.0 in
          let few : length (v ∷ m) ≤ count n (λ (i : ℕ). true) =
          pigeonhole (λ (i : ℕ). true) n (v ∷ m) d (among v m h s) in
          let q : last v m ≡ w = e ∙ r.1 in
          rw (← q) (carried n v m h (omega (arith, count_true n)) s)
