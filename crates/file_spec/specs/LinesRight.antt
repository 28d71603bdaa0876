-- That `lines_of` cuts characters into lines: joined again they are the characters; a line holds no line feed; only the
-- last may lack the line feed that ends it, and is not empty then.
use Rattle.std.specs.Prelude.{◌≡◌, refl, true, false, cond, List, [], ◌∷◌, ◌++◌, ℕ, zero, suc, ◌<◌, eqb, length, get_or}
use Rattle.std.proofs.Common.{true≢false, le_of_suc-le-suc, not-suc-le-zero, arith, eq-eqb, ne_eqb}
use Rattle.std.proofs.Math.Decide.{ℕ_discrete}
use Rattle.file_frames.specs.Frame.{LF}
use Rattle.file_spec.specs.File.{Line, prepend, lines_of}

-- the characters of lines
abbrev pub joined : List Line → List ℕ
joined [] = []
joined (l ∷ ls) = l.0 ++ (cond l.1 (LF ∷ []) [] ++ joined ls)

joined-prepend : (c : ℕ) (ls : List Line) → joined (prepend c ls) ≡ c ∷ joined ls
unfolding prepend
joined-prepend c [] = refl
joined-prepend c (l ∷ ls) = refl

lines-joined : (s : List ℕ) → joined (lines_of s) ≡ s
unfolding lines_of
lines-joined [] = refl
lines-joined (c ∷ s) = go (lines-joined s) (ℕ_discrete c LF)
  where
    go : joined (lines_of s) ≡ s → Dec (c ≡ LF) →
        joined (cond (eqb c LF) (([], true) ∷ lines_of s) (prepend c (lines_of s))) ≡ c ∷ s
    go later (yes e) = rw (eq-eqb c LF e, later, e)
    go later (no n) = rw (ne_eqb c LF n, joined-prepend c (lines_of s), later)

-- no character is a line feed
abbrev NoFeed : List ℕ → Type 0
NoFeed p = (j : ℕ) → j < length p → get_or p j 0 ≡ LF → ⊥

-- what a line is, and what may follow it
abbrev Cut : List Line → Type 0
Cut [] = Unit
Cut (l ∷ ls) = NoFeed l.0 × (l.1 ≡ false → (ls ≡ []) × (0 < length l.0)) × Cut ls

no_feed_more : (c : ℕ) (p : List ℕ) → (c ≡ LF → ⊥) → NoFeed p → NoFeed (c ∷ p)
no_feed_more c p n h zero l e = n e
no_feed_more c p n h (suc j) l e = h j (le_of_suc-le-suc l) e

no_feed_none : NoFeed []
no_feed_none j l e = not-suc-le-zero l

cut-prepend : (c : ℕ) (ls : List Line) → (c ≡ LF → ⊥) → Cut ls → Cut (prepend c ls)
unfolding prepend
cut-prepend c [] n h = (no_feed_more c [] n no_feed_none, λ e. (refl, omega arith), tt)
cut-prepend c (l ∷ ls) n h = (no_feed_more c l.0 n h.0, λ e. ((h.1 e).0, omega arith), h.2)

lines_cut : (s : List ℕ) → Cut (lines_of s)
unfolding lines_of
lines_cut [] = tt
lines_cut (c ∷ s) = go (lines_cut s) (ℕ_discrete c LF)
  where
    go : Cut (lines_of s) → Dec (c ≡ LF) → Cut (cond (eqb c LF) (([], true) ∷ lines_of s) (prepend c (lines_of s)))
    go later (yes e) = rw (eq-eqb c LF e) (no_feed_none, λ q. absurd (true≢false q), later)
    go later (no n) = rw (ne_eqb c LF n) (cut-prepend c (lines_of s) n later)

pub record LinesOf (s : List ℕ) (ls : List Line) : Type 0 where
  pub whole : joined ls ≡ s
  pub cut : Cut ls

-- of every input
pub lines-right : (s : List ℕ) → LinesOf s (lines_of s)
lines-right s = record { whole = lines-joined s; cut = lines_cut s }
