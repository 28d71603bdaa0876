-- Links of two classes meet at a vertex exactly where it is an articulation point (document 01's single point).
use Rattle.std.specs.Prelude.{◌≡◌, refl, ◌⊎◌, ◌≢◌, ◌↔◌, List, [], ◌∷◌, ℕ}
use Rattle.std.proofs.Common.{sym, subst, ◌∙◌, inl, inr}
use Rattle.std.proofs.Math.Decide.{ℕ_discrete}
use Rattle.theory_graph.specs.Rings.{Graph, last, Walk, OnRing, SameLink, Connected, Articulation}
use Rattle.theory_graph.specs.Walks.{holds-first, holds-second}
use Rattle.theory_graph.specs.Routes.{Without, connected_refl, connected-link, connected_trans, avoiding, avoided}
use Rattle.theory_graph.specs.Routes.{ring-around}
use Rattle.theory_graph.specs.Forest.{Forest, Classes, ClassOf}
use Rattle.theory_graph.proofs.Together.{ends-apart}
use Rattle.theory_graph.proofs.Sides.{class-link, class_same, class-exists, class-at}
use Rattle.theory_graph.proofs.Blocks.{blocks}

-- links of two classes meet at u
pub record Meet (E : ℕ → ℕ → Type 0) (p d cl : ℕ → ℕ) (u : ℕ) : Type 0 where
  pub a : ℕ
  pub b : ℕ
  pub class-a : ℕ
  pub class-b : ℕ
  pub first : ClassOf E p d cl u a class-a
  pub second : ClassOf E p d cl u b class-b
  pub differ : class-a ≢ class-b

module _ (E : ℕ → ℕ → Type 0) (u : ℕ) (flip : (v w : ℕ) → E v w → E w v) where
  -- a walk to y ≢ u leaves u for the last time, or never meets it
  leaves : (x : ℕ) (l : List ℕ) (y : ℕ) → Walk E x l → last x l ≡ y → u ≢ y
      → ((u ≢ x) × Connected (Without u E) x y) ⊎ ((b : ℕ) × E u b × Connected (Without u E) b y)
  leaves x [] y w e n = inl (λ h. n (h ∙ e), ([], (tt, e)))
  leaves x (z ∷ l) y w e n = go (leaves z l y w.1 e n) (ℕ_discrete u x)
    where
      Leaves : ℕ → Type 0
      Leaves v = ((u ≢ v) × Connected (Without u E) v y) ⊎ ((b : ℕ) × E u b × Connected (Without u E) b y)

      go : Leaves z → Dec (u ≡ x) → Leaves x
      go (inr k) t = inr k
      go (inl k) (yes t) = inr (z, subst (λ (v : ℕ). E v z) (sym t) w.0, k.1)
      go (inl k) (no t) = inl (
        t,
        connected_trans (Without u E) x z y (connected-link (Without u E) x z (w.0, t, k.0))
            k.1,
      )

  -- between two vertices other than u: a way round, or one to u and one from u
  around : (x : ℕ) (l : List ℕ) (y : ℕ) → Walk E x l → last x l ≡ y → u ≢ x → u ≢ y
      → Connected (Without u E) x y ⊎ ((a b : ℕ) × E u a × E u b × Connected (Without u E) x a
      × Connected (Without u E) b y)
  around x [] y w e nx ny = inl ([], (tt, e))
  around x (z ∷ l) y w e nx ny = go (ℕ_discrete u z) (around z l y w.1 e)
    where
      Around : ℕ → Type 0
      Around v = Connected (Without u E) v y
          ⊎ ((a b : ℕ) × E u a × E u b × Connected (Without u E) v a × Connected (Without u E) b y)

      step : u ≢ z → Around z → Around x
      step n (inl k) = inl (connected_trans (Without u E) x z y (connected-link (Without u E) x z (w.0, nx, n)) k)
      step n (inr (a, b, ea, eb, ka, kb)) =
          inr (
            a,
            b,
            ea,
            eb,
            connected_trans (Without u E) x z a (connected-link (Without u E) x z (w.0, nx, n)) ka,
            kb,
          )

      meets : u ≡ z → ((u ≢ z) × Connected (Without u E) z y) ⊎ ((b : ℕ) × E u b × Connected (Without u E) b y) →
          Around x
      meets t (inl k) = absurd (k.0 t)
      meets t (inr (b, eb, k)) = inr (
        x,
        b,
        subst (λ (v : ℕ). E v x) (sym t) (flip x z w.0),
        eb,
        connected_refl (Without u E) x,
        k,
      )

      go : Dec (u ≡ z) → (u ≢ z → u ≢ y → Around z) → Around x
      go (yes t) f = meets t (leaves z l y w.1 e ny)
      go (no t) f = step t (f t ny)

module _ {E : ℕ → ℕ → Type 0} {p d root cl : ℕ →
    ℕ} (G : Graph E) (F : Forest E p d root) (C : Classes E p d cl) {u : ℕ} where
  meet-cut : Meet E p d cl u → Articulation E u
  meet-cut M =
      let la = class-link G F M.first in
      let lb = class-link G F M.second in
      record {
        x = M.a;
        y = M.b;
        apart = λ e. M.differ (class_same G F C.along-aux la (inl (refl, e)) M.first M.second);
        other-x = λ e. ends-apart G u M.a la (sym e);
        other-y = λ e. ends-apart G u M.b lb (sym e);
        connected = (u ∷ (M.b ∷ []), ((G.flip u M.a la, (lb, tt)), refl));
        cut = λ l r h. M.differ (class-at G F C.along-aux la lb (
          l,
          avoiding E u M.a l M.b r h,
        ) M.first M.second);
      }

  cut-meet : Articulation E u → Meet E p d cl u
  cut-meet A =
      let (l, (w, e)) = A.connected in
      go (around E u G.flip A.x l A.y w e (λ h. A.other-x (sym h)) (λ h. A.other-y (sym h)))
    where
      never : Connected (Without u E) A.x A.y → ⊥
      never c = let h = avoided E u A.x c.0 A.y c.1 in A.cut c.0 h.0 h.1

      go : Connected (Without u E) A.x A.y
          ⊎ ((a b : ℕ) × E u a × E u b × Connected (Without u E) A.x a × Connected (Without u E) b A.y) →
          Meet E p d cl u
      go (inl c) = absurd (never c)
      go (inr (a, b, la, lb, ka, kb)) =
          let ca = class-exists G F C.along-aux u a la in
          let cb = class-exists G F C.along-aux u b lb in
          record {
            a = a;
            b = b;
            class-a = ca.0;
            class-b = cb.0;
            first = ca.1;
            second = cb.1;
            differ = λ e. round ((blocks G F C ca.1 cb.1).0 e);
          }
        where
          join : Connected (Without u E) a b → ⊥
          join m = never (connected_trans (Without u E) A.x a A.y ka
              (connected_trans (Without u E) a b A.y m kb))

          round : SameLink u a u b ⊎ OnRing E u a u b → ⊥
          round (inl (inl e)) = join ([], (tt, e.1))
          round (inl (inr e)) = ends-apart G u b lb e.0
          round (inr (r, R, h, k)) =
              let way = ring-around G R u a b (holds-first r u a h) (holds-second r u a h) (holds-second r u b k) in
              join (way (ends-apart G u a la) (ends-apart G u b lb))

  pub articulation : Meet E p d cl u ↔ Articulation E u
  articulation = (meet-cut, cut-meet)
