-- The first round as code reads it: past a table's end there is 0, so that an absent unit needs no test.
use Rattle.std.specs.Prelude.{◌≡◌, refl, Bool, true, false, cond, ◌&&◌, List, ℕ, ◌-◌, ◌≤◌, min, eqb, leb, length}
use Rattle.std.proofs.Common.{◌∙◌, arith, leb-true, eq-eqb, ne_eqb}
use Rattle.std.proofs.Math.Decide.{ℕ_discrete}
use Rattle.std.proofs.Math.ListN.{get_or-eq_default}
use Rattle.base_lists.specs.Tests.{and_right}
use Rattle.spec_rules.specs.Basics.{ABSENT, at}
use Rattle.spec_rules.specs.Range.{end_place}
use Rattle.spec_rules.specs.RangeLaws.{local_by, begin_by}

module _ (local : List ℕ) (full : length local ≡ 256) where
  -- the absent unit's value is 0
  value_of : (u : ℕ) → Dec (u ≡ ABSENT) → at local u ≡ cond (eqb u ABSENT) 0 (at local u)
  value_of u (yes e) = rw (eq-eqb u ABSENT e) (get_or-eq_default local 0 (omega (arith, full)))
  value_of u (no e) = rw (ne_eqb u ABSENT e)

  pub local-value : (first : List ℕ) (q own x : ℕ) → own ≡ at first q → x ≡ at local own → x ≡ local_by first local q
  local-value first q own x is-own is = is ∙ rw is-own (value_of (at first q) (ℕ_discrete (at first q) ABSENT))

  begin-go : (n e : ℕ) (first : List ℕ) (b : Bool) → n ≤ ABSENT → (leb 1 e && leb e n) ≡ b
      → at local (cond b (at first (e - 1)) ABSENT) ≡ cond b (local_by first local (min (e - 1) ABSENT)) 0
  begin-go n e first true few t =
      let l : e ≤ n = leb-true e n (and_right (leb 1 e) (leb e n) t) in
      let q : min (e - 1) ABSENT ≡ e - 1 = omega arith in
      rw q (value_of (at first (e - 1)) (ℕ_discrete (at first (e - 1)) ABSENT))
  begin-go n e first false few t = get_or-eq_default local 0 (omega (arith, full))

  pub begin-value : (n e : ℕ) (first : List ℕ) (u x : ℕ) (nd pre : List ℕ) (v : ℕ) → n ≤ ABSENT → e ≡ end_place nd pre v
      → u ≡ cond (leb 1 e && leb e n) (at first (e - 1)) ABSENT → x ≡ at local u → x ≡ begin_by n first local nd pre v
  begin-value n e first u x nd pre v few is-e is-u is =
      let value : x ≡ cond (leb 1 e && leb e n) (local_by first local (min (e - 1) ABSENT)) 0
      = is ∙ rw is-u (begin-go n e first (leb 1 e && leb e n) few refl) in
      rw is-e at value
