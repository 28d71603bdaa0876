-- Why a call that names two links is refused: 10, 12, 13 for either, then its own number where its own test holds.
use Rattle.std.specs.Prelude.{◌≡◌, Bool, true, false, not, [], ◌∷◌, ℕ, ◌<◌, ltb}
use Rattle.std.proofs.Common.{arith, ltb-true}
use Rattle.std.proofs.lemmas.Bool.{not-false}
use Rattle.table.specs.Refusals.{first_of}
use Rattle.table.specs.RefusalLaws.{passed-test}

-- whether the state is well formed, whether it is finished, the links, the two positions, the number, the test
abbrev pub two_refusal : Bool → Bool → ℕ → ℕ → ℕ → ℕ → Bool → ℕ
two_refusal well ended m i j k own = first_of
    ((10, not well) ∷ (12, not ended) ∷ (13, not (ltb i m)) ∷ (13, not (ltb j m)) ∷ (k, own) ∷ [])

-- what holds where such a call is not refused
pub two-passed : (well ended : Bool) (m i j k : ℕ) (own : Bool) → (k ≡ 0 → ⊥) → two_refusal well ended m i j k own ≡ 0
    → (well ≡ true) × (i < m) × (j < m) × (own ≡ false)
two-passed well ended m i j k own n e =
    let a = passed-test (not well) 10 _ (omega arith) e in
    let b = passed-test (not ended) 12 _ (omega arith) a.1 in
    let c = passed-test (not (ltb i m)) 13 _ (omega arith) b.1 in
    let d = passed-test (not (ltb j m)) 13 _ (omega arith) c.1 in (
      not-false well a.0,
      ltb-true i m (not-false _ c.0),
      ltb-true j m (not-false _ d.0),
      (passed-test own k _ n d.1).0,
    )
