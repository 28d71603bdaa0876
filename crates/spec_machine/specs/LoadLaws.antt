-- Laws of loading, and of the state that was never loaded.
use Rattle.std.specs.Prelude.{◌≡◌, refl, true, false, List, ◌++◌, ℕ, ◌+◌, ◌≤◌, ◌<◌, min, length, get_or, set, take}
use Rattle.std.specs.Prelude.{drop, ℤ}
use Rattle.std.proofs.Common.{sym, ◌∙◌, add-one, arith, length-take-le, take-suc, take_all}
use Rattle.std.proofs.Math.Decide.{dec_le}
use Rattle.std.proofs.lemmas.List.{length-replicate}
use Rattle.base_lists.specs.Puts.{put_one}
use Rattle.base_lists.specs.Tests.{refuted}
use Rattle.table.specs.Table.{stored_refusal}
use Rattle.table.proofs.Passes.{passes, table-alone, table-levelled}
use Rattle.table.proofs.FreshReplies.{fresh-accepted}
use Rattle.spec_machine.specs.State.{units, words}
use Rattle.spec_machine.specs.Load.{Input, load_refusal, stored_load_refusal, absents, silences, begun, unloaded}
use Rattle.spec_machine.specs.Kept.{kept-exact}
use Rattle.spec_machine.specs.WellFormed.{well_formed}

module _ {A : Type 0} where
  -- one entry more laid down
  pub copy_one : (w old : List A) (i : ℕ) (d : A) → i < length w → length w ≤ length old
      → set (take i w ++ drop i old) i (get_or w i d) ≡ take (i + 1) w ++ drop (i + 1) old
  copy_one w old i d h l =
      put_one (take i w) old i (get_or w i d) (length-take-le i w (omega arith)) (omega arith)
      ∙ rw (add-one i, take-suc w i d h) refl

  -- as many entries as an array holds
  pub held-words : (size count : ℕ) (t : List A) → count ≡ min size (length t) → take count t ≡ take size t
  held-words size count t e = go (dec_le (length t) size)
    where
      go : Dec (length t ≤ size) → take count t ≡ take size t
      go (yes l) = take_all count t (omega (arith, e)) ∙ sym (take_all size t l)
      go (no l) = let all : count ≡ size = omega (arith, e) in rw all refl

-- a table that passes fits the array
pub passed-fits : (n : ℕ) (t : List ℕ) (ls : List ℤ) → stored_refusal n t ls ≡ 0 → (length t ≤ 2048)
    × (length ls ≤ 1024)
passed-fits n t ls e =
    let p = passes n t (table-alone n t ls e) in
    (omega (arith, p.pairs, p.few_links), omega (arith, table-levelled n t ls e, p.few_links))

-- a table that load accepts is accepted by the load of a stored one
pub load_accepted : (input : Input) → load_refusal input ≡ 0 → stored_load_refusal input ≡ 0
load_accepted input e = fresh-accepted input.units input.words input.levels e

pub length-absents : (k : ℕ) → length (absents k) ≡ k
unfolding absents
length-absents k = length-replicate k _

pub length-silences : (k : ℕ) → length (silences k) ≡ k
unfolding silences
length-silences k = length-replicate k _

-- a state never loaded is not well formed, and so every call but load is refused with 10
pub unloaded_unkept : well_formed unloaded ≡ false
unfolding unloaded begun
unloaded_unkept = refuted (well_formed unloaded) none
  where
    none : well_formed unloaded ≡ true → ⊥
    none e = omega (arith, (passes (units unloaded) (words unloaded) ((kept-exact unloaded).0 e).passes).some_unit)
