-- Files on lent memory by what `file_spec` replies; and that they are the answers of every state.
use Rattle.std.specs.Prelude.{◌≡◌, true, false, ◌⊎◌, ℕ, eqb}
use Rattle.std.proofs.Math.Path.{refl}
use Rattle.std.proofs.Common.{inl, inr}
use mathlib.Core.List.{List, [], ◌∷◌}
use Rattle.base_lists.specs.Tests.{either}
use Rattle.file_spec.specs.File.{lines_of, units_in, link_frames, read_refusal, read_reply, write_refusal}
use Rattle.file_spec.specs.declared.Reading.{Reading}
use Rattle.file_spec.specs.declared.Reading.TheVariants.{Read}
use Rattle.spec_machine.specs.State.{State}
use Rattle.spec_machine.specs.Load.{Input}
use Rattle.spec_machine.specs.Calls.{number_of, read_answer, write_answer}
use Rattle.spec_machine.specs.AnswerLaws.{answered-number}
use Rattle.spec_state.specs.declared.reply.Reply.TheVariants.{Refused}
use Rattle.words_calls.specs.Face.{said}
use Rattle.words_calls.specs.FileFace.{word_said}

-- the unit count and the number of links in a reply; as they were, where it refuses
abbrev pub units_said : Reading → ℕ → ℕ
units_said (Read n m) old = n
units_said (Reading.Refused k) old = old

abbrev pub links_said : Reading → ℕ → ℕ
links_said (Read n m) old = m
links_said (Reading.Refused k) old = old

said-refused : (k : ℕ) (out : List ℕ) → eqb k 0 ≡ false → said (Refused k) out ≡ out
said-refused k out e = rw e refl

module _ (file : List ℕ) (places spaces : ℕ) where
  abbrev refusal : ℕ
  refusal = read_refusal (lines_of file) places spaces

  -- whichever of the two is asked for
  said-by : (told : Reading → ℕ) (value old : ℕ) →
      told (Read (units_in (lines_of file)) (link_frames (lines_of file))) ≡ value → told (Reading.Refused refusal)
      ≡ old
      → told (read_reply file places spaces) ≡ word_said refusal value old
  unfolding read_reply
  said-by told value old yes-is no-is = go (either (eqb refusal 0))
    where
      go : (eqb refusal 0 ≡ true) ⊎ (eqb refusal 0 ≡ false) →
          told (read_reply file places spaces) ≡ word_said refusal value old
      go (inl e) = rw e yes-is
      go (inr e) = rw e no-is

  pub units-said : (old : ℕ) → units_said (read_reply file places spaces) old
      ≡ word_said refusal (units_in (lines_of file)) old
  units-said old = said-by (λ (r : Reading). units_said r old) _ _ refl refl

  pub links-said : (old : ℕ) → links_said (read_reply file places spaces) old
      ≡ word_said refusal (link_frames (lines_of file)) old
  links-said old = said-by (λ (r : Reading). links_said r old) _ _ refl refl

  -- ---- reading is every state's answer

  pub read_number : (s : State) → number_of (read_answer file places spaces s).reply ≡ refusal
  unfolding read_answer
  read_number s = answered-number refusal s s _ refl

  pub read-said : (s : State) (n m : ℕ)
      → said (read_answer file places spaces s).reply (n ∷ m ∷ [])
      ≡ word_said refusal (units_in (lines_of file)) n ∷ word_said refusal (link_frames (lines_of file)) m ∷ []
  unfolding read_answer
  read-said s n m = go (either (eqb refusal 0))
    where
      go : (eqb refusal 0 ≡ true) ⊎ (eqb refusal 0 ≡ false)
          → said (read_answer file places spaces s).reply (n ∷ m ∷ [])
          ≡ word_said refusal (units_in (lines_of file)) n ∷ word_said refusal (link_frames (lines_of file)) m ∷ []
      go (inl e) = rw e refl
      go (inr e) = rw e (said-refused refusal (n ∷ m ∷ []) e)

-- ---- and so is writing

pub write_number : (input : Input) (places : ℕ) (s : State)
    → number_of (write_answer input places s).reply ≡ write_refusal input.units input.words input.levels places
unfolding write_answer
write_number input places s = answered-number _ s s _ refl
