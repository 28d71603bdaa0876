-- The answers of the file calls, by what reading and writing reply.
use Rattle.std.specs.Prelude.{◌≡◌, refl, true, false, ◌⊎◌, List, ℕ, eqb}
use Rattle.std.proofs.Common.{ap, inl, inr}
use Rattle.base_lists.specs.Tests.{either}
use Rattle.file_spec.specs.File.{lines_of, read_refusal, read_reply, write_refusal, write_reply}
use Rattle.file_spec.specs.declared.Reading.{Reading}
use Rattle.file_spec.specs.declared.Reading.TheVariants as reading
use Rattle.file_spec.specs.declared.Writing.{Writing}
use Rattle.file_spec.specs.declared.Writing.TheVariants as writing
use Rattle.spec_state.specs.declared.reply.Reply.{Reply}
use Rattle.spec_state.specs.declared.reply.Reply.TheVariants.{Refused, Read, Written}
use Rattle.spec_machine.specs.State.{State}
use Rattle.spec_machine.specs.Load.{Input}
use Rattle.spec_machine.specs.Calls.{Answer, read_answer, write_answer}

-- the reply of a file call
abbrev pub reading_reply : Reading → Reply
reading_reply (reading.Read n m) = Read n m
reading_reply (reading.Refused k) = Refused k

abbrev pub writing_reply : Writing → Reply
writing_reply (writing.Written k) = Written k
writing_reply (writing.Refused k) = Refused k

-- beside the state
abbrev pub reading_answer : State → Reading → Answer
reading_answer s r = record { state = s; reply = reading_reply r }

abbrev pub writing_answer : State → Writing → Answer
writing_answer s r = record { state = s; reply = writing_reply r }

pub reading_told : (s : State) (r : Reading) {reply : Reply} → reply ≡ reading_reply r →
    record { state = s; reply = reply } ≡ reading_answer s r
reading_told s r e = ap (λ (x : Reply). record { state = s; reply = x }) e

pub writing_told : (s : State) (r : Writing) {reply : Reply} → reply ≡ writing_reply r →
    record { state = s; reply = reply } ≡ writing_answer s r
writing_told s r e = ap (λ (x : Reply). record { state = s; reply = x }) e

pub read_answer_lem : (input : List ℕ) (places spaces : ℕ) (s : State)
    → reading_answer s (read_reply input places spaces) ≡ read_answer input places spaces s
unfolding read_answer read_reply
read_answer_lem input places spaces s = go (either (eqb (read_refusal (lines_of input) places spaces) 0))
  where
    go : (eqb (read_refusal (lines_of input) places spaces) 0 ≡ true)
        ⊎ (eqb (read_refusal (lines_of input) places spaces) 0 ≡ false)
        → reading_answer s (read_reply input places spaces) ≡ read_answer input places spaces s
    go (inl e) = rw e refl
    go (inr e) = rw e refl

pub write_answer_lem : (input : Input) (places : ℕ) (s : State)
    → writing_answer s (write_reply input.units input.words input.levels places) ≡ write_answer input places s
unfolding write_answer write_reply
write_answer_lem input places s = go (either (eqb refusal 0))
  where
    refusal : ℕ
    refusal = write_refusal input.units input.words input.levels places

    go : (eqb refusal 0 ≡ true) ⊎ (eqb refusal 0 ≡ false)
        → writing_answer s (write_reply input.units input.words input.levels places) ≡ write_answer input places s
    go (inl e) = rw e refl
    go (inr e) = rw e refl
