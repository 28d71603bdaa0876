-- A list of calls given as words, three a call: its kind and two numbers. The replies go to a lent table, eight words a
-- reply, and the reports to parts of one lent slice of bytes.
use Rattle.std.specs.Prelude.{Bool, cond, List, [], ◌∷◌, ◌++◌, ℕ, ◌+◌, ◌*◌, ◌-◌, ◌/◌, ◌%◌, min, eqb, length, take, drop}
use Rattle.std.proofs.lemmas.List.Edits.{sets}
use Rattle.spec_machine.specs.State.{State}
use Rattle.spec_machine.specs.Calls.{Answer}
use Rattle.spec_state.specs.declared.reply.Reply.{Reply}
use Rattle.spec_state.specs.declared.reply.Reply.TheVariants.{Refused, Done, Made, Status, Unit, Link, Read, Written}
use Rattle.spec_machine.specs.Report.{flag}
use Rattle.spec_claim.specs.Play.{Call, round, run, status, unit, link, report, answer_to, slice_after}

-- ---- a call

-- the part of a slice that a report's two numbers give: from a start, so many places, as far as there are any
abbrev pub part_from : ℕ → List ℕ → ℕ
part_from start out = min start (length out)

abbrev pub part_to : ℕ → ℕ → List ℕ → ℕ
part_to start places out = min (part_from start out + places) (length out)

abbrev pub part : ℕ → ℕ → List ℕ → List ℕ
part start places out = take (part_to start places out - part_from start out) (drop (part_from start out) out)

-- 1 round, 2 run with budget a, 4 unit a, 5 link a, 6 report into b places from a on; any other kind is a status call
abbrev pub call_of : ℕ → ℕ → ℕ → List ℕ → Call
call_of kind a b out =
    cond (eqb kind 1) round
    (cond (eqb kind 2) (run a) (cond (eqb kind 4) (unit a)
    (cond (eqb kind 5) (link a) (cond (eqb kind 6) (report (part a b out)) status))))

-- the slice after the call: a report's part replaced, else as it was
abbrev pub out_after : ℕ → ℕ → ℕ → List ℕ → State → List ℕ
out_after kind a b out s =
    cond (eqb kind 6)
    (take (part_from a out) out ++ (slice_after (report (part a b out)) s ++ drop (part_to a b out) out))
    out

-- ---- a reply as eight words: its kind, its values, and zeros

abbrev pub encoded : Reply → List ℕ
encoded (Refused k) = 0 ∷ k ∷ 0 ∷ 0 ∷ 0 ∷ 0 ∷ 0 ∷ 0 ∷ []
encoded Done = 1 ∷ 0 ∷ 0 ∷ 0 ∷ 0 ∷ 0 ∷ 0 ∷ 0 ∷ []
encoded (Made k) = 2 ∷ k ∷ 0 ∷ 0 ∷ 0 ∷ 0 ∷ 0 ∷ 0 ∷ []
encoded (Status stage countdown rounds requests) = 3 ∷ stage ∷ countdown ∷ rounds ∷ requests ∷ 0 ∷ 0 ∷ 0 ∷ []
encoded (Unit v color parent place single) = 4 ∷ v ∷ color ∷ parent ∷ place ∷ flag single ∷ 0 ∷ 0 ∷ []
encoded (Link j label lone) = 5 ∷ j ∷ label ∷ flag lone ∷ 0 ∷ 0 ∷ 0 ∷ 0 ∷ []
encoded (Read n m) = 6 ∷ n ∷ m ∷ 0 ∷ 0 ∷ 0 ∷ 0 ∷ 0 ∷ []
encoded (Written k) = 7 ∷ k / 65536 ∷ k % 65536 ∷ 0 ∷ 0 ∷ 0 ∷ 0 ∷ 0 ∷ []

-- ---- the list

pub record PlayedWords : Type 0 where
  pub last : State
  pub replies : List ℕ
  pub out : List ℕ

-- the calls from number i on, each on the state that the last one left
unfoldable pub play_words : List ℕ → ℕ → State → List ℕ → List ℕ → PlayedWords
play_words [] i s replies out = record { last = s; replies = replies; out = out }
play_words (k ∷ []) i s replies out = record { last = s; replies = replies; out = out }
play_words (k ∷ a ∷ []) i s replies out = record { last = s; replies = replies; out = out }
play_words (k ∷ a ∷ b ∷ ws) i s replies out =
    play_words ws (i + 1) (answer_to (call_of k a b out) s).state
    (sets replies (8 * i) (encoded (answer_to (call_of k a b out) s).reply)) (out_after k a b out s)

-- the calls that the words make
unfoldable pub calls_in : List ℕ → State → List ℕ → List Call
calls_in [] s out = []
calls_in (k ∷ []) s out = []
calls_in (k ∷ a ∷ []) s out = []
calls_in (k ∷ a ∷ b ∷ ws) s out = call_of k a b out
    ∷ calls_in ws (answer_to (call_of k a b out) s).state (out_after k a b out s)
