-- What T-06 asks of the two handsets, for any state s and any slice `out`: 10 and 14 exactly for their causes, at every
-- stage; the line at the front and bytes past it untouched; equal foreman's lines where unit count, stage and the
-- rounds of the stage are the same in two surveys; and lines that say what status says.
use Rattle.std.specs.Prelude.{◌≡◌, true, ◌↔◌, List, [], ◌∷◌, ◌++◌, ℕ, length, take, drop}
use Rattle.table.specs.RefusalLaws.{Reason, FirstCause, SomeCause}
use Rattle.file_frames.specs.Frame.{byte_at, word_at, line_front}
use Rattle.spec_machine.specs.State.{State, units}
use Rattle.spec_machine.specs.Kept.{Kept}
use Rattle.spec_machine.specs.Calls.{number_of, values_of, status_answer}
use Rattle.spec_machine.specs.CallCauses.{not_kept, too_short}
use Rattle.handset_lines.specs.Lines.{FOREMAN-LINE, SERVICE-LINE, foreman_line, service_line, line_answer, line_shown}
use Rattle.handset_lines.specs.Lines.{foreman_answer, foreman_shown}

abbrev pub line_reasons : ℕ → ℕ → State → List Reason
line_reasons needed places s = not_kept s ∷ too_short places needed ∷ []

abbrev pub number : ℕ → List ℕ → State → ℕ
number needed out s = number_of (line_answer needed (length out) s).reply

-- a call that shows a line of so many characters
pub record Shows (needed : ℕ) (line : List ℕ) (s : State) (out : List ℕ) : Type 0 where
  pub cause : (k : ℕ) → (k ≡ 0 → ⊥) → (number needed out s ≡ k) ↔ FirstCause (line_reasons needed (length out) s) k
  pub refused : (number needed out s ≡ 0 → ⊥) ↔ SomeCause (line_reasons needed (length out) s)
  pub state : (line_answer needed (length out) s).state ≡ s
  pub unwritten : (number needed out s ≡ 0 → ⊥) → line_shown needed line s out ≡ out
  pub values : number needed out s ≡ 0 → values_of (line_answer needed (length out) s).reply ≡ needed ∷ []
  pub written : number needed out s ≡ 0 → line_shown needed line s out ≡ line ++ drop needed out

-- two surveys that agree in these three, however their links run
pub record Agree (s r : State) : Type 0 where
  pub count : units s ≡ units r
  pub stage : s.clock.stage ≡ r.clock.stage
  pub made : s.clock.made ≡ r.clock.made

pub record SameForeman (s r : State) : Type 0 where
  pub line : foreman_line s ≡ foreman_line r
  pub reply : Kept s → Kept r → (places : ℕ) → (foreman_answer places s).reply ≡ (foreman_answer places r).reply
  pub slice : Kept s → Kept r → (out : List ℕ) → foreman_shown s out ≡ foreman_shown r out

-- a line is a whole frame of so many bytes, of this kind, and what a handset reads from it are these values
pub record Says (kind bytes : ℕ) (line read values : List ℕ) : Type 0 where
  pub whole : line_front bytes line ≡ true
  pub first : byte_at line 0 ≡ kind
  pub holds : read ≡ values

-- what is read from the foreman's line, and from the service line
abbrev pub foreman_read : List ℕ → List ℕ
foreman_read l = byte_at l 2 ∷ word_at l 4 ∷ []

abbrev pub service_read : List ℕ → List ℕ
service_read l = byte_at l 2 ∷ word_at l 4 ∷ word_at l 8 ∷ word_at l 12 ∷ []

-- what status says
abbrev pub told : State → List ℕ
told s = values_of (status_answer s).reply

pub record Handsets : Type 0 where
  pub foreman : (s : State) (out : List ℕ) → Shows FOREMAN-LINE (foreman_line s) s out
  pub service : (s : State) (out : List ℕ) → Shows SERVICE-LINE (service_line s) s out
  pub same : (s r : State) → Agree s r → SameForeman s r
  pub foreman_says : (s : State) → Kept s
      → Says 0x20 5 (foreman_line s) (foreman_read (foreman_line s)) (take 2 (told s))
  pub service_says : (s : State) → Kept s → Says 0x21 9 (service_line s) (service_read (service_line s)) (told s)
