-- The proof of what T-06 asks of the two handsets.
use Rattle.std.specs.Prelude.{◌≡◌, true, false, cond, ◌⊎◌, ℕ, zero, suc, ◌+◌, ◌-◌, ◌≤◌, ◌<◌, ◌%◌, eqb, length, take}
use Rattle.std.proofs.Math.Path.{refl, sym, ap, ap₂}
use Rattle.std.proofs.Common.{◌∙◌, inl, inr, arith, eqb-true, eq-eqb, ne_eqb}
use mathlib.Core.List.{List, [], ◌∷◌, ◌++◌}
use Rattle.std.proofs.Math.ListN.{drop}
use Rattle.base_lists.specs.Tests.{either}
use Rattle.table.proofs.Passes.{passes}
use Rattle.table.specs.RefusalLaws.{first-cause, some-cause}
use Rattle.file_frames.specs.Frame.{word_bytes, line_of}
use Rattle.file_frames.specs.FrameLaws.{Bytes, length-line}
use Rattle.spec_rules.specs.Ceilings as Ceilings
use Rattle.spec_rules.specs.CeilingLaws.{total-small}
use Rattle.spec_machine.specs.State.{State, units, words}
use Rattle.spec_machine.specs.Kept.{Kept, kept-exact}
use Rattle.spec_machine.specs.Step.{countdown}
use Rattle.spec_state.specs.declared.reply.Reply.{Reply}
use Rattle.spec_state.specs.declared.reply.Reply.TheVariants.{Refused, Written}
use Rattle.spec_machine.specs.Calls.{answered, values_of}
use Rattle.spec_machine.specs.AnswerLaws.{status-made}
use Rattle.handset_lines.specs.Lines.{status_of, foreman_body, service_body, foreman_line, service_line, line_refusal}
use Rattle.handset_lines.specs.Lines.{line_answer, line_shown}
use Rattle.handset_lines.specs.ReadBack.{bytes-none, bytes-more, bytes_word, line-front, line_byte, line_word}
use Rattle.handset_lines.specs.ReadBack.{word_back}
use Rattle.handset_lines.specs.Handsets.{Shows, Agree, SameForeman, Says, Handsets, line_reasons, number}
use Rattle.handset_lines.specs.Handsets.{foreman_read, service_read, told}

-- ---- a call that shows a line

module _ (needed : ℕ) (line : List ℕ) (long : length line ≡ needed) (s : State) (out : List ℕ) where
  abbrev refusal : ℕ
  refusal = line_refusal needed (length out) s

  same_number : number needed out s ≡ refusal
  unfolding line_answer
  same_number = go (either (eqb refusal 0))
    where
      go : (eqb refusal 0 ≡ true) ⊎ (eqb refusal 0 ≡ false) → number needed out s ≡ refusal
      go (inl e) = rw e (sym (eqb-true refusal 0 e))
      go (inr e) = rw e refl

  same-state : (line_answer needed (length out) s).state ≡ s
  unfolding line_answer
  same-state = go (either (eqb refusal 0))
    where
      go : (eqb refusal 0 ≡ true) ⊎ (eqb refusal 0 ≡ false) → (line_answer needed (length out) s).state ≡ s
      go (inl e) = rw e refl
      go (inr e) = rw e refl

  shows : Shows needed line s out
  unfolding line_answer line_shown line_refusal
  shows =
      record {
        cause = λ k h. rw same_number (first-cause (line_reasons needed (length out) s) k h);
        refused = rw same_number (some-cause (line_reasons needed (length out) s) (omega arith));
        state = same-state;
        unwritten = λ h. rw (ne_eqb refusal 0 (λ e. h (same_number ∙ e))) refl;
        values = λ e. rw (eq-eqb refusal 0 (sym same_number ∙ e)) refl;
        written = λ e. rw (eq-eqb refusal 0 (sym same_number ∙ e)) (ap (λ (k : ℕ). line ++ drop k out) long);
      }

-- ---- surveys that agree

-- a reply by its refusal alone
answered-reply : (k : ℕ) (s : State) (reply : Reply) → (answered k s s reply).reply ≡ cond (eqb k 0) reply (Refused k)
answered-reply k s reply = go (either (eqb k 0))
  where
    go : (eqb k 0 ≡ true) ⊎ (eqb k 0 ≡ false) → (answered k s s reply).reply ≡ cond (eqb k 0) reply (Refused k)
    go (inl e) = rw e refl
    go (inr e) = rw e refl

-- the foreman's line by unit count, stage and rounds made in it alone
abbrev line_at : ℕ → ℕ → ℕ → List ℕ
line_at n stage made = line_of (0x20 ∷ stage % 256 ∷ word_bytes (Ceilings.countdown n stage made))

module _ (s r : State) (a : Agree s r) where
  same_line : foreman_line s ≡ foreman_line r
  unfolding foreman_line
  same_line =
      ap (λ (n : ℕ). line_at n s.clock.stage s.clock.made) a.count
      ∙ (ap (λ (k : ℕ). line_at (units r) k s.clock.made) a.stage
      ∙ ap (λ (m : ℕ). line_at (units r) r.clock.stage m) a.made)

  same-refusal : Kept s → Kept r → (places : ℕ) → line_refusal 11 places s ≡ line_refusal 11 places r
  unfolding line_refusal
  same-refusal k l places = rw ((kept-exact s).1 k, (kept-exact r).1 l) refl

  same : SameForeman s r
  unfolding line_answer line_shown
  same =
      record {
        line = same_line;
        reply = λ k l places.
            answered-reply (line_refusal 11 places s) s (Written 11)
            ∙ (rw (same-refusal k l places) refl ∙ sym (answered-reply (line_refusal 11 places r) r (Written 11)));
        slice = λ k l out. rw (same-refusal k l (length out), same_line) refl;
      }

-- ---- what the lines of a kept state say

total-later : (cs : List ℕ) (i : ℕ) → Ceilings.total (drop i cs) ≤ Ceilings.total cs
total-later [] zero = omega arith
total-later [] (suc i) = omega arith
total-later (c ∷ cs) zero = omega arith
total-later (c ∷ cs) (suc i) = omega (arith, total-later cs i)

countdown-small : (n stage made : ℕ) → n ≤ 256 → Ceilings.countdown n stage made ≤ 804
unfolding Ceilings.countdown
countdown-small n stage made h = omega (arith, total-later (Ceilings.ceilings n) (stage - 1), total-small n h)

module _ (s : State) (k : Kept s) where
  abbrev stage : ℕ
  stage = s.clock.stage

  one_byte : stage % 256 ≡ stage
  one_byte = omega (arith, k.to)

  counted : countdown s < 65536
  counted =
      let few : units s ≤ 256 = (passes (units s) (words s) k.passes).few_units in
      omega (arith, countdown-small (units s) stage s.clock.made few)

  tells : told s ≡ stage ∷ countdown s ∷ s.clock.rounds ∷ s.clock.requests ∷ []
  tells = ap (λ answer. values_of answer.reply) (sym (status-made s ((kept-exact s).1 k)))

  foreman-bytes : Bytes (foreman_body (status_of s))
  foreman-bytes =
      bytes-more 0x20 (stage % 256 ∷ word_bytes (countdown s)) (omega arith)
      (bytes-more (stage % 256) (word_bytes (countdown s)) (omega arith) (bytes_word (countdown s) [] bytes-none))

  service-bytes : Bytes (service_body (status_of s))
  service-bytes =
      let counts = word_bytes (countdown s) ++ word_bytes s.clock.rounds ++ word_bytes s.clock.requests in
      bytes-more 0x21 (stage % 256 ∷ counts) (omega arith)
      (bytes-more (stage % 256) counts (omega arith)
      (bytes_word (countdown s) (word_bytes s.clock.rounds ++ word_bytes s.clock.requests)
      (bytes_word s.clock.rounds (word_bytes s.clock.requests) (bytes_word s.clock.requests [] bytes-none))))

  foreman_says_lem : Says 0x20 5 (foreman_line s) (foreman_read (foreman_line s)) (take 2 (told s))
  unfolding foreman_line
  foreman_says_lem =
      let f = foreman_body (status_of s) in
      record {
        whole = line-front f foreman-bytes;
        first = line_byte f foreman-bytes 0 (omega arith);
        holds =
            ap₂ (λ (x y : ℕ). x ∷ y ∷ []) (line_byte f foreman-bytes 1 (omega arith) ∙ one_byte)
            (line_word f foreman-bytes 2 (omega arith) ∙ word_back (countdown s) counted)
            ∙ sym (ap (take 2) tells);
      }

  service_says_lem : Says 0x21 9 (service_line s) (service_read (service_line s)) (told s)
  unfolding service_line
  service_says_lem =
      let f = service_body (status_of s) in
      let two =
      ap₂ (λ (x y : ℕ). x ∷ y ∷ []) (line_word f service-bytes 4 (omega arith)
      ∙ word_back s.clock.rounds (omega (arith, k.rounds)))
      (line_word f service-bytes 6 (omega arith) ∙ word_back s.clock.requests (omega (arith, k.requests))) in
      record {
        whole = line-front f service-bytes;
        first = line_byte f service-bytes 0 (omega arith);
        holds =
            ap₂ (λ (x : ℕ) (l : List ℕ). x ∷ l) (line_byte f service-bytes 1 (omega arith) ∙ one_byte)
            (ap₂ (λ (x : ℕ) (l : List ℕ). x ∷ l) (line_word f service-bytes 2 (omega arith)
            ∙ word_back (countdown s) counted) two)
            ∙ sym tells;
      }

pub handsets : Handsets
unfolding foreman_line service_line
handsets =
    record {
      foreman = λ s out. shows 11 (foreman_line s) (length-line (foreman_body (status_of s))) s out;
      service = λ s out. shows 19 (service_line s) (length-line (service_body (status_of s))) s out;
      same = same;
      foreman_says = foreman_says_lem;
      service_says = service_says_lem;
    }
