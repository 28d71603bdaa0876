-- One call after the other makes the list, and the claim follows from the list.
use Rattle.std.specs.Prelude.{◌≡◌, refl, List, [], ◌∷◌, ℕ, ◌+◌, ◌*◌, ◌≤◌, ◌<◌, length, get_or, drop}
use Rattle.std.proofs.Common.{sym, ap, ap₂, ◌∙◌, add-zero, arith, length-drop, get_or-drop, drop-drop}
use Rattle.spec_state.specs.declared.reply.Reply.TheVariants.{Done}
use Rattle.spec_machine.specs.State.{State}
use Rattle.spec_machine.specs.Load.{Input, load_refusal, loaded}
use Rattle.spec_machine.specs.Calls.{number_of, load_answer}
use Rattle.spec_machine.specs.AnswerLaws.{answered-number}
use Rattle.words_known.specs.Left.{Left}
use Rattle.words_layout.specs.Layout.{state_of}
use Rattle.spec_claim.specs.Play.{Call, answer_to}
use Rattle.spec_claim.specs.Claim.{Claim}
use Rattle.words_claim.specs.Exchange.{CallMade, calls_of, used_of}
use Rattle.words_claim.specs.WordsClaim.{LoadedWords, fresh}
use Rattle.words_claim.proofs.WordsClaimProof.{claim-on_words}
use Rattle.words_player.specs.Played.{call_of, out_after, calls_in, out_in, OneMade, AllMade, Claimed}
use Rattle.words_player.specs.Played.{ClaimedFrom}

pub claimed : (calls : List Call) (before after : List ℕ) → AllMade calls before after → Claimed calls before after
claimed calls before after m input l =
    let c = claim-on_words input before after l m.exchanges m.made in
    (m.exchanges, m.are, m.made, rw m.are at c)

-- the words that a load left
from_load : (input : Input) (given first : List ℕ) → 0 ≡ number_of (load_answer input (state_of given)).reply →
    Left given first (load_answer input (state_of given))
    → LoadedWords input first × (state_of first ≡ loaded input)
unfolding load_answer
from_load input given first n w =
    let accepted : load_refusal input ≡ 0 =
    sym (answered-number (load_refusal input) (state_of given) (loaded input) Done refl) ∙ sym n in
    let state : state_of first ≡ loaded input = rw accepted at w.state in
    (fresh given (n, w.state), state)

pub claimed-from : (input : Input) (given first last ws out : List ℕ)
    → 0 ≡ number_of (load_answer input (state_of given)).reply → Left given first (load_answer input (state_of given))
    → Claimed (calls_in ws (state_of first) out) first last → ClaimedFrom input ws out last
claimed-from input given first last ws out n w all =
    let (l, e) = from_load input given first n w in
    let (xs, are, made, c) = all input l in
    (xs, rw e at are, rw e at c)

pub bytes-from : (input : Input) (given first ws out left : List ℕ)
    → 0 ≡ number_of (load_answer input (state_of given)).reply → Left given first (load_answer input (state_of given))
    → left ≡ out_in ws (state_of first) out → left ≡ out_in ws (loaded input) out
bytes-from input given first ws out left n w e = e ∙ ap (λ (s : State). out_in ws s out)
    (from_load input given first n w).1

-- ---- the list, from its words

first-call : (ws : List ℕ) (s : State) (out : List ℕ) → 2 ≤ length ws
    → calls_in ws s out ≡ call_of (get_or ws 0 0) (get_or ws 1 0) out
    ∷ calls_in (drop 2 ws) (answer_to (call_of (get_or ws 0 0) (get_or ws 1 0) out) s).state
    (out_after (get_or ws 0 0) out s)
unfolding calls_in
first-call [] s out l = absurd (omega arith)
first-call (k ∷ []) s out l = absurd (omega arith)
first-call (k ∷ a ∷ ws) s out l = refl

two-on : (ws : List ℕ) (i : ℕ) → drop 2 (drop (2 * i) ws) ≡ drop (2 * (i + 1)) ws
two-on ws i =
    let sum : 2 * i + 2 ≡ 2 * (i + 1) = omega arith in
    rw (drop-drop 2 (2 * i) ws) (ap (λ (k : ℕ). drop k ws) sum)

kind-of : (ws : List ℕ) (i : ℕ) → get_or (drop (2 * i) ws) 0 0 ≡ get_or ws (2 * i) 0
kind-of ws i = rw (get_or-drop (2 * i) ws 0 0) (ap (λ (k : ℕ). get_or ws k 0) (add-zero (2 * i)))

-- call number i
next-call : (ws : List ℕ) (i : ℕ) (s : State) (out : List ℕ) → 2 * i + 2 ≤ length ws
    → calls_in (drop (2 * i) ws) s out ≡ call_of (get_or ws (2 * i) 0) (get_or ws (2 * i + 1) 0) out
    ∷ calls_in (drop (2 * (i + 1)) ws) (answer_to (call_of (get_or ws (2 * i) 0) (get_or ws (2 * i + 1) 0) out) s).state
    (out_after (get_or ws (2 * i) 0) out s)
next-call ws i s out l =
    let here : 2 ≤ length (drop (2 * i) ws) = omega (arith, length-drop (2 * i) ws) in
    rw (first-call (drop (2 * i) ws) s out here, two-on ws i, kind-of ws i, get_or-drop (2 * i) ws 1 0) refl

first_out : (ws : List ℕ) (s : State) (out : List ℕ) → 2 ≤ length ws
    → out_in ws s out ≡ out_in (drop 2 ws) (answer_to (call_of (get_or ws 0 0) (get_or ws 1 0) out) s).state
    (out_after (get_or ws 0 0) out s)
unfolding out_in
first_out [] s out l = absurd (omega arith)
first_out (k ∷ []) s out l = absurd (omega arith)
first_out (k ∷ a ∷ ws) s out l = refl

next-out : (ws : List ℕ) (i : ℕ) (s : State) (out : List ℕ) → 2 * i + 2 ≤ length ws
    → out_in (drop (2 * i) ws) s out
    ≡ out_in (drop (2 * (i + 1)) ws) (answer_to (call_of (get_or ws (2 * i) 0) (get_or ws (2 * i + 1) 0) out) s).state
    (out_after (get_or ws (2 * i) 0) out s)
next-out ws i s out l =
    let here : 2 ≤ length (drop (2 * i) ws) = omega (arith, length-drop (2 * i) ws) in
    rw (first_out (drop (2 * i) ws) s out here, two-on ws i, kind-of ws i, get_or-drop (2 * i) ws 1 0) refl

no_out : (ws : List ℕ) (s : State) (out : List ℕ) → length ws < 2 → out_in ws s out ≡ out
unfolding out_in
no_out [] s out l = refl
no_out (k ∷ []) s out l = refl
no_out (k ∷ a ∷ ws) s out l = absurd (omega arith)

-- words that make no whole call
no_call : (ws : List ℕ) (s : State) (out : List ℕ) → length ws < 2 → calls_in ws s out ≡ []
unfolding calls_in
no_call [] s out l = refl
no_call (k ∷ []) s out l = refl
no_call (k ∷ a ∷ ws) s out l = absurd (omega arith)

-- ---- one call more

more : (call : Call) (calls : List Call) (before between after : List ℕ) → OneMade call before between →
    AllMade calls between after → AllMade (call ∷ calls) before after
more call calls before between after o m =
    record {
      exchanges = o.exchange ∷ m.exchanges;
      are = ap₂ (λ (c : Call) (cs : List Call). c ∷ cs) o.is m.are;
      made = (between, o.made, m.made);
    }

-- what is made of the calls from number i on makes the whole
pub record SoFar (ws before given now out : List ℕ) (i : ℕ) : Type 0 where
  pub rest : (last : List ℕ) → AllMade (calls_in (drop (2 * i) ws) (state_of now) out) now last →
      AllMade (calls_in ws (state_of before) given) before last
  pub bytes : out_in (drop (2 * i) ws) (state_of now) out ≡ out_in ws (state_of before) given

pub none_yet : (ws before out : List ℕ) → SoFar ws before out before out 0
none_yet ws before out = record { rest = λ last m. m; bytes = refl }

state-after : (call : Call) (before after : List ℕ) → OneMade call before after →
    state_of after ≡ (answer_to call (state_of before)).state
state-after call before after o = o.made.words ∙ ap (λ (c : Call). (answer_to c (state_of before)).state) o.is

module _ (ws before given : List ℕ) (i : ℕ) (now out : List ℕ) (s : SoFar ws before given now out i) where
  pub one_more : 2 * i + 2 ≤ length ws → (k a : ℕ) → k ≡ get_or ws (2 * i) 0 → a ≡ get_or ws (2 * i + 1) 0
      → (next left : List ℕ) → OneMade (call_of k a out) now next → left ≡ out_after k out (state_of now)
      → SoFar ws before given next left (i + 1)
  one_more l k a p q next left o e = record { rest = λ last m. s.rest last (go last m); bytes = bytes }
    where
      bytes : out_in (drop (2 * (i + 1)) ws) (state_of next) left ≡ out_in ws (state_of before) given
      bytes =
          let here : out_in (drop (2 * i) ws) (state_of now) out
          ≡ out_in (drop (2 * (i + 1)) ws) (answer_to (call_of k a out) (state_of now)).state
          (out_after k out (state_of now)) = rw (p, q) (next-out ws i (state_of now) out l) in
          ap₂ (λ (t : State) (left : List ℕ). out_in (drop (2 * (i + 1)) ws) t left)
          (state-after (call_of k a out) now next o) e ∙ sym here ∙ s.bytes

      go : (last : List ℕ) → AllMade (calls_in (drop (2 * (i + 1)) ws) (state_of next) left) next last →
          AllMade (calls_in (drop (2 * i) ws) (state_of now) out) now last
      go last m =
          let later : AllMade (calls_in (drop (2 * (i + 1)) ws) (answer_to (call_of k a out) (state_of now)).state
          (out_after k out (state_of now))) next last =
          rw (state-after (call_of k a out) now next o, e) at m in
          let all = more (call_of k a out) _ now next last o later in
          rw (next-call ws i (state_of now) out l, sym p, sym q) all

  pub all_made : length ws < 2 * i + 2 → AllMade (calls_in ws (state_of before) given) before now
  all_made l =
      let e : calls_in (drop (2 * i) ws) (state_of now) out ≡ [] =
      no_call (drop (2 * i) ws) (state_of now) out (omega (arith, length-drop (2 * i) ws)) in
      s.rest now (record { exchanges = []; are = sym e; made = refl })

  pub all-bytes : length ws < 2 * i + 2 → out ≡ out_in ws (state_of before) given
  all-bytes l =
      sym (no_out (drop (2 * i) ws) (state_of now) out (omega (arith, length-drop (2 * i) ws))) ∙ s.bytes
