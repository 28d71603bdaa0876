-- Calls given as words, walked by their places in the whole list.
use Rattle.std.specs.Prelude.{◌≡◌, refl, List, [], ◌∷◌, ◌++◌, ℕ, ◌+◌, ◌*◌, ◌-◌, ◌≤◌, ◌<◌, length, get_or, take, drop}
use Rattle.std.proofs.Common.{sym, ap, add-zero, arith, length-drop, get_or-drop, drop-drop}
use Rattle.std.proofs.lemmas.List.Edits.{sets}
use Rattle.spec_machine.specs.State.{State}
use Rattle.spec_machine.specs.Calls.{Answer}
use Rattle.spec_claim.specs.Play.{answer_to}
use Rattle.value_player.specs.Words.{call_of, out_after, encoded, PlayedWords, play_words}

-- the answer to the call whose words are k, a and b, and all that is left after it
abbrev pub after_call : List ℕ → ℕ → ℕ → ℕ → ℕ → State → List ℕ → List ℕ → PlayedWords
after_call ws i k a b s replies out =
    play_words ws (i + 1) (answer_to (call_of k a b out) s).state
    (sets replies (8 * i) (encoded (answer_to (call_of k a b out) s).reply)) (out_after k a b out s)

first-call : (ws : List ℕ) (i : ℕ) (s : State) (replies out : List ℕ) → 3 ≤ length ws
    → play_words ws i s replies out
    ≡ after_call (drop 3 ws) i (get_or ws 0 0) (get_or ws 1 0) (get_or ws 2 0) s replies out
unfolding play_words
first-call [] i s replies out l = absurd (omega arith)
first-call (k ∷ []) i s replies out l = absurd (omega arith)
first-call (k ∷ a ∷ []) i s replies out l = absurd (omega arith)
first-call (k ∷ a ∷ b ∷ ws) i s replies out l = refl

-- call number i
pub next-call : (ws : List ℕ) (i : ℕ) (s : State) (replies out : List ℕ) → 3 * i + 3 ≤ length ws
    → play_words (drop (3 * i) ws) i s replies out
    ≡ after_call (drop (3 * (i + 1)) ws) i (get_or ws (3 * i) 0) (get_or ws (3 * i + 1) 0)
    (get_or ws (3 * i + 2) 0) s replies out
next-call ws i s replies out l =
    let here : 3 ≤ length (drop (3 * i) ws) = omega (arith, length-drop (3 * i) ws) in
    let sum : 3 * i + 3 ≡ 3 * (i + 1) = omega arith in
    let rest : drop 3 (drop (3 * i) ws) ≡ drop (3 * (i + 1)) ws =
    rw (drop-drop 3 (3 * i) ws) (ap (λ (k : ℕ). drop k ws) sum) in
    let kind : get_or (drop (3 * i) ws) 0 0 ≡ get_or ws (3 * i) 0 =
    rw (get_or-drop (3 * i) ws 0 0) (ap (λ (k : ℕ). get_or ws k 0) (add-zero (3 * i))) in
    rw (
      first-call (drop (3 * i) ws) i s replies out here,
      rest,
      kind,
      get_or-drop (3 * i) ws 1 0,
      get_or-drop (3 * i) ws 2 0,
    ) refl

-- the words read, the answer to their call, the reply stored and the slice written are what is left after the call
pub call-made : (ws : List ℕ) (i k a b : ℕ) (s : State) (replies out : List ℕ) (k' a' b' : ℕ) (answer : Answer)
    (replies' out' : List ℕ)
    → k' ≡ k
    → a' ≡ a
    → b' ≡ b
    → answer ≡ answer_to (call_of k' a' b' out) s
    → replies' ≡ sets replies (8 * i) (encoded answer.reply)
    → out' ≡ out_after k' a' b' out s
    → after_call ws i k a b s replies out ≡ play_words ws (i + 1) answer.state replies' out'
call-made ws i k a b s replies out k' a' b' answer replies' out' p q r e f g = rw (f, g, e, p, q, r) refl

-- words that make no whole call
no_call : (ws : List ℕ) (i : ℕ) (s : State) (replies out : List ℕ) → length ws < 3
    → play_words ws i s replies out ≡ record { last = s; replies = replies; out = out }
unfolding play_words
no_call [] i s replies out l = refl
no_call (k ∷ []) i s replies out l = refl
no_call (k ∷ a ∷ []) i s replies out l = refl
no_call (k ∷ a ∷ b ∷ ws) i s replies out l = absurd (omega arith)

pub last-call : (ws : List ℕ) (i : ℕ) (s : State) (replies out : List ℕ) → length ws < 3 * i + 3
    → play_words (drop (3 * i) ws) i s replies out ≡ record { last = s; replies = replies; out = out }
last-call ws i s replies out l = no_call (drop (3 * i) ws) i s replies out (omega (arith, length-drop (3 * i) ws))

-- ---- a part of a slice

-- the whole after what was lent, from a place to another, holds ys
pub part-back : (from to : ℕ) (out ys : List ℕ) → from ≤ to
    → take from out ++ (ys ++ drop (to - from) (drop from out)) ≡ take from out ++ (ys ++ drop to out)
part-back from to out ys l =
    let e : from + (to - from) ≡ to = omega arith in
    rw (drop-drop (to - from) from out, e) refl
