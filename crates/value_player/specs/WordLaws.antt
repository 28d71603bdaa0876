-- Calls given as words are a list of calls: the last state is that of `play`, and the table of replies holds each of
-- its replies. So the claim speaks of what the code that makes them leaves.
use Rattle.std.specs.Prelude.{◌≡◌, refl, List, [], ◌∷◌, ℕ, ◌+◌, ◌*◌}
use Rattle.std.proofs.lemmas.List.Edits.{sets}
use Rattle.spec_machine.specs.State.{State}
use Rattle.spec_machine.specs.Load.{Input}
use Rattle.spec_state.specs.declared.reply.Reply.{Reply}
use Rattle.spec_claim.specs.Play.{Call, answer_to, play, used}
use Rattle.value_player.specs.Words.{call_of, out_after, encoded, play_words, calls_in}
use Rattle.spec_claim.specs.Claim.{Loaded, Claim}
use Rattle.spec_claim.proofs.ClaimProof.{claim}

-- replies stored one after the other, from number i on
abbrev pub stored : List Reply → ℕ → List ℕ → List ℕ
stored [] i table = table
stored (r ∷ rs) i table = stored rs (i + 1) (sets table (8 * i) (encoded r))

pub words_last : (ws : List ℕ) (i : ℕ) (s : State) (replies out : List ℕ) →
    (play_words ws i s replies out).last ≡ (play (calls_in ws s out) s).last
unfolding play_words calls_in play
words_last [] i s replies out = refl
words_last (k ∷ []) i s replies out = refl
words_last (k ∷ a ∷ []) i s replies out = refl
words_last (k ∷ a ∷ b ∷ ws) i s replies out =
    words_last ws (i + 1) (answer_to (call_of k a b out) s).state
    (sets replies (8 * i) (encoded (answer_to (call_of k a b out) s).reply)) (out_after k a b out s)

pub words-replies : (ws : List ℕ) (i : ℕ) (s : State) (replies out : List ℕ)
    → (play_words ws i s replies out).replies ≡ stored (play (calls_in ws s out) s).replies i replies
unfolding play_words calls_in play
words-replies [] i s replies out = refl
words-replies (k ∷ []) i s replies out = refl
words-replies (k ∷ a ∷ []) i s replies out = refl
words-replies (k ∷ a ∷ b ∷ ws) i s replies out =
    words-replies ws (i + 1) (answer_to (call_of k a b out) s).state
    (sets replies (8 * i) (encoded (answer_to (call_of k a b out) s).reply)) (out_after k a b out s)

-- the claim, of calls given as words
pub words-claim : (input : Input) (s : State) → Loaded input s → (ws replies out : List ℕ)
    → Claim input s (calls_in ws s out) (play_words ws 0 s replies out).last
    (used (calls_in ws s out) (play (calls_in ws s out) s).replies)
words-claim input s l ws replies out = rw (words_last ws 0 s replies out) (claim input s l (calls_in ws s out))
