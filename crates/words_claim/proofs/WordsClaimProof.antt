-- The proof of demand 3 on words: a list of calls as C makes them is a list that `play` plays, and the rounds counted
-- are those of its replies.
use Rattle.std.specs.Prelude.{◌≡◌, refl, true, false, ◌⊎◌, ℕ, ◌+◌, eqb}
use Rattle.std.proofs.Common.{sym, ap, ap₂, ◌∙◌, inl, inr, arith, eq-eqb}
use mathlib.Core.List.{List, [], ◌∷◌, ◌++◌}
use Rattle.base_lists.specs.Tests.{either}
use Rattle.spec_state.specs.declared.reply.Reply.TheVariants.{Done, Status}
use Rattle.spec_machine.specs.State.{State, FINISHED}
use Rattle.spec_machine.specs.Load.{Input, load_refusal, stored_load_refusal, loaded, planned_load_refusal}
use Rattle.spec_machine.specs.Load.{planned_loaded}
use Rattle.spec_machine.specs.Step.{steps, countdown}
use Rattle.spec_machine.specs.RunLaws.{total, steps-add, steps-finished}
use Rattle.spec_machine.specs.Calls.{Answer, round_refusal, run_answer, load_answer, stored_load_answer}
use Rattle.spec_machine.specs.Calls.{planned_load_answer}
use Rattle.spec_machine.specs.Calls.{status_answer}
use Rattle.spec_machine.specs.AnswerLaws.{answered-number}
use Rattle.words_layout.specs.Layout.{state_of}
use Rattle.spec_claim.specs.Play.{Call, round, run, status, unit, link, report, answer_to, play, used_by, used}
use Rattle.spec_claim.specs.Claim as by_value
use Rattle.spec_claim.specs.Claim.{Loaded, EndRight, Claim}
use Rattle.spec_claim.proofs.ClaimProof.{claim}
use Rattle.spec_claim.proofs.InsideProof.{answers_inside}
use Rattle.words_claim.specs.Exchange.{number_to, lent_after, Exchange, CallMade, CallsMade, calls_of, used_in}
use Rattle.words_claim.specs.Exchange.{used_of}
use Rattle.words_claim.specs.WordsClaim as on-words
use Rattle.words_claim.specs.WordsClaim.{LoadedWords, Demand3OnWords, ToldAtEnd, InsideOnWords}

-- ---- the list that was played

-- what a call used, by its number and its lent memory, is what it used by its reply
used-told : (c : Call) (words given : List ℕ) →
    used_in c (number_to c words) (lent_after c words given) ≡ used_by c (answer_to c (state_of words)).reply
unfolding run_answer
used-told round words given = refl
used-told (run budget) words given = go (either (eqb (round_refusal (state_of words)) 0))
  where
    go : (eqb (round_refusal (state_of words)) 0 ≡ true) ⊎ (eqb (round_refusal (state_of words)) 0 ≡ false)
        → used_in (run budget) (number_to (run budget) words) (lent_after (run budget) words given)
        ≡ used_by (run budget) (answer_to (run budget) (state_of words)).reply
    go (inl e) = rw e refl
    go (inr e) = rw e (rw e refl)
used-told status words given = refl
used-told (unit v) words given = refl
used-told (link j) words given = refl
used-told (report out) words given = refl

used-made : (x : Exchange) (before after : List ℕ) → CallMade x before after
    → used_in x.call x.number x.lent ≡ used_by x.call (answer_to x.call (state_of before)).reply
used-made x before after m =
    ap₂ (used_in x.call) m.number m.lent ∙ used-told x.call before x.given

-- the last words are the last state of the list, and the rounds are those that it used
pub played : (xs : List Exchange) (before after : List ℕ) → CallsMade xs before after
    → (state_of after ≡ (play (calls_of xs) (state_of before)).last)
    × (used_of xs ≡ used (calls_of xs) (play (calls_of xs) (state_of before)).replies)
unfolding play used used_of
played [] before after made = (ap state_of made, refl)
played (x ∷ xs) before after made =
    let later = played xs made.0 after made.2 in
    let first : state_of made.0 ≡ (answer_to x.call (state_of before)).state = made.1.words in (
      later.0 ∙ ap (λ (s : State). (play (calls_of xs) s).last) first,
      ap₂ ◌+◌ (used-made x before made.0 made.1) (later.1
          ∙ ap (λ (s : State). used (calls_of xs) (play (calls_of xs) s).replies) first),
    )

-- ---- the claim

loaded-words : (input : Input) (words : List ℕ) → LoadedWords input words → Loaded input (state_of words)
unfolding load_answer stored_load_answer planned_load_answer
loaded-words input words (on-words.fresh given d) =
    let accepted : load_refusal input ≡ 0 =
    sym (answered-number (load_refusal input) (state_of given) (loaded input) Done refl) ∙ sym d.0 in
    let state : state_of words ≡ loaded input = rw accepted at d.1 in
    by_value.fresh (state_of given) (rw (accepted, state) refl)
loaded-words input words (on-words.stored given d) =
    let accepted : stored_load_refusal input ≡ 0 =
    sym (answered-number (stored_load_refusal input) (state_of given) (loaded input) Done refl) ∙ sym d.0 in
    let state : state_of words ≡ loaded input = rw accepted at d.1 in
    by_value.stored (state_of given) (rw (accepted, state) refl)
loaded-words input words (on-words.planned parents given d) =
    let accepted : planned_load_refusal input parents ≡ 0 =
    sym (answered-number (planned_load_refusal input parents) (state_of given) (planned_loaded input parents) Done refl)
    ∙ sym d.0 in
    let state : state_of words ≡ planned_loaded input parents = rw accepted at d.1 in
    by_value.planned parents (state_of given) (rw (accepted, state) refl)

pub claim-on_words : Demand3OnWords
claim-on_words input first last l xs made =
    let (state, rounds) = played xs first last made in
    rw (state, rounds) (claim input (state_of first) (loaded-words input first l) (calls_of xs))

-- ---- inside a list

-- the words between two parts of a list
parted : (front back : List Exchange) (before after : List ℕ) → CallsMade (front ++ back) before after
    → (between : List ℕ) × CallsMade front before between × CallsMade back between after
parted [] back before after made = (before, refl, made)
parted (x ∷ front) back before after made =
    let later = parted front back made.0 after made.2 in
    (later.0, (made.0, made.1, later.1), later.2)

used-append : (front back : List Exchange) → used_of (front ++ back) ≡ used_of front + used_of back
unfolding used_of
used-append [] back = omega arith
used-append (x ∷ front) back = omega (arith, used-append front back)

-- past the end nothing moves
past_end : (s : State) (u k : ℕ) → (steps u s).clock.stage ≡ FINISHED → steps (u + k) s ≡ steps u s
past_end s u k e = steps-add u k s ∙ steps-finished k (steps u s) (eq-eqb (steps u s).clock.stage FINISHED e)

-- what status gives at the end
shown_at : State → ℕ → ℕ → Answer
shown_at e u stage = record { state = e; reply = Status stage (countdown e) u e.clock.requests }

-- the answer on words that are the survey e
module _ (input : Input) (e : State) (u : ℕ) (right : EndRight input e u)
    (shown : status_answer e ≡ shown_at e u FINISHED) where
  at-end : (x : Exchange) (before after : List ℕ) → state_of before ≡ e → CallMade x before after →
      ToldAtEnd input e u x.call x.number x.lent
  unfolding shown_at
  at-end x before after same made = go x.call x.number x.lent x.given made.number made.lent
    where
      go : (c : Call) (number : ℕ) (lent given : List ℕ) → number ≡ number_to c before →
          lent ≡ lent_after c before given → ToldAtEnd input e u c number lent
      go round number lent given n l = tt
      go (run budget) number lent given n l = tt
      go status number lent given n l = rw (n, l, same, shown) (refl, refl)
      go (unit v) number lent given n l = λ h. rw (n, l, same, right.unit_answered v h) (refl, refl)
      go (link j) number lent given n l = λ h. rw (n, l, same, right.link_answered j h) (refl, refl)
      go (report out) number lent given n l = λ h. rw (n, l, same, right.report_answered out h) (refl, refl)

ended-on_words : (input : Input) (first last between : List ℕ) → LoadedWords input first
    → (front : List Exchange) (x : Exchange) (back : List Exchange) → CallsMade (front ++ x ∷ back) first last
    → CallsMade front first between → CallsMade (x ∷ back) between last → used_of front ≡ total (state_of first)
    → EndRight input (state_of last) (used_of front)
    × ToldAtEnd input (state_of last) (used_of front) x.call x.number x.lent
unfolding shown_at
ended-on_words input first last between l front x back made before after over =
    let c : Claim input (state_of first) (calls_of front) (state_of between) (used_of front) =
    claim-on_words input first between l front before in
    let d : Claim input (state_of first) (calls_of (front ++ x ∷ back)) (state_of last) (used_of (front ++ x ∷ back)) =
    claim-on_words input first last l (front ++ x ∷ back) made in
    let ended : (state_of between).clock.stage ≡ FINISHED = c.end.0 over in
    let same : state_of between ≡ state_of last =
    c.state
    ∙ sym (past_end (state_of first) (used_of front) (used_of (x ∷ back))
    (ap (λ (s : State). s.clock.stage) (sym c.state) ∙ ended))
    ∙ ap (λ (k : ℕ). steps k (state_of first)) (sym (used-append front (x ∷ back)))
    ∙ sym d.state in
    let right : EndRight input (state_of last) (used_of front) = rw (← same) (c.right over) in
    let shown : status_answer (state_of last) ≡ shown_at (state_of last) (used_of front) FINISHED =
    rw (← same) (c.status ∙ ap (shown_at (state_of between) (used_of front)) ended) in
    (right, at-end input (state_of last) (used_of front) right shown x between after.0 same after.1)

pub inside-on_words : InsideOnWords
inside-on_words input first last l front x back made =
    let (between, before, after) = parted front (x ∷ back) first last made in
    let (state, rounds) = played front first between before in (
      between,
      record {
        made = before;
        inside = rw (state, rounds) (answers_inside input (state_of first) (loaded-words input first l) (calls_of front)
            x.call (calls_of back));
        number = after.1.number;
        lent = after.1.lent;
        at_end = ended-on_words input first last between l front x back made before after;
      },
    )
