-- The proof of what T-12 asks.
use Rattle.std.specs.Prelude.{◌≡◌, refl, true, false, ◌⊎◌, List, [], ◌∷◌, ℕ, zero, suc, ◌+◌, ◌<◌, replicate}
use Rattle.std.proofs.Common.{sym, ap, ◌∙◌, inl, inr, arith}
use Rattle.base_lists.specs.Tests.{not_both}
use Rattle.spec_state.specs.declared.reply.Reply.TheVariants.{Done}
use Rattle.spec_machine.specs.State.{State, finished}
use Rattle.spec_machine.specs.WellFormed.{well_formed}
use Rattle.spec_machine.specs.Step.{step}
use Rattle.spec_machine.specs.StepLaws.{step-well_formed}
use Rattle.spec_machine.specs.Calls.{Answer, round_answer, round_refusal}
use Rattle.spec_claim.specs.Play.{Call, round, play, used_by, used}
use Rattle.spec_claim.specs.Claim.{Claim}
use Rattle.spec_claim.proofs.ClaimProof.{claim}
use Rattle.spec_channel.specs.Office
use Rattle.spec_channel.proofs.OfficeLaws.{Rounds, none, one, waiting-parts, rounds-made}
use Rattle.spec_channel.proofs.OfficeLaws
use Rattle.spec_channel.proofs.Fairness.{InOrder, round-soon, play-order, tick_goes, tick-rests}
use Rattle.spec_channel.proofs.TickCauses.{tick-first_cause, tick-some_cause}
use Rattle.spec_channel.proofs.LoadingLaws.{load_done, load_kept}
use Rattle.spec_channel.proofs.Channel.{Gives, Channel, AnyOffice, OneChannel}

-- ---- rounds of a seat are round calls

round-made : (s : State) → well_formed s ≡ true → finished s ≡ false →
    round_answer s ≡ record { state = step s; reply = Done }
unfolding round_answer round_refusal
round-made s w f = rw (w, f) refl

-- one call, then the others
call-first : (cs : List Call) (s : State)
    → ((play (round ∷ cs) s).last ≡ (play cs (round_answer s).state).last)
    × (used (round ∷ cs) (play (round ∷ cs) s).replies
    ≡ used_by round (round_answer s).reply + used cs (play cs (round_answer s).state).replies)
unfolding play used
call-first cs s = (refl, refl)

no_call : (s : State) → ((play [] s).last ≡ s) × (used [] (play [] s).replies ≡ 0)
unfolding play used
no_call s = (refl, refl)

rounds-played : (k : ℕ) (s e : State) → well_formed s ≡ true → Rounds k s e
    → ((play (replicate k round) s).last ≡ e) × (used (replicate k round) (play (replicate k round) s).replies ≡ k)
rounds-played zero s e w none = no_call s
rounds-played (suc k) s e w (one due r) =
    let cs = replicate k round in
    let f = (waiting-parts s due).1 in
    let (p, q) = rounds-played k (step s) e (step-well_formed s w f) r in
    let (a, b) = call-first cs s in
    let m = round-made s w f in
    let more : 1 + k ≡ suc k = omega arith in (
      a ∙ (ap (λ (x : Answer). (play cs x.state).last) m ∙ p),
      b ∙ (ap (λ (x : Answer). used_by round x.reply + used cs (play cs x.state).replies) m
          ∙ (ap (λ (n : ℕ). 1 + n) q ∙ more)),
    )

-- demand 3 of a survey after rounds of its own
rounds-claim : (load : Office.Loading) (k : ℕ) (e : State) → Office.own_refusal load ≡ 0 →
    Rounds k (Office.survey_of load) e
    → Claim (Office.input_of load) (Office.survey_of load) (replicate k round) e k
rounds-claim load k e a r =
    let (p, q) = rounds-played k (Office.survey_of load) e (load_kept load a) r in
    let c = claim (Office.input_of load) (Office.survey_of load) (load_done load a) (replicate k round) in
    rw (p, q) at c

-- ---- a seat that does not wait

rests-still : (k : ℕ) (s e : State) → Office.waiting s ≡ false → Rounds k s e → e ≡ s
rests-still zero s e w none = refl
rests-still (suc k) s e w (one due r) = absurd (not_both (Office.waiting s) due w)

-- ---- any office

pub any-office : AnyOffice
any-office o eight =
    record {
      cause = tick-first_cause o;
      refused = tick-some_cause o;
      gives = gives;
      unmoved = OfficeLaws.tick-refused o;
      missing = OfficeLaws.seat-missing;
      own = OfficeLaws.seat-there;
      takes = λ i load e. record {
        survey = OfficeLaws.load_same i load o eight e;
        others = λ j h. OfficeLaws.load_other i load o j (λ q _. h q);
        turn = OfficeLaws.load_turn i load o;
      };
      left = λ i load h. OfficeLaws.load_refused i load o h;
    }
  where
    gives : Office.tick_refusal o ≡ 0 → Gives o (Office.tick o)
    gives e =
        let turned : (Office.tick o).last ≡ Office.served o = rw (OfficeLaws.tick-made o e) refl in
        record {
          next = rw turned (OfficeLaws.served-next o e);
          round = rw turned (OfficeLaws.tick-same o eight e);
          others = λ j h. OfficeLaws.tick-other o j (λ _ q. h (turned ∙ q));
        }

-- ---- an office in order

module _ (o : Office.Office) (I : InOrder o) where
  sound : Office.tick_refusal o ≡ 10 → ⊥
  sound e = go (either-waits)
    where
      either-waits : ((i : ℕ) × (i < 8) × (Office.waits o i ≡ true)) ⊎ ((i : ℕ) → i < 8 → Office.waits o i ≡ false)
      either-waits = OfficeLaws.some_or_none (Office.waits o)

      go : ((i : ℕ) × (i < 8) × (Office.waits o i ≡ true)) ⊎ ((i : ℕ) → i < 8 → Office.waits o i ≡ false) → ⊥
      go (inl (i, h, w)) = let z : ◌≡◌ {A = ℕ} 10 0 = sym e ∙ tick_goes o I i h w in omega arith
      go (inr h) = let z : ◌≡◌ {A = ℕ} 10 11 = sym e ∙ tick-rests o I h in omega arith

  channel : Channel o
  channel =
      record {
        step = any-office o I.eight;
        sound = sound;
        soon = λ i h w es l t. round-soon es o i I h w l t;
        rests = λ i w es l. rests-still _ (Office.seat i o) (Office.seat i (Office.play es o)) w
            (rounds-made i es o I.eight l);
        alone = alone;
      }
    where
      alone : (i : ℕ) (load : Office.Loading) → Office.seat_refusal i load ≡ 0 → (es : List Office.Event) →
          Office.NotAgain i es
          → Claim (Office.input_of load) (Office.survey_of load)
          (replicate (Office.rounds_of i es (Office.load_seat i load o)) round)
          (Office.seat i (Office.play es (Office.load_seat i load o)))
          (Office.rounds_of i es (Office.load_seat i load o))
      alone i load e es l =
          let r = rounds-made i es (Office.load_seat i load o) (OfficeLaws.load_length i load o ∙ I.eight) l in
          rounds-claim load (Office.rounds_of i es (Office.load_seat i load o))
          (Office.seat i (Office.play es (Office.load_seat i load o)))
          (OfficeLaws.seat-accepted i load e).1 (rw (OfficeLaws.load_same i load o I.eight e) at r)

pub one-channel : OneChannel
one-channel start b es = channel (Office.play es start)
    (play-order es start (record {
      eight = b.eight;
      turn = rw b.turn (omega arith);
      sound = λ i h. inl (b.empty i h);
    }))
