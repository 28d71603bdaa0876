-- What `serve` and `load` have found, and so leave: the office's own tick and load.
use Rattle.std.specs.Prelude.{◌≡◌, refl, Bool, true, false, cond, not, ◌&&◌, ◌⊎◌, List, [], map, ℕ, ◌≤◌, ◌<◌, eqb}
use Rattle.std.specs.Prelude.{length, get_or, set}
use Rattle.std.proofs.Common.{sym, ap, ◌∙◌, inl, inr, arith, eqb-true, ne_eqb}
use Rattle.std.proofs.Math.Seq.{map-set_same}
use Rattle.std.proofs.lemmas.Bool.{eqb-false, not-true, not-false}
use Rattle.base_lists.specs.Folds.{some}
use Rattle.base_lists.specs.Some.{some-exact, some-none}
use Rattle.base_lists.specs.Tests.{either, and_right}
use Rattle.spec_machine.specs.State.{State, finished}
use Rattle.spec_machine.specs.WellFormed.{well_formed}
use Rattle.spec_machine.specs.Step.{step}
use Rattle.spec_machine.specs.Calls.{number_of, round_refusal, round_answer}
use Rattle.words_layout.specs.Layout.{state_of}
use Rattle.words_known.specs.Known.{SeatWords}
use Rattle.spec_channel.specs.Turns.{picked}
use Rattle.spec_channel.proofs.TurnLaws.{picked_same}
use Rattle.spec_channel.specs.Office.{Office, seat, waits, waiting, spoilt, tick_refusal, tick, served, given}
use Rattle.spec_channel.specs.Office.{Loading, own_refusal, survey_of, seat_refusal, load_seat}
use Rattle.spec_channel.proofs.OfficeLaws.{waiting-parts, tick-made, load_refused, load_made, seat-missing, seat-there}
use Rattle.spec_channel.proofs.TickLaws.{tick-stays, tick-high, tick-spoilt, tick-over, tick_unkept, tick-given}
use Rattle.spec_channel.proofs.TickLaws.{served-waits}
use Rattle.words_seats.specs.Lent.{office_of}
use Rattle.words_seats.specs.LentLaws.{seat-words, words-set}
use Rattle.words_seats.specs.SeatsLeft.{TickedWords, LoadedSeat}
use Rattle.words_seats.specs.SameSeats.{ticked-words, loaded-seat}

-- ---- a round of a survey, by whether it is kept

round_unkept : (s : State) → well_formed s ≡ false → (number_of (round_answer s).reply ≡ 10)
    × ((round_answer s).state ≡ s)
unfolding round_answer round_refusal
round_unkept s w = rw w (refl, refl)

round-made : (s : State) → well_formed s ≡ true → finished s ≡ false →
    (number_of (round_answer s).reply ≡ 0) × ((round_answer s).state ≡ step s)
unfolding round_answer round_refusal
round-made s w f = rw (w, f) (refl, refl)

-- ---- words that are the same states

same-office : (last : ℕ) (words : List (List ℕ)) (i : ℕ) (new : List ℕ) → state_of new ≡ state_of (get_or words i [])
    → office_of last (set words i new) ≡ office_of last words
unfolding office_of
same-office last words i new e = ap (λ (t : List State). record { seats = t; last = last })
    (map-set_same state_of words i new [] e)

office-last : (last : ℕ) (words : List (List ℕ)) → (office_of last words).last ≡ last
unfolding office_of
office-last last words = refl

-- one seat replaced, and the turn as it was or moved
office-laid : (last : ℕ) (words : List (List ℕ)) (i : ℕ) (new : List ℕ) (s : State) → state_of new ≡ s
    → office_of last (set words i new) ≡ record {
      seats = set (office_of last words).seats i s;
      last = (office_of last words).last;
    }
unfolding office_of
office-laid last words i new s e = words-set last words i new
    ∙ ap (λ (t : State). record { seats = set (map state_of words) i t; last = last }) e

office-given : (last : ℕ) (words : List (List ℕ)) (i : ℕ) (new : List ℕ) →
    state_of new ≡ step (seat i (office_of last words))
    → office_of i (set words i new) ≡ given i (office_of last words)
unfolding office_of
office-given last words i new e = words-set i words i new
    ∙ ap (λ (s : State). record { seats = set (map state_of words) i s; last = i }) e

-- ---- a tick

-- what is known once the turn is found and the other seats are judged: r is served next, and b tells whether the others
-- are sound
pub record Judged (last : ℕ) (words : List (List ℕ)) (r : ℕ) (b : Bool) : Type 0 where
  pub eight : length words ≡ 8
  pub is : r ≡ served (office_of last words)
  pub turn : last ≤ 7
  pub told : b ≡ not (some (length words) (λ (i : ℕ). not (eqb i r) && spoilt (state_of (get_or words i []))))

module _ (last : ℕ) (words : List (List ℕ)) where
  abbrev o : Office
  o = office_of last words

  -- a number, and the turn and the words that are left: those of the office's tick
  abbrev Told : ℕ → ℕ → List (List ℕ) → Type 0
  Told k after new = (k ≡ tick_refusal o) × (office_of after new ≡ tick o)

  pub told-high : 7 < last → Told 10 last words
  told-high h = tick-stays o 10 (tick-high o (rw (office-last last words) h)) (omega arith)

  module _ (eight : length words ≡ 8) where
    at : (i : ℕ) → i < 8 → seat i o ≡ state_of (get_or words i [])
    at i h = seat-words last words i (omega arith)

    -- the seat that is picked by the flags
    pub seat-served : (flags : List Bool) (r : ℕ) →
        ((i : ℕ) → i < 8 → get_or flags i false ≡ waiting (state_of (get_or words i [])))
        → r ≡ picked last (λ (i : ℕ). get_or flags i false) → r ≡ served o
    seat-served flags r h e =
        let p : picked last (λ (i : ℕ). get_or flags i false) ≡ picked last (waits o) =
        picked_same last (λ (i : ℕ). get_or flags i false) (waits o) (λ i l. h i l ∙ ap waiting (sym (at i l))) in
        e ∙ (p ∙ ap (λ (n : ℕ). picked n (waits o)) (sym (office-last last words)))

  module _ (r : ℕ) (b : Bool) (known : Judged last words r b) where
    abbrev other : ℕ → Bool
    other i = not (eqb i r) && spoilt (state_of (get_or words i []))

    judged : b ≡ not (some 8 other)
    judged = known.told ∙ ap (λ (n : ℕ). not (some n other)) known.eight

    pub told-others : not b ≡ true → Told 10 last words
    told-others e =
        let f : some 8 other ≡ true = not-false (some 8 other) (sym judged ∙ not-true b e) in
        let (i, h, q) = (some-exact 8 other).0 f in
        let s : spoilt (seat i o) ≡ true =
        rw (at known.eight i h) (and_right (not (eqb i r)) (spoilt (state_of (get_or words i []))) q) in
        tick-stays o 10 (tick-spoilt o i h s) (omega arith)

    module _ (clean : not b ≡ false) where
      others : (j : ℕ) → j < 8 → (j ≡ served o → ⊥) → spoilt (seat j o) ≡ false
      others j h n =
          let f : some 8 other ≡ false = not-true (some 8 other) (sym judged ∙ not-false b clean) in
          let e : eqb j r ≡ false = ne_eqb j r (λ q. n (q ∙ known.is)) in
          let g : other j ≡ false = some-none 8 other f j h in
          rw (at known.eight j h) (rw e at g)

      low : o.last ≤ 7
      low = rw (office-last last words) known.turn

      pub told_over : 7 < r → Told 11 last words
      told_over h = tick-stays o 11 (tick-over o low others (rw (sym known.is) h)) (omega arith)

      module _ (below : r ≤ 7) (number : ℕ) (new : List ℕ)
          (said : number ≡ number_of (round_answer (state_of (get_or words r []))).reply)
          (left : state_of new ≡ (round_answer (state_of (get_or words r []))).state) where
        here : seat (served o) o ≡ state_of (get_or words r [])
        here = rw (sym known.is) (at known.eight r (omega arith))

        due : served o ≤ 7
        due = rw (sym known.is) below

        going : finished (state_of (get_or words r [])) ≡ false
        going = rw here at (waiting-parts (seat (served o) o) (served-waits o low others due)).1

        pub told-refused : (number ≡ 0 → ⊥) → Told number last (set words r new)
        told-refused h = go (either (well_formed (state_of (get_or words r []))))
          where
            go : (well_formed (state_of (get_or words r [])) ≡ true)
                ⊎ (well_formed (state_of (get_or words r [])) ≡ false) →
                Told number last (set words r new)
            go (inl w) = absurd (h (said ∙ (round-made (state_of (get_or words r [])) w going).0))
            go (inr w) =
                let u = round_unkept (state_of (get_or words r [])) w in
                let t = tick-stays o 10 (tick_unkept o low others due (rw here w)) (omega arith) in
                (said ∙ (u.0 ∙ t.0), same-office last words r new (left ∙ u.1) ∙ t.1)

        pub told-given : number ≡ 0 → Told 0 r (set words r new)
        told-given z = go (either (well_formed (state_of (get_or words r []))))
          where
            go : (well_formed (state_of (get_or words r [])) ≡ true)
                ⊎ (well_formed (state_of (get_or words r [])) ≡ false) →
                Told 0 r (set words r new)
            go (inr w) = let q : ◌≡◌ {A = ℕ} 10 0 =
                sym (round_unkept (state_of (get_or words r [])) w).0 ∙ (sym said ∙ z) in absurd (omega arith)
            go (inl w) =
                let m = round-made (state_of (get_or words r [])) w going in
                let e : tick_refusal o ≡ 0 = tick-given o low others due (rw here w) in
                let step-here : state_of new ≡ step (seat r o) =
                left ∙ (m.1 ∙ ap step (sym (at known.eight r (omega arith)))) in (
                  sym e,
                  office-given last words r new step-here
                      ∙ (ap (λ (i : ℕ). given i o) known.is ∙ sym (tick-made o e)),
                )

-- the same with every word
pub ticks-words : (last k after : ℕ) (words new : List (List ℕ)) → SeatWords words → SeatWords new →
    Told last words k after new
    → (k ≡ tick_refusal (office_of last words)) × (office_of after new ≡ tick (office_of last words))
    × TickedWords last after words new
ticks-words last k after words new O N t = (t.0, t.1, ticked-words words new O N last after t.1)

-- ---- a load of a seat

module _ (words : List (List ℕ)) (i : ℕ) (load : Loading) where
  load_high : 7 < i → (23 ≡ seat_refusal i load)
      × ((last : ℕ) → office_of last words ≡ load_seat i load (office_of last words))
  load_high h =
      let e : seat_refusal i load ≡ 23 = seat-missing i load h in (
        sym e,
        λ last. sym (load_refused i load (office_of last words) (λ z. let q : ◌≡◌ {A = ℕ} 23 0 = sym e
            ∙ z in omega arith)),
      )

  load_there : i ≤ 7 → (number : ℕ) (new : List ℕ) → number ≡ own_refusal load
      → state_of new ≡ cond (eqb (own_refusal load) 0) (survey_of load) (state_of (get_or words i []))
      → (number ≡ seat_refusal i load) × ((last : ℕ) →
      office_of last (set words i new) ≡ load_seat i load (office_of last words))
  load_there h number new said left = (said ∙ sym own, λ last. go last (either (eqb (own_refusal load) 0)))
    where
      own : seat_refusal i load ≡ own_refusal load
      own = seat-there i load (omega arith)

      go : (last : ℕ) → (eqb (own_refusal load) 0 ≡ true) ⊎ (eqb (own_refusal load) 0 ≡ false)
          → office_of last (set words i new) ≡ load_seat i load (office_of last words)
      go last (inl e) =
          let z : seat_refusal i load ≡ 0 = own ∙ eqb-true (own_refusal load) 0 e in
          let l : state_of new ≡ survey_of load = rw e at left in
          office-laid last words i new (survey_of load) l ∙ sym (load_made i load (office_of last words) z)
      go last (inr e) =
          let l : state_of new ≡ state_of (get_or words i []) = rw e at left in
          same-office last words i new l
          ∙ sym (load_refused i load (office_of last words) (λ z. eqb-false (own_refusal load) 0 e (sym own ∙ z)))

  -- a number, and the words that are left
  abbrev Loads : ℕ → List (List ℕ) → Type 0
  Loads number new = (number ≡ seat_refusal i load) × (((last : ℕ) →
      office_of last new ≡ load_seat i load (office_of last words)) × LoadedSeat i load words new)

  pub loads-none : SeatWords words → 7 < i → Loads 23 words
  loads-none O h = let t = load_high h in (t.0, (t.1, loaded-seat words words O O i load t.1))

  pub loads-one : SeatWords words → i ≤ 7 → (number : ℕ) (new : List ℕ) → SeatWords (set words i new) →
      number ≡ own_refusal load
      → state_of new ≡ cond (eqb (own_refusal load) 0) (survey_of load) (state_of (get_or words i []))
      → Loads number (set words i new)
  loads-one O h number new N said left =
      let t = load_there h number new said left in
      (t.0, (t.1, loaded-seat words (set words i new) O N i load t.1))
