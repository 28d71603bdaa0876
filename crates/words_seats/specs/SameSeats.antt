-- Eight seats as a caller lends them are known by the office that they are. So what a tick or a load promises of the
-- office settles every lent word.
use Rattle.std.specs.Prelude.{◌≡◌, ℕ, ◌<◌, length}
use Rattle.std.proofs.Math.Path.{sym, ap, subst}
use Rattle.std.proofs.Common.{◌∙◌, arith}
use mathlib.Core.List.{List, []}
use Rattle.std.proofs.Math.ListN.{get_or, length-map}
use Rattle.std.proofs.Math.Seq.{ext_get_or}
use Rattle.spec_machine.specs.Step.{step}
use Rattle.words_layout.specs.Layout.{state_of}
use Rattle.words_layout.specs.SameWords.{words_of}
use Rattle.words_known.specs.Known.{SeatWords}
use Rattle.words_known.proofs.LeftLaws.{words-of, words_same}
use Rattle.spec_channel.specs.Office.{Office, seat, served, tick_refusal, tick, Loading, seat_refusal, load_seat}
use Rattle.spec_channel.proofs.OfficeLaws.{tick-made, tick-refused, tick-same, tick-other, served-below, load_same}
use Rattle.spec_channel.proofs.OfficeLaws.{load_other, load_refused, seat-accepted}
use Rattle.words_seats.specs.Lent.{office_of}
use Rattle.words_seats.specs.LentLaws.{seat-words}
use Rattle.words_seats.specs.SeatsLeft.{TickedWords, LoadedSeat}

module _ (a b : List (List ℕ)) (A : SeatWords a) (B : SeatWords b) where
  same-seat : (p q i : ℕ) → i < 8 → seat i (office_of p a) ≡ seat i (office_of q b) → get_or a i [] ≡ get_or b i []
  same-seat p q i l e =
      words_same (get_or a i []) (get_or b i []) (A.each i l) (B.each i l)
      (sym (seat-words p a i (omega (arith, A.eight))) ∙ e ∙ seat-words q b i (omega (arith, B.eight)))

  pub same-seats : (p q : ℕ) → office_of p a ≡ office_of q b → (p ≡ q) × (a ≡ b)
  unfolding office_of
  same-seats p q e = (
    ap (λ (o : Office). o.last) e,
    ext_get_or [] a b (A.eight ∙ sym B.eight) (λ i l. same-seat p q i (omega (arith, A.eight)) (ap (seat i) e)),
  )

module _ (old new : List (List ℕ)) (O : SeatWords old) (N : SeatWords new) where
  office-eight : (p : ℕ) → length (office_of p old).seats ≡ 8
  unfolding office_of
  office-eight p = length-map old state_of ∙ O.eight

  pub ticked-words : (last after : ℕ) → office_of after new ≡ tick (office_of last old) → TickedWords last after old new
  unfolding office_of
  ticked-words last after e =
      record {
        turn = turn;
        round = λ z. subst (λ (i : ℕ). get_or new i [] ≡ words_of (step (state_of (get_or old i [])))) (sym (turn z))
            (round z);
        others = λ z i l h. same-seat new old N O after last i l (ap (seat i) e
            ∙ tick-other (office_of last old) i (λ _ q. h (turn z ∙ q)));
        refused = λ h. same-seats new old N O after last (e ∙ tick-refused (office_of last old) h);
      }
    where
      turn : tick_refusal (office_of last old) ≡ 0 → after ≡ served (office_of last old)
      turn z = ap (λ (o : Office). o.last) (e ∙ tick-made (office_of last old) z)

      round : tick_refusal (office_of last old) ≡ 0
          → get_or new (served (office_of last old)) []
          ≡ words_of (step (state_of (get_or old (served (office_of last old)) [])))
      round z =
          let o = office_of last old in
          let l = served-below o z in
          words-of (get_or new (served o) []) (step (state_of (get_or old (served o) []))) (N.each (served o) l)
          (sym (seat-words after new (served o) (omega (arith, N.eight)))
          ∙ ap (seat (served o)) e
          ∙ tick-same o (office-eight last) z
          ∙ ap step (seat-words last old (served o) (omega (arith, O.eight))))

  pub loaded-seat : (i : ℕ) (load : Loading) → ((last : ℕ) → office_of last new ≡ load_seat i load (office_of last old))
      →
      LoadedSeat i load old new
  loaded-seat i load e =
      record {
        survey = λ z. words-of (get_or new i []) _ (N.each i (seat-accepted i load z).0)
            (sym (seat-words 0 new i (omega (arith, N.eight, (seat-accepted i load z).0))) ∙ ap (seat i) (e 0)
            ∙ load_same i load (office_of 0 old) (office-eight 0) z);
        others = λ z j l h. same-seat new old N O 0 0 j l (ap (seat j) (e 0)
            ∙ load_other i load (office_of 0 old) j (λ q _. h q));
        refused = λ h. (same-seats new old N O 0 0 (e 0 ∙ load_refused i load (office_of 0 old) h)).1;
      }
