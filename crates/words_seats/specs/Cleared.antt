-- Eight seats in words whose unit counts and stages are 0, cleared memory among them, and a new turn are where T-12's
-- promises begin: they hold of whatever loads and ticks make of these words.
use Rattle.std.specs.Prelude.{◌≡◌, refl, List, [], ℕ, ◌<◌, length, get_or}
use Rattle.std.proofs.Common.{◌∙◌, arith}
use Rattle.std.proofs.lemmas.List.{length-map}
use Rattle.words_layout.specs.Layout.{state_of}
use Rattle.spec_channel.specs.Office.{Event, play}
use Rattle.spec_channel.proofs.Channel.{Begun, Channel}
use Rattle.spec_channel.proofs.ChannelProof.{one-channel}
use Rattle.words_seat_tests.specs.EmptyLaws.{both_zero}
use Rattle.words_seats.specs.Lent.{office_of}
use Rattle.words_seats.specs.LentLaws.{seat-words}

-- the words of the unit counts and of the stages are 0
pub record Blank (words : List (List ℕ)) : Type 0 where
  pub eight : length words ≡ 8
  pub units : (i : ℕ) → i < 8 → get_or (get_or words i []) 0 0 ≡ 0
  pub stage : (i : ℕ) → i < 8 → get_or (get_or words i []) 2050 0 ≡ 0

pub cleared : (words : List (List ℕ)) → Blank words → Begun (office_of 7 words)
unfolding office_of
cleared words b =
    record {
      eight = length-map words state_of ∙ b.eight;
      empty = λ i h. rw (seat-words 7 words i (omega (arith, h, b.eight)))
          (both_zero (get_or words i []) (b.units i h) (b.stage i h));
      turn = refl;
    }

pub cleared-channel : (words : List (List ℕ)) → Blank words → (events : List Event) →
    Channel (play events (office_of 7 words))
cleared-channel words b events = one-channel (office_of 7 words) (cleared words b) events
