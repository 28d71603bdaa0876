-- A seat read and laid down in lent words.
use Rattle.std.specs.Prelude.{◌≡◌, refl, List, [], ◌∷◌, map, ℕ, zero, suc, ◌<◌, length, get_or, set}
use Rattle.std.proofs.Common.{ap, arith}
use Rattle.spec_machine.specs.State.{State}
use Rattle.spec_machine.specs.Load.{unloaded}
use Rattle.words_layout.specs.Layout.{state_of}
use Rattle.spec_channel.specs.Office.{seat}
use Rattle.words_seats.specs.Lent.{office_of}

map_below : (f : List ℕ → State) (d : State) (l : List (List ℕ)) (i : ℕ) → i < length l →
    get_or (map f l) i d ≡ f (get_or l i [])
map_below f d [] i h = absurd (omega arith)
map_below f d (x ∷ l) zero h = refl
map_below f d (x ∷ l) (suc i) h = map_below f d l i (omega arith)

map-set : (f : List ℕ → State) (l : List (List ℕ)) (i : ℕ) (y : List ℕ) → map f (set l i y) ≡ set (map f l) i (f y)
map-set f [] i y = refl
map-set f (x ∷ l) zero y = refl
map-set f (x ∷ l) (suc i) y = ap (λ (t : List State). f x ∷ t) (map-set f l i y)

-- the survey in a seat is what its words are
pub seat-words : (last : ℕ) (words : List (List ℕ)) (i : ℕ) → i < length words →
    seat i (office_of last words) ≡ state_of (get_or words i [])
unfolding office_of
seat-words last words i h = map_below state_of unloaded words i h

-- one seat's words replaced
pub words-set : (last : ℕ) (words : List (List ℕ)) (i : ℕ) (new : List ℕ)
    → office_of last (set words i new) ≡ record {
      seats = set (office_of last words).seats i (state_of new);
      last =
          last;
    }
unfolding office_of
words-set last words i new = ap (λ (t : List State). record { seats = t; last = last }) (map-set state_of words i new)
