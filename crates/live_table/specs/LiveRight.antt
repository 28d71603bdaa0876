-- What T-09 asks of a live table, for any lists, any live table and any changes of it.
use Rattle.std.specs.Prelude.{◌≡◌, cond, ◌↔◌, List, [], ◌∷◌, ◌++◌, ℕ, suc, ◌<◌, eqb, get_or, ℤ}
use Rattle.table_levels.specs.Level.{HIGHEST}
use Rattle.table.specs.RefusalLaws.{Reason, FirstCause, SomeCause}
use Rattle.table.specs.Table.{max_units, end_a, end_b}
use Rattle.table.specs.TableCauses.{SameEnds, stored_reasons}
use Rattle.spec_machine.specs.Load.{Input, links_in}
use Rattle.spec_machine.specs.State.{State}
use Rattle.spec_machine.specs.Calls.{load_answer, stored_load_answer, planned_load_answer}
use Rattle.live_table.specs.Counts.{links_at}
use Rattle.live_table.specs.Live.{Live, held, live_of, added, withdrawn, place_of}
use Rattle.live_table.specs.LiveCalls.{Answer, open_refusal, open_answer, add_answer, withdraw_answer, link_refusal}
use Rattle.live_table.specs.LiveCalls.{pair_refusal}
use Rattle.live_table.specs.LiveCauses.{given_reasons, link_reasons, pair_reasons}
use Rattle.live_table.specs.WithoutLaws.{moved}

pub data Change : Type 0 where
  add : ℕ → ℕ → ℤ → Change
  withdraw : ℕ → ℕ → Change

-- of a live table: the answer, and the reasons for a refusal in their order
abbrev pub answer_to : Change → Live → Answer
answer_to (add a b level) l = add_answer a b level l
answer_to (withdraw a b) l = withdraw_answer a b l

abbrev pub reasons_of : Change → Live → List Reason
reasons_of (add a b level) l = given_reasons l ++ link_reasons a b level (held l)
reasons_of (withdraw a b) l = given_reasons l ++ pair_reasons a b (held l)

-- of lists alone: the number, what the change makes of them, and what it leaves, refused or not
abbrev pub number_of : Change → Input → ℕ
number_of (add a b level) x = link_refusal a b level x
number_of (withdraw a b) x = pair_refusal a b x

abbrev pub made : Change → Input → Input
made (add a b level) x = added a b level x
made (withdraw a b) x = withdrawn a b x

abbrev pub left : Change → Input → Input
left c x = cond (eqb (number_of c x) 0) (made c x) x

-- one change after the other, refused ones included
abbrev pub played : List Change → Live → Live
played [] l = l
played (c ∷ cs) l = played cs (answer_to c l).live

abbrev pub left_by : List Change → Input → Input
left_by [] x = x
left_by (c ∷ cs) x = left_by cs (left c x)

-- ---- an open

pub record OpenRight (x : Input) : Type 0 where
  pub cause : (k : ℕ) → (k ≡ 0 → ⊥) → ((open_answer x).number ≡ k)
      ↔ FirstCause (stored_reasons x.units x.words x.levels) k
  pub refused : ((open_answer x).number ≡ 0 → ⊥) ↔ SomeCause (stored_reasons x.units x.words x.levels)
  pub opened : (open_answer x).number ≡ 0 → (open_answer x).live ≡ live_of x

-- ---- one change of any live table

pub record ChangeRight (c : Change) (l : Live) : Type 0 where
  pub cause : (k : ℕ) → (k ≡ 0 → ⊥) → ((answer_to c l).number ≡ k) ↔ FirstCause (reasons_of c l) k
  pub refused : ((answer_to c l).number ≡ 0 → ⊥) ↔ SomeCause (reasons_of c l)
  pub as_given : ((answer_to c l).number ≡ 0 → ⊥) → (answer_to c l).live ≡ l
  pub changed : (answer_to c l).number ≡ 0 → (answer_to c l).live ≡ live_of (made c (held l))

-- ---- any list of changes after an open

pub record ListRight (x : Input) (cs : List Change) : Type 0 where
  -- the live table is that of the lists which the same changes leave
  pub table : played cs (open_answer x).live ≡ live_of (left_by cs x)
  -- it holds them, so that every load takes what it holds as it takes them, and passes the checks of a stored table
  pub holds : held (played cs (open_answer x).live) ≡ left_by cs x
  pub loads : (s : State) → load_answer (held (played cs (open_answer x).live)) s ≡ load_answer (left_by cs x) s
  pub stored_loads : (s : State) → stored_load_answer (held (played cs (open_answer x).live)) s
      ≡ stored_load_answer (left_by cs x) s
  pub planned_loads : (parents : List ℕ) (s : State) →
      planned_load_answer (held (played cs (open_answer x).live)) parents s
      ≡ planned_load_answer (left_by cs x) parents s
  pub passes : open_refusal (left_by cs x) ≡ 0
  -- each stored number is the count
  pub counts : (v : ℕ) → v < max_units → get_or (played cs (open_answer x).live).counts v 0
      ≡ links_at (held (played cs (open_answer x).live)).words v

-- ---- lists that pass, with a link more or less

pub record ListsRight (x : Input) : Type 0 where
  -- a link to be added is refused exactly as load refuses the lists with it
  pub added : (a b : ℕ) (level : ℤ) → link_refusal a b level x ≡ open_refusal (added a b level x)
  -- a link is withdrawn that joins the two units; each later one moves down by one position, its ends in their order
  -- and its level with it
  pub joins : (a b : ℕ) → pair_refusal a b x ≡ 0 →
      SameEnds a b (end_a x.words (place_of a b x.words)) (end_b x.words (place_of a b x.words))
  pub fewer : (a b : ℕ) → pair_refusal a b x ≡ 0 → suc (links_in (withdrawn a b x)) ≡ links_in x
  pub ends : (a b : ℕ) → pair_refusal a b x ≡ 0 → (k : ℕ)
      → (end_a (withdrawn a b x).words k ≡ end_a x.words (moved (place_of a b x.words) k))
      × (end_b (withdrawn a b x).words k ≡ end_b x.words (moved (place_of a b x.words) k))
  pub level : (a b : ℕ) → pair_refusal a b x ≡ 0 → (k : ℕ)
      → get_or (withdrawn a b x).levels k HIGHEST ≡ get_or x.levels (moved (place_of a b x.words) k) HIGHEST

pub record LiveTable : Type 0 where
  pub opening : (x : Input) → OpenRight x
  pub change : (c : Change) (l : Live) → ChangeRight c l
  pub changes : (x : Input) → (open_answer x).number ≡ 0 → (cs : List Change) → ListRight x cs
  pub lists : (x : Input) → open_refusal x ≡ 0 → ListsRight x
