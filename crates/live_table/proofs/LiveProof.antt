-- The proof of what T-09 asks of a live table.
use Rattle.std.specs.Prelude.{◌≡◌, refl, Bool, true, false, cond, not, ◌||◌, ◌⊎◌, ◌↔◌, List, [], ◌∷◌, ◌++◌, ℕ, ◌<◌, eqb}
use Rattle.std.specs.Prelude.{length, get_or}
use Rattle.std.proofs.Common.{sym, ap, ◌∙◌, inl, inr, arith}
use Rattle.std.proofs.Math.Dec.{leb}
use borrow.Author.Tests.{eqb-true, eq-eqb, ne_eqb, ltb-true, not-false}
use Rattle.base_lists.specs.Tests.{either}
use Rattle.table_levels.specs.Level.{HIGHEST}
use Rattle.table.proofs.Passes.{table-levelled}
use Rattle.table.specs.Refusals.{first_of}
use Rattle.table.specs.RefusalLaws.{Reason, FirstCause, SomeCause, Numbered, tests, first-cause, some-cause}
use Rattle.table.specs.RefusalLaws.{passed-test}
use Rattle.table.specs.Table.{max_units, end_a, end_b, same_ends, joined_in}
use Rattle.table.specs.TableCauses.{same_ends-exact}
use Rattle.table.proofs.TableReplies.{stored-first-cause, stored-some_cause}
use Rattle.spec_machine.specs.Load.{Input, links_in}
use Rattle.spec_machine.specs.Calls.{load_answer, stored_load_answer, planned_load_answer}
use Rattle.live_table.specs.Counts.{links_at}
use Rattle.live_table.specs.CountLaws.{counts-at}
use Rattle.live_table.specs.Live.{Live, held, live_of, added, withdrawn, place_of}
use Rattle.live_table.specs.LiveCalls.{answered, open_refusal, open_answer, add_answer, withdraw_answer, add_refusal}
use Rattle.live_table.specs.LiveCalls.{withdraw_refusal, link_refusal, pair_refusal}
use Rattle.live_table.specs.LiveCauses.{given_reasons, link_reasons, pair_reasons}
use Rattle.live_table.specs.AddedLaws.{added-refusal}
use Rattle.live_table.specs.WithdrawnLaws.{withdrawn-passes}
use Rattle.live_table.specs.HeldLaws.{held_of, add-of, withdraw-of}
use Rattle.live_table.specs.PlaceLaws.{place_found, place-joins}
use Rattle.live_table.specs.WithoutLaws.{links-less, ends-moved, level-moved}
use Rattle.live_table.specs.LiveRight.{Change, add, withdraw, answer_to, number_of, made, left, played, left_by}
use Rattle.live_table.specs.LiveRight.{OpenRight, ChangeRight, ListRight, ListsRight, LiveTable}

-- ---- answers

made-live : (k : ℕ) (given after : Live) → k ≡ 0 → (answered k given after).live ≡ after
made-live k given after e = rw (eq-eqb k 0 e) refl

kept-live : (k : ℕ) (given after : Live) → (k ≡ 0 → ⊥) → (answered k given after).live ≡ given
kept-live k given after h = rw (ne_eqb k 0 h) refl

open_right : (x : Input) → OpenRight x
unfolding open_answer
open_right x =
    record {
      cause = stored-first-cause x.units x.words x.levels;
      refused = stored-some_cause x.units x.words x.levels;
      opened = made-live (open_refusal x) _ (live_of x);
    }

open_number : (x : Input) → (open_answer x).number ≡ open_refusal x
unfolding open_answer
open_number x = refl

change-bound : (reasons : List Reason) → Numbered reasons → (k : ℕ) → k ≡ first_of (tests reasons)
    → ((i : ℕ) → (i ≡ 0 → ⊥) → (k ≡ i) ↔ FirstCause reasons i) × ((k ≡ 0 → ⊥) ↔ SomeCause reasons)
change-bound reasons p k e = (λ i h. rw e (first-cause reasons i h), rw e (some-cause reasons p))

change-right : (c : Change) (l : Live) → ChangeRight c l
unfolding add_answer withdraw_answer add_refusal withdraw_refusal given_reasons link_reasons pair_reasons
change-right (add a b level) l =
    let q = change-bound (given_reasons l ++ link_reasons a b level (held l)) (omega arith)
    (add_refusal a b level l) refl in
    record {
      cause = q.0;
      refused = q.1;
      as_given = kept-live (add_refusal a b level l) l _;
      changed = made-live (add_refusal a b level l) l _;
    }
change-right (withdraw a b) l =
    let q = change-bound (given_reasons l ++ pair_reasons a b (held l)) (omega arith) (withdraw_refusal a b l) refl in
    record {
      cause = q.0;
      refused = q.1;
      as_given = kept-live (withdraw_refusal a b l) l _;
      changed = made-live (withdraw_refusal a b l) l _;
    }

-- ---- two units whose link may be withdrawn have one

module _ (x : Input) (a b : ℕ) (e : pair_refusal a b x ≡ 0) where
  found : place_of a b x.words < links_in x
  unfolding pair_refusal
  found =
      let p = passed-test (leb x.units a || leb x.units b) 7 _ (omega arith) e in
      let q = passed-test (eqb a b) 8 _ (omega arith) p.1 in
      let r = passed-test (not (joined_in same_ends a b x.words)) 21 _ (omega arith) q.1 in
      ltb-true (place_of a b x.words) (links_in x) (sym (place_found a b x.words)
      ∙ not-false (joined_in same_ends a b x.words) r.0)

-- ---- a change of the table of lists that pass is the table of the lists that it leaves

made-passes : (c : Change) (x : Input) → open_refusal x ≡ 0 → number_of c x ≡ 0 → open_refusal (made c x) ≡ 0
made-passes (add a b level) x e z = added-refusal x a b level e ∙ z
made-passes (withdraw a b) x e z = withdrawn-passes x (place_of a b x.words) e (found x a b z)

left-passes : (c : Change) (x : Input) → open_refusal x ≡ 0 → open_refusal (left c x) ≡ 0
left-passes c x e = go (either (eqb (number_of c x) 0))
  where
    go : (eqb (number_of c x) 0 ≡ true) ⊎ (eqb (number_of c x) 0 ≡ false) → open_refusal (left c x) ≡ 0
    go (inl z) = rw z (made-passes c x e (eqb-true (number_of c x) 0 z))
    go (inr z) = rw z e

cond-live : (k : ℕ) (x y : Input) → cond (eqb k 0) (live_of y) (live_of x) ≡ live_of (cond (eqb k 0) y x)
cond-live k x y = go (eqb k 0)
  where
    go : (b : Bool) → cond b (live_of y) (live_of x) ≡ live_of (cond b y x)
    go true = refl
    go false = refl

change-left : (c : Change) (x : Input) → open_refusal x ≡ 0 → (answer_to c (live_of x)).live ≡ live_of (left c x)
unfolding add_answer withdraw_answer
change-left (add a b level) x e =
    ap (λ (k : ℕ). cond (eqb k 0) (live_of (added a b level (held (live_of x)))) (live_of x)) (add-of x e a b level)
    ∙ ap (λ (y : Input). cond (eqb (link_refusal a b level x) 0) (live_of (added a b level y)) (live_of x))
    (held_of x e)
    ∙ cond-live (link_refusal a b level x) x (added a b level x)
change-left (withdraw a b) x e =
    ap (λ (k : ℕ). cond (eqb k 0) (live_of (withdrawn a b (held (live_of x)))) (live_of x)) (withdraw-of x e a b)
    ∙ ap (λ (y : Input). cond (eqb (pair_refusal a b x) 0) (live_of (withdrawn a b y)) (live_of x)) (held_of x e)
    ∙ cond-live (pair_refusal a b x) x (withdrawn a b x)

played-of : (cs : List Change) (x : Input) → open_refusal x ≡ 0 → played cs (live_of x) ≡ live_of (left_by cs x)
played-of [] x e = refl
played-of (c ∷ cs) x e = ap (played cs) (change-left c x e) ∙ played-of cs (left c x) (left-passes c x e)

left_by-passes : (cs : List Change) (x : Input) → open_refusal x ≡ 0 → open_refusal (left_by cs x) ≡ 0
left_by-passes [] x e = e
left_by-passes (c ∷ cs) x e = left_by-passes cs (left c x) (left-passes c x e)

-- each number of the table of lists is the count
counts_of : (y : Input) (v : ℕ) → v < max_units → get_or (live_of y).counts v 0 ≡ links_at y.words v
unfolding live_of
counts_of y v h = counts-at (links_in y) y.words v h

list_right : (x : Input) → open_refusal x ≡ 0 → (cs : List Change) → ListRight x cs
list_right x e cs =
    let first : (open_answer x).live ≡ live_of x = (open_right x).opened (open_number x ∙ e) in
    let last : played cs (open_answer x).live ≡ live_of (left_by cs x) = ap (played cs) first ∙ played-of cs x e in
    let in-it : held (played cs (open_answer x).live) ≡ left_by cs x =
    ap held last ∙ held_of (left_by cs x) (left_by-passes cs x e) in
    record {
      table = last;
      holds = in-it;
      loads = λ s. ap (λ (y : Input). load_answer y s) in-it;
      stored_loads = λ s. ap (λ (y : Input). stored_load_answer y s) in-it;
      planned_loads = λ parents s. ap (λ (y : Input). planned_load_answer y parents s) in-it;
      passes = left_by-passes cs x e;
      counts =
          λ v h.
          ap (λ (l : Live). get_or l.counts v 0) last
          ∙ counts_of (left_by cs x) v h
          ∙ ap (λ (y : Input). links_at y.words v) (sym in-it);
    }

lists-right : (x : Input) → open_refusal x ≡ 0 → ListsRight x
lists-right x e =
    record {
      added = λ a b level. sym (added-refusal x a b level e);
      joins =
          λ a b z.
          (same_ends-exact a b (end_a x.words (place_of a b x.words)) (end_b x.words (place_of a b x.words))).0
          (place-joins a b x.words (found x a b z));
      fewer = λ a b z. omega (arith, links-less x.words (place_of a b x.words) (found x a b z), found x a b z);
      ends = λ a b z. ends-moved x.words (place_of a b x.words) (found x a b z);
      level = λ a b z k. level-moved x.levels (place_of a b x.words) (heard a b z) k HIGHEST;
    }
  where
    heard : (a b : ℕ) → pair_refusal a b x ≡ 0 → place_of a b x.words < length x.levels
    heard a b z = omega (arith, found x a b z, table-levelled x.units x.words x.levels e)

pub live_table : LiveTable
live_table = record {
  opening = open_right;
  change = change-right;
  changes = λ x z cs. list_right x (sym (open_number x) ∙ z) cs;
  lists = lists-right;
}
