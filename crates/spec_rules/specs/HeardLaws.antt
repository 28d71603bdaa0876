-- A link or join of a and b as a loop meets it: each end takes in the other's value. Stages 1, 7 and 9.
use Rattle.std.specs.Prelude.{◌≡◌, Bool, true, false, cond, List, ℕ, ◌<◌}
use Rattle.std.proofs.Common.{sym, ap}
use Rattle.base_lists.specs.Tables.{over, over_cong}
use Rattle.base_lists.specs.Scatter.{op_of, takes_in, pair-over}
use Rattle.spec_rules.specs.Basics.{at, heard}

-- both ends, below n, take in the other's value
unfoldable pub hears : Bool → ℕ → List ℕ → ℕ → ℕ → List ℕ → List ℕ
hears g n value a b t = takes_in (op_of g) n (takes_in (op_of g) n t a (at value b)) b (at value a)

-- a table whose entries have taken in their own values
pub hears-over : (g : Bool) (n : ℕ) (value : List ℕ) (a b : ℕ) (f : ℕ → ℕ) (old : List ℕ)
    → ((v : ℕ) → op_of g (f v) (at value v) ≡ f v)
    → hears g n value a b (over n f old) ≡ over n (λ (v : ℕ). op_of g (f v) (heard value a b v)) old
unfolding hears
hears-over g n value a b f old own =
    pair-over g n f (at value) old a b (at value b) (at value a) (λ (e : a ≡ b). ap (at value) (sym e)) own

-- where the join counts only if a test holds
pub hears-over_if : (test g : Bool) (n : ℕ) (value : List ℕ) (a b : ℕ) (f : ℕ → ℕ) (old : List ℕ)
    → ((v : ℕ) → op_of g (f v) (at value v) ≡ f v)
    → cond test (hears g n value a b (over n f old)) (over n f old)
    ≡ over n (λ (v : ℕ). op_of g (f v) (cond test (heard value a b v) (at value v))) old
hears-over_if true g n value a b f old own = hears-over g n value a b f old own
hears-over_if false g n value a b f old own =
    over_cong n f (λ (v : ℕ). op_of g (f v) (at value v)) old (λ (v : ℕ) (l : v < n). sym (own v))
