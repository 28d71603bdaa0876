-- What the rules of all stages share: the mark "absent", reads that are total, bounds, roots, and links off the tree.
use Rattle.std.specs.Prelude.{Bool, not, ◌&&◌, cond, List, ℕ, min, eqb, get_or}

-- the mark "absent"; as a value it compares as this number
abbrev pub ABSENT : ℕ
ABSENT = 65535

-- a value read at an absent or missing place is 0
abbrev pub at : List ℕ → ℕ → ℕ
at t i = get_or t i 0

-- the bound of a stored number that names nothing; one that would leave it is stored as the bound
abbrev pub MAX-NUMBER : ℕ
MAX-NUMBER = 2048

abbrev pub bounded : ℕ → ℕ
bounded x = min x MAX-NUMBER

-- a root is a unit whose parent is absent
abbrev pub is_root : List ℕ → ℕ → Bool
is_root parent v = eqb (at parent v) ABSENT

-- a link is off the tree when neither end is the other's parent
abbrev pub off_tree : List ℕ → ℕ → ℕ → Bool
off_tree parent a b = not (eqb (at parent a) b) && not (eqb (at parent b) a)

-- what v hears over a link or join of a and b: the other end's value, its own where it is no end
abbrev pub heard : List ℕ → ℕ → ℕ → ℕ → ℕ
heard value a b v = cond (eqb a v) (at value b) (cond (eqb b v) (at value a) (at value v))
