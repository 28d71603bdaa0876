-- lg(x) of document 01: "the least k with 2 to the power k at least x".
use Rattle.std.specs.Prelude.{cond, ℕ, zero, suc, ◌^◌, leb}

-- the first number from k on whose power of two is at least x, in at most `fuel` steps up
unfoldable pub lg_from : ℕ → ℕ → ℕ → ℕ
lg_from zero k x = k
lg_from (suc fuel) k x = let further = lg_from fuel (suc k) x in cond (leb x (2 ^ k)) k further

-- 2 to the power x is above x, so x steps up are enough
unfoldable pub lg : ℕ → ℕ
lg x = lg_from x zero x
