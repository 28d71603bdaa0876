-- A test as a number.
use Rattle.std.proofs.Common.{◌≡◌, refl, Bool, true, false, cond, ◌≤◌, arith}
use Rattle.std.specs.Int.{from_bool}

pub one : (b : Bool) → from_bool b ≡ cond b 1 0
one true = refl
one false = refl

pub one-few : (b : Bool) → from_bool b ≤ 1
one-few true = omega arith
one-few false = omega arith
