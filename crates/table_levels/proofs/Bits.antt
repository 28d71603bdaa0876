-- The bits of a signed number are its two's complement.
use Rattle.std.proofs.Common.{◌≡◌, refl, Bool, true, false, cond, ℕ, suc, ◌-◌, ◌%◌, ◌<◌, ltb, ℤ, pos, negsuc, arith}
use Rattle.std.specs.Int.Signed.{mag}
use mir.Syntax.{w8, w16}
use mir.Val.{of_z, to_z, sel}
use Rattle.table_levels.specs.Level.{twos, signed}

pub word-bits : (z : ℤ) → mag z < 32768 → of_z w16 z ≡ twos 65536 z
unfolding twos
word-bits (pos n) h = omega arith
word-bits (negsuc n) h = omega arith

pub word-byte : (z : ℤ) → mag z < 32768 → twos 65536 z % 256 ≡ twos 256 z
unfolding twos
word-byte (pos n) h = omega arith
word-byte (negsuc n) h = omega arith

either-sign : (b : Bool) (n m k : ℕ) → m ≡ k → sel b (pos n) (negsuc m) ≡ cond b (pos n) (negsuc k)
either-sign true n m k e = refl
either-sign false n m k e = rw e refl

pub signed-word : (w : ℕ) → to_z w16 w ≡ signed 65536 w
unfolding signed
signed-word w = either-sign (ltb w 32768) w (65536 - suc w) (65536 - 1 - w) (omega arith)

pub signed-byte : (b : ℕ) → to_z w8 b ≡ signed 256 b
unfolding signed
signed-byte b = either-sign (ltb b 128) b (256 - suc b) (256 - 1 - b) (omega arith)
