-- A flag of a reply as a word.
use Rattle.std.specs.Prelude.{◌≡◌, refl, Bool, true, false}
use mir.Val.{bool_byte}
use Rattle.spec_machine.specs.Report.{flag}

-- what a cast makes of a flag
pub byte_flag : (b : Bool) → bool_byte b ≡ flag b
byte_flag true = refl
byte_flag false = refl
