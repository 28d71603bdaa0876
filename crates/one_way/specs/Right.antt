-- Every call that is not refused is answered rightly: by some number of passes, and with the numbers that Groups.antt
-- asks for.
use Rattle.std.specs.Prelude.{◌≡◌, ℕ, List, length}
use Rattle.std.proofs.Common.{sym}
use Rattle.theory_min_label.specs.MinLabel.{min_label}
use Rattle.theory_min_label.specs.Groups.{Strong}
use Rattle.theory_min_label.specs.StrongProof.{strong}
use Rattle.theory_min_label.specs.HandLaws.{ends-within}
use Rattle.one_way.specs.Numbering.{strong_refusal, strong_reply, strong_numbers}
use Rattle.one_way.specs.NumberingLaws.{accepted-site, strong-accepted}
use Rattle.one_way.specs.declared.Numbering.TheVariants.{Passes}

pub strong-right : (n : ℕ) (t out : List ℕ) → strong_refusal n t (length out) ≡ 0
    → (k : ℕ) × (strong_reply n t out ≡ Passes k) × Strong n t out (strong_numbers n t out) k
strong-right n t out e =
    let p = strong-accepted n t out e in
    let (site, room) = accepted-site n t (length out) e in (
      (min_label n t out).1,
      sym p.0,
      rw (← p.1) (strong n t out site.few room (ends-within n t site.ends)),
    )
