-- The report's length, and where each of its lines stands.
use Rattle.std.specs.Prelude.{◌≡◌, refl, List, [], ◌∷◌, ◌++◌, ℕ, ◌+◌, ◌*◌, ◌≤◌, ◌<◌, length, take, drop}
use Rattle.std.proofs.Common.{sym, ap, ◌∙◌, append_assoc, arith, length-append, take_at, drop_at, drop-drop}
use Rattle.std.proofs.lemmas.List.{take-append-le}
use Rattle.base_lists.specs.Gathered.{length-gathered, gathered-at, gathered}
use Rattle.file_frames.specs.FrameLaws.{length-line}
use Rattle.spec_machine.specs.State.{State}
use Rattle.spec_machine.specs.State.{units, links}
use Rattle.spec_machine.specs.Report.{head_line, unit_line, link_line, tail_line, report, report_length}

pub length-head : (s : State) → length (head_line s) ≡ 13
unfolding head_line
length-head s = length-line _

pub length-unit : (s : State) (v : ℕ) → length (unit_line s v) ≡ 23
unfolding unit_line
length-unit s v = length-line _

pub length-link : (s : State) (j : ℕ) → length (link_line s j) ≡ 15
unfolding link_line
length-link s j = length-line _

pub length-tail : (s : State) → length (tail_line s) ≡ 13
unfolding tail_line
length-tail s = length-line _

pub units-long : (s : State) → length (gathered (units s) (unit_line s)) ≡ 23 * units s
units-long s = length-gathered (units s) 23 (unit_line s) (λ v l. length-unit s v)

pub links-long : (s : State) → length (gathered (links s) (link_line s)) ≡ 15 * links s
links-long s = length-gathered (links s) 15 (link_line s) (λ j l. length-link s j)

pub length-report : (s : State) → length (report s) ≡ report_length (units s) (links s)
unfolding report
length-report s =
    simp length-append (omega (arith, length-head s, units-long s, links-long s, length-tail s))

-- the lines of units and links, from any slice that begins with the report
pub head_at : (s : State) (rest : List ℕ) → take 13 (report s ++ rest) ≡ head_line s
unfolding report
head_at s rest = simp append_assoc (take_at (head_line s) _ 13 (length-head s))

pub unit-at : (s : State) (rest : List ℕ) (v : ℕ) → v < units s →
    take 23 (drop (13 + 23 * v) (report s ++ rest)) ≡ unit_line s v
unfolding report
unit-at s rest v l =
    rw (sym (drop-drop (23 * v) 13 (report s ++ rest)))
    (simp append_assoc
    (rw (drop_at (head_line s) (gathered (units s) (unit_line s)
    ++ (gathered (links s) (link_line s) ++ (tail_line s ++ rest))) 13 (length-head s))
    (gathered-at (units s) 23 (unit_line s) (gathered (links s) (link_line s) ++ (tail_line s ++ rest))
    (λ u q. length-unit s u) v l)))

pub link_at : (s : State) (rest : List ℕ) (j : ℕ) → j < links s
    → take 15 (drop (13 + 23 * units s + 15 * j) (report s ++ rest)) ≡ link_line s j
unfolding report
link_at s rest j l =
    rw (
      sym (drop-drop (15 * j) (13 + 23 * units s) (report s ++ rest)),
      sym (drop-drop (23 * units s) 13 (report s ++ rest)),
    )
    (simp append_assoc
    (rw (
      drop_at (head_line s) (gathered (units s) (unit_line s)
          ++ (gathered (links s) (link_line s) ++ (tail_line s ++ rest))) 13 (length-head s),
      drop_at (gathered (units s) (unit_line s)) (gathered (links s) (link_line s)
          ++ (tail_line s ++ rest)) (23 * units s)
          (units-long s),
    )
    (gathered-at (links s) 15 (link_line s) (tail_line s ++ rest) (λ u q. length-link s u) j l)))
