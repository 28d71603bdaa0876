-- By where the label stands.
use Rattle.std.proofs.Common.{le-ltb, lt-ltb, eq-eqb, ne_eqb}
use Rattle.report_flags.specs.Sharing.{lookup}
use Rattle.report_flags.proofs.links.look_up.Goals as goal

pub returns-then-x-lt1024 : goal.returns-then-x-lt1024
unfolding lookup
returns-then-x-lt1024 c = rw (lt-ltb _ _ c.if-x-lt1024.true) c.word.ensures

pub returns-then-x-eq-ABSENT : goal.returns-then-x-eq-ABSENT
unfolding lookup
returns-then-x-eq-ABSENT c = rw (le-ltb _ _ c.if-x-lt1024.false, eq-eqb _ _ c.if-x-eq-ABSENT.true)

pub returns-else-x-eq-ABSENT : goal.returns-else-x-eq-ABSENT
unfolding lookup
returns-else-x-eq-ABSENT c = rw (le-ltb _ _ c.if-x-lt1024.false, ne_eqb _ _ c.if-x-eq-ABSENT.false) c.sharing.ensures
