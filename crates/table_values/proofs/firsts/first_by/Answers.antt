-- By the tests of the key.
use Rattle.std.proofs.Common.{le-ltb, lt-ltb, eq-eqb, ne_eqb}
use Rattle.spec_rules.specs.Buckets.{BUCKETS, lookup}
use Rattle.spec_rules.specs.Basics.{ABSENT}
use Rattle.table_values.proofs.firsts.first_by.Goals as goal

pub returns-then-q-lt512 : goal.returns-then-q-lt512
unfolding lookup
returns-then-q-lt512 c = rw (lt-ltb c.args.q BUCKETS c.if-q-lt512.true) c.at.ensures

pub returns-then-q-eq-ABSENT : goal.returns-then-q-eq-ABSENT
unfolding lookup
returns-then-q-eq-ABSENT c =
    rw (
      le-ltb c.args.q BUCKETS c.if-q-lt512.false,
      eq-eqb c.args.q ABSENT c.if-q-eq-ABSENT.true,
    )

pub returns : goal.returns
unfolding lookup
returns c =
    rw (
      le-ltb c.args.q BUCKETS c.if-q-lt512.false,
      ne_eqb c.args.q ABSENT c.if-q-eq-ABSENT.false,
    ) c.first_at.ensures
