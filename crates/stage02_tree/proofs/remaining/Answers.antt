-- Where the leap is right and covered, its tables and the clock are those of the run.
use Rattle.std.proofs.Common.{◌≡◌, ◌+◌, min, arith}
use Rattle.spec_machine.specs.State.{MAX-ROUNDS}
use Rattle.stage02_tree.specs.LeapRun.{leapt-run}
use Rattle.stage02_tree.proofs.remaining.Goals as goal

pub returns : goal.returns
returns c =
    let a = c.args in
    let none : a.given ≡ 0 = omega arith in
    let counted : c.min.result ≡ min (a.clock.rounds + (c.saturating_sub-more.result + 1)) MAX-ROUNDS = omega arith in
    leapt-run a.units a.links a.left a.given c.in_ok-found.found.last _ _ a.plan.now a.ends.now a.levels.now a.color.now
    (record { parent = a.parent; dist = a.dist; clock = a.clock; made = a.made }) _ _ none c.requires.0
    c.requires.1 c.in_ok-found.ensures.leapt c.saturating_sub-more.ensures c.if-left-more.false counted
