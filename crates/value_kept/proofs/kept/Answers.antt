-- The front, then the entries, table by table.
use mathlib.Core.Path.{◌≡◌, refl, sym, ◌∙◌}
use mathlib.Core.Bool.{Bool, ◌&&◌}
use lib.Dec.{leb}
use Rattle.std.proofs.Math.Bool.{and_assoc}
use Rattle.spec_machine.specs.State.{State}
use Rattle.spec_machine.specs.KeptLaws.{kept-front, kept-parts}
use Rattle.value_kept.proofs.kept.Goals as goal

joined : (x n1 n2 n3 v g : Bool) → (x && n1 && n2 && n3 && v && g) ≡ ((x && (n1 && (n2 && n3))) && v && g)
joined x n1 n2 n3 v g = rw (and_assoc x n1 n2, and_assoc x (n1 && n2) n3, and_assoc n1 n2 n3) refl

pub returns-then-not-front_ok : goal.returns-then-not-front_ok
returns-then-not-front_ok c =
    let the : State = let a = c.args in
    record {
      table = record { units = a.units; links = a.links; ends = a.ends.now; levels = a.levels.now };
      clock = a.clock;
      components = record { color = a.color.now };
      plan = record { given = a.given; parent = a.plan.now };
      tree = record { parent = a.parent.now; dist = a.dist.now };
      tour = record { next = a.next.now; pred = a.pred.now };
      ranking = record { jump = a.jump.now; sum = a.sum.now };
      order = record { forward = a.forward.now; nd = a.nd.now; pre = a.pre.now };
      range = record { low = a.low.now; high = a.high.now; little = a.little.now; big = a.big.now };
      global = record { low = a.least.now; high = a.greatest.now };
      aux = record { parents = a.parents.now; links = a.linked.now; color = a.classes.now };
      labels = record { class = a.class.now; label = a.label.now };
    } in
    sym (kept-front (the) (sym c.front_ok.ensures
    ∙ c.if-not-front_ok.true))

pub returns : goal.returns
returns c =
    let the : State = let a = c.args in
    record {
      table = record { units = a.units; links = a.links; ends = a.ends.now; levels = a.levels.now };
      clock = a.clock;
      components = record { color = a.color.now };
      plan = record { given = a.given; parent = a.plan.now };
      tree = record { parent = a.parent.now; dist = a.dist.now };
      tour = record { next = a.next.now; pred = a.pred.now };
      ranking = record { jump = a.jump.now; sum = a.sum.now };
      order = record { forward = a.forward.now; nd = a.nd.now; pre = a.pre.now };
      range = record { low = a.low.now; high = a.high.now; little = a.little.now; big = a.big.now };
      global = record { low = a.least.now; high = a.greatest.now };
      aux = record { parents = a.parents.now; links = a.linked.now; color = a.classes.now };
      labels = record { class = a.class.now; label = a.label.now };
    } in
    let unit = c.names-unit.ensures in
    let number = c.numbers-number.ensures in
    kept-parts (the) _ _ _ _ _ _ _ _ _ _ _ _ _ _ _ _ _ _ _
    (sym c.front_ok.ensures ∙ c.if-not-front_ok.false)
    (c.within-ended.ensures _ unit) (c.all_within-named.ensures _ unit)
    (c.all_within-arcs.ensures _ c.names-arc.ensures)
    c.names_ok-labels.ensures c.dists_ok-dists.ensures (c.all_within-sums.ensures _ number)
    (c.all_within-ranges.ensures _ number) (c.all_within-joins.ensures _ number) c.all_in_range-heard.ensures refl
    refl refl refl refl refl refl refl refl
    (joined (c.within-ended.result && c.all_within-named.result && c.all_within-arcs.result && c.names_ok-labels.result
    && c.dists_ok-dists.result) c.all_within-sums.result c.all_within-ranges.result c.all_within-joins.result
    c.all_in_range-heard.result (leb c.args.given 2048))
