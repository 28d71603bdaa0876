-- Place by place and unit by unit, from the local values.
use Rattle.std.proofs.Common.{◌≡◌, ◌+◌, ◌-◌, ◌≤◌, ◌&&◌, cond, leb, length, get_or, min, max, true, false, refl, ◌∙◌}
use Rattle.std.proofs.Common.{le_refl, rules, arith}
use Rattle.spec_rules.specs.Basics.{ABSENT}
use Rattle.spec_rules.specs.RangeLaws.{local_by, begin_by, local-all, global-first, range-first}
use Rattle.stage07_range.specs.Begins.{local-value, begin-value}
use Rattle.stage07_range.proofs.local.begin.Goals as goal

pub returns-clause-least : goal.returns-clause-least
returns-clause-least c =
    let a = c.args in
    let m = a.links in
    let first = c.firsts-first.result in
    let low = c.locals-local.result.low in
    let full : length low ≡ 256 = search rules in
    let values = local-all false a.ends.now a.parent.now a.pre.now m m low c.told-pre c.locals-local.ensures.low
    (le_refl m) (le_refl m) in
    c.begin_from.ensures.low (local_by first low) (λ v u l e.
    let is : u ≡ get_or first v 0 = search rules in
    local-value low full first v u (get_or low u 0) is refl)
    ∙ global-first min a.n m a.ends.now a.parent.now a.pre.now first low c.requires.0 c.firsts-first.ensures values
    a.least.now

pub returns-clause-low : goal.returns-clause-low
returns-clause-low c =
    let a = c.args in
    let m = a.links in
    let first = c.firsts-first.result in
    let low = c.locals-local.result.low in
    let full : length low ≡ 256 = search rules in
    let few : a.n ≤ ABSENT = omega (arith, c.requires.0) in
    let values = local-all false a.ends.now a.parent.now a.pre.now m m low c.told-pre c.locals-local.ensures.low
    (le_refl m) (le_refl m) in
    c.begin_from-2.ensures.low (begin_by a.n first low a.nd.now a.pre.now) (λ v u l e.
    let end = get_or a.pre.now v 0 + get_or a.nd.now v 0 in
    let is : u ≡ cond (leb 1 end && leb end a.n) (get_or first (end - 1) 0) 65535 = search rules in
    begin-value low full a.n end first u (get_or low u 0) a.nd.now a.pre.now v few refl is refl)
    ∙ range-first min a.n m a.ends.now a.parent.now a.pre.now first low c.requires.0 c.firsts-first.ensures values
    a.nd.now a.low.now

pub returns-clause-greatest : goal.returns-clause-greatest
returns-clause-greatest c =
    let a = c.args in
    let m = a.links in
    let first = c.firsts-first.result in
    let high = c.locals-local.result.high in
    let full : length high ≡ 256 = search rules in
    let values = local-all true a.ends.now a.parent.now a.pre.now m m high c.told-pre c.locals-local.ensures.high
    (le_refl m) (le_refl m) in
    c.begin_from.ensures.high (local_by first high) (λ v u l e.
    let is : u ≡ get_or first v 0 = search rules in
    local-value high full first v u (get_or high u 0) is refl)
    ∙ global-first max a.n m a.ends.now a.parent.now a.pre.now first high c.requires.0 c.firsts-first.ensures values
    a.greatest.now

pub returns-clause-high : goal.returns-clause-high
returns-clause-high c =
    let a = c.args in
    let m = a.links in
    let first = c.firsts-first.result in
    let high = c.locals-local.result.high in
    let full : length high ≡ 256 = search rules in
    let few : a.n ≤ ABSENT = omega (arith, c.requires.0) in
    let values = local-all true a.ends.now a.parent.now a.pre.now m m high c.told-pre c.locals-local.ensures.high
    (le_refl m) (le_refl m) in
    c.begin_from-2.ensures.high (begin_by a.n first high a.nd.now a.pre.now) (λ v u l e.
    let end = get_or a.pre.now v 0 + get_or a.nd.now v 0 in
    let is : u ≡ cond (leb 1 end && leb end a.n) (get_or first (end - 1) 0) 65535 = search rules in
    begin-value high full a.n end first u (get_or high u 0) a.nd.now a.pre.now v few refl is refl)
    ∙ range-first max a.n m a.ends.now a.parent.now a.pre.now first high c.requires.0 c.firsts-first.ensures values
    a.nd.now a.high.now
