-- Each return is the first check that fails. Every end is below the unit count when repeats are looked for, and so
-- below 256, where the search by marks is exact.
use mathlib.Core.Path.{◌≡◌, sym, ◌∙◌}
use mathlib.Core.Bool.{Bool, false}
use mathlib.Core.List.{List}
use Prim.Native.Nat.{ℕ}
use Rattle.table.specs.Table.{end_missing, equal_ends, repeated_as}
use Rattle.table.specs.TableLaws.{refused_7, refused_8, refused_9, ends-passed, end_missing-more}
use Rattle.table.proofs.ends.Goals as goal

pub returns-then-end_missing : goal.returns-then-end_missing
returns-then-end_missing c =
    let units : ℕ = c.args.units in
    let table : List ℕ = c.args.table.now in
    let repeated : Bool = repeated_as c.args.ordered (table) in
    refused_7 (units) (table) (repeated) (sym c.end_missing.ensures ∙ c.if-end_missing.true)

pub returns-then-equal_ends : goal.returns-then-equal_ends
returns-then-equal_ends c =
    let units : ℕ = c.args.units in
    let table : List ℕ = c.args.table.now in
    let repeated : Bool = repeated_as c.args.ordered (table) in
    let p7 : end_missing (units) (table) ≡ false = sym c.end_missing.ensures ∙ c.if-end_missing.false in
    refused_8 (units) (table) (repeated) (p7) (sym c.equal_ends.ensures ∙ c.if-equal_ends.true)

pub returns-then-repeated : goal.returns-then-repeated
returns-then-repeated c =
    let units : ℕ = c.args.units in
    let table : List ℕ = c.args.table.now in
    let repeated : Bool = repeated_as c.args.ordered (table) in
    let p7 : end_missing (units) (table) ≡ false = sym c.end_missing.ensures ∙ c.if-end_missing.false in
    let p8 : equal_ends (table) ≡ false = sym c.equal_ends.ensures ∙ c.if-equal_ends.false in
    let small : end_missing 256 (table) ≡ false = end_missing-more (units) 256 (table) c.requires (p7) in
    refused_9 (units) (table) (repeated) (p7) (p8) (sym (c.repeated.ensures (small))
    ∙ c.if-repeated.true)

pub returns : goal.returns
returns c =
    let units : ℕ = c.args.units in
    let table : List ℕ = c.args.table.now in
    let repeated : Bool = repeated_as c.args.ordered (table) in
    let p7 : end_missing (units) (table) ≡ false = sym c.end_missing.ensures ∙ c.if-end_missing.false in
    let p8 : equal_ends (table) ≡ false = sym c.equal_ends.ensures ∙ c.if-equal_ends.false in
    let small : end_missing 256 (table) ≡ false = end_missing-more (units) 256 (table) c.requires (p7) in
    ends-passed (units) (table) (repeated) (p7) (p8) (sym (c.repeated.ensures (small))
    ∙ c.if-repeated.false)
