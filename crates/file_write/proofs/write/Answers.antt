-- A refusal leaves the bytes; a table that passes, in a slice that is long enough, is written line by line.
use mathlib.Core.Path.{◌≡◌, sym, ◌∙◌}
use Prim.Native.Nat.{◌+◌, ◌*◌, ◌/◌, ◌≤◌}
use native.Mathlib.Omega.{arith}
use lib.ListN.{length}
use Rattle.table.specs.Table.{link_count}
use Rattle.table.proofs.Passes.{passes, table-alone}
use Rattle.file_spec.specs.File.{write_refusal}
use Rattle.file_write.specs.WriteLaws.{write_refused, bytes-refused, written-stored, written_one, written-fits}
use Rattle.file_write.specs.WriteLaws.{write_accepted, bytes-accepted}
use Rattle.file_spec.specs.Replies.{write_tells}
use Rattle.file_spec.specs.declared.Writing.{Writing}
use Rattle.file_spec.specs.declared.Writing.TheVariants.{Written}
use Rattle.file_write.proofs.write.Goals as goal

pub returns-then-refused-ne0 : goal.returns-then-refused-ne0
returns-then-refused-ne0 c =
    let a = c.args in
    let r = c.refusal-refused in
    let reply = write_refused a.units a.words.now a.levels.now (length a.out.now) r.result
    r.ensures c.if-refused-ne0.true in (let others = write_tells a.units a.words.now a.levels.now (length a.out.now)
    (Writing.Refused r.result) reply in record {
      reply = reply;
      lent = bytes-refused a.units a.words.now a.levels.now a.out.now r.result r.ensures
          c.if-refused-ne0.true;
      number = others.0;
      values = others.1;
    })

pub lines-requires : goal.lines-requires
lines-requires c =
    let accepted : write_refusal c.args.units
    c.args.words.now c.args.levels.now
    (length c.args.out.now) ≡ 0 = sym c.refusal-refused.ensures ∙ c.if-refused-ne0.false in
    let few : link_count c.args.words.now ≤ 1024 = let a = c.args in
    (passes a.units a.words.now (table-alone a.units a.words.now a.levels.now
    (written-stored a.units a.words.now a.levels.now (length a.out.now) (accepted)))).few_links in
    let a = c.args in (
      record {
        few = few;
        one = written_one a.units a.words.now a.levels.now
            (length a.out.now) (accepted);
      },
      written-fits a.units a.words.now a.levels.now (length a.out.now) (accepted),
    )

pub overflow_mul-result : goal.overflow_mul-result
overflow_mul-result c =
    let accepted : write_refusal c.args.units
    c.args.words.now c.args.levels.now
    (length c.args.out.now) ≡ 0 = sym c.refusal-refused.ensures ∙ c.if-refused-ne0.false in
    let few : link_count c.args.words.now ≤ 1024 = let a = c.args in
    (passes a.units a.words.now (table-alone a.units a.words.now a.levels.now
    (written-stored a.units a.words.now a.levels.now (length a.out.now) (accepted)))).few_links in
    omega (arith, few)

pub overflow_add-result : goal.overflow_add-result
overflow_add-result c =
    let accepted : write_refusal c.args.units
    c.args.words.now c.args.levels.now
    (length c.args.out.now) ≡ 0 = sym c.refusal-refused.ensures ∙ c.if-refused-ne0.false in
    let few : link_count c.args.words.now ≤ 1024 = let a = c.args in
    (passes a.units a.words.now (table-alone a.units a.words.now a.levels.now
    (written-stored a.units a.words.now a.levels.now (length a.out.now) (accepted)))).few_links in
    omega (arith, few)

pub overflow_cast-result : goal.overflow_cast-result
overflow_cast-result c =
    let accepted : write_refusal c.args.units
    c.args.words.now c.args.levels.now
    (length c.args.out.now) ≡ 0 = sym c.refusal-refused.ensures ∙ c.if-refused-ne0.false in
    let few : link_count c.args.words.now ≤ 1024 = let a = c.args in
    (passes a.units a.words.now (table-alone a.units a.words.now a.levels.now
    (written-stored a.units a.words.now a.levels.now (length a.out.now) (accepted)))).few_links in
    omega (arith, few)

pub returns : goal.returns
returns c =
    let accepted : write_refusal c.args.units
    c.args.words.now c.args.levels.now
    (length c.args.out.now) ≡ 0 = sym c.refusal-refused.ensures ∙ c.if-refused-ne0.false in
    let a = c.args in
    let e = accepted in
    let reply = write_accepted a.units a.words.now a.levels.now (length a.out.now) e in
    (let others = write_tells a.units a.words.now a.levels.now (length a.out.now)
    (Written (18 + 15 * (length a.words.now / 2))) reply in record {
      reply = reply;
      lent = c.lines.ensures ∙ bytes-accepted a.units a.words.now a.levels.now a.out.now e;
      number = others.0;
      values = others.1;
    })
