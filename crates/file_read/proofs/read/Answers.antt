-- A refusal leaves words and levels; in an accepted file the ends and levels are laid down, and the first line holds
-- the unit count.
use Rattle.std.proofs.Common.{◌≡◌, ℕ, length, sym, ap, ◌∙◌, arith}
use Rattle.file_spec.specs.File.{lines_of, read_refusal}
use Rattle.file_spec.proofs.ReadLaws.{read-refused, words-refused, levels-refused, sound, accepted-stands}
use Rattle.file_spec.proofs.ReadLaws.{read-accepted}
use Rattle.file_spec.proofs.ReadLaws.{words-accepted, levels-accepted}
use Rattle.file_spec.specs.Replies.{read-tells}
use Rattle.file_spec.specs.declared.Reading.{Reading}
use Rattle.file_spec.specs.declared.Reading.TheVariants.{Read}
use Rattle.file_read.proofs.read.Goals as goal

pub returns-then-refused-ne0 : goal.returns-then-refused-ne0
returns-then-refused-ne0 c =
    let a = c.args in
    let s = a.file.now in
    let places = length a.words.now in
    let spaces = length a.levels.now in
    let r = c.refusal-refused in
    let reply = read-refused s places spaces r.result r.ensures c.if-refused-ne0.true in
    let tells = read-tells s places spaces (Reading.Refused r.result) reply in
    record {
      reply = reply;
      lent = words-refused s a.words.now spaces r.result r.ensures c.if-refused-ne0.true;
      levels = levels-refused s places a.levels.now r.result r.ensures c.if-refused-ne0.true;
      number = tells.0;
      values = tells.1;
    }

pub fill-links-requires : goal.fill-links-requires
fill-links-requires c =
    let accepted : read_refusal (lines_of c.args.file.now) (length c.args.words.now)
    (length c.args.levels.now) ≡ 0 = sym c.refusal-refused.ensures ∙ c.if-refused-ne0.false in
    let a = c.args in
    let o = sound a.file.now (length a.words.now) (length a.levels.now) (accepted) in
    (c.made-marks.ensures, o.lines, o.fits, o.room)

pub word_at-requires : goal.word_at-requires
word_at-requires c =
    let accepted : read_refusal (lines_of c.args.file.now) (length c.args.words.now)
    (length c.args.levels.now) ≡ 0 = sym c.refusal-refused.ensures ∙ c.if-refused-ne0.false in
    let a = c.args in (
      c.made-marks.ensures,
      omega (arith, accepted-stands a.file.now (length a.words.now) (length a.levels.now) (accepted)),
    )

pub overflow_cast-result : goal.overflow_cast-result
overflow_cast-result c =
    let accepted : read_refusal (lines_of c.args.file.now) (length c.args.words.now)
    (length c.args.levels.now) ≡ 0 = sym c.refusal-refused.ensures ∙ c.if-refused-ne0.false in
    let a = c.args in
    omega (
      arith,
      c.fill-links.ensures.links,
      (sound a.file.now (length a.words.now) (length a.levels.now)
          (accepted)).few,
    )

pub returns : goal.returns
returns c =
    let accepted : read_refusal (lines_of c.args.file.now) (length c.args.words.now)
    (length c.args.levels.now) ≡ 0 = sym c.refusal-refused.ensures ∙ c.if-refused-ne0.false in
    let a = c.args in
    let s = a.file.now in
    let places = length a.words.now in
    let spaces = length a.levels.now in
    let reply = ap (λ (n : ℕ). Read n c.fill-links.result) c.word_at.ensures
    ∙ read-accepted s places spaces accepted c.fill-links.result c.fill-links.ensures.links in
    let tells = read-tells s places spaces (Read c.word_at.result c.fill-links.result) reply in
    record {
      reply = reply;
      lent = c.fill-links.ensures.ends ∙ words-accepted s a.words.now spaces accepted;
      levels = c.fill-links.ensures.levels ∙ levels-accepted s places a.levels.now accepted;
      number = tells.0;
      values = tells.1;
    }
