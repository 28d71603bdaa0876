-- One walk over all lines: the ends and levels of the links passed are laid down, and the rest is as it was.
use Rattle.std.proofs.Common.{◌≡◌, ℕ, ◌+◌, ◌*◌, ◌≤◌, true, length, set, sym, ◌∙◌, arith, length-set, w16, to_z, of_z}
use Rattle.std.proofs.Common.{rules}
use mathlib.Core.Path.{subst⁻¹}
use mir.ValLaws.{to_z-of_z}
use Rattle.file_frames.specs.Kinds.{link_kind}
use Rattle.file_spec.specs.File.{lines_of, link_frames}
use Rattle.file_read.specs.Walk.{Filled, line-fits, fill_start, fill_line, fill_reads, fill_more}
use Rattle.file_read.specs.Walk.{fill_stands, fill_link, fill_other, fill_count, fill_end, fill_levels}
use Rattle.file_read.proofs.reader.fill.Goals as goal

pub byte_at-kind-requires : goal.byte_at-kind-requires
byte_at-kind-requires c =
    let l = c.loop-at in (
      search rules,
      omega (
        arith,
        fill_reads c.args.file.now c.args.words.now l.words c.args.levels.now l.levels l.at l.n l.invariant
            c.loop-at-test.true,
      ),
    )

pub word_at-requires : goal.word_at-requires
word_at-requires c =
    let l = c.loop-at in
    let s = c.args.file.now in
    let k = c.byte_at-kind.result in
    let line = fill_line s c.args.words.now l.words c.args.levels.now l.levels l.at l.n l.invariant
    c.loop-at-test.true k c.byte_at-kind.ensures in
    let link : link_kind k ≡ true = sym c.is_link.ensures ∙ c.if-is_link.true in (
      search rules,
      omega (
        arith,
        fill_stands s c.args.words.now l.words c.args.levels.now l.levels l.at l.n l.invariant k line link,
      ),
    )

pub bounds-words-n : goal.bounds-words-n
bounds-words-n c =
    let l = c.loop-at in
    let s = c.args.file.now in
    let k = c.byte_at-kind.result in
    let line = fill_line s c.args.words.now l.words c.args.levels.now l.levels l.at l.n l.invariant
    c.loop-at-test.true k c.byte_at-kind.ensures in
    let link : link_kind k ≡ true = sym c.is_link.ensures ∙ c.if-is_link.true in
    omega (
      arith,
      fill_more s c.args.words.now l.words c.args.levels.now l.levels l.at l.n l.invariant k line link,
      l.invariant.same,
    )

pub word_at-requires-then-is_link : goal.word_at-requires-then-is_link
word_at-requires-then-is_link c =
    let l = c.loop-at in
    let s = c.args.file.now in
    let k = c.byte_at-kind.result in
    let line = fill_line s c.args.words.now l.words c.args.levels.now l.levels l.at l.n l.invariant
    c.loop-at-test.true k c.byte_at-kind.ensures in
    let link : link_kind k ≡ true = sym c.is_link.ensures ∙ c.if-is_link.true in (
      search rules,
      omega (
        arith,
        fill_stands s c.args.words.now l.words c.args.levels.now l.levels l.at l.n l.invariant k line link,
      ),
    )

pub bounds-words-n-then-is_link : goal.bounds-words-n-then-is_link
bounds-words-n-then-is_link c =
    let l = c.loop-at in
    let s = c.args.file.now in
    let k = c.byte_at-kind.result in
    let line = fill_line s c.args.words.now l.words c.args.levels.now l.levels l.at l.n l.invariant
    c.loop-at-test.true k c.byte_at-kind.ensures in
    let link : link_kind k ≡ true = sym c.is_link.ensures ∙ c.if-is_link.true in
    omega (
      arith,
      fill_more s c.args.words.now l.words c.args.levels.now l.levels l.at l.n l.invariant k line link,
      l.invariant.same,
      length-set l.words (2 * l.n) c.word_at.result,
    )

pub level_at-level-requires : goal.level_at-level-requires
level_at-level-requires c =
    let l = c.loop-at in
    let s = c.args.file.now in
    let k = c.byte_at-kind.result in
    let line = fill_line s c.args.words.now l.words c.args.levels.now l.levels l.at l.n l.invariant
    c.loop-at-test.true k c.byte_at-kind.ensures in
    (search rules, line-fits s l.at k line)

pub bounds-levels-n : goal.bounds-levels-n
bounds-levels-n c =
    let l = c.loop-at in
    let s = c.args.file.now in
    let k = c.byte_at-kind.result in
    let line = fill_line s c.args.words.now l.words c.args.levels.now l.levels l.at l.n l.invariant
    c.loop-at-test.true k c.byte_at-kind.ensures in
    let link : link_kind k ≡ true = sym c.is_link.ensures ∙ c.if-is_link.true in
    omega (
      arith,
      fill_more s c.args.words.now l.words c.args.levels.now l.levels l.at l.n l.invariant k line link,
      l.invariant.same_levels,
    )

pub loop-at-preserved-then-is_link : goal.loop-at-preserved-then-is_link
loop-at-preserved-then-is_link c =
    let l = c.loop-at in
    let s = c.args.file.now in
    let k = c.byte_at-kind.result in
    let line = fill_line s c.args.words.now l.words c.args.levels.now l.levels l.at l.n l.invariant
    c.loop-at-test.true k c.byte_at-kind.ensures in
    let link : link_kind k ≡ true = sym c.is_link.ensures ∙ c.if-is_link.true in
    let b = c.word_at-then-is_link.result in
    let r = c.level_at-level in
    let z = to_z w16 (of_z w16 r.result) in
    let level = to_z-of_z w16 r.result (record { sfits = r.type_inv }) ∙ r.ensures in
    subst⁻¹ (λ (x : ℕ). Filled s c.args.words.now (set (set l.words (2 * l.n) c.word_at.result) (2 * l.n + 1) b)
    c.args.levels.now (set l.levels l.n z) (l.at + x) (l.n + 1)) c.line_length-at.ensures
    (fill_link s c.args.words.now l.words c.args.levels.now l.levels l.at l.n l.invariant k line link
    c.word_at.result b z c.word_at.ensures c.word_at-then-is_link.ensures level
    c.requires.2 c.requires.3)

pub loop-at-preserved : goal.loop-at-preserved
loop-at-preserved c =
    let l = c.loop-at in
    let s = c.args.file.now in
    let k = c.byte_at-kind.result in
    let line = fill_line s c.args.words.now l.words c.args.levels.now l.levels l.at l.n l.invariant
    c.loop-at-test.true k c.byte_at-kind.ensures in
    subst⁻¹ (λ (x : ℕ). Filled s c.args.words.now l.words c.args.levels.now l.levels (l.at + x) l.n)
    c.line_length-at-in-loop-at.ensures
    (fill_other s c.args.words.now l.words c.args.levels.now l.levels l.at l.n l.invariant k line
    (sym c.is_link.ensures ∙ c.if-is_link.false))

pub returns : goal.returns
returns c =
    let l = c.loop-at in
    let s = c.args.file.now in
    let w = c.args.words.now in
    let v = c.args.levels.now in
    let e = c.loop-at-test.false in
    record {
      links = fill_count s w l.words v l.levels l.at l.n l.invariant e;
      ends = fill_end s w l.words v l.levels l.at l.n l.invariant e;
      levels = fill_levels s w l.words v l.levels l.at l.n l.invariant e;
    }
