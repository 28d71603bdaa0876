-- One walk over all lines; then each return is the first cause: the tests passed on the way fail, and the last one
-- holds.
use Rattle.std.proofs.Common.{◌≡◌, ℕ, ◌+◌, ◌≤◌, Bool, true, false, not, ◌||◌, length, sym, ap, ◌∙◌, subst, arith, rules}
use Rattle.table_levels.specs.Level.{in_range, byte_level}
use Rattle.file_frames.specs.Frame.{byte_at}
use Rattle.file_frames.specs.Kinds.{BARE-LINK, LINK}
use Rattle.file_spec.specs.File.{lines_of, link_frames, later_refusal}
use Rattle.file_spec.proofs.ReadLaws.{refused_1, refused_2, refused_3, counted}
use Rattle.file_read.specs.Walk.{LineAt, told_line, line-fits, walk_start, walk_fault, walk_link}
use Rattle.file_read.specs.Walk.{walk_bare, walk_other, walk_sound, walk_broken, walk_kept, walk_levels}
use Rattle.file_read.specs.Walk.{walk_count, walk_last, walk_stated}
use Rattle.file_read.proofs.reader.refusal.Goals as goal

pub loop-at-init : goal.loop-at-init
loop-at-init c = walk_start c.args.file.now

pub returns-then-kind-eq0 : goal.returns-then-kind-eq0
returns-then-kind-eq0 c =
    let l = c.loop-at in
    let s = c.args.file.now in
    refused_1 (lines_of s) c.args.places c.args.spaces
    (walk_fault s l.at l.order l.links l.last l.outside l.invariant c.loop-at-test.true
    (sym c.kind-kind.ensures ∙ c.if-kind-eq0.true))

pub bad_level_at-requires : goal.bad_level_at-requires
bad_level_at-requires c =
    let s = c.args.file.now in
    let line = told_line s c.loop-at.at c.kind-kind.result c.kind-kind.ensures c.if-kind-eq0.false in
    let link = subst (LineAt s c.loop-at.at) c.if-kind-eq-LINK.true line in
    (search rules, omega (arith, line-fits s c.loop-at.at LINK link))

pub loop-at-preserved-then-kind-eq-LINK : goal.loop-at-preserved-then-kind-eq-LINK
loop-at-preserved-then-kind-eq-LINK c =
    let l = c.loop-at in
    let s = c.args.file.now in
    let line = told_line s l.at c.kind-kind.result c.kind-kind.ensures c.if-kind-eq0.false in
    let link = subst (LineAt s l.at) c.if-kind-eq-LINK.true line in
    let bad : c.either-outside.result ≡ (l.outside || not (in_range (byte_level (byte_at s (l.at + 10))))) =
    c.either-outside.ensures ∙ ap (λ (x : Bool). l.outside || x) c.bad_level_at.ensures in
    rw (c.line_length-at.ensures, c.next_order-order.ensures, bad)
    (walk_link s l.at l.order l.links l.last l.outside l.invariant link)

pub loop-at-preserved-then-kind-eq-BARE_LINK : goal.loop-at-preserved-then-kind-eq-BARE_LINK
loop-at-preserved-then-kind-eq-BARE_LINK c =
    let l = c.loop-at in
    let s = c.args.file.now in
    let line = told_line s l.at c.kind-kind.result c.kind-kind.ensures c.if-kind-eq0.false in
    let bare = subst (LineAt s l.at) c.if-kind-eq-BARE_LINK.true line in
    rw (c.line_length-at-then-kind-eq-BARE_LINK.ensures, c.next_order-order-then-kind-eq-BARE_LINK.ensures)
    (walk_bare s l.at l.order l.links l.last l.outside l.invariant bare)

pub loop-at-preserved : goal.loop-at-preserved
loop-at-preserved c =
    let l = c.loop-at in
    let s = c.args.file.now in
    let kind = c.kind-kind.result in
    let line = told_line s l.at kind c.kind-kind.ensures c.if-kind-eq0.false in
    rw (c.line_length-at-in-loop-at.ensures, c.next_order-order-in-loop-at.ensures)
    (walk_other s l.at l.order l.links l.last l.outside l.invariant kind c.if-kind-eq-LINK.false
    c.if-kind-eq-BARE_LINK.false line)

pub returns-then-order-ne-ENDED : goal.returns-then-order-ne-ENDED
returns-then-order-ne-ENDED c =
    let s = c.args.file.now in
    let l = c.loop-at in
    let e = c.loop-at-test.false in
    refused_2 (lines_of s) c.args.places c.args.spaces
    (walk_sound s l.at l.order l.links l.last l.outside l.invariant e)
    (walk_broken s l.at l.order l.links l.last l.outside l.invariant e c.if-order-ne-ENDED.true)

pub overflow_add-last : goal.overflow_add-last
overflow_add-last c =
    let l = c.loop-at in
    omega (
      arith,
      walk_last c.args.file.now l.at l.order l.links l.last l.outside l.invariant c.loop-at-test.false
          c.if-order-ne-ENDED.false,
    )

pub word_at-requires : goal.word_at-requires
word_at-requires c =
    let l = c.loop-at in (
      search rules,
      omega (
        arith,
        walk_last c.args.file.now l.at l.order l.links l.last l.outside l.invariant c.loop-at-test.false
            c.if-order-ne-ENDED.false,
      ),
    )

pub returns-then-word_at-links : goal.returns-then-word_at-links
returns-then-word_at-links c =
    let s = c.args.file.now in
    let l = c.loop-at in
    let e = c.loop-at-test.false in
    let o = c.if-order-ne-ENDED.false in
    let count = walk_count s l.at l.order l.links l.last l.outside l.invariant e in
    let stated = walk_stated s l.at l.order l.links l.last l.outside l.invariant e o in
    refused_3 (lines_of s) c.args.places c.args.spaces
    (walk_sound s l.at l.order l.links l.last l.outside l.invariant e)
    (walk_kept s l.at l.order l.links l.last l.outside l.invariant e o)
    (λ q. c.if-word_at-links.true (c.word_at.ensures ∙ sym stated ∙ q ∙ count))

pub returns : goal.returns
returns c =
    let s = c.args.file.now in
    let l = c.loop-at in
    let e = c.loop-at-test.false in
    let o = c.if-order-ne-ENDED.false in
    let count = walk_count s l.at l.order l.links l.last l.outside l.invariant e in
    let stated = walk_stated s l.at l.order l.links l.last l.outside l.invariant e o in
    let levels = walk_levels s l.at l.order l.links l.last l.outside l.invariant e in
    c.later_refusal.ensures
    ∙ ap (λ (m : ℕ). later_refusal m l.outside c.args.places c.args.spaces) (sym count)
    ∙ ap (λ (b : Bool). later_refusal (link_frames (lines_of s)) b c.args.places c.args.spaces) (sym levels)
    ∙ counted (lines_of s) c.args.places c.args.spaces
    (walk_sound s l.at l.order l.links l.last l.outside l.invariant e)
    (walk_kept s l.at l.order l.links l.last l.outside l.invariant e o)
    (stated ∙ sym c.word_at.ensures ∙ c.if-word_at-links.false ∙ sym count)
