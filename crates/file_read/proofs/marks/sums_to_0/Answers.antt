-- The sum and the marks so far, with those of the characters from `i` on, are the sum and the marks of all.
use Rattle.std.proofs.Common.{◌≡◌, ◌+◌, ◌-◌, ◌%◌, ◌<◌, ◌≤◌, length, refl, ◌∙◌, arith, rules, le-ltb, lt-ltb}
use Rattle.file_frames.specs.Frame.{byte_at, sum_of, bytes_of}
use Rattle.file_frames.specs.FrameRests.{digit_sum_end}
use Rattle.file_read.specs.Marks.{marks-more, marks-seen, sum_more}
use Rattle.file_read.proofs.marks.sums_to_0.Goals as goal

pub loop-i-init : goal.loop-i-init
loop-i-init c = (omega arith, refl, omega arith, omega arith, refl)

pub loop-i-preserved : goal.loop-i-preserved
loop-i-preserved c =
    let s = c.args.s.now in
    let i = c.loop-i.i in
    let inv = c.loop-i.invariant in
    let byte : c.byte_of.result ≡ byte_at s i =
    c.byte_of.ensures ∙ rw (c.mark-high.ensures, c.mark-low.ensures) in
    let within : i + 1 < length s = c.loop-i-test.true in (
      omega arith,
      omega (arith, inv.1),
      search rules,
      sum_more s i c.loop-i.sum c.byte_of.result c.wrapping_add_u8-sum.result
          (sum_of (bytes_of s) % 256) within byte c.wrapping_add_u8-sum.ensures.value inv.3,
      rw (c.mark-high.ensures, c.mark-low.ensures) (marks-more s c.loop-i.seen i within inv.4),
    )

pub returns : goal.returns
returns c =
    let s = c.args.s.now in
    let over : length s ≤ c.loop-i.i = omega (
      arith,
      c.loop-i.invariant.1,
      c.requires.1,
      c.loop-i-test.false,
    ) in
    let seen = marks-seen s c.loop-i.seen c.loop-i.i over c.loop-i.invariant.4 in
    let sum : c.loop-i.sum ≡ sum_of (bytes_of s) % 256 =
    omega (arith, c.loop-i.invariant.2, c.loop-i.invariant.3, digit_sum_end s c.loop-i.i (omega arith)) in
    rw (seen, lt-ltb c.loop-i.seen 16 (search rules), ← sum)
