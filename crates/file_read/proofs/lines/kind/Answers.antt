-- The kind tells where the line feed stands; the digits and their sum decide the rest.
use Rattle.std.proofs.Common.{◌≡◌, ℕ, ◌*◌, List, sym, ap, ◌∙◌, arith, length-take-le, rules}
use Rattle.file_frames.specs.Kinds.{frame_bytes, kind_front}
use Rattle.file_frames.specs.FrontLaws.{front-few, front_unknown, front-short, front-other, front-line, kind-none}
use Rattle.file_frames.specs.FrontLaws.{kind-some}
use Rattle.file_read.proofs.lines.kind.Goals as goal

pub returns-then-s-lt2 : goal.returns-then-s-lt2
returns-then-s-lt2 c = let s = c.args.s.now in kind-none s (front-few s c.if-s-lt2.true)

pub returns-then-bytes-eq0 : goal.returns-then-bytes-eq0
returns-then-bytes-eq0 c =
    let chars : List ℕ = c.args.s.now in
    let size : c.frame_bytes-bytes.result ≡ frame_bytes (kind_front (chars)) = c.frame_bytes-bytes.ensures
    ∙ ap frame_bytes c.byte-kind.ensures in
    kind-none (chars)
    (front_unknown (chars) c.frame_bytes-bytes.result (size) c.if-bytes-eq0.true)

pub returns-then-s-end : goal.returns-then-s-end
returns-then-s-end c =
    let chars : List ℕ = c.args.s.now in
    let size : c.frame_bytes-bytes.result ≡ frame_bytes (kind_front (chars)) = c.frame_bytes-bytes.ensures
    ∙ ap frame_bytes c.byte-kind.ensures in
    kind-none (chars) (front-short (chars) c.frame_bytes-bytes.result (size) c.if-bytes-eq0.false c.if-s-end.true)

pub returns-then-s-end-ne-LF : goal.returns-then-s-end-ne-LF
returns-then-s-end-ne-LF c =
    let chars : List ℕ = c.args.s.now in
    let size : c.frame_bytes-bytes.result ≡ frame_bytes (kind_front (chars)) = c.frame_bytes-bytes.ensures
    ∙ ap frame_bytes c.byte-kind.ensures in
    kind-none (chars) (front-other (chars) c.frame_bytes-bytes.result (size) c.if-bytes-eq0.false c.if-s-end-ne-LF.true)

pub slice_bounds-sums_to_0-end : goal.slice_bounds-sums_to_0-end
slice_bounds-sums_to_0-end c =
    let chars : List ℕ = c.args.s.now in
    sym (length-take-le (2 * c.frame_bytes-bytes.result) (chars) (search rules))

pub sums_to_0-requires : goal.sums_to_0-requires
sums_to_0-requires c =
    let chars : List ℕ = c.args.s.now in
    (search rules, omega (arith, length-take-le (2 * c.frame_bytes-bytes.result) (chars) (search rules)))

pub returns-then-sums_to_0 : goal.returns-then-sums_to_0
returns-then-sums_to_0 c =
    let chars : List ℕ = c.args.s.now in
    let size : c.frame_bytes-bytes.result ≡ frame_bytes (kind_front (chars)) = c.frame_bytes-bytes.ensures
    ∙ ap frame_bytes c.byte-kind.ensures in
    let line = front-line (chars) c.frame_bytes-bytes.result (size) c.if-bytes-eq0.false
    c.if-s-end-ne-LF.false in
    kind-some (chars) c.byte-kind.result c.byte-kind.ensures
    (line ∙ sym c.sums_to_0.ensures ∙ c.if-sums_to_0.true)

pub returns-else-sums_to_0 : goal.returns-else-sums_to_0
returns-else-sums_to_0 c =
    let chars : List ℕ = c.args.s.now in
    let size : c.frame_bytes-bytes.result ≡ frame_bytes (kind_front (chars)) = c.frame_bytes-bytes.ensures
    ∙ ap frame_bytes c.byte-kind.ensures in
    let line = front-line (chars) c.frame_bytes-bytes.result (size) c.if-bytes-eq0.false
    c.if-s-end-ne-LF.false in
    kind-none (chars) (line ∙ sym c.sums_to_0.ensures ∙ c.if-sums_to_0.false)
