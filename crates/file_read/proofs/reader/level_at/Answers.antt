-- The byte of kind 03; kind 02 has none.
use Rattle.std.proofs.Common.{ℕ, ◌+◌, ◌*◌, ◌≤◌, length, refl, ap, ◌∙◌, subst, arith, w16, ne_eqb}
use mir.ValLaws.{to_z-of_z}
use Rattle.table_levels.specs.Level.{byte_level}
use Rattle.file_frames.specs.Kinds.{LINK, frame_bytes}
use Rattle.file_read.proofs.reader.level_at.Goals as goal

pub overflow_add-at : goal.overflow_add-at
overflow_add-at c =
    let stands : c.args.at + 15
    ≤ length c.args.file.now = let a = c.args in
    subst (λ (k : ℕ). a.at + (2 * frame_bytes k + 1) ≤ length a.file.now) c.if-kind-eq-LINK.true
    c.requires.1 in
    omega (arith, stands)

pub byte_at-requires : goal.byte_at-requires
byte_at-requires c =
    let stands : c.args.at + 15
    ≤ length c.args.file.now = let a = c.args in
    subst (λ (k : ℕ). a.at + (2 * frame_bytes k + 1) ≤ length a.file.now) c.if-kind-eq-LINK.true
    c.requires.1 in
    (c.requires.0, omega (arith, stands))

pub returns-then-kind-eq-LINK : goal.returns-then-kind-eq-LINK
returns-then-kind-eq-LINK c =
    to_z-of_z w16 c.of_byte.result (record { sfits = c.of_byte.type_inv }) ∙ c.of_byte.ensures
    ∙ rw c.if-kind-eq-LINK.true (ap byte_level c.byte_at.ensures)

pub returns-else-kind-eq-LINK : goal.returns-else-kind-eq-LINK
returns-else-kind-eq-LINK c = rw (ne_eqb c.args.kind LINK c.if-kind-eq-LINK.false) refl
