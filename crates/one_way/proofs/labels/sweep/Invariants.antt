-- Link by link.
use Rattle.std.proofs.Common.{◌≡◌}
use Rattle.std.specs.Slice.Iter.{chunks_exact_rest, chunks_exact_size}
use Rattle.theory_min_label.specs.Hands.{swept, Ends}
use Rattle.one_way.proofs.labels.sweep.Given as goal

abbrev pub invariant-loop-link : goal.invariant-loop-link
invariant-loop-link l =
    (chunks_exact_size l.link-iterator ≡ 2) × Ends 256 (chunks_exact_rest l.link-iterator)
    × (swept l.forward l.key l.links l.initial.x ≡ swept l.forward l.key (chunks_exact_rest l.link-iterator) l.x)
