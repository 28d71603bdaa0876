-- One link more at a time: in a bucket, or as absent, or neither.
use Rattle.std.proofs.Common.{◌≡◌, ◌≤◌}
use Rattle.report_flags.specs.Sharing.{sharing, Shared}
use Rattle.report_flags.proofs.links.count_labels.Given as goal

abbrev pub invariant-loop-k : goal.invariant-loop-k
invariant-loop-k l =
    (l.k ≤ l.links) × (l.absent ≤ l.k) × (l.absent ≡ sharing l.k l.label 65535) × Shared l.k l.label l.bucket
