-- By the type of the elements.
use native.Mathlib.Omega.{arith}
use Rattle.words_known.proofs.fit.Goals as goal

pub returns : goal.returns
returns c = λ i. omega (arith, c.shared_slice_known-1.given i)
