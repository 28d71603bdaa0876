-- By the type of the array, lent as a slice.
use Rattle.words_known.proofs.state.Goals as goal

pub returns : goal.returns
returns c = record { long = c.fit-arg-1.given; few = c.fit.ensures }
