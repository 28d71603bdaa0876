-- By the tests of the state.
use Rattle.words_requests.proofs.two_links.Goals as goal

pub returns : goal.returns
returns c = rw (c.kept-well.ensures, c.clock_at-clock.ensures) at c.two_links.ensures
