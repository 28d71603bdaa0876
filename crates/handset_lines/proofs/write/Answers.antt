-- By which line it is.
use Rattle.handset_lines.proofs.write.Goals as goal

pub returns-then-service : goal.returns-then-service
returns-then-service c = rw c.if-service.true c.write.ensures

pub returns : goal.returns
returns c = rw c.if-service.false c.write-2.ensures
