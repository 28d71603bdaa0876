-- Case by case.
use mathlib.Core.Path.{sym, ap}
use Rattle.value_calls.specs.FileAnswers.{reading_reply}
use Rattle.value_calls.proofs.read_reply.Goals as goal

pub returns-in-Refused : goal.returns-in-Refused
returns-in-Refused c = ap reading_reply (sym c.in-Refused.is)

pub returns-in-Read : goal.returns-in-Read
returns-in-Read c = ap reading_reply (sym c.in-Read.is)
