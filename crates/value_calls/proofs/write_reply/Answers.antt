-- Case by case.
use mathlib.Core.Path.{sym, ap}
use Rattle.value_calls.specs.FileAnswers.{writing_reply}
use Rattle.value_calls.proofs.write_reply.Goals as goal

pub returns-in-Refused : goal.returns-in-Refused
returns-in-Refused c = ap writing_reply (sym c.in-Refused.is)

pub returns-in-Written : goal.returns-in-Written
returns-in-Written c = ap writing_reply (sym c.in-Written.is)
