-- By the reply's case.
use mathlib.Core.Path.{refl}
use Rattle.value_calls.specs.Flags.{byte_flag}
use Rattle.value_player.proofs.replies.eight.Goals as goal

pub returns-in-Refused : goal.returns-in-Refused
returns-in-Refused c = rw c.in-Refused.is refl

pub returns-in-Made : goal.returns-in-Made
returns-in-Made c = rw c.in-Made.is refl

pub returns-in-Status : goal.returns-in-Status
returns-in-Status c = rw c.in-Status.is refl

pub returns-in-Unit : goal.returns-in-Unit
returns-in-Unit c = rw (c.in-Unit.is, byte_flag c.in-Unit.single) refl

pub returns-in-Link : goal.returns-in-Link
returns-in-Link c = rw (c.in-Link.is, byte_flag c.in-Link.lone) refl

pub returns-in-Read : goal.returns-in-Read
returns-in-Read c = rw c.in-Read.is refl

pub returns-in-Written : goal.returns-in-Written
returns-in-Written c = rw c.in-Written.is refl
