-- What a lent array holds after a call on words.
use Rattle.std.specs.Prelude.{cond, List, ℕ, eqb}
use Rattle.spec_state.specs.declared.reply.Reply.{Reply}
use Rattle.spec_machine.specs.Calls.{number_of, values_of}

-- the values of a reply; as it was, where the call was refused
abbrev pub said : Reply → List ℕ → List ℕ
said reply out = cond (eqb (number_of reply) 0) (values_of reply) out
