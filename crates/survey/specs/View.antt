-- The struct and what a call hands back, seen as the machine's state and answer.
use Rattle.spec_machine.specs.State.{State}
use Rattle.spec_machine.specs.Calls as Calls
use Rattle.survey.specs.declared.whole.Survey.{Survey}
use Rattle.survey.specs.declared.answer.Answer.{Answer}

abbrev pub of : Survey → State
of s = record {
  table = s.table;
  clock = s.clock;
  components = s.components;
  plan = s.plan;
  tree = s.tree;
  tour = s.tour;
  ranking = s.ranking;
  order = s.order;
  range = s.range;
  global = s.global;
  aux = s.aux;
  labels = s.labels;
}

abbrev pub answer_of : Answer → Calls.Answer
answer_of a = record { state = of a.survey; reply = a.reply }
