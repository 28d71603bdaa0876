-- Entry by entry: the one read is still the old one.
use Rattle.theory_min_label.specs.TableLaws.{marks-more}
use Rattle.one_way_tables.proofs.mark.Goals as goal

pub loop-v-preserved : goal.loop-v-preserved
loop-v-preserved c =
    marks-more _ _ _ _ _ _ _ _ _ _ c.loop-v.invariant c.word-old.ensures c.word.ensures c.word-in-loop-v.ensures
    c.number_of.ensures c.put.ensures
