-- The tables of a state have the lengths of their arrays, and a step keeps them.
use Rattle.std.specs.Prelude.{◌≡◌, List, [], ◌∷◌, ℕ, ◌≤◌, length, drop}
use Rattle.std.proofs.Common.{◌∙◌, arith, length-append, length-drop}
use Rattle.std.proofs.lemmas.List.{length-replicate}
use Rattle.base_lists.specs.All.{All, cond-keeps}
use Rattle.base_lists.specs.Tables.{length_over}
use Rattle.spec_rules.specs.Components.{color_round}
use Rattle.spec_rules.specs.Tree.{parent_round, dist_round}
use Rattle.spec_rules.specs.Planned.{planned_parents, planned_dists}
use Rattle.spec_rules.specs.Tour.{next_round, pred_round, first_sums, first_jumps}
use Rattle.spec_rules.specs.Ranking.{sum_round, jump_round}
use Rattle.spec_rules.specs.Order.{forward_round, nd_round, second_sums, second_jumps, pre_round}
use Rattle.spec_rules.specs.Range.{global_first, range_first, little_first, big_first, range_later, little_later}
use Rattle.spec_rules.specs.Range.{big_later}
use Rattle.spec_rules.specs.Range.{global_later}
use Rattle.spec_rules.specs.Aux.{link_joins_round, parent_joins_round, aux_round}
use Rattle.spec_rules.specs.Labels.{class_round, label_round}
use Rattle.spec_machine.specs.State.{State}
use Rattle.spec_machine.specs.State.{finished}
use Rattle.spec_machine.specs.Load.{Input, stored_load_refusal, absents, zeros, begun, loaded, parents_of}
use Rattle.spec_machine.specs.Load.{planned_loaded}
use Rattle.spec_machine.specs.Step
use Rattle.spec_machine.specs.StageLaws.{each-round}

-- the tables by what indexes them
abbrev unit_indexed : State → List (List ℕ)
unit_indexed s =
    s.components.color
    ∷ s.tree.parent
    ∷ s.tree.dist
    ∷ s.order.nd
    ∷ s.order.pre
    ∷ s.range.low
    ∷ s.range.high
    ∷ s.range.little
    ∷ s.range.big
    ∷ s.global.low
    ∷ s.global.high
    ∷ s.aux.parents
    ∷ s.aux.color
    ∷ s.plan.parent
    ∷ []

abbrev arc_indexed : State → List (List ℕ)
arc_indexed s = s.tour.next ∷ s.tour.pred ∷ s.ranking.jump ∷ s.ranking.sum ∷ s.order.forward ∷ []

abbrev link_indexed : State → List (List ℕ)
link_indexed s = s.aux.links ∷ s.labels.class ∷ s.labels.label ∷ []

abbrev Long : ℕ → List ℕ → Type 0
Long k t = length t ≡ k

pub record Sized (s : State) : Type 0 where
  pub by_unit : All (Long 256) (unit_indexed s)
  pub by_arc : All (Long 512) (arc_indexed s)
  pub by_link : All (Long 1024) (link_indexed s)

absents-long : (k : ℕ) → length (absents k) ≡ k
unfolding absents
absents-long k = length-replicate k _

zeros-long : (k : ℕ) → length (zeros k) ≡ k
unfolding zeros
zeros-long k = length-replicate k 0

pub loaded-sized : (input : Input) → Sized (loaded input)
unfolding loaded begun
loaded-sized input =
    record {
      by_unit = (
        absents-long 256,
        (
          absents-long 256,
          (
            absents-long 256,
            (
              zeros-long 256,
              (
                zeros-long 256,
                (
                  zeros-long 256,
                  (
                    zeros-long 256,
                    (
                      zeros-long 256,
                      (
                        zeros-long 256,
                        (
                          zeros-long 256,
                          (zeros-long 256, (zeros-long 256, (absents-long 256, (absents-long 256, tt)))),
                        ),
                      ),
                    ),
                  ),
                ),
              ),
            ),
          ),
        ),
      );
      by_arc = (absents-long 512, (absents-long 512, (absents-long 512, (zeros-long 512, (zeros-long 512, tt)))));
      by_link = (zeros-long 1024, (absents-long 1024, (absents-long 1024, tt)));
    }

-- and with a plan of at most 256 parents
pub planned-sized : (input : Input) (ps : List ℕ) → length ps ≤ 256 → Sized (planned_loaded input ps)
unfolding planned_loaded loaded begun
planned-sized input ps few =
    record {
      by_unit = (
        absents-long 256,
        (
          absents-long 256,
          (
            absents-long 256,
            (
              zeros-long 256,
              (
                zeros-long 256,
                (
                  zeros-long 256,
                  (
                    zeros-long 256,
                    (
                      zeros-long 256,
                      (
                        zeros-long 256,
                        (
                          zeros-long 256,
                          (zeros-long 256, (zeros-long 256, (absents-long 256, (plan-long, tt)))),
                        ),
                      ),
                    ),
                  ),
                ),
              ),
            ),
          ),
        ),
      );
      by_arc = (loaded-sized input).by_arc;
      by_link = (loaded-sized input).by_link;
    }
  where
    plan-long : length (parents_of ps) ≡ 256
    plan-long = length-append ps (drop (length ps) (absents 256))
        ∙ omega (arith, length-drop (length ps) (absents 256), absents-long 256, few)

module _ (s : State) (z : Sized s) where
  components-sized : Sized (Step.components s)
  unfolding Step.components color_round
  components-sized =
      record {
        by_unit = (rw length_over z.by_unit.0, z.by_unit.1);
        by_arc = z.by_arc;
        by_link = z.by_link;
      }

  tree_searched-sized : Sized (Step.tree_searched s)
  unfolding Step.tree_searched parent_round dist_round
  tree_searched-sized =
      record {
        by_unit = (
          z.by_unit.0,
          (
            rw length_over z.by_unit.1.0,
            (rw length_over z.by_unit.1.1.0, z.by_unit.1.1.1),
          ),
        );
        by_arc = z.by_arc;
        by_link = z.by_link;
      }

  tree_planned-sized : Sized (Step.tree_planned s)
  unfolding Step.tree_planned planned_parents planned_dists
  tree_planned-sized =
      record {
        by_unit = (
          z.by_unit.0,
          (
            rw length_over z.by_unit.1.0,
            (rw length_over z.by_unit.1.1.0, z.by_unit.1.1.1),
          ),
        );
        by_arc = z.by_arc;
        by_link = z.by_link;
      }

  tour_next-sized : Sized (Step.tour_next s)
  unfolding Step.tour_next next_round
  tour_next-sized =
      record {
        by_unit = z.by_unit;
        by_arc = (rw length_over z.by_arc.0, z.by_arc.1);
        by_link = z.by_link;
      }

  tour_pred-sized : Sized (Step.tour_pred s)
  unfolding Step.tour_pred pred_round first_jumps first_sums
  tour_pred-sized =
      record {
        by_unit = z.by_unit;
        by_arc = (
          z.by_arc.0,
          (
            rw length_over z.by_arc.1.0,
            (rw length_over z.by_arc.1.1.0, (rw length_over z.by_arc.1.1.1.0, z.by_arc.1.1.1.1)),
          ),
        );
        by_link = z.by_link;
      }

  ranking-sized : Sized (Step.ranking s)
  unfolding Step.ranking jump_round sum_round
  ranking-sized =
      record {
        by_unit = z.by_unit;
        by_arc = (
          z.by_arc.0,
          (
            z.by_arc.1.0,
            (rw length_over z.by_arc.1.1.0, (rw length_over z.by_arc.1.1.1.0, z.by_arc.1.1.1.1)),
          ),
        );
        by_link = z.by_link;
      }

  marks_forward-sized : Sized (Step.marks_forward s)
  unfolding Step.marks_forward forward_round
  marks_forward-sized =
      record {
        by_unit = z.by_unit;
        by_arc = (
          z.by_arc.0,
          (
            z.by_arc.1.0,
            (
              z.by_arc.1.1.0,
              (
                z.by_arc.1.1.1.0,
                (rw length_over z.by_arc.1.1.1.1.0, z.by_arc.1.1.1.1.1),
              ),
            ),
          ),
        );
        by_link = z.by_link;
      }

  marks_descendants-sized : Sized (Step.marks_descendants s)
  unfolding Step.marks_descendants nd_round second_jumps second_sums
  marks_descendants-sized =
      record {
        by_unit = (
          z.by_unit.0,
          (
            z.by_unit.1.0,
            (z.by_unit.1.1.0, (rw length_over z.by_unit.1.1.1.0, z.by_unit.1.1.1.1)),
          ),
        );
        by_arc = (
          z.by_arc.0,
          (
            z.by_arc.1.0,
            (rw length_over z.by_arc.1.1.0, (rw length_over z.by_arc.1.1.1.0, z.by_arc.1.1.1.1)),
          ),
        );
        by_link = z.by_link;
      }

  places-sized : Sized (Step.places s)
  unfolding Step.places Step.ranking pre_round jump_round sum_round
  places-sized =
      record {
        by_unit = (
          z.by_unit.0,
          (
            z.by_unit.1.0,
            (
              z.by_unit.1.1.0,
              (
                z.by_unit.1.1.1.0,
                (rw length_over z.by_unit.1.1.1.1.0, z.by_unit.1.1.1.1.1),
              ),
            ),
          ),
        );
        by_arc = (
          z.by_arc.0,
          (
            z.by_arc.1.0,
            (rw length_over z.by_arc.1.1.0, (rw length_over z.by_arc.1.1.1.0, z.by_arc.1.1.1.1)),
          ),
        );
        by_link = z.by_link;
      }

  range_begun-sized : Sized (Step.range_begun s)
  unfolding Step.range_begun range_first little_first big_first global_first
  range_begun-sized =
      record {
        by_unit = (
          z.by_unit.0,
          (
            z.by_unit.1.0,
            (
              z.by_unit.1.1.0,
              (
                z.by_unit.1.1.1.0,
                (
                  z.by_unit.1.1.1.1.0,
                  (
                    rw length_over z.by_unit.1.1.1.1.1.0,
                    (
                      rw length_over z.by_unit.1.1.1.1.1.1.0,
                      (
                        rw length_over z.by_unit.1.1.1.1.1.1.1.0,
                        (
                          rw length_over z.by_unit.1.1.1.1.1.1.1.1.0,
                          (
                            rw length_over z.by_unit.1.1.1.1.1.1.1.1.1.0,
                            (
                              rw length_over z.by_unit.1.1.1.1.1.1.1.1.1.1.0,
                              z.by_unit.1.1.1.1.1.1.1.1.1.1.1,
                            ),
                          ),
                        ),
                      ),
                    ),
                  ),
                ),
              ),
            ),
          ),
        );
        by_arc = z.by_arc;
        by_link = z.by_link;
      }

  range_doubled-sized : (i : ℕ) → Sized (Step.range_doubled i s)
  unfolding Step.range_doubled range_later little_later big_later global_later
  range_doubled-sized i =
      record {
        by_unit = (
          z.by_unit.0,
          (
            z.by_unit.1.0,
            (
              z.by_unit.1.1.0,
              (
                z.by_unit.1.1.1.0,
                (
                  z.by_unit.1.1.1.1.0,
                  (
                    rw length_over z.by_unit.1.1.1.1.1.0,
                    (
                      rw length_over z.by_unit.1.1.1.1.1.1.0,
                      (
                        rw length_over z.by_unit.1.1.1.1.1.1.1.0,
                        (
                          rw length_over z.by_unit.1.1.1.1.1.1.1.1.0,
                          (
                            rw length_over z.by_unit.1.1.1.1.1.1.1.1.1.0,
                            (
                              rw length_over z.by_unit.1.1.1.1.1.1.1.1.1.1.0,
                              z.by_unit.1.1.1.1.1.1.1.1.1.1.1,
                            ),
                          ),
                        ),
                      ),
                    ),
                  ),
                ),
              ),
            ),
          ),
        );
        by_arc = z.by_arc;
        by_link = z.by_link;
      }

  aux_edges-sized : Sized (Step.aux_edges s)
  unfolding Step.aux_edges parent_joins_round link_joins_round
  aux_edges-sized =
      record {
        by_unit = (
          z.by_unit.0,
          (
            z.by_unit.1.0,
            (
              z.by_unit.1.1.0,
              (
                z.by_unit.1.1.1.0,
                (
                  z.by_unit.1.1.1.1.0,
                  (
                    z.by_unit.1.1.1.1.1.0,
                    (
                      z.by_unit.1.1.1.1.1.1.0,
                      (
                        z.by_unit.1.1.1.1.1.1.1.0,
                        (
                          z.by_unit.1.1.1.1.1.1.1.1.0,
                          (
                            z.by_unit.1.1.1.1.1.1.1.1.1.0,
                            (
                              z.by_unit.1.1.1.1.1.1.1.1.1.1.0,
                              (
                                rw length_over z.by_unit.1.1.1.1.1.1.1.1.1.1.1.0,
                                z.by_unit.1.1.1.1.1.1.1.1.1.1.1.1,
                              ),
                            ),
                          ),
                        ),
                      ),
                    ),
                  ),
                ),
              ),
            ),
          ),
        );
        by_arc = z.by_arc;
        by_link = (rw length_over z.by_link.0, z.by_link.1);
      }

  aux_components-sized : Sized (Step.aux_components s)
  unfolding Step.aux_components aux_round
  aux_components-sized =
      record {
        by_unit = (
          z.by_unit.0,
          (
            z.by_unit.1.0,
            (
              z.by_unit.1.1.0,
              (
                z.by_unit.1.1.1.0,
                (
                  z.by_unit.1.1.1.1.0,
                  (
                    z.by_unit.1.1.1.1.1.0,
                    (
                      z.by_unit.1.1.1.1.1.1.0,
                      (
                        z.by_unit.1.1.1.1.1.1.1.0,
                        (
                          z.by_unit.1.1.1.1.1.1.1.1.0,
                          (
                            z.by_unit.1.1.1.1.1.1.1.1.1.0,
                            (
                              z.by_unit.1.1.1.1.1.1.1.1.1.1.0,
                              (
                                z.by_unit.1.1.1.1.1.1.1.1.1.1.1.0,
                                (
                                  rw length_over z.by_unit.1.1.1.1.1.1.1.1.1.1.1.1.0,
                                  z.by_unit.1.1.1.1.1.1.1.1.1.1.1.1.1,
                                ),
                              ),
                            ),
                          ),
                        ),
                      ),
                    ),
                  ),
                ),
              ),
            ),
          ),
        );
        by_arc = z.by_arc;
        by_link = z.by_link;
      }

  label_classes-sized : Sized (Step.label_classes s)
  unfolding Step.label_classes class_round
  label_classes-sized =
      record {
        by_unit = z.by_unit;
        by_arc = z.by_arc;
        by_link = (z.by_link.0, (rw length_over z.by_link.1.0, z.by_link.1.1));
      }

  label_positions-sized : Sized (Step.label_positions s)
  unfolding Step.label_positions label_round
  label_positions-sized =
      record {
        by_unit = z.by_unit;
        by_arc = z.by_arc;
        by_link = (z.by_link.0, (z.by_link.1.0, (rw length_over z.by_link.1.1.0, z.by_link.1.1.1)));
      }

  tables-sized : Sized (Step.round_tables s)
  tables-sized =
      each-round Sized s
      (record {
        components = components-sized;
        tree_searched = tree_searched-sized;
        tree_planned = tree_planned-sized;
        tour_next = tour_next-sized;
        tour_pred = tour_pred-sized;
        ranking = ranking-sized;
        marks_forward = marks_forward-sized;
        marks_descendants = marks_descendants-sized;
        places = places-sized;
        range_begun = range_begun-sized;
        range_doubled = range_doubled-sized;
        aux_edges = aux_edges-sized;
        aux_components = aux_components-sized;
        label_classes = label_classes-sized;
        label_positions = label_positions-sized;
      })

  pub step-sized : Sized (Step.step s)
  unfolding Step.step
  step-sized =
      cond-keeps Sized (finished s) s _ z
      (record { by_unit = tables-sized.by_unit; by_arc = tables-sized.by_arc; by_link = tables-sized.by_link })
