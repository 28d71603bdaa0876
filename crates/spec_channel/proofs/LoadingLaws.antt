-- A load that is accepted starts a survey, whichever it is.
use Rattle.std.specs.Prelude.{◌≡◌, refl, true}
use Rattle.spec_state.specs.declared.reply.Reply.TheVariants.{Done}
use Rattle.spec_machine.specs.State.{State}
use Rattle.spec_machine.specs.Load.{Input, load_refusal, stored_load_refusal, loaded, planned_load_refusal}
use Rattle.spec_machine.specs.Load.{planned_loaded}
use Rattle.spec_machine.specs.WellFormed.{well_formed}
use Rattle.spec_machine.specs.Calls.{load_answer, stored_load_answer, planned_load_answer}
use Rattle.spec_claim.specs.Claim as claim
use Rattle.spec_claim.proofs.ClaimProof.{started}
use Rattle.spec_channel.specs.Office.{Loading, fresh, stored, planned, input_of, own_refusal, survey_of}

pub load_done : (load : Loading) → own_refusal load ≡ 0 → claim.Loaded (input_of load) (survey_of load)
unfolding load_answer stored_load_answer planned_load_answer
load_done (fresh input) e = claim.fresh (loaded input) (rw e refl)
load_done (stored input) e = claim.stored (loaded input) (rw e refl)
load_done (planned input parents) e = claim.planned parents (planned_loaded input parents) (rw e refl)

pub load_kept : (load : Loading) → own_refusal load ≡ 0 → well_formed (survey_of load) ≡ true
load_kept load e = (started (input_of load) (survey_of load) (load_done load e)).kept
