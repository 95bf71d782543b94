use Rattle.refine_objects.proofs.PlanMade.{shown_places_are_inside, planned_shows_plan, none_shows_no_plan}
use Rattle.refine_objects.proofs.PlanVictims.{victims_show_plan}
use Rattle.refine_objects.proofs.PlanEnds.{sealed_copy_shows_seal, refused_seal_copy_shows_none, ended_shows_dropped}
use Rattle.refine_objects.proofs.plan_laws.plans_show_the_plain_volume_s.Goals as goal

pub returns : goal.returns
returns c = record {
  inside = shown_places_are_inside;
  planned = planned_shows_plan;
  none = none_shows_no_plan;
  victims = victims_show_plan;
  sealed = sealed_copy_shows_seal;
  refused = refused_seal_copy_shows_none;
  ended = ended_shows_dropped;
}
