use Rattle.refine_objects.proofs.PlanKept.{kept_sources_keep_plan}
use Rattle.refine_objects.proofs.PlanCalls.{others_keep_plan, room_keeps_plan, added_keeps_plan}
use Rattle.refine_objects.proofs.PlanCalls.{sealed_keeps_plan, jobs_keep_plan}
use Rattle.refine_objects.proofs.PlanCalls.{done_keeps_plan, pins_keep_plan, removals_keep_plan}
use Rattle.refine_objects.proofs.plan_laws.calls_keep_the_plan_that_is_out.Goals as goal

pub returns : goal.returns
returns c = record {
  sources = kept_sources_keep_plan;
  others = others_keep_plan;
  room = room_keeps_plan;
  added = added_keeps_plan;
  sealed = sealed_keeps_plan;
  jobs = jobs_keep_plan;
  done = done_keeps_plan;
  pins = pins_keep_plan;
  removals = removals_keep_plan;
}
