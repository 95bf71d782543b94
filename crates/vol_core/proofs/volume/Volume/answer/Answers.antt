-- Each arm hands on what its call tells, of the event that the arm is for.
use Rattle.vol_core.proofs.volume.Volume.answer.Goals as goal

pub returns-in-Write-clause-step : goal.returns-in-Write-clause-step
returns-in-Write-clause-step g c = rw c.in-Write.is c.enter.ensures.step

pub returns-in-Zero-clause-step : goal.returns-in-Zero-clause-step
returns-in-Zero-clause-step g c = rw c.in-Zero.is c.enter-in-Zero.ensures.step

pub returns-in-Flush-clause-step : goal.returns-in-Flush-clause-step
returns-in-Flush-clause-step g c = rw c.in-Flush.is c.flush.ensures.step

pub returns-in-Look-clause-step : goal.returns-in-Look-clause-step
returns-in-Look-clause-step g c = rw c.in-Look.is c.look.ensures.step

pub returns-in-Release-clause-step : goal.returns-in-Release-clause-step
returns-in-Release-clause-step g c = rw c.in-Release.is c.release.ensures.step

pub returns-in-Seal-clause-step : goal.returns-in-Seal-clause-step
returns-in-Seal-clause-step g c = rw c.in-Seal.is c.seal.ensures.step

pub returns-in-TakeJob-clause-step : goal.returns-in-TakeJob-clause-step
returns-in-TakeJob-clause-step g c = rw c.in-TakeJob.is c.take_job.ensures.step

pub returns-in-JobDone-clause-step : goal.returns-in-JobDone-clause-step
returns-in-JobDone-clause-step g c = rw c.in-JobDone.is c.job_done.ensures.step

pub returns-in-JobFailed-clause-step : goal.returns-in-JobFailed-clause-step
returns-in-JobFailed-clause-step g c = rw c.in-JobFailed.is c.job_failed.ensures.step

pub returns-in-SealCheckpoint-clause-step : goal.returns-in-SealCheckpoint-clause-step
returns-in-SealCheckpoint-clause-step g c = rw c.in-SealCheckpoint.is c.seal_checkpoint.ensures.step

pub returns-in-TakeRemove-clause-step : goal.returns-in-TakeRemove-clause-step
returns-in-TakeRemove-clause-step g c = rw c.in-TakeRemove.is c.take_remove.ensures.step

pub returns-in-RemoveDone-clause-step : goal.returns-in-RemoveDone-clause-step
returns-in-RemoveDone-clause-step g c = rw c.in-RemoveDone.is c.remove_done.ensures.step

pub returns-in-RemoveFailed-clause-step : goal.returns-in-RemoveFailed-clause-step
returns-in-RemoveFailed-clause-step g c = rw c.in-RemoveFailed.is c.remove_failed.ensures.step

pub returns-in-PlanCopy-clause-step : goal.returns-in-PlanCopy-clause-step
returns-in-PlanCopy-clause-step g c = rw c.in-PlanCopy.is c.plan_copy.ensures.step

pub returns-in-SealCopy-clause-step : goal.returns-in-SealCopy-clause-step
returns-in-SealCopy-clause-step g c = rw c.in-SealCopy.is c.seal_copy.ensures.step

pub returns-in-DropPlan-clause-step : goal.returns-in-DropPlan-clause-step
returns-in-DropPlan-clause-step g c = rw c.in-DropPlan.is c.drop_plan.ensures.step

pub returns-in-Status-clause-step : goal.returns-in-Status-clause-step
returns-in-Status-clause-step g c = rw c.in-Status.is c.status.ensures
