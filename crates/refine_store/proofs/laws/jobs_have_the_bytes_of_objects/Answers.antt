use Rattle.refine_store.proofs.JobLemmas.{job_is_object}
use Rattle.refine_store.proofs.KeepLemmas.{events_keep_object, mounts_keep_object}
use Rattle.refine_store.proofs.laws.jobs_have_the_bytes_of_objects.Goals as goal

pub returns : goal.returns
returns c = record { job = job_is_object; events = events_keep_object; mounts = mounts_keep_object }
