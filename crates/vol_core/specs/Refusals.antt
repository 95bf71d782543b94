-- For this crate's own clauses: how a refusal of the log is told.
use Rattle.cache_log.specs.declared.error.AppendError.{AppendError}
use Rattle.cache_log.specs.declared.error.AppendError.TheVariants as errors
use Rattle.vol_core.specs.declared.reply.EntryRefusal.{EntryRefusal}
use Rattle.vol_core.specs.declared.reply.EntryRefusal.TheVariants.{NoRoom, Fault}

abbrev pub refusal_of : AppendError → EntryRefusal
refusal_of (errors.NoRoom need free) = NoRoom need free
refusal_of errors.DeviceFault = Fault
