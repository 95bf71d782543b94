mod RequestLemmas
mod RefusalLemmas
mod SessionLemmas
mod CallLemmas
