mod AskLemmas
mod BlockLemmas
