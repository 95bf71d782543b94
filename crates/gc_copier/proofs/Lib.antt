mod SourceLemmas
mod AskLemmas
mod RunLemmas
mod FillLemmas
mod FrontLemmas
mod PlanLemmas
