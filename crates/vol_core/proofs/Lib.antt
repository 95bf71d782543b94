pub mod LeftLemmas
pub mod ShownLemmas
pub mod HoldLemmas
pub mod OwnerLemmas
pub mod RunLemmas
pub mod ReadLemmas
mod PinCounts
mod ObjectsRead
mod PinsGrow
pub mod StepLemmas
pub mod OpeningLemmas
pub mod CreateLemmas
mod Lending
mod LoggedLemmas
mod CommitLemmas
mod PlainEntering
mod AppendLemmas
mod LogEntering
mod PendingSteps
mod ObjectSteps
mod FlushLemmas
mod EnterSteps
mod PlanGives
mod LookLemmas
mod ReleaseSteps
mod LookSteps
mod CommitStops
mod StopSteps
mod BytesLemmas
mod StepsOf
mod CheckpointSteps
mod RemovalSteps
mod CollectionSteps
mod CollectionLemmas
