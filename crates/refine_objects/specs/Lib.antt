pub mod Shows
pub mod Laws
pub mod Table
pub mod TableLaws
pub mod Plan
pub mod PlanLaws
