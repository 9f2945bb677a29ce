pub mod Asked
pub mod Sources
pub mod Answers
pub mod Findings
pub mod draft
pub mod plan_steps
pub mod saving
pub mod staged_plans
