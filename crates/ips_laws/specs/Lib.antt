pub mod Alike
pub mod answers
pub mod histories
pub mod mogrify_laws
pub mod next_laws
pub mod plan_laws
pub mod record_laws
pub mod recorded
