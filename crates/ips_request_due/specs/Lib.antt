pub mod RequestDue
pub mod repairs
pub mod state_due
