pub mod Taking
pub mod Destruction
pub mod Salvageable
