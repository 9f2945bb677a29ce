pub mod created
pub mod image_plan
pub mod request_plan
pub mod requested
