pub mod api
pub mod examples
pub mod facts
pub mod runs
pub mod texts
