pub mod Found
pub mod Law
