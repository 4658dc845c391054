pub mod Sums
pub mod Trial
pub mod Energy
pub mod Meters
