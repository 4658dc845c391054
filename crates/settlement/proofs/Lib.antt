pub mod Sources
pub mod Fills
pub mod Limits
pub mod Standing
pub mod Planning
