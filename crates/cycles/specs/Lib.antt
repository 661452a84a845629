pub mod Costs
pub mod Limits
pub mod inner
