pub mod Shape
pub mod History
pub mod Lines
pub mod Branches
pub mod Costs
pub mod inner
