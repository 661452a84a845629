pub mod Arcs
pub mod Costs
pub mod FuncSet
pub mod Keys
pub mod Kinds
pub mod Order
pub mod Runs
pub mod inner
