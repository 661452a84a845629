pub mod Reports
pub mod Exact
pub mod Sums
pub mod Rows
pub mod Chosen
pub mod Contexts
