pub mod Heading
pub mod Marks
pub mod Part
pub mod Rows
pub mod Standing
pub mod Sums
pub mod inner
