pub mod Request
pub mod Meaning
pub mod Rows
pub mod Table
pub mod Values
pub mod Within
