pub mod Addressed
pub mod Faults
pub mod Lines
pub mod Names
pub mod Numbers
pub mod Positions
pub mod Shapes
