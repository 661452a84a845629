pub mod Decoded
pub mod Encoded
pub mod Fields
pub mod FlowOf
pub mod Layout
pub mod Matching
pub mod Table
pub mod inner
