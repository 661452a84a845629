pub mod Codes
pub mod Ring
pub mod Sound
pub mod Stages
pub mod View
