pub mod Keys
pub mod Texts
pub mod FileNames
pub mod inner
