pub mod Causes
pub mod Code
pub mod Effects
pub mod Forms
pub mod Numbers
pub mod Place
pub mod Promises
pub mod inner
