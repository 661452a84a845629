pub mod RunQueue
pub mod Engine
pub mod Step
pub mod Machine
pub mod Laws
pub mod inner
