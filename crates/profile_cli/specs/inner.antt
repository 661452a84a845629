pub mod RunStages
pub mod WaitStages
pub mod DemoStages
pub mod ProcessWords
