pub mod DripState
pub mod TallyState
pub mod inner
