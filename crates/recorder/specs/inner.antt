-- Words of private contracts. No public clause rests on them.
pub mod Tellers
pub mod Books
pub mod TellerLaws
pub mod Places
pub mod Known
pub mod Active
