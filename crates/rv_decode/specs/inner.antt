-- How a word is searched for. No public clause cites these modules.
pub mod Candidate
