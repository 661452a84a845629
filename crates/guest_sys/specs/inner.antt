-- Words of the contracts inside the crate. No public clause cites them.
pub mod Bodies
