-- How the waits are kept. No public clause cites these modules.
pub mod Order
