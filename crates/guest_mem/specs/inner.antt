-- How the pages are kept. No public clause cites these modules.
pub mod Directory
pub mod Page
pub mod Table
