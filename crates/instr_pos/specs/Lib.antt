-- What the contracts of these names cite.
pub use Rattle.addr_rows.specs.Known
pub use Rattle.addr_rows.specs.Plain
pub use Rattle.addr_rows.specs.Rows
pub use Rattle.addr_rows.specs.Texts
pub use Rattle.addr_rows.specs.Telling as States
pub use Rattle.cg_read.specs.AddressReading
