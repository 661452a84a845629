mod Others
pub mod FitLemmas
pub mod RoomLemmas
pub mod OrderLemmas
pub mod RowLemmas
pub mod TextLemmas
pub mod SumLemmas
