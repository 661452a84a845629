mod Others
mod SearchLemmas
pub mod RankLemmas
pub mod AmongLemmas
pub mod MapLemmas
pub mod FoldLemmas
pub mod OrderLemmas
pub mod RisingLemmas
pub mod NamedLemmas
pub mod KnownLemmas
pub mod FrameLemmas
pub mod BoundLemmas
pub mod TrackLemmas
pub mod NamedSums
pub mod NamingLemmas
pub mod OpenSums
pub mod TrackedLemmas
pub mod EventRowLemmas
pub mod StackLemmas
pub mod HoldsLemmas
pub mod KnownRowLemmas
pub mod LastLemmas
pub mod PutLemmas
pub mod ShareLemmas
pub mod FoldedLemmas
pub mod CallLemmas
