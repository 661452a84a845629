pub mod ApartLemmas
pub mod ArgumentLemmas
pub mod PageLemmas
pub mod SegmentLemmas
pub mod StackLaws
pub mod StackLemmas
pub mod TableLemmas
