pub mod CheckLemmas
pub mod ProgramLemmas
pub mod StringLemmas
pub mod TableLemmas
pub mod SectionLemmas
pub mod OverlapLemmas
