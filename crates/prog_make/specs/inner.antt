-- Words of the crate's own clauses, which no public one cites: the tests of parts, and a file's tables as bytes.
pub mod Conditions
pub mod Spans
pub mod FileHeader
pub mod ProgramBytes
pub mod Strings
pub mod Sections
pub mod Symbols
pub mod LineProgram
pub mod LineSection
pub mod Tail
pub mod ElfFile
