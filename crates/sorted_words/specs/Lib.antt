pub mod SortedWords
pub mod Sorting
pub mod Syntaxes
pub mod inner
