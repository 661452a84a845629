pub mod ShellLemmas
pub mod TextsLemmas
