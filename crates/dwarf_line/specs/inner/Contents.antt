-- What a unit holds, its paths only placed.
use Rattle.std.specs.Prelude.{ℕ, List, map}
use Rattle.dwarf_line.specs.Entry.{StringSections}
use Rattle.dwarf_line.specs.Header.{LineHeader}
use Rattle.dwarf_line.specs.UnitContents.{UnitContents}
use Rattle.dwarf_line.specs.inner.Paths.{PlacedEntry, entry_in}

pub record PlacedContents : Type 0 where
  pub constants : LineHeader
  pub program : List ℕ
  pub directories : List PlacedEntry
  pub files : List PlacedEntry

abbrev pub contents_in : StringSections → PlacedContents → UnitContents
contents_in sections contents = record {
  constants = contents.constants;
  program = contents.program;
  directories = map (entry_in sections) contents.directories;
  files = map (entry_in sections) contents.files;
}
