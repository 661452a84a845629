-- Cleaned names in files.
use Rattle.std.specs.Prelude.{ℕ, List, [], slice_index_or}
use Rattle.std.specs.Ordering.{nat_cmp, ordering_then}
use Rattle.std.specs.Cmp.Lexicographic.{slice_cmp}
use Rattle.std.specs.declared.cmp.Ordering.{Ordering}
use Rattle.byte_text.specs.Names.{clean_name, unknown}
use Rattle.name_numbers.specs.declared.file_names.FileName.{FileName}
use Rattle.name_numbers.specs.declared.file_names.RankInFile.{RankInFile}

-- by the number of the file, and then by the bytes of the name
abbrev pub by_file_name : FileName → FileName → Ordering
by_file_name x y = ordering_then (nat_cmp x.file y.file) (slice_cmp nat_cmp x.name y.name)

-- the name of this rank among names, cleaned, in its file
abbrev pub file_name : List (List ℕ) → RankInFile → FileName
file_name names key = record { file = key.file; name = clean_name (slice_index_or names key.rank []) }

-- the name that stands where none is known
abbrev pub unknown_in : ℕ → FileName
unknown_in file = record { file = file; name = unknown }
