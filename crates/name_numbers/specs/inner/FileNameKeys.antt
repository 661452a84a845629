-- Names in files by the ranks of the names.
use Rattle.std.specs.Prelude.{ℕ, List, [], slice_index, slice_index_or}
use Rattle.std.specs.Ordering.{nat_cmp, ordering_then}
use Rattle.std.specs.declared.cmp.Ordering.{Ordering}
use Rattle.name_numbers.specs.declared.file_names.FileName.{FileName}
use Rattle.name_numbers.specs.declared.file_names.FileNameAt.{FileNameAt}
use Rattle.name_numbers.specs.declared.file_names.RankInFile.{RankInFile}
use Rattle.name_numbers.specs.declared.text_place.TextPlace.{TextPlace}
use Rattle.name_numbers.specs.inner.Places.{nowhere}

-- by the file, and then by the rank
abbrev pub by_rank_in_file : RankInFile → RankInFile → Ordering
by_rank_in_file x y = ordering_then (nat_cmp x.file y.file) (nat_cmp x.rank y.rank)

-- the same key, where the ranks of the cleaned names are known by those of the names
abbrev pub clean_key : List ℕ → RankInFile → RankInFile
clean_key ranks key = record { file = key.file; rank = slice_index ranks key.rank }

-- the name of a key, which stands at one of these places
abbrev pub placed_key : List TextPlace → RankInFile → FileNameAt
placed_key places key = record { file = key.file; name = slice_index_or places key.rank nowhere }

-- the name of a key by its rank among these names
abbrev pub name_of_key : List (List ℕ) → RankInFile → FileName
name_of_key names key = record { file = key.file; name = slice_index_or names key.rank [] }
