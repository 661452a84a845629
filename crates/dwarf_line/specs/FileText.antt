-- The texts of files (DWARF 5, 6.2.4, fields 16 and 20): a path, behind its directory where it is relative.
use Rattle.std.specs.Prelude.{ℕ, ◌==◌, ◌||◌, Bool, false, if◌then◌else◌, List, [], ◌∷◌, ◌++◌, slice_get}
use Rattle.std.specs.Option.{option_map_or}
use Rattle.byte_text.specs.Names as names
use Rattle.dwarf_line.specs.Entry.{TableEntry}

-- the text of a file that is not known
abbrev pub unknown : List ℕ
unknown = names.unknown

-- whether a path begins with '/'
abbrev pub is_absolute : List ℕ → Bool
is_absolute [] = false
is_absolute (byte ∷ bytes) = byte == 0x2f

abbrev pub join_paths : List ℕ → List ℕ → List ℕ
join_paths directory path = directory ++ 0x2f ∷ path

-- the path of directory 0
abbrev pub root_path : List TableEntry → List ℕ
root_path directories = option_map_or (λ entry. entry.path) (slice_get directories 0) []

-- The text of a number's directory, which is empty where the number has none. But for directory 0, a relative one
-- stands in directory 0.
abbrev pub directory_text : List TableEntry → ℕ → List ℕ
directory_text directories index =
    option_map_or (λ entry. if index == 0 || is_absolute entry.path then entry.path
    else join_paths (root_path directories) entry.path) (slice_get directories index) []

-- a path in a directory, alone where the directory's text is empty
abbrev pub inside : List ℕ → List ℕ → List ℕ
inside [] path = path
inside (byte ∷ bytes) path = join_paths (byte ∷ bytes) path

abbrev pub file_text : List TableEntry → TableEntry → List ℕ
file_text directories file =
    if is_absolute file.path then file.path else inside (directory_text directories file.directory) file.path
