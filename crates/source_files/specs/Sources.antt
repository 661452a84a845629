-- Source texts, as a folder gives them.
use Rattle.std.specs.Prelude.{◌≡◌, ◌⊎◌, ℕ, ◌+◌, ◌-◌, ◌^◌, ◌≤◌, Bool, true, false, is_some, if◌then◌else◌, List, [], ◌∷◌}
use Rattle.std.specs.Prelude.{◌++◌, map, count_by, Option, Some, None, Result, Ok, Err}
use Rattle.std.specs.Option.{option_map_or}
use Rattle.std.specs.Str.{is_utf8}
use Rattle.byte_text.specs.Memory.{memory}
use Rattle.byte_text.specs.declared.memory.OutOfMemory.{OutOfMemory}
use Rattle.outside.specs.Files.{Files, file}
use Rattle.byte_text.specs.Names.{clean_name}
use Rattle.outside.specs.declared.folder.LoadError.TheVariants as load
use Rattle.annotate.specs.Report.{SourceTexts}
use Rattle.annotate.specs.declared.source.Source.{Source}
use Rattle.annotate.specs.declared.source.Source.TheVariants.{Found, Missing, TooLong}
use Rattle.profile_files.specs.Loads.{IsLoad}
use Rattle.outside.specs.Limits.{text_limit}
use Rattle.outside.specs.Load.{Load}
use Rattle.outside.specs.Journal.{Call, Loaded, TellsMore}

-- the name under which the folder is asked for a file: the file's text where that is UTF-8, else its cleaned form
abbrev pub folder_name : List ℕ → List ℕ
folder_name text = if is_utf8 text then text else clean_name text

-- the load that such a source comes from
abbrev pub load_behind : Source → Load
load_behind (Found text) = Ok text
load_behind Missing = Err load.Failed
load_behind (TooLong len) = Err (load.TooLong len)

-- The texts are those of these files, in their order, and each is what its load gave.
abbrev pub AreTexts : Option Files → ℕ → ℕ → List (List ℕ) → SourceTexts → Type 0
AreTexts told before now [] [] = Unit {0}
AreTexts told before now (name ∷ names) (text ∷ texts) =
    (text.0 ≡ name) × IsLoad told (folder_name name) text_limit before now (load_behind text.1)
    × AreTexts told before now names texts
AreTexts told before now _ _ = ⊥

-- a text that is missing, though the folder holds its name, as far as it tells
abbrev pub is_lost : Option Files → List ℕ → Source → Bool
is_lost told name Missing = option_map_or (λ files. is_some (file files (folder_name name))) told true
is_lost told name source = false

-- The texts are what the folder gave. No more of them are lost than its count of faults rose, where that can show it.
pub record AreSources (told : Option Files) (before now : ℕ) (names : List (List ℕ)) (texts : SourceTexts) : Type 0
  where
    pub loaded : AreTexts told before now names texts
    pub lost : (before + count_by (λ text. is_lost told text.0 text.1) texts ≤ now) ⊎ (2 ^ 64 - 1 ≤ now)

-- ---- call by call

-- the load of a source under this name
abbrev pub source_load : List ℕ → Source → Call
source_load name source = Loaded name text_limit (load_behind source)

-- the load of a source for which memory was wanting, or nothing, where it was before
abbrev pub IsUnloaded : List ℕ → List Call → Type 0
IsUnloaded name calls =
    (calls ≡ []) ⊎ (calls ≡ Loaded name text_limit (Err (load.OutOfMemory memory)) ∷ [])

-- what is asked for to load a source under this name
abbrev pub TellsSource : List ℕ → Result Source OutOfMemory → Option (List Call) → Option (List Call) → Type 0
TellsSource name (Ok source) old new = TellsMore old (source_load name source ∷ []) new
TellsSource name (Err refused) old new = (calls : List Call) × IsUnloaded name calls × TellsMore old calls new

-- the loads of these texts, in their order
abbrev pub loads_of : SourceTexts → List Call
loads_of texts = map (λ text. source_load (folder_name text.0) text.1) texts

-- the load of the first of these, for which memory was wanting; or nothing
abbrev pub AreUnloaded : List (List ℕ) → List Call → Type 0
AreUnloaded [] calls = calls ≡ []
AreUnloaded (name ∷ names) calls = IsUnloaded (folder_name name) calls

-- The folder is asked for the text of each of these files once, in their order, and for nothing else; where memory was
-- wanting, for the first of them.
abbrev pub TellsSources : List (List ℕ) → Result SourceTexts OutOfMemory → Option (List Call) → Option (List Call)
    → Type 0
TellsSources names (Ok texts) old new = TellsMore old (loads_of texts) new
TellsSources names (Err refused) old new =
    (texts : SourceTexts) × (rest : List (List ℕ)) × (last : List Call)
    × (names ≡ map (λ text. text.0) texts ++ rest) × AreUnloaded rest last
    × TellsMore old (loads_of texts ++ last) new
