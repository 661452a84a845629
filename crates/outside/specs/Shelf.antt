-- Folders and sinks in memory as contracts see them.
use Rattle.std.specs.Prelude.{◌≢◌, ℕ, List, [], map, Option, Some, Vec, String, string_bytes, AllPairs, refl}
use Rattle.std.specs.Coded.{Coded, code_by, coded×, coded_ℕ, coded_list}
use Rattle.std.specs.FinMap as finite
use Rattle.std.specs.declared.alloc.Global.{Global}
use Rattle.outside.specs.Files.{Files, files_code}
use Rattle.outside.specs.Plan.{Plan}
use Rattle.outside.specs.Journal.{Call, Wrote}
use Rattle.outside.specs.Traced.{Traced}
use Rattle.outside.specs.Codes.{calls_code}

-- a name and its bytes
abbrev pub file_of_entry : String Global × Vec ℕ Global → List ℕ × List ℕ
file_of_entry entry = (string_bytes entry.0, entry.1.items)

-- the files of a list of names with their bytes; the first of a name counts
abbrev pub files_of : List (String Global × Vec ℕ Global) → Files
files_of entries = finite.from_entries (map file_of_entry entries)

-- a folder whose calls may be told to fail, and the calls that were made of it, as long as they are kept
pub record FolderState : Type 0 where
  pub files : Files
  pub calls : Option (List Call)
  pub plan : Plan
  pub load_faults : ℕ
  pub put_faults : ℕ

-- a sink whose calls may be told to fail, and take at most so many bytes; and the writes, as long as they are kept
pub record SinkState : Type 0 where
  pub taken : List ℕ
  pub writes : Option (List Wrote)
  pub most : ℕ
  pub plan : Plan
  pub faults : ℕ

-- a sink that has taken nothing: how many bytes a call takes at most, and the numbers of the calls that fail
abbrev pub empty_sink : ℕ → List ℕ → SinkState
empty_sink most fails = record {
  taken = [];
  writes = Some [];
  most = most;
  plan = record { fails = fails; calls = 0 };
  faults = 0;
}

-- the names differ from each other
abbrev pub HaveNamesApart : List (String Global × Vec ℕ Global) → Type 0
HaveNamesApart entries = AllPairs (λ x y. x ≢ y) (map (λ entry. string_bytes entry.0) entries)

abbrev pub plan_code : Coded Plan
plan_code = code_by (List ℕ × ℕ) (coded× (coded_list coded_ℕ) coded_ℕ) (λ p. (p.fails, p.calls))
    (λ p. record { fails = p.0; calls = p.1 }) (λ _. refl)

abbrev pub folder_state_code : Coded FolderState
folder_state_code =
    code_by (Files × (Option (List Call) × (Plan × (ℕ × ℕ))))
    (coded× files_code (coded× calls_code (coded× plan_code (coded× coded_ℕ coded_ℕ))))
    (λ s. (s.files, (s.calls, (s.plan, (s.load_faults, s.put_faults)))))
    (λ p. record {
      files = p.0;
      calls = p.1.0;
      plan = p.1.1.0;
      load_faults = p.1.1.1.0;
      put_faults = p.1.1.1.1;
    })
    (λ _. refl)

-- files, and the calls that were made of them
abbrev pub traced_files_code : Coded (Traced Files)
traced_files_code =
    code_by (Files × Option (List Call)) (coded× files_code calls_code) (λ t. (t.folder, t.calls))
    (λ p. record { folder = p.0; calls = p.1 }) (λ _. refl)
