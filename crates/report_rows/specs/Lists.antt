-- The rows of a profile by functions and files, and what is told of each event.
use Rattle.std.specs.Prelude.{ℕ, List, length, map, filter, Vec}
use Rattle.std.specs.List.{range_with_len}
use Rattle.std.specs.declared.alloc.Global.{Global}
use Rattle.cg_read.specs.Profiles.{Contents}
use Rattle.report_rows.specs.Entries.{HaveValues, call_entry, of_list, self_entry}
use Rattle.report_rows.specs.declared.entries.By.TheVariants as by
use Rattle.report_rows.specs.declared.entries.End.{End}
use Rattle.report_rows.specs.declared.entries.Entry.{Entry}

-- a cost of each event, by the place of the event
abbrev pub each_event : Contents → (ℕ → ℕ) → List ℕ
each_event p cost = map cost (range_with_len 0 (length p.events))

-- each function lists the call rows that end at it
abbrev pub AreCallLists : Contents → List ℕ → End → List (Vec Entry Global) → Type 0
AreCallLists p places end rows =
    HaveValues (length p.functions) (λ f. filter (of_list f) (map (call_entry places end) p.call_rows)) rows

-- each file lists its self rows
abbrev pub AreFileLists : Contents → List (Vec Entry Global) → Type 0
AreFileLists p rows = HaveValues (length p.files) (λ n. filter (of_list n) (map (self_entry by.File) p.self_rows)) rows
