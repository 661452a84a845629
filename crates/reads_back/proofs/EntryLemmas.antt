-- Rows, written one after another, and read again.
use Rattle.std.specs.Option.{option_map_or}
use Rattle.std.proofs.Common.{◌≡◌, ℕ, ◌<◌, ◌^◌, Bool, true, false, ◌==◌, cond, List, [], ◌∷◌, ◌++◌, length, fold}
use Rattle.std.proofs.Common.{flat_map}
use Rattle.std.proofs.Common.{Option, Some, None, unwrap_or, refl, sym, ap, ◌∙◌, subst, arith, All, append-nil}
use Rattle.std.proofs.Common.{append_assoc}
use Rattle.std.specs.List.{AllByRecursion}
use Rattle.std.proofs.lemmas.Bool.Decides.{nat_tests}
use Rattle.event_costs.specs.Costs.{IsWhole, event_names, events_shown}
use Rattle.event_costs.specs.declared.numbers.FileId.{FileId}
use Rattle.event_costs.specs.declared.numbers.FuncId.{FuncId}
use Rattle.arc_costs.specs.Rows.{ArcRow, LineRow}
use Rattle.sym_map.specs.SymbolMap.{IsSound}
use Rattle.sym_map.specs.SymbolMap.{SymbolMap, IsFile, IsFunc, entry_line_of, file_text, home_of, identity_of}
use Rattle.cg_format.specs.Marks.{Mark, Plain, File, Function, Callee, Calls, Costs, functions}
use Rattle.cg_format.specs.Part.{IsKnownArc, IsKnownLine, after_row, at_row, current_file, current_function, in_file}
use Rattle.cg_format.specs.Part.{in_function, in_object, is_file, is_function, place_key}
use Rattle.cg_format.specs.declared.file_key.FileKey.TheVariants.{Home, Other, Back, OfCallee}
use Rattle.cg_format.specs.declared.head.PartHead.{PartHead}
use Rattle.cg_format.specs.declared.row.Row.{Row}
use Rattle.cg_format.specs.declared.row.Row.TheVariants.{Line, Arc}
use Rattle.cg_format.specs.Heading.{object_line}
use Rattle.cg_read.specs.Profiles.{NamedCall, NamedSelf}
use Rattle.once_each.specs.Texts.{named_arc, named_line}
use Rattle.reads_back.specs.Rows.{FitsArc, FitsLine, key_of, naming}
use Rattle.reads_back.proofs.CostLemmas.{shown_length, shown_small, shown_some}
use Rattle.reads_back.proofs.HeadingLemmas.{says_object}
use Rattle.reads_back.proofs.StandingLemmas.{Stands, after_back, after_blank, after_call, after_callee_file}
use Rattle.reads_back.proofs.StandingLemmas.{after_costs}
use Rattle.reads_back.proofs.StandingLemmas.{after_function, after_home, after_object, after_other}

same_number : (i j : ℕ) → (i == j) ≡ true → i ≡ j
same_number i j e = grind (arith, nat_tests)

abbrev file_at : ℕ → FileId
file_at n = record { 0 = n }

abbrev func_at : ℕ → FuncId
func_at n = record { 0 = n }

found_file : (o : Option FileId) (f : FileId) → is_file o f ≡ true → o ≡ Some f
found_file None f e = absurd (cc)
found_file (Some c) f e = ap (λ n. Some (file_at n)) (same_number c.0 f.0 e)

found_function : (o : Option FuncId) (f : FuncId) → is_function o f ≡ true → o ≡ Some f
found_function None f e = absurd (cc)
found_function (Some c) f e = ap (λ n. Some (func_at n)) (same_number c.0 f.0 e)

-- the rows that are read of a row
abbrev pub selfs_of : PartHead → SymbolMap → Row → List NamedSelf
selfs_of head m (Line row) = named_line (naming head m) row ∷ []
selfs_of head m (Arc row) = []

abbrev pub calls_of : PartHead → SymbolMap → Row → List NamedCall
calls_of head m (Line row) = []
calls_of head m (Arc row) = named_arc (naming head m) row ∷ []

-- a row that can be written
abbrev pub CanWrite : SymbolMap → Row → Type 0
CanWrite m (Line row) = IsKnownLine m row × FitsLine row
CanWrite m (Arc row) = IsKnownArc m row × FitsArc row

-- what the reader knows between rows
abbrev pub Standing : PartHead → SymbolMap → List Mark → List NamedSelf → List NamedCall → Type 0
Standing head m before selfs calls = (named : Bool) × Stands head m named before None selfs calls

-- in a function, and in the file of a callee
abbrev entered : PartHead → SymbolMap → FuncId → List Mark → List Mark
entered head m f before = Function f ∷ in_file Home (home_of m f) (in_object head (Plain [] ∷ before))

abbrev with_callee : SymbolMap → FuncId → List Mark → Bool → List Mark
with_callee m callee before b = cond b before (File OfCallee (home_of m callee) ∷ before)

module _ (head : PartHead) (m : SymbolMap) (sound : IsSound m) where
  enter_object : (before : List Mark) (selfs : List NamedSelf) (calls : List NamedCall)
      → Standing head m before selfs calls → Stands head m true (in_object head before) None selfs calls
  enter_object before selfs calls standing = go (length (functions before) == 0) refl
    where
      go : (b : Bool) → (length (functions before) == 0) ≡ b
          → Stands head m true (cond b (Plain (object_line head) ∷ before) before) None selfs calls
      go true is =
          after_object head m sound sound.few_functions sound.few_files standing.0 before selfs calls (says_object head)
          standing.1
      go false is =
          subst (λ named. Stands head m named before None selfs calls) (standing.1.written is) standing.1

  enter_home : (f : FileId) (before : List Mark) (selfs : List NamedSelf) (calls : List NamedCall) → IsFile m f
      → Stands head m true before None selfs calls
      → Stands head m true (in_file Home f before) None selfs calls × (current_file (in_file Home f before) ≡ Some f)
  enter_home f before selfs calls within s = go (is_file (current_file before) f) refl
    where
      go : (b : Bool) → is_file (current_file before) f ≡ b
          → Stands head m true (cond b before (File Home f ∷ before)) None selfs calls
          × (current_file (cond b before (File Home f ∷ before)) ≡ Some f)
      go true is = (s, found_file (current_file before) f is)
      go false is =
          (after_home head m sound sound.few_functions sound.few_files f true before selfs calls within s, refl)

  enter_function : (f : FuncId) (before : List Mark) (selfs : List NamedSelf) (calls : List NamedCall) → IsFunc m f
      → Standing head m before selfs calls
      → Standing head m (in_function head m f before) selfs calls
      × (current_function (in_function head m f before) ≡ Some f)
  enter_function f before selfs calls within standing = go (is_function (current_function before) f) refl
    where
      blank : Standing head m (Plain [] ∷ before) selfs calls
      blank = (
        standing.0,
        after_blank head m sound sound.few_functions sound.few_files standing.0 before None selfs calls standing.1,
      )

      home : Stands head m true (in_file Home (home_of m f) (in_object head (Plain [] ∷ before))) None selfs calls
          × (current_file (in_file Home (home_of m f) (in_object head (Plain [] ∷ before))) ≡ Some (home_of m f))
      home = enter_home (home_of m f) (in_object head (Plain [] ∷ before)) selfs calls (sound.homes f within)
          (enter_object (Plain [] ∷ before) selfs calls blank)

      go : (b : Bool) → is_function (current_function before) f ≡ b
          → Standing head m (cond b before (entered head m f before)) selfs calls
          × (current_function (cond b before (entered head m f before)) ≡ Some f)
      go true is = (standing, found_function (current_function before) f is)
      go false is = (
        (
          true,
          after_function head m sound sound.few_functions sound.few_files f
              (in_file Home (home_of m f) (in_object head (Plain [] ∷ before))) selfs calls within home.1 home.0,
        ),
        refl,
      )

  enter_file : (f : FuncId) (file : FileId) (before : List Mark) (selfs : List NamedSelf) (calls : List NamedCall)
      → IsFile m file → Standing head m before selfs calls
      → Standing head m (in_file (place_key m f file) file before) selfs calls
      × (current_file (in_file (place_key m f file) file before) ≡ Some file)
      × (current_function (in_file (place_key m f file) file before) ≡ current_function before)
  enter_file f file before selfs calls within standing =
      go (is_file (current_file before) file) refl ((home_of m f).0 == file.0)
    where
      go : (b : Bool) → is_file (current_file before) file ≡ b → (k : Bool)
          → Standing head m (cond b before (File (cond k Back Other) file ∷ before)) selfs calls
          × (current_file (cond b before (File (cond k Back Other) file ∷ before)) ≡ Some file)
          × (current_function (cond b before (File (cond k Back Other) file ∷ before)) ≡ current_function before)
      go true is k = (standing, found_file (current_file before) file is, refl)
      go false is true = (
        (
          standing.0,
          after_back head m sound sound.few_functions sound.few_files file standing.0 before selfs calls within
              standing.1,
        ),
        refl,
        refl,
      )
      go false is false = (
        (
          standing.0,
          after_other head m sound sound.few_functions sound.few_files file standing.0 before selfs calls within
              standing.1,
        ),
        refl,
        refl,
      )

  -- at the place of a row
  enter_place : (f : FuncId) (file : FileId) (before : List Mark) (selfs : List NamedSelf) (calls : List NamedCall)
      → IsFunc m f → IsFile m file → Standing head m before selfs calls
      → Standing head m (in_file (place_key m f file) file (in_function head m f before)) selfs calls
      × (current_file (in_file (place_key m f file) file (in_function head m f before)) ≡ Some file)
      × (current_function (in_file (place_key m f file) file (in_function head m f before)) ≡ Some f)
  enter_place f file before selfs calls f_in file_in standing =
      let entered = enter_function f before selfs calls f_in standing in
      let placed = enter_file f file (in_function head m f before) selfs calls file_in entered.0 in
      (placed.0, placed.1, placed.2 ∙ entered.1)

  -- costs of any length but 0
  costs_done : (f : FuncId) (file : FileId) (at : ℕ) (costs : List ℕ) (named : Bool) (before : List Mark)
      (selfs : List NamedSelf) (calls : List NamedCall) → 0 < length costs → current_function before ≡ Some f
      → current_file before ≡ Some file → at < 2 ^ 64
      → length costs ≡ length (events_shown head.branch event_names) → All (λ n. n < 2 ^ 64) costs
      → Stands head m named before None selfs calls
      → Stands head m named (Costs at costs ∷ before) None
      (selfs ++ record { function = key_of head m f; file = file_text m file; line = at; cost = costs } ∷ []) calls
  costs_done f file at [] named before selfs calls some in_function in_file small long fits s = absurd (omega arith)
  costs_done f file at (cost ∷ costs) named before selfs calls some in_function in_file small long fits s =
      after_costs head m sound sound.few_functions sound.few_files f file at cost costs named before selfs calls
      in_function in_file small long fits s

  call_done : (f callee : FuncId) (file : FileId) (count entry at : ℕ) (costs : List ℕ) (named : Bool)
      (before : List Mark) (given : Option (List ℕ)) (selfs : List NamedSelf) (calls : List NamedCall)
      → 0 < length costs → IsFunc m callee → current_function before ≡ Some f → current_file before ≡ Some file
      → unwrap_or given (file_text m file) ≡ (identity_of m callee).file
      → count < 2 ^ 64 → entry < 2 ^ 64 → at < 2 ^ 64
      → length costs ≡ length (events_shown head.branch event_names) → All (λ n. n < 2 ^ 64) costs
      → Stands head m named before given selfs calls
      → Stands head m named (Costs at costs ∷ Calls count entry ∷ Callee callee ∷ before) None selfs
      (calls ++ record {
        caller = key_of head m f;
        file = file_text m file;
        line = at;
        callee = key_of head m callee;
        calls = count;
        cost = costs;
      } ∷ [])
  call_done f callee file count entry at [] named before given selfs calls some within in_function in_file home
      count_fits entry_fits at_fits long fits s = absurd (omega arith)
  call_done f callee file count entry at (cost ∷ costs) named before given selfs calls some within in_function in_file
      home count_fits entry_fits at_fits long fits s =
      after_call head m sound sound.few_functions sound.few_files f callee file count entry at cost costs named before
      given selfs calls within in_function in_file home count_fits entry_fits at_fits long fits s

  shown_any : (cost : List ℕ) → IsWhole cost → 0 < length (events_shown head.branch cost)
  shown_any cost whole =
      let long = shown_length head.branch cost whole in let some = shown_some head.branch in omega (arith, long, some)

  pub after_line : (row : LineRow) (before : List Mark) (selfs : List NamedSelf) (calls : List NamedCall)
      → IsKnownLine m row → FitsLine row → Standing head m before selfs calls
      → Standing head m (after_row head m before (Line row)) (selfs ++ named_line (naming head m) row ∷ []) calls
  after_line row before selfs calls known fits standing =
      let placed = enter_place row.place.func row.place.file before selfs calls known.function known.file standing in
      let there : List Mark = at_row head m before (Line row) in (
        placed.0.0,
        costs_done row.place.func row.place.file row.place.line (events_shown head.branch row.cost) placed.0.0 there
            selfs calls (shown_any row.cost fits.whole) placed.2 placed.1 fits.line
            (shown_length head.branch row.cost fits.whole) (shown_small head.branch row.cost fits.cost) placed.0.1,
      )

  -- in the file of a callee, where it isn't the current one
  enter_callee : (f callee : FuncId) (file : FileId) (named : Bool) (before : List Mark) (selfs : List NamedSelf)
      (calls : List NamedCall) → IsFunc m callee → current_function before ≡ Some f → current_file before ≡ Some file
      → Stands head m named before None selfs calls
      → (given : Option (List ℕ)) × Stands head m named (in_file OfCallee (home_of m callee) before) given selfs calls
      × (unwrap_or given (file_text m file) ≡ (identity_of m callee).file)
      × (current_function (in_file OfCallee (home_of m callee) before) ≡ Some f)
      × (current_file (in_file OfCallee (home_of m callee) before) ≡ Some file)
  enter_callee f callee file named before selfs calls within in_function file_is s =
      go (is_file (current_file before) (home_of m callee)) refl
    where
      go : (b : Bool) → is_file (current_file before) (home_of m callee) ≡ b
          → (given : Option (List ℕ)) × Stands head m named (with_callee m callee before b) given selfs calls
          × (unwrap_or given (file_text m file) ≡ (identity_of m callee).file)
          × (current_function (with_callee m callee before b) ≡ Some f) × (current_file
          (with_callee m callee before b) ≡ Some file)
      go true is =
          let same : Some file ≡ Some (home_of m callee) =
          sym file_is ∙ found_file (current_file before) (home_of m callee) is in (
            None,
            s,
            ap (λ (o : Option FileId). option_map_or (file_text m) o []) same
                ∙ sound.home_texts callee within,
            in_function,
            file_is,
          )
      go false is = (
        Some (file_text m (home_of m callee)),
        after_callee_file head m sound sound.few_functions sound.few_files (home_of m callee) named before selfs calls
            (sound.homes callee within) s,
        sound.home_texts callee within,
        in_function,
        file_is,
      )

  pub after_arc : (row : ArcRow) (before : List Mark) (selfs : List NamedSelf) (calls : List NamedCall)
      → IsKnownArc m row → FitsArc row → Standing head m before selfs calls
      → Standing head m (after_row head m before (Arc row)) selfs (calls ++ named_arc (naming head m) row ∷ [])
  after_arc row before selfs calls known fits standing =
      let placed = enter_place row.arc.caller row.arc.file before selfs calls known.caller known.file standing in
      let there : List Mark = at_row head m before (Arc row) in
      let called = enter_callee row.arc.caller row.arc.callee row.arc.file placed.0.0 there selfs calls known.callee
      placed.2 placed.1 placed.0.1 in
      let entry = sound.entry_lines row.arc.callee known.callee in (
        placed.0.0,
        call_done row.arc.caller row.arc.callee row.arc.file row.calls (entry_line_of m row.arc.callee) row.arc.line
            (events_shown head.branch row.cost) placed.0.0 (in_file OfCallee (home_of m row.arc.callee) there) called.0
            selfs calls (shown_any row.cost fits.whole) known.callee called.3 called.4 called.2 fits.calls
            (omega (arith, entry)) fits.line (shown_length head.branch row.cost fits.whole)
            (shown_small head.branch row.cost fits.cost) called.1,
      )

  -- all rows, one after another
  pub after_rows : (rows : List Row) (before : List Mark) (selfs : List NamedSelf) (calls : List NamedCall)
      → AllByRecursion (CanWrite m) rows → Standing head m before selfs calls
      → Standing head m (fold (after_row head m) before rows) (selfs ++ flat_map (selfs_of head m) rows)
      (calls ++ flat_map (calls_of head m) rows)
  after_rows [] before selfs calls all standing =
      subst (λ (s : List NamedSelf). Standing head m before s (calls ++ [])) (sym (append-nil selfs))
      (subst (λ (c : List NamedCall). Standing head m before selfs c) (sym (append-nil calls)) standing)
  after_rows (Line row ∷ rows) before selfs calls all standing =
      subst (λ (s : List NamedSelf). Standing head m (fold (after_row head m) (after_row head m before (Line row)) rows)
      s (calls ++ flat_map (calls_of head m) rows))
      (append_assoc selfs (named_line (naming head m) row ∷ []) (flat_map (selfs_of head m) rows))
      (after_rows rows (after_row head m before (Line row)) (selfs ++ named_line (naming head m) row ∷ []) calls all.1
      (after_line row before selfs calls all.0.0 all.0.1 standing))
  after_rows (Arc row ∷ rows) before selfs calls all standing =
      subst (λ (c : List NamedCall). Standing head m (fold (after_row head m) (after_row head m before (Arc row)) rows)
      (selfs ++ flat_map (selfs_of head m) rows) c)
      (append_assoc calls (named_arc (naming head m) row ∷ []) (flat_map (calls_of head m) rows))
      (after_rows rows (after_row head m before (Arc row)) selfs (calls ++ named_arc (naming head m) row ∷ []) all.1
      (after_arc row before selfs calls all.0.0 all.0.1 standing))
