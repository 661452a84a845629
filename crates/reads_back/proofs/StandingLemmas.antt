-- What the reader knows after lines that a writer has written.
use Rattle.byte_text.specs.Names.{unknown as unknown_name}
use Rattle.sym_map.specs.Places.{Identity, unknown_function}
use Rattle.sym_map.specs.SymbolMap.{identity_in}
use Rattle.std.proofs.Common.{get_or}
use Rattle.std.proofs.lemmas.List.{get_or-map}
use Rattle.cg_format.specs.Marks.{mark_text}
use Rattle.std.specs.Option.{option_map_or}
use Rattle.std.proofs.Common.{◌≡◌, ℕ, suc, ◌+◌, ◌&&◌, ◌<◌, ◌^◌, Bool, true, false, not, ◌==◌, cond, List, []}
use Rattle.std.proofs.Common.{◌∷◌, ◌++◌, length, Option}
use Rattle.std.proofs.Common.{Some, None, is_some, unwrap_or, option_map, refl, sym, ap, ◌∙◌, subst, arith, All}
use Rattle.std.proofs.Common.{append-nil}
use Rattle.std.proofs.lemmas.Bool.Decides.{nat_tests}
use Rattle.event_costs.specs.Costs.{event_names, events_shown}
use Rattle.byte_text.specs.Names.{clean_name, unknown}
use Rattle.event_costs.specs.declared.numbers.FileId.{FileId}
use Rattle.event_costs.specs.declared.numbers.FuncId.{FuncId}
use Rattle.sym_map.specs.SymbolMap.{IsCleaned, IsSound}
use Rattle.sym_map.specs.SymbolMap.{SymbolMap, IsFile, IsFunc, file_text, home_of, identity_of}
use Rattle.cg_format.specs.Heading.{object_line}
use Rattle.cg_format.specs.Marks.{Mark, Plain, File, Function, Callee, Calls, Costs, add_number, files, functions, is_in}
use Rattle.cg_format.specs.Part.{current_file, current_function}
use Rattle.cg_format.specs.declared.file_key.FileKey.{FileKey}
use Rattle.cg_format.specs.declared.file_key.FileKey.TheVariants.{Home, Other, Back, OfCallee}
use Rattle.cg_format.specs.declared.head.PartHead.{PartHead}
use Rattle.cg_read.specs.Meaning as meaning
use Rattle.cg_read.specs.Meaning.{call_rows, fault, fault_alone, or_else, self_rows}
use Rattle.cg_read.specs.Faults.{error_at}
use Rattle.cg_read.specs.Profiles.{NamedCall, NamedSelf}
use Rattle.cg_read.specs.Reading.{bad_line}
use Rattle.cg_read.specs.declared.error.FormatError.{FormatError}
use Rattle.cg_lines.specs.Shapes.{follows_call}
use Rattle.cg_lines.specs.declared.fault.Fault.TheVariants.{BadLine}
use Rattle.cg_lines.specs.declared.line.Line.{Line}
use Rattle.cg_lines.specs.declared.line.Line.TheVariants as line
use Rattle.cg_lines.specs.declared.name.Name.TheVariants.{Named}
use Rattle.cg_lines.specs.declared.number.Number.TheVariants.{Fits}
use Rattle.cg_lines.specs.declared.sub_position.SubPosition.TheVariants.{At}
use Rattle.reads_back.specs.Rows.{key_of}
use Rattle.reads_back.proofs.CleanLemmas.{IsName, cleaned_name}
use Rattle.reads_back.proofs.CostLemmas.{cost_fine, cost_read}
use Rattle.reads_back.proofs.IdLemmas.{AreIds, ids_named, named_known}
use Rattle.reads_back.proofs.LineLemmas.{AreClear, lines_of_marks}
use Rattle.reads_back.proofs.ShapeLemmas.{Spells, costs_read, name_read, spells_callee, spells_calls}
use Rattle.reads_back.proofs.ShapeLemmas.{spells_costs, spells_file, spells_function}

abbrev pub file_name : SymbolMap → ℕ → List ℕ
file_name m n = file_text m (record { 0 = n })

abbrev pub function_name : SymbolMap → ℕ → List ℕ
function_name m n = (identity_of m (record { 0 = n })).name

-- After these lines, of which none is bad, the reader knows the events and the command, the current file and function
-- are the writer's, the ids stand for the texts, no call waits for its cost line, and these rows were read. The
-- callee's file is as given, and so is whether the object was named.
pub record Stands (head : PartHead) (m : SymbolMap) (named : Bool) (before : List Mark) (callee : Option (List ℕ))
    (selfs : List NamedSelf) (calls : List NamedCall) : Type 0 where
  pub history : List Line
  pub clear : AreClear m before
  pub same : lines_of_marks m before ≡ history
  pub fine : bad_line history ≡ None
  pub no_call : meaning.open_call history ≡ None
  pub events : meaning.events history ≡ Some (events_shown head.branch event_names)
  pub command : meaning.command history ≡ Some (clean_name head.cmd)
  pub object : named ≡ true → meaning.current_object history ≡ clean_name head.object
  pub written : (length (functions before) == 0) ≡ false → named ≡ true
  pub begun : (f : FuncId) → current_function before ≡ Some f → (length (functions before) == 0) ≡ false
  pub file : (f : FileId) → current_file before ≡ Some f → meaning.current_file history ≡ file_text m f
  pub function : (f : FuncId) → current_function before ≡ Some f
      → meaning.current_function history ≡ key_of head m f
  pub callee_object : meaning.callee_object history ≡ None
  pub callee_file : meaning.callee_file history ≡ callee
  pub file_ids : AreIds (length m.files) (file_name m) (files before) (λ q. meaning.file_ids history q)
  pub function_ids : AreIds (length m.functions) (function_name m) (functions before)
      (λ q. meaning.function_ids history q)
  pub self_rows : self_rows history ≡ selfs
  pub call_rows : call_rows history ≡ calls

-- a line that may stand where it does, and has no fault
fine_if : (history : List Line) (l : Line) → bad_line history ≡ None
    → (is_some (meaning.open_call history) && not (follows_call l)) ≡ false → fault_alone history l ≡ None
    → bad_line (l ∷ history) ≡ None
fine_if history l fine free alone =
    ap (λ (o : Option FormatError). or_else o (option_map (error_at (length history + 1)) (fault history l))) fine
    ∙ ap (λ b. option_map (error_at (length history + 1)) (cond b (Some BadLine) (fault_alone history l))) free
    ∙ ap (option_map (error_at (length history + 1))) alone

-- a line that follows no call
pub fine_more : (history : List Line) (l : Line) → bad_line history ≡ None → meaning.open_call history ≡ None
    → fault_alone history l ≡ None → bad_line (l ∷ history) ≡ None
fine_more history l fine closed alone =
    fine_if history l fine (ap (λ (o : Option meaning.Call). is_some o && not (follows_call l)) closed) alone

not_zero : (n : ℕ) → (suc n == 0) ≡ false
not_zero n = grind (arith, nat_tests)

added_some : (written : List ℕ) (n : ℕ) → (length (add_number written n) == 0) ≡ false
added_some written n = go (is_in written n) refl
  where
    some : (xs : List ℕ) → (length (xs ++ n ∷ []) == 0) ≡ false
    some [] = not_zero 0
    some (x ∷ xs) = not_zero (length (xs ++ n ∷ []))

    old : (xs : List ℕ) → is_in xs n ≡ true → (length xs == 0) ≡ false
    old [] is = absurd (cc)
    old (x ∷ xs) is = not_zero (length xs)

    go : (b : Bool) → is_in written n ≡ b → (length (cond b written (written ++ n ∷ [])) == 0) ≡ false
    go true is = old written is
    go false is = some written

abbrev Element : {A : Type 0} → List A → Type 0
Element {A} list = A

name_of_cleaned : (text : List ℕ) → IsCleaned text → IsName text
name_of_cleaned text cleaned_from = subst IsName (sym cleaned_from.1) (cleaned_name cleaned_from.0)

module _ (head : PartHead) (m : SymbolMap) (sound : IsSound m) (few_functions : length m.functions < 2 ^ 32)
    (few_files : length m.files < 2 ^ 32) where
  pub file_is_name : (f : FileId) → IsFile m f → IsName (file_text m f)
  file_is_name f within =
      name_of_cleaned (file_text m f)
      (sound.files_cleaned f.0 unknown_name within)

  pub function_is_name : (f : FuncId) → IsFunc m f → IsName (identity_of m f).name
  function_is_name f within =
      let d : Element m.functions = record { home = record { 0 = 0 }; name = [] } in
      let at : identity_of m f
      ≡ identity_in m.files (get_or m.functions f.0 d) =
      get_or-map (identity_in m.files) m.functions f.0 d
      unknown_function within in
      subst IsName (sym (ap (λ (i : Identity). i.name) at))
      (name_of_cleaned (get_or m.functions f.0 d).name (sound.functions_cleaned f.0 d within))

  -- an empty line
  pub after_blank : (named : Bool) (before : List Mark) (callee : Option (List ℕ)) (selfs : List NamedSelf)
      (calls : List NamedCall)
      → Stands head m named before callee selfs calls → Stands head m named (Plain [] ∷ before) callee selfs calls
  after_blank named before callee selfs calls s = record {
    history = line.Blank ∷ s.history;
    clear = (s.clear, refl);
    same = ap (λ (ls : List Line). line.Blank ∷ ls) s.same;
    fine = fine_more s.history line.Blank s.fine s.no_call refl;
    no_call = s.no_call;
    events = s.events;
    command = s.command;
    object = s.object;
    written = s.written;
    begun = s.begun;
    file = s.file;
    function = s.function;
    callee_object = s.callee_object;
    callee_file = s.callee_file;
    file_ids = s.file_ids;
    function_ids = s.function_ids;
    self_rows = s.self_rows;
    call_rows = s.call_rows;
  }

  -- a line that is passed over
  pub after_header : (text : List ℕ) (named : Bool) (before : List Mark) (callee : Option (List ℕ))
      (selfs : List NamedSelf)
      (calls : List NamedCall) → Spells text line.Header
      → Stands head m named before callee selfs calls → Stands head m named (Plain text ∷ before) callee selfs calls
  after_header text named before callee selfs calls spells s = record {
    history = line.Header ∷ s.history;
    clear = (s.clear, spells.clear);
    same = λ i. spells.said i ∷ s.same i;
    fine = fine_more s.history line.Header s.fine s.no_call refl;
    no_call = refl;
    events = s.events;
    command = s.command;
    object = s.object;
    written = s.written;
    begun = s.begun;
    file = s.file;
    function = s.function;
    callee_object = s.callee_object;
    callee_file = s.callee_file;
    file_ids = s.file_ids;
    function_ids = s.function_ids;
    self_rows = s.self_rows;
    call_rows = s.call_rows;
  }

  -- the object
  pub after_object : (named : Bool) (before : List Mark) (selfs : List NamedSelf) (calls : List NamedCall)
      → Spells (object_line head) (line.Object (Named (49 ∷ []) (clean_name head.object)))
      → Stands head m named before None selfs calls → Stands head m true (Plain
      (object_line head) ∷ before) None selfs calls
  after_object named before selfs calls spells s =
      let l : Line = line.Object (Named (49 ∷ []) (clean_name head.object)) in
      record {
        history = l ∷ s.history;
        clear = (s.clear, spells.clear);
        same = λ i. spells.said i ∷ s.same i;
        fine = fine_more s.history l s.fine s.no_call refl;
        no_call = refl;
        events = s.events;
        command = s.command;
        object = λ yes_named. refl;
        written = λ some. refl;
        begun = s.begun;
        file = s.file;
        function = s.function;
        callee_object = s.callee_object;
        callee_file = s.callee_file;
        file_ids = s.file_ids;
        function_ids = s.function_ids;
        self_rows = s.self_rows;
        call_rows = s.call_rows;
      }

  -- what the id of a file that is written stands for
  abbrev file_known : (named : Bool) (before : List Mark) (callee : Option (List ℕ)) (selfs : List NamedSelf)
      (calls : List NamedCall)
      (s : Stands head m named before callee selfs calls) (f : FileId)
      → meaning.text_of (λ q. meaning.file_ids s.history q) (name_read (files before) f.0 (file_text m f))
      ≡ Some (file_text m f)
  file_known named before callee selfs calls s f =
      named_known (length m.files) (file_name m) few_files (files before) (λ q. meaning.file_ids s.history q) s.file_ids
      f.0

  abbrev function_known : (named : Bool) (before : List Mark) (callee : Option (List ℕ)) (selfs : List NamedSelf)
      (calls : List NamedCall) (s : Stands head m named before callee selfs calls) (f : FuncId)
      → meaning.text_of (λ q. meaning.function_ids s.history q)
      (name_read (functions before) f.0 (identity_of m f).name) ≡ Some (identity_of m f).name
  function_known named before callee selfs calls s f =
      named_known (length m.functions) (function_name m) few_functions (functions before)
      (λ q. meaning.function_ids s.history q) s.function_ids f.0

  -- a file that becomes the current one
  file_set : (key : FileKey) (f : FileId) (named : Bool) (before : List Mark) (selfs : List NamedSelf)
      (calls : List NamedCall)
      → IsFile m f → current_file (File key f ∷ before) ≡ Some f → current_function (File key f ∷ before)
      ≡ current_function before
      → Spells (mark_text m before (File key f))
      (line.File (name_read (files before) f.0 (file_text m f)))
      → Stands head m named before None selfs calls → Stands head m named (File key f ∷ before) None selfs calls
  file_set key f named before selfs calls within is still spells s =
      let name = name_read (files before) f.0 (file_text m f) in
      let l : Line = line.File name in
      let known = file_known named before None selfs calls s f in
      record {
        history = l ∷ s.history;
        clear = (s.clear, spells.clear);
        same = λ i. spells.said i ∷ s.same i;
        fine = fine_more s.history l s.fine s.no_call (ap meaning.id_fault known);
        no_call = refl;
        events = s.events;
        command = s.command;
        object = s.object;
        written = s.written;
        begun = λ g at. s.begun g (sym still ∙ at);
        file = λ g at.
            let same : Some f ≡ Some g = sym is ∙ at in
            ap (λ (o : Option (List ℕ)). unwrap_or o unknown) known
            ∙ ap (λ (o : Option FileId). option_map_or (file_text m) o []) same;
        function = λ g at. s.function g (sym still ∙ at);
        callee_object = s.callee_object;
        callee_file = s.callee_file;
        file_ids = ids_named (length m.files) (file_name m) few_files (files before)
            (λ q. meaning.file_ids s.history q) s.file_ids f.0 within;
        function_ids = s.function_ids;
        self_rows = s.self_rows;
        call_rows = s.call_rows;
      }

  pub after_home : (f : FileId) (named : Bool) (before : List Mark) (selfs : List NamedSelf)
      (calls : List NamedCall) → IsFile m f
      → Stands head m named before None selfs calls → Stands head m named (File Home f ∷ before) None selfs calls
  after_home f named before selfs calls within s =
      file_set Home f named before selfs calls within refl refl (spells_file m before Home f (file_is_name f within)) s

  pub after_other : (f : FileId) (named : Bool) (before : List Mark) (selfs : List NamedSelf)
      (calls : List NamedCall) → IsFile m f
      → Stands head m named before None selfs calls → Stands head m named (File Other f ∷ before) None selfs calls
  after_other f named before selfs calls within s =
      file_set Other f named before selfs calls within refl refl (spells_file m before Other f
      (file_is_name f within)) s

  pub after_back : (f : FileId) (named : Bool) (before : List Mark) (selfs : List NamedSelf)
      (calls : List NamedCall) → IsFile m f
      → Stands head m named before None selfs calls → Stands head m named (File Back f ∷ before) None selfs calls
  after_back f named before selfs calls within s =
      file_set Back f named before selfs calls within refl refl (spells_file m before Back f (file_is_name f within)) s

  -- a callee's file
  pub after_callee_file : (f : FileId) (named : Bool) (before : List Mark) (selfs : List NamedSelf)
      (calls : List NamedCall)
      → IsFile m f → Stands head m named before None selfs calls
      → Stands head m named (File OfCallee f ∷ before) (Some (file_text m f)) selfs calls
  after_callee_file f named before selfs calls within s =
      let name = name_read (files before) f.0 (file_text m f) in
      let l : Line = line.CalleeFile name in
      let spells = spells_file m before OfCallee f (file_is_name f within) in
      let known = file_known named before None selfs calls s f in
      record {
        history = l ∷ s.history;
        clear = (s.clear, spells.clear);
        same = λ i. spells.said i ∷ s.same i;
        fine = fine_more s.history l s.fine s.no_call (ap meaning.id_fault known);
        no_call = refl;
        events = s.events;
        command = s.command;
        object = s.object;
        written = s.written;
        begun = s.begun;
        file = s.file;
        function = s.function;
        callee_object = s.callee_object;
        callee_file = known;
        file_ids = ids_named (length m.files) (file_name m) few_files (files before)
            (λ q. meaning.file_ids s.history q) s.file_ids f.0 within;
        function_ids = s.function_ids;
        self_rows = s.self_rows;
        call_rows = s.call_rows;
      }

  -- a function, in its file and object
  pub after_function : (f : FuncId) (before : List Mark) (selfs : List NamedSelf) (calls : List NamedCall) → IsFunc m f
      → current_file before ≡ Some (home_of m f)
      → Stands head m true before None selfs calls → Stands head m true (Function f ∷ before) None selfs calls
  after_function f before selfs calls within there s =
      let name = name_read (functions before) f.0 (identity_of m f).name in
      let l : Line = line.Function name in
      let spells = spells_function m before f (function_is_name f within) in
      let known = function_known true before None selfs calls s f in
      let file : meaning.current_file s.history ≡ (identity_of m f).file =
      s.file (home_of m f) there ∙ sound.home_texts f within in
      let object : meaning.current_object s.history ≡ clean_name head.object = s.object refl in
      record {
        history = l ∷ s.history;
        clear = (s.clear, spells.clear);
        same = λ i. spells.said i ∷ s.same i;
        fine = fine_more s.history l s.fine s.no_call (ap meaning.id_fault known);
        no_call = refl;
        events = s.events;
        command = s.command;
        object = s.object;
        written = λ some. refl;
        begun = λ g at. added_some (functions before) f.0;
        file = s.file;
        function = λ g at.
            (λ i. record {
              object = object i;
              file = file i;
              name = unwrap_or (known i) unknown;
            })
            ∙ ap (λ (o : Option FuncId). option_map_or (key_of head m) o (key_of head m f)) at;
        callee_object = s.callee_object;
        callee_file = s.callee_file;
        file_ids = s.file_ids;
        function_ids = ids_named (length m.functions) (function_name m) few_functions (functions before)
            (λ q. meaning.function_ids s.history q) s.function_ids f.0 within;
        self_rows = s.self_rows;
        call_rows = s.call_rows;
      }

  -- a line of costs that follows no call
  pub after_costs : (f : FuncId) (file : FileId) (at cost : ℕ) (costs : List ℕ) (named : Bool) (before : List Mark)
      (selfs : List NamedSelf) (calls : List NamedCall) → current_function before ≡ Some f
      → current_file before ≡ Some file → at < 2 ^ 64
      → length (cost ∷ costs) ≡ length (events_shown head.branch event_names) → All (λ n. n < 2 ^ 64) (cost ∷ costs)
      → Stands head m named before None selfs calls
      → Stands head m named (Costs at (cost ∷ costs) ∷ before) None
      (selfs ++ record {
        function = key_of head m f;
        file = file_text m file;
        line = at;
        cost = cost ∷ costs;
      } ∷ []) calls
  after_costs f file at cost costs named before selfs calls in_function in_file small long fits s =
      let l : Line = line.Cost (At (Fits at)) (costs_read (cost ∷ costs)) in
      let spells = spells_costs m before at cost costs small in
      let names : List (List ℕ) = events_shown head.branch event_names in
      record {
        history = l ∷ s.history;
        clear = (s.clear, spells.clear);
        same = λ i. spells.said i ∷ s.same i;
        fine = fine_more s.history l s.fine s.no_call
            (cost_fine (meaning.events s.history) names at cost costs s.events long fits);
        no_call = refl;
        events = s.events;
        command = s.command;
        object = s.object;
        written = s.written;
        begun = s.begun;
        file = s.file;
        function = s.function;
        callee_object = s.callee_object;
        callee_file = s.callee_file;
        file_ids = s.file_ids;
        function_ids = s.function_ids;
        self_rows = λ i. s.self_rows i ++ meaning.self_if (s.no_call i) (record {
          function = s.function f in_function i;
          file = s.file file in_file i;
          line = at;
          cost = cost_read s.history names cost costs s.events long fits i;
        });
        call_rows =
            (λ i. s.call_rows i ++ meaning.call_if (s.no_call i)
            (meaning.call_row s.history (At (Fits at)) (costs_read (cost ∷ costs))))
            ∙ append-nil calls;
      }

  -- a callee, its call and its costs
  pub after_call : (f callee : FuncId) (file : FileId) (count entry at cost : ℕ) (costs : List ℕ) (named : Bool)
      (before : List Mark)
      (given : Option (List ℕ)) (selfs : List NamedSelf) (calls : List NamedCall) → IsFunc m callee
      → current_function before ≡ Some f → current_file before ≡ Some file
      → unwrap_or given (file_text m file) ≡ (identity_of m callee).file
      → count < 2 ^ 64 → entry < 2 ^ 64 → at < 2 ^ 64
      → length (cost ∷ costs) ≡ length (events_shown head.branch event_names) → All (λ n. n < 2 ^ 64) (cost ∷ costs)
      → Stands head m named before given selfs calls
      → Stands head m named (Costs at (cost ∷ costs) ∷ Calls count entry ∷ Callee callee ∷ before) None selfs
      (calls ++ record {
        caller = key_of head m f;
        file = file_text m file;
        line = at;
        callee = key_of head m callee;
        calls = count;
        cost = cost ∷ costs;
      } ∷ [])
  after_call f callee file count entry at cost costs named before given selfs calls within in_function in_file home
      count_fits entry_fits at_fits long fits s =
      let name = name_read (functions before) callee.0 (identity_of m callee).name in
      let first : Line = line.Callee name in
      let second : Line = line.Calls (Fits count) (At (Fits entry)) in
      let third : Line = line.Cost (At (Fits at)) (costs_read (cost ∷ costs)) in
      let spells_1 = spells_callee m before callee (function_is_name callee within) in
      let spells_2 = spells_calls m (Callee callee ∷ before) count entry count_fits entry_fits in
      let spells_3 = spells_costs m (Calls count entry ∷ Callee callee ∷ before) at cost costs at_fits in
      let names : List (List ℕ) = events_shown head.branch event_names in
      let known = function_known named before given selfs calls s callee in
      let object : meaning.current_object s.history ≡ clean_name head.object =
      s.object (s.written (s.begun f in_function)) in
      let callee_at : unwrap_or (meaning.callee_file s.history) (meaning.current_file s.history)
      ≡ (identity_of m callee).file =
      (λ i. unwrap_or (s.callee_file i) (s.file file in_file i)) ∙ home in
      let fine_1 : bad_line (first ∷ s.history) ≡ None =
      fine_more s.history first s.fine s.no_call (ap meaning.id_fault known) in
      let fine_2 : bad_line (second ∷ first ∷ s.history) ≡ None =
      fine_more (first ∷ s.history) second fine_1 refl
      (λ i. meaning.calls_fault (s.events i) (known i) (Fits count) (Some entry)) in
      let cost_is : meaning.cost_of (second ∷ first ∷ s.history) (costs_read (cost ∷ costs)) ≡ cost ∷ costs =
      cost_read (second ∷ first ∷ s.history) names cost costs s.events long fits in
      record {
        history = third ∷ second ∷ first ∷ s.history;
        clear = (((s.clear, spells_1.clear), spells_2.clear), spells_3.clear);
        same = λ i. spells_3.said i ∷ spells_2.said i ∷ spells_1.said i ∷ s.same i;
        fine = fine_if (second ∷ first ∷ s.history) third fine_2 refl
            (cost_fine (meaning.events s.history) names at cost costs s.events long fits);
        no_call = refl;
        events = s.events;
        command = s.command;
        object = s.object;
        written = λ some. s.written (s.begun f in_function);
        begun = λ g at. added_some (functions before) callee.0;
        file = s.file;
        function = s.function;
        callee_object = refl;
        callee_file = refl;
        file_ids = s.file_ids;
        function_ids = ids_named (length m.functions) (function_name m) few_functions (functions before)
            (λ q. meaning.function_ids s.history q) s.function_ids callee.0 within;
        self_rows = append-nil (self_rows s.history) ∙ s.self_rows;
        call_rows = λ i. s.call_rows i ++ record {
          caller = s.function f in_function i;
          file = s.file file in_file i;
          line = at;
          callee = record {
            object = unwrap_or (s.callee_object i) (object i);
            file = callee_at i;
            name = unwrap_or (known i) unknown;
          };
          calls = count;
          cost = cost_is i;
        } ∷ [];
      }
