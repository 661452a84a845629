-- What is read of a part by address, beside the same part without its addresses: line by line.
use Rattle.std.proofs.Common.{◌≡◌, ℕ, ◌<◌, ◌^◌, Bool, true, false, not, ◌&&◌, ◌||◌}
use Rattle.std.proofs.Common.{◌==◌, cond, List, [], ◌∷◌, ◌++◌, length}
use Rattle.std.proofs.Common.{append-nil, codes, decimal, Option, None, Some, is_some, refl, sym, ap, ◌∙◌, subst}
use Rattle.std.specs.List.{list_all}
use Rattle.byte_text.specs.Names.{is_printable}
use Rattle.event_costs.specs.declared.numbers.FileId.{FileId}
use Rattle.event_costs.specs.declared.numbers.FuncId.{FuncId}
use Rattle.sym_map.specs.SymbolMap.{IsFile, IsFunc, IsSound, SymbolMap, file_text, home_of, identity_of}
use Rattle.cg_format.specs.Heading.{object_line}
use Rattle.cg_format.specs.Marks.{Mark, Plain, File, Function, Callee, Calls, Costs, add_number, cost_text, files, functions}
use Rattle.cg_format.specs.Marks.{key_text, id_text, mark_text}
use Rattle.cg_format.specs.Part.{at_row, current_file, current_function, in_file, in_function, in_object, is_file}
use Rattle.cg_format.specs.Part.{is_function, place_key}
use Rattle.cg_format.specs.Rows.{file_of, function_of}
use Rattle.cg_format.specs.declared.file_key.FileKey.{FileKey}
use Rattle.cg_format.specs.declared.file_key.FileKey.TheVariants.{Home, Other, Back, OfCallee}
use Rattle.cg_format.specs.declared.head.PartHead.{PartHead}
use Rattle.cg_format.specs.declared.row.Row.{Row}
use Rattle.cg_read.specs.AddressReading.{positions_in}
use Rattle.cg_read.specs.Addresses.{address_at, address_fault, address_if, without_addresses, base}
use Rattle.cg_lines.specs.Addressed.{addressed_of, alone}
use Rattle.cg_read.specs.Addresses.{call_addresses, has_positions, is_early, order_fault}
use Rattle.cg_lines.specs.Shapes.{is_cost, is_positions}
use Rattle.cg_read.specs.Addresses.{self_addresses}
use Rattle.cg_lines.specs.Positions.{two_parts}
use Rattle.cg_read.specs.Meaning as meaning
use Rattle.cg_read.specs.Meaning.{events, open_call, or_else}
use Rattle.cg_lines.specs.Shapes.{line_of}
use Rattle.cg_lines.specs.declared.addressed.AddressedLine.{AddressedLine}
use Rattle.cg_lines.specs.declared.line.Line.{Line}
use Rattle.cg_lines.specs.declared.line.Line.TheVariants as kind
use Rattle.cg_lines.specs.declared.name.Name.{Name}
use Rattle.cg_lines.specs.declared.number.Number.TheVariants.{Fits}
use Rattle.cg_lines.specs.declared.sub_position.SubPosition.TheVariants.{At}
use Rattle.addr_rows.specs.Texts.{position}
use Rattle.report_laws.proofs.Others.{says_object, AreClear, lines_of_marks, Spells, costs_read, file_line}
use Rattle.report_laws.proofs.Others.{spells_callee, spells_calls, spells_costs, spells_file, spells_function}
use Rattle.reads_back.proofs.StandingLemmas.{file_is_name, function_is_name}
use Rattle.report_laws.proofs.SayLemmas.{is_quiet, says_alone, says_calls, says_costs}

-- what the lines say with their addresses, the newest first
abbrev pub addr_read : SymbolMap → List Mark → List AddressedLine
addr_read m [] = []
addr_read m (mark ∷ before) = addressed_of (mark_text m before mark) ∷ addr_read m before

-- no line stands too early, and each address is a number of 64 bits
abbrev pub AreFine : List AddressedLine → Type 0
AreFine [] = Unit {0}
AreFine (a ∷ before) =
    (order_fault (is_early before a) ≡ None) × ((n : ℕ) → address_fault n a.address ≡ None) × AreFine before

-- the words of the first line on positions, where the newest line stands first
abbrev pub first_positions_of : List Line → Option (List (List ℕ))
first_positions_of [] = None
first_positions_of (l ∷ before) = or_else (first_positions_of before) (positions_in l)

-- Lines by address, and the same lines without addresses: they name the same files and functions, no call waits for its
-- cost line, and rows with these addresses were read.
pub record Beside (m : SymbolMap) (marks plain : List Mark) (selfs calls : List ℕ) : Type 0 where
  pub history : List AddressedLine
  pub clear : AreClear m marks
  pub same : addr_read m marks ≡ history
  pub lines : without_addresses history ≡ lines_of_marks m plain
  pub files_are : files marks ≡ files plain
  pub functions_are : functions marks ≡ functions plain
  pub file : current_file marks ≡ current_file plain
  pub function : current_function marks ≡ current_function plain
  pub closed : open_call (without_addresses history) ≡ None
  pub placed : has_positions history ≡ true
  pub fine : AreFine history
  pub self_rows : self_addresses history ≡ selfs
  pub call_rows : call_addresses history ≡ calls
  pub positions : first_positions_of (lines_of_marks m marks) ≡ Some two_parts

-- ---- lines without a position

quiet_closed : (l : Line) (before : List Line) → is_quiet l ≡ true → open_call before ≡ None
    → open_call (l ∷ before) ≡ None
quiet_closed kind.Blank before is closed = closed
quiet_closed kind.Header before is closed = refl
quiet_closed (kind.Command text) before is closed = refl
quiet_closed (kind.Events text) before is closed = refl
quiet_closed (kind.Positions text) before is closed = refl
quiet_closed (kind.Object name) before is closed = refl
quiet_closed (kind.File name) before is closed = refl
quiet_closed (kind.Function name) before is closed = refl
quiet_closed (kind.CalleeObject name) before is closed = refl
quiet_closed (kind.CalleeFile name) before is closed = refl
quiet_closed (kind.Callee name) before is closed = refl
quiet_closed (kind.Calls n place) before is closed = absurd (cc)
quiet_closed kind.BadCalls before is closed = refl
quiet_closed (kind.Cost place costs) before is closed = refl
quiet_closed kind.BadCost before is closed = refl
quiet_closed kind.Jump before is closed = refl
quiet_closed kind.Bad before is closed = refl

quiet_no_cost : (l : Line) → is_quiet l ≡ true → is_cost l ≡ false
quiet_no_cost kind.Blank is = refl
quiet_no_cost kind.Header is = refl
quiet_no_cost (kind.Command text) is = refl
quiet_no_cost (kind.Events text) is = refl
quiet_no_cost (kind.Positions text) is = refl
quiet_no_cost (kind.Object name) is = refl
quiet_no_cost (kind.File name) is = refl
quiet_no_cost (kind.Function name) is = refl
quiet_no_cost (kind.CalleeObject name) is = refl
quiet_no_cost (kind.CalleeFile name) is = refl
quiet_no_cost (kind.Callee name) is = refl
quiet_no_cost (kind.Calls n place) is = refl
quiet_no_cost kind.BadCalls is = refl
quiet_no_cost (kind.Cost place costs) is = absurd (cc)
quiet_no_cost kind.BadCost is = refl
quiet_no_cost kind.Jump is = refl
quiet_no_cost kind.Bad is = refl

or-true : (b : Bool) → (b || true) ≡ true
or-true true = refl
or-true false = refl

and-false : (b : Bool) → (b && false) ≡ false
and-false true = refl
and-false false = refl

still_placed : (a : AddressedLine) (before : List AddressedLine) → has_positions before ≡ true
    → has_positions (a ∷ before) ≡ true
still_placed a before placed = ap (λ b. is_positions a.line || b) placed ∙ or-true (is_positions a.line)

-- a line with a position doesn't stand too early
not_early : (a : AddressedLine) (before : List AddressedLine) → has_positions before ≡ true
    → order_fault (is_early before a) ≡ None
not_early a before placed =
    ap order_fault
    (ap (λ b. is_some a.address && (is_some (events (without_addresses before)) && not b)) placed
    ∙ ap (λ b. is_some a.address && b) (and-false (is_some (events (without_addresses before)))) ∙ and-false (is_some a.address))

-- ---- what a line does to what was written

alike_files : (mark : Mark) (marks plain : List Mark) → files marks ≡ files plain
    → files (mark ∷ marks) ≡ files (mark ∷ plain)
alike_files (Plain text) marks plain e = e
alike_files (File key f) marks plain e = ap (λ xs. add_number xs f.0) e
alike_files (Function f) marks plain e = e
alike_files (Callee f) marks plain e = e
alike_files (Calls n at) marks plain e = e
alike_files (Costs at costs) marks plain e = e

alike_functions : (mark : Mark) (marks plain : List Mark) → functions marks ≡ functions plain
    → functions (mark ∷ marks) ≡ functions (mark ∷ plain)
alike_functions (Plain text) marks plain e = e
alike_functions (File key f) marks plain e = e
alike_functions (Function f) marks plain e = ap (λ xs. add_number xs f.0) e
alike_functions (Callee f) marks plain e = ap (λ xs. add_number xs f.0) e
alike_functions (Calls n at) marks plain e = e
alike_functions (Costs at costs) marks plain e = e

alike_file : (mark : Mark) (marks plain : List Mark) → current_file marks ≡ current_file plain
    → current_file (mark ∷ marks) ≡ current_file (mark ∷ plain)
alike_file (Plain text) marks plain e = e
alike_file (File Home f) marks plain e = refl
alike_file (File Other f) marks plain e = refl
alike_file (File Back f) marks plain e = refl
alike_file (File OfCallee f) marks plain e = e
alike_file (Function f) marks plain e = e
alike_file (Callee f) marks plain e = e
alike_file (Calls n at) marks plain e = e
alike_file (Costs at costs) marks plain e = e

alike_function : (mark : Mark) (marks plain : List Mark) → current_function marks ≡ current_function plain
    → current_function (mark ∷ marks) ≡ current_function (mark ∷ plain)
alike_function (Plain text) marks plain e = e
alike_function (File key f) marks plain e = e
alike_function (Function f) marks plain e = refl
alike_function (Callee f) marks plain e = e
alike_function (Calls n at) marks plain e = e
alike_function (Costs at costs) marks plain e = e

alike_spelled : (m : SymbolMap) (mark : Mark) (marks plain : List Mark) → files marks ≡ files plain
    → functions marks ≡ functions plain → mark_text m marks mark ≡ mark_text m plain mark
alike_spelled m (Plain text) marks plain fs gs = refl
alike_spelled m (File key f) marks plain fs gs = ap (λ xs. key_text key ++ id_text xs f.0 (file_text m f)) fs
alike_spelled m (Function f) marks plain fs gs = ap (λ xs. codes "fn=" ++ id_text xs f.0 (identity_of m f).name) gs
alike_spelled m (Callee f) marks plain fs gs = ap (λ xs. codes "cfn=" ++ id_text xs f.0 (identity_of m f).name) gs
alike_spelled m (Calls n at) marks plain fs gs = refl
alike_spelled m (Costs at costs) marks plain fs gs = refl

quiet_file : (key : FileKey) (name : Name) → is_quiet (file_line key name) ≡ true
quiet_file Home name = refl
quiet_file Other name = refl
quiet_file Back name = refl
quiet_file OfCallee name = refl

-- ---- lines, one after another

module _ (m : SymbolMap) where
  -- a line that is the same in both
  pub step_quiet : (mark : Mark) (l : Line) (marks plain : List Mark) (selfs calls : List ℕ)
      → Spells (mark_text m plain mark) l → is_quiet l ≡ true → Beside m marks plain selfs calls
      → Beside m (mark ∷ marks) (mark ∷ plain) selfs calls
  step_quiet mark l marks plain selfs calls spells quiet b =
      let text_is = alike_spelled m mark marks plain b.files_are b.functions_are in
      record {
        history = alone l ∷ b.history;
        clear = (b.clear, ap (list_all is_printable) text_is ∙ spells.clear);
        same = λ i. (ap addressed_of text_is ∙ says_alone (mark_text m plain mark) l spells.said quiet) i ∷ b.same i;
        lines = λ i. sym spells.said i ∷ b.lines i;
        files_are = alike_files mark marks plain b.files_are;
        functions_are = alike_functions mark marks plain b.functions_are;
        file = alike_file mark marks plain b.file;
        function = alike_function mark marks plain b.function;
        closed = quiet_closed l (without_addresses b.history) quiet b.closed;
        placed = still_placed (alone l) b.history b.placed;
        fine = (refl, λ n. refl, b.fine);
        self_rows =
            ap (λ c. self_addresses b.history
            ++ address_if (c && not (is_some (open_call (without_addresses b.history)))) (address_at (base b.history) None))
            (quiet_no_cost l quiet)
            ∙ append-nil (self_addresses b.history) ∙ b.self_rows;
        call_rows =
            ap (λ c. call_addresses b.history
            ++ address_if (c && is_some (open_call (without_addresses b.history))) (address_at (base b.history) None))
            (quiet_no_cost l quiet)
            ∙ append-nil (call_addresses b.history) ∙ b.call_rows;
        positions = ap (λ (o : Option (List (List ℕ))). or_else o (positions_in (line_of (mark_text m marks mark))))
            b.positions;
      }

  -- an address with its line and costs, where no call waits for them
  pub step_costs : (address at cost : ℕ) (costs : List ℕ) (marks plain : List Mark) (selfs calls : List ℕ)
      → address < 2 ^ 64 → at < 2 ^ 64 → Beside m marks plain selfs calls
      → Beside m (Plain (position address at ++ cost_text (cost ∷ costs)) ∷ marks) (Costs at (cost ∷ costs) ∷ plain)
      (selfs ++ address ∷ []) calls
  step_costs address at cost costs marks plain selfs calls address_small small b =
      let says = says_costs m address at cost costs address_small small in
      let a : AddressedLine = record {
        line = kind.Cost (At (Fits at)) (costs_read (cost ∷ costs));
        address = Some (At (Fits address));
      } in
      record {
        history = a ∷ b.history;
        clear = (b.clear, says.clear);
        same = λ i. says.said i ∷ b.same i;
        lines = λ i. sym (spells_costs m plain at cost costs small).said i ∷ b.lines i;
        files_are = b.files_are;
        functions_are = b.functions_are;
        file = b.file;
        function = b.function;
        closed = refl;
        placed = still_placed a b.history b.placed;
        fine = (not_early a b.history b.placed, λ n. refl, b.fine);
        self_rows =
            ap (λ (o : Option meaning.Call). self_addresses b.history ++ address_if (not (is_some o)) address) b.closed
            ∙ ap (λ xs. xs ++ address ∷ []) b.self_rows;
        call_rows =
            ap (λ (o : Option meaning.Call). call_addresses b.history ++ address_if (is_some o) address) b.closed
            ∙ append-nil (call_addresses b.history) ∙ b.call_rows;
        positions = ap (λ (o : Option (List (List ℕ))). or_else o
            (positions_in (line_of (position address at ++ cost_text (cost ∷ costs))))) b.positions;
      }

  -- a call, and the costs that it waits for
  pub step_call : (n entry entry_line address at cost : ℕ) (costs : List ℕ) (marks plain : List Mark)
      (selfs calls : List ℕ) → n < 2 ^ 64 → entry < 2 ^ 64 → entry_line < 2 ^ 64 → address < 2 ^ 64 → at < 2 ^ 64
      → Beside m marks plain selfs calls
      → Beside m
      (Plain (position address at ++ cost_text (cost ∷ costs))
      ∷ Plain (codes "calls=" ++ decimal n ++ codes " " ++ position entry entry_line) ∷ marks)
      (Costs at (cost ∷ costs) ∷ Calls n entry_line ∷ plain) selfs (calls ++ address ∷ [])
  step_call n entry entry_line address at cost costs marks plain selfs calls n_small entry_small line_small
      address_small small b =
      let told = says_calls m n entry entry_line n_small entry_small line_small in
      let says = says_costs m address at cost costs address_small small in
      let c : AddressedLine = record {
        line = kind.Calls (Fits n) (At (Fits entry_line));
        address = Some (At (Fits entry));
      } in
      let a : AddressedLine = record {
        line = kind.Cost (At (Fits at)) (costs_read (cost ∷ costs));
        address = Some (At (Fits address));
      } in
      let placed = still_placed c b.history b.placed in
      record {
        history = a ∷ c ∷ b.history;
        clear = ((b.clear, told.clear), says.clear);
        same = λ i. says.said i ∷ told.said i ∷ b.same i;
        lines = λ i. sym (spells_costs m (Calls n entry_line ∷ plain) at cost costs small).said i
            ∷ sym (spells_calls m plain n entry_line n_small line_small).said i ∷ b.lines i;
        files_are = b.files_are;
        functions_are = b.functions_are;
        file = b.file;
        function = b.function;
        closed = refl;
        placed = still_placed a (c ∷ b.history) placed;
        fine = (
          not_early a (c ∷ b.history) placed,
          λ k. refl,
          (not_early c b.history b.placed, λ k. refl, b.fine),
        );
        self_rows =
            append-nil (self_addresses b.history ++ []) ∙ append-nil (self_addresses b.history) ∙ b.self_rows;
        call_rows =
            ap (λ xs. xs ++ address ∷ []) (append-nil (call_addresses b.history) ∙ b.call_rows);
        positions =
            ap (λ (o : Option (List (List ℕ))). or_else (or_else o (positions_in (line_of
            (codes "calls=" ++ decimal n ++ codes " " ++ position entry entry_line))))
            (positions_in (line_of (position address at ++ cost_text (cost ∷ costs))))) b.positions;
      }

module _ (head : PartHead) (m : SymbolMap) (sound : IsSound m) where
  -- ---- where a row stands

  step_file : (key : FileKey) (f : FileId) (marks plain : List Mark) (selfs calls : List ℕ) → IsFile m f
      → Beside m marks plain selfs calls → Beside m (in_file key f marks) (in_file key f plain) selfs calls
  step_file key f marks plain selfs calls within b =
      subst (λ (o : Option FileId). Beside m (cond (is_file o f) marks (File key f ∷ marks)) (in_file key f plain) selfs
      calls) (sym b.file) (go (is_file (current_file plain) f))
    where
      go : (t : Bool) → Beside m (cond t marks (File key f ∷ marks)) (cond t plain (File key f ∷ plain)) selfs calls
      go true = b
      go false =
          let spells = spells_file m plain key f
          (file_is_name head m sound sound.few_functions sound.few_files f within) in
          step_quiet m (File key f) _ marks plain selfs calls spells (quiet_file key _) b

  step_object : (marks plain : List Mark) (selfs calls : List ℕ) → Beside m marks plain selfs calls
      → Beside m (in_object head marks) (in_object head plain) selfs calls
  step_object marks plain selfs calls b =
      subst (λ xs. Beside m (cond (length xs == 0) (Plain (object_line head) ∷ marks) marks) (in_object head plain)
      selfs calls) (sym b.functions_are) (go (length (functions plain) == 0))
    where
      go : (t : Bool) → Beside m (cond t (Plain (object_line head) ∷ marks) marks)
          (cond t (Plain (object_line head) ∷ plain) plain) selfs calls
      go true = step_quiet m (Plain (object_line head)) _ marks plain selfs calls (says_object head) refl b
      go false = b

  step_function : (f : FuncId) (marks plain : List Mark) (selfs calls : List ℕ) → IsFunc m f
      → Beside m marks plain selfs calls
      → Beside m (in_function head m f marks) (in_function head m f plain) selfs calls
  step_function f marks plain selfs calls within b =
      subst (λ (o : Option FuncId). Beside m (cond (is_function o f) marks (entered marks)) (in_function head m f plain)
      selfs calls) (sym b.function) (go (is_function (current_function plain) f))
    where
      entered : List Mark → List Mark
      entered before = Function f ∷ in_file Home (home_of m f) (in_object head (Plain [] ∷ before))

      blank : Spells [] kind.Blank
      blank = record { clear = refl; said = refl }

      go : (t : Bool) → Beside m (cond t marks (entered marks)) (cond t plain (entered plain)) selfs calls
      go true = b
      go false =
          let above = in_file Home (home_of m f) (in_object head (Plain [] ∷ plain)) in
          let placed = step_file Home (home_of m f) (in_object head (Plain [] ∷ marks))
          (in_object head (Plain [] ∷ plain)) selfs calls (sound.homes f within)
          (step_object (Plain [] ∷ marks) (Plain [] ∷ plain) selfs calls
          (step_quiet m (Plain []) kind.Blank marks plain selfs calls blank refl b)) in
          step_quiet m (Function f) _ (in_file Home (home_of m f) (in_object head (Plain [] ∷ marks))) above selfs calls
          (spells_function m above f (function_is_name head m sound sound.few_functions sound.few_files f within)) refl
          placed

  pub step_place : (row : Row) (marks plain : List Mark) (selfs calls : List ℕ) → IsFunc m (function_of row)
      → IsFile m (file_of row) → Beside m marks plain selfs calls
      → Beside m (at_row head m marks row) (at_row head m plain row) selfs calls
  step_place row marks plain selfs calls func_in file_in b =
      step_file (place_key m (function_of row) (file_of row)) (file_of row) (in_function head m (function_of row) marks)
      (in_function head m (function_of row) plain) selfs calls file_in
      (step_function (function_of row) marks plain selfs calls func_in b)

  -- the callee of a call
  pub step_callee : (f : FuncId) (marks plain : List Mark) (selfs calls : List ℕ) → IsFunc m f
      → Beside m marks plain selfs calls
      → Beside m (Callee f ∷ in_file OfCallee (home_of m f) marks) (Callee f ∷ in_file OfCallee (home_of m f) plain)
      selfs calls
  step_callee f marks plain selfs calls within b =
      step_quiet m (Callee f) _ (in_file OfCallee (home_of m f) marks) (in_file OfCallee (home_of m f) plain) selfs
      calls
      (spells_callee m (in_file OfCallee (home_of m f) plain) f
      (function_is_name head m sound sound.few_functions sound.few_files f within)) refl
      (step_file OfCallee (home_of m f) marks plain selfs calls (sound.homes f within) b)
