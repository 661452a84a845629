-- Rows by address, written one after another, and in their order.
use Rattle.std.proofs.Common.{◌≡◌, ℕ, ◌<◌, ◌^◌, Bool, true, false, ◌==◌, cond, List, [], ◌∷◌, ◌++◌, length, fold}
use Rattle.std.proofs.Common.{append-nil, append_assoc, codes, decimal, flat_map, map, Option, None, Some, IfSome, All}
use Rattle.std.proofs.Common.{refl, sym, ap, ◌∙◌, subst, arith}
use Rattle.std.specs.List.{AllByRecursion, filter}
use Rattle.std.specs.List.Sorted.{IsNonDecreasingBy}
use Rattle.std.specs.Option.{option_map_or}
use Rattle.std.proofs.lemmas.Fmt.{decimal_digit, hex_one_digit}
use Rattle.event_costs.specs.Costs.{IsWhole, events_shown}
use Rattle.event_costs.specs.declared.numbers.FuncId.{FuncId}
use Rattle.sym_map.specs.SymbolMap.{IsSound, SymbolMap, entry_line_of, entry_of, home_of, place_of}
use Rattle.cg_format.specs.Marks.{Mark, Plain, Callee, Calls, Costs, cost_text}
use Rattle.cg_format.specs.Part.{after_row as after_plain_row, at_row, in_file}
use Rattle.cg_format.specs.Rows.{below}
use Rattle.cg_format.specs.declared.file_key.FileKey.TheVariants.{OfCallee}
use Rattle.cg_format.specs.declared.head.PartHead.{PartHead}
use Rattle.cg_format.proofs.RowLemmas.{grouped}
use Rattle.addr_rows.specs.Known.{IsKnownArc, IsKnownLine}
use Rattle.addr_rows.specs.Plain.{plain_arc, plain_line}
use Rattle.addr_rows.specs.Rows.{AddrListed}
use Rattle.addr_rows.specs.Texts.{after_row, all_rows, by_function, entry_position, is_row_of, plain_row, position}
use Rattle.addr_rows.specs.declared.row.AddrRow.{AddrRow}
use Rattle.addr_rows.specs.declared.row.AddrRow.TheVariants.{Arc, Line}
use Rattle.addr_rows.specs.declared.rows.AddrArc.{AddrArc}
use Rattle.addr_rows.specs.declared.rows.AddrLine.{AddrLine}
use Rattle.reads_back.specs.Rows.{FitsArc, FitsLine}
use Rattle.report_laws.proofs.Others.{shown_length, shown_some, CanWrite, flat_map_alike, flat_map_mapped}
use Rattle.report_laws.proofs.Others.{flat_map_twice}
use Rattle.report_laws.specs.Rows.{AreEntriesSmall}
use Rattle.report_laws.proofs.BesideLemmas.{Beside, step_call, step_callee, step_costs, step_place}

-- a row that can be written
abbrev pub CanWriteAt : SymbolMap → AddrRow → Type 0
CanWriteAt m (Line row) = IsKnownLine m row × FitsLine (plain_line row) × (row.addr < 2 ^ 64)
CanWriteAt m (Arc row) = IsKnownArc m row × FitsArc (plain_arc row) × (row.addr < 2 ^ 64)

pub can_write : (m : SymbolMap) (row : AddrRow) → CanWriteAt m row → CanWrite m (plain_row row)
can_write m (Line row) can = (record { function = can.0.function; file = can.0.file }, can.1)
can_write m (Arc row) can =
    (record { caller = can.0.caller; file = can.0.file; callee = can.0.callee }, can.1)

-- what is said of line rows, and of arc rows
abbrev pub line_part : {Y : Type 0} → (AddrLine → Y) → AddrRow → List Y
line_part f (Line row) = f row ∷ []
line_part f (Arc row) = []

abbrev pub arc_part : {Y : Type 0} → (AddrArc → Y) → AddrRow → List Y
arc_part f (Line row) = []
arc_part f (Arc row) = f row ∷ []

abbrev pub line_address : AddrRow → List ℕ
line_address row = line_part (λ (r : AddrLine). r.addr) row

abbrev pub arc_address : AddrRow → List ℕ
arc_address row = arc_part (λ (r : AddrArc). r.addr) row

-- ---- the entry of a function

abbrev pub entry_address : SymbolMap → FuncId → ℕ
entry_address m func = option_map_or (λ entry. entry) (entry_of m func) 0

pub entry_is : (m : SymbolMap) (func : FuncId)
    → entry_position m func ≡ position (entry_address m func) (entry_line_of m func)
entry_is m func = by (entry_of m func)
  where
    by : (o : Option ℕ) → option_map_or (λ entry. position entry (place_of m entry).line) o (codes "0x0 0")
        ≡ position (option_map_or (λ entry. entry) o 0) (option_map_or (λ entry. (place_of m entry).line) o 0)
    by None = λ i. codes "0x" ++ sym (hex_one_digit false 0 (omega arith)) i ++ codes " "
        ++ sym (decimal_digit 0 (omega arith)) i
    by (Some entry) = refl

entry_small : (o : Option ℕ) → IfSome o (λ entry. entry < 2 ^ 32) → option_map_or (λ entry. entry) o 0 < 2 ^ 64
entry_small None small = omega arith
entry_small (Some entry) small = omega (arith, small)

-- ---- rows, one after another

module _ (head : PartHead) (m : SymbolMap) (sound : IsSound m) (entries : AreEntriesSmall m) where
  shown_any : (cost : List ℕ) → IsWhole cost → 0 < length (events_shown head.branch cost)
  shown_any cost whole =
      let long = shown_length head.branch cost whole in let some = shown_some head.branch in omega (arith, long, some)

  costs_done : (address at : ℕ) (costs : List ℕ) (marks plain : List Mark) (selfs calls : List ℕ)
      → 0 < length costs → address < 2 ^ 64 → at < 2 ^ 64 → Beside m marks plain selfs calls
      → Beside m (Plain (position address at ++ cost_text costs) ∷ marks) (Costs at costs ∷ plain)
      (selfs ++ address ∷ []) calls
  costs_done address at [] marks plain selfs calls some address_small small b = absurd (omega arith)
  costs_done address at (cost ∷ costs) marks plain selfs calls some address_small small b =
      step_costs m address at cost costs marks plain selfs calls address_small small b

  call_done : (n entry entry_line address at : ℕ) (costs : List ℕ) (marks plain : List Mark) (selfs calls : List ℕ)
      → 0 < length costs → n < 2 ^ 64 → entry < 2 ^ 64 → entry_line < 2 ^ 64 → address < 2 ^ 64 → at < 2 ^ 64
      → Beside m marks plain selfs calls
      → Beside m
      (Plain (position address at ++ cost_text costs)
      ∷ Plain (codes "calls=" ++ decimal n ++ codes " " ++ position entry entry_line) ∷ marks)
      (Costs at costs ∷ Calls n entry_line ∷ plain) selfs (calls ++ address ∷ [])
  call_done n entry entry_line address at [] marks plain selfs calls some p q r s t b = absurd (omega arith)
  call_done n entry entry_line address at (cost ∷ costs) marks plain selfs calls some p q r s t b =
      step_call m n entry entry_line address at cost costs marks plain selfs calls p q r s t b

  after_one : (row : AddrRow) (marks plain : List Mark) (selfs calls : List ℕ) → CanWriteAt m row
      → Beside m marks plain selfs calls
      → Beside m (after_row head m marks row) (after_plain_row head m plain (plain_row row))
      (selfs ++ line_address row) (calls ++ arc_address row)
  after_one (Line row) marks plain selfs calls can b =
      subst (Beside m (after_row head m marks (Line row)) (after_plain_row head m plain (plain_row (Line row)))
      (selfs ++ row.addr ∷ [])) (sym (append-nil calls))
      (costs_done row.addr row.place.line (events_shown head.branch row.cost)
      (at_row head m marks (plain_row (Line row))) (at_row head m plain (plain_row (Line row))) selfs calls
      (shown_any row.cost can.1.whole) can.2 can.1.line
      (step_place head m sound (plain_row (Line row)) marks plain selfs calls can.0.function can.0.file b))
  after_one (Arc row) marks plain selfs calls can b =
      let callee = row.arc.callee in
      let there : List Mark = in_file OfCallee (home_of m callee) (at_row head m marks (plain_row (Arc row))) in
      let lines = sound.entry_lines callee can.0.callee in
      subst (λ (s : List ℕ). Beside m (after_row head m marks (Arc row))
      (after_plain_row head m plain (plain_row (Arc row))) s (calls ++ row.addr ∷ [])) (sym (append-nil selfs))
      (subst (λ (text : List ℕ). Beside m
      (Plain (position row.addr row.arc.line ++ cost_text (events_shown head.branch row.cost))
      ∷ Plain (codes "calls=" ++ decimal row.calls ++ codes " " ++ text) ∷ Callee callee ∷ there)
      (after_plain_row head m plain (plain_row (Arc row))) selfs (calls ++ row.addr ∷ [])) (sym (entry_is m callee))
      (call_done row.calls (entry_address m callee) (entry_line_of m callee) row.addr row.arc.line
      (events_shown head.branch row.cost) (Callee callee ∷ there)
      (Callee callee ∷ in_file OfCallee (home_of m callee) (at_row head m plain (plain_row (Arc row)))) selfs calls
      (shown_any row.cost can.1.whole) can.1.calls (entry_small (entry_of m callee) (entries callee can.0.callee))
      (omega (arith, lines)) can.2 can.1.line
      (step_callee head m sound callee (at_row head m marks (plain_row (Arc row)))
      (at_row head m plain (plain_row (Arc row))) selfs calls can.0.callee
      (step_place head m sound (plain_row (Arc row)) marks plain selfs calls can.0.caller can.0.file b))))

  pub after_rows : (rows : List AddrRow) (marks plain : List Mark) (selfs calls : List ℕ)
      → AllByRecursion (CanWriteAt m) rows → Beside m marks plain selfs calls
      → Beside m (fold (after_row head m) marks rows) (fold (after_plain_row head m) plain (map plain_row rows))
      (selfs ++ flat_map line_address rows) (calls ++ flat_map arc_address rows)
  after_rows [] marks plain selfs calls all b =
      subst (λ (s : List ℕ). Beside m marks plain s (calls ++ [])) (sym (append-nil selfs))
      (subst (λ (c : List ℕ). Beside m marks plain selfs c) (sym (append-nil calls)) b)
  after_rows (row ∷ rows) marks plain selfs calls all b =
      let made = after_row head m marks row in
      let made_plain = after_plain_row head m plain (plain_row row) in
      subst (λ (s : List ℕ). Beside m (fold (after_row head m) made rows)
      (fold (after_plain_row head m) made_plain (map plain_row rows)) s
      (calls ++ (arc_address row ++ flat_map arc_address rows)))
      (append_assoc selfs (line_address row) (flat_map line_address rows))
      (subst (λ (c : List ℕ). Beside m (fold (after_row head m) made rows)
      (fold (after_plain_row head m) made_plain (map plain_row rows))
      ((selfs ++ line_address row) ++ flat_map line_address rows) c)
      (append_assoc calls (arc_address row) (flat_map arc_address rows))
      (after_rows rows made made_plain (selfs ++ line_address row) (calls ++ arc_address row) all.1
      (after_one row marks plain selfs calls all.0 b)))

-- ---- the order in which rows are written

abbrev line_at : ℕ → AddrLine → Bool
line_at k row = row.place.func.0 == k

abbrev arc_at : ℕ → AddrArc → Bool
arc_at k row = row.arc.caller.0 == k

module _ {Y : Type 0} (f : AddrLine → Y) (k : ℕ) where
  lines_of_arcs : (arcs : List AddrArc) → flat_map (line_part f) (filter (is_row_of k) (map Arc arcs)) ≡ []
  lines_of_arcs [] = refl
  lines_of_arcs (row ∷ arcs) = go (is_row_of k (Arc row)) (lines_of_arcs arcs)
    where
      go : (b : Bool) → flat_map (line_part f) (filter (is_row_of k) (map Arc arcs)) ≡ []
          → flat_map (line_part f)
          (cond b (Arc row ∷ filter (is_row_of k) (map Arc arcs)) (filter (is_row_of k) (map Arc arcs))) ≡ []
      go true rest = rest
      go false rest = rest

  lines_of_all : (lines : List AddrLine) (arcs : List AddrArc)
      → flat_map (line_part f) (filter (is_row_of k) (map Line lines ++ map Arc arcs)) ≡ map f (filter (line_at k) lines)
  lines_of_all [] arcs = lines_of_arcs arcs
  lines_of_all (row ∷ lines) arcs = go (line_at k row) (lines_of_all lines arcs)
    where
      rest_of : List AddrRow
      rest_of = filter (is_row_of k) (map Line lines ++ map Arc arcs)

      go : (b : Bool) → flat_map (line_part f) rest_of ≡ map f (filter (line_at k) lines)
          → flat_map (line_part f) (cond b (Line row ∷ rest_of) rest_of)
          ≡ map f (cond b (row ∷ filter (line_at k) lines) (filter (line_at k) lines))
      go true rest = ap (λ ys. f row ∷ ys) rest
      go false rest = rest

module _ {Y : Type 0} (f : AddrArc → Y) (k : ℕ) where
  arcs_of_arcs : (arcs : List AddrArc)
      → flat_map (arc_part f) (filter (is_row_of k) (map Arc arcs)) ≡ map f (filter (arc_at k) arcs)
  arcs_of_arcs [] = refl
  arcs_of_arcs (row ∷ arcs) = go (arc_at k row) (arcs_of_arcs arcs)
    where
      go : (b : Bool) → flat_map (arc_part f) (filter (is_row_of k) (map Arc arcs)) ≡ map f (filter (arc_at k) arcs)
          → flat_map (arc_part f)
          (cond b (Arc row ∷ filter (is_row_of k) (map Arc arcs)) (filter (is_row_of k) (map Arc arcs)))
          ≡ map f (cond b (row ∷ filter (arc_at k) arcs) (filter (arc_at k) arcs))
      go true rest = ap (λ ys. f row ∷ ys) rest
      go false rest = rest

  arcs_of_all : (lines : List AddrLine) (arcs : List AddrArc)
      → flat_map (arc_part f) (filter (is_row_of k) (map Line lines ++ map Arc arcs)) ≡ map f (filter (arc_at k) arcs)
  arcs_of_all [] arcs = arcs_of_arcs arcs
  arcs_of_all (row ∷ lines) arcs = go (line_at k row) (arcs_of_all lines arcs)
    where
      rest_of : List AddrRow
      rest_of = filter (is_row_of k) (map Line lines ++ map Arc arcs)

      go : (b : Bool) → flat_map (arc_part f) rest_of ≡ map f (filter (arc_at k) arcs)
          → flat_map (arc_part f) (cond b (Line row ∷ rest_of) rest_of) ≡ map f (filter (arc_at k) arcs)
      go true rest = rest
      go false rest = rest

module _ {Y : Type 0} (n : ℕ) (rows : AddrListed) where
  pub lines_written : (f : AddrLine → Y) → IsNonDecreasingBy (λ (row : AddrLine). row.place.func.0) rows.lines
      → All (λ (row : AddrLine). row.place.func.0 < n) rows.lines
      → flat_map (line_part f) (by_function n (all_rows rows)) ≡ map f rows.lines
  lines_written f rise small =
      flat_map_twice (line_part f) (λ k. filter (is_row_of k) (all_rows rows)) (below n)
      ∙ flat_map_alike (λ k. flat_map (line_part f) (filter (is_row_of k) (all_rows rows)))
      (λ k. map f (filter (line_at k) rows.lines)) (λ k. lines_of_all f k rows.lines rows.arcs) (below n)
      ∙ flat_map_mapped f (λ k. filter (line_at k) rows.lines) (below n)
      ∙ ap (map f) (sym (grouped (λ (row : AddrLine). row.place.func.0) n rows.lines rise small))

  pub arcs_written : (f : AddrArc → Y) → IsNonDecreasingBy (λ (row : AddrArc). row.arc.caller.0) rows.arcs
      → All (λ (row : AddrArc). row.arc.caller.0 < n) rows.arcs
      → flat_map (arc_part f) (by_function n (all_rows rows)) ≡ map f rows.arcs
  arcs_written f rise small =
      flat_map_twice (arc_part f) (λ k. filter (is_row_of k) (all_rows rows)) (below n)
      ∙ flat_map_alike (λ k. flat_map (arc_part f) (filter (is_row_of k) (all_rows rows)))
      (λ k. map f (filter (arc_at k) rows.arcs)) (λ k. arcs_of_all f k rows.lines rows.arcs) (below n)
      ∙ flat_map_mapped f (λ k. filter (arc_at k) rows.arcs) (below n)
      ∙ ap (map f) (sym (grouped (λ (row : AddrArc). row.arc.caller.0) n rows.arcs rise small))
