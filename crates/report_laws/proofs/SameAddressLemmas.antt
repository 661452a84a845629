-- A guest whose code another map tells the same puts the same files by address.
use Rattle.std.proofs.Common.{◌≡◌, ℕ, ◌+◌, ◌<◌, ◌^◌, ◌∙◌, List, [], ◌∷◌, ◌++◌, Option, None, Some, ap, append_assoc, codes, decimal}
use Rattle.std.proofs.Common.{flat_map, fold, length, map, refl, reverse, sym}
use Rattle.std.specs.List.{AllByRecursion}
use Rattle.std.specs.Option.{option_map_or}
use Rattle.std.proofs.lemmas.List.Elements.{recursion_from_All}
use Rattle.event_costs.specs.Keys.{Place}
use Rattle.event_costs.specs.declared.numbers.FuncId.{FuncId}
use Rattle.arc_costs.specs.Rows.{ArcRow, LineRow}
use Rattle.cg_format.specs.Heading.{totals}
use Rattle.cg_format.specs.Marks.{Callee, Mark, Plain, text_of}
use Rattle.cg_format.specs.Part.{in_file}
use Rattle.cg_format.specs.Rows.{below}
use Rattle.cg_format.specs.Sums.{sum_of_lines}
use Rattle.cg_format.specs.declared.file_key.FileKey.TheVariants.{OfCallee}
use Rattle.cg_format.specs.declared.head.PartHead.{PartHead}
use Rattle.cg_format.specs.declared.trigger.Trigger.{Trigger}
use Rattle.sym_map.specs.AddressMap.{address_map}
use Rattle.sym_map.specs.AddressMap.{address_line, no_file}
use Rattle.sym_map.specs.SymbolMap.{IsFunc, SymbolMap, entry_of, place_of}
use Rattle.shadow_stack.specs.Traces.{EventOnStack}
use Rattle.outside.specs.Outside.{Named}
use Rattle.part_dump.specs.Calls.{head_of}
use Rattle.part_dump.specs.Files.{part_name}
use Rattle.part_dump.specs.Steps.{IsPiece, Step, event_of, events_on_stack_of, thread_of, threads}
use Rattle.once_each.specs.Written.{segments_of}
use Rattle.recorder.specs.Rows.{rows_of}
use Rattle.addr_rows.specs.EventRows.{addr_rows_of, located_arc, located_line, located_rows}
use Rattle.addr_rows.specs.Files.{addr_rows_in}
use Rattle.addr_rows.specs.Known.{AreKnown, IsKnownArc, IsKnownLine}
use Rattle.addr_rows.specs.Plain.{plain as plain_rows}
use Rattle.addr_rows.specs.Rows.{AddrListed}
use Rattle.addr_rows.specs.Stacked.{with_stacks_of}
use Rattle.addr_rows.specs.Texts.{IsKnown, addr_lines, addr_text, after_row, all_rows, by_function, cost_text_at}
use Rattle.addr_rows.specs.Texts.{entry_position, heading, is_row_of, plain_row, position}
use Rattle.addr_rows.specs.declared.row.AddrRow.{AddrRow}
use Rattle.addr_rows.specs.declared.row.AddrRow.TheVariants.{Arc, Line}
use Rattle.report_laws.proofs.Others.{address_entry, address_place}
use Rattle.profile_run.specs.Program.{CanRun, Program, head_of_run}
use Rattle.profile_run.specs.Trace.{Makes, RunStep, Stop, steps_of}
use Rattle.run_laws.specs.Addresses.{addr_parts}
use Rattle.run_laws.specs.Maps.{TellTheSame, with_map}
use Rattle.run_laws.proofs.AddrFoldableLemmas as foldable
use Rattle.report_laws.proofs.Others.{lows, segments_same}
use Rattle.report_laws.proofs.Others.{AreLow, IsLowSeen, IsLowStep, at_same, low_seen, rows_told_same as rows_same}
use Rattle.report_laws.proofs.Others.{all_append, all_of, each_weaker}
use Rattle.report_laws.proofs.AddrOwnPartLemmas.{AddrPart, Segment, addr_files_are, each_part, flat, parts_by_address}
use Rattle.report_laws.proofs.AddrOwnPartLemmas.{parts_from, thread_parts, whole_run}
use Rattle.report_laws.proofs.AddrPartLemmas.{each_group, each_mapped}
use Rattle.report_laws.proofs.AddrRowLemmas.{entry_is}
use Rattle.report_laws.proofs.RunRowLemmas.{arc_of_sum, good, line_of_sum, rows_writable, sums}
use Rattle.report_laws.proofs.SameTextLemmas.{at_same as row_at_same, fold_same, home_same, text_same}

-- ---- texts

module _ (m n : SymbolMap) (same : TellTheSame m n) where
  position_same : (func : FuncId) → IsFunc m func → entry_position m func ≡ entry_position n func
  position_same func known =
      entry_is m func
      ∙ (λ i. position (option_map_or (λ entry. entry) (same.entries func known i) 0) (same.entry_lines func known i))
      ∙ sym (entry_is n func)

  module _ (head : PartHead) where
    row_same : (row : AddrRow) → IsKnown m row → (before : List Mark)
        → after_row head m before row ≡ after_row head n before row
    row_same (Line row) known before = λ i.
        Plain (cost_text_at head row.addr row.place.line row.cost)
        ∷ row_at_same m n same head (plain_row (Line row)) known.function before i
    row_same (Arc row) known before = λ i.
        Plain (cost_text_at head row.addr row.arc.line row.cost)
        ∷ Plain (codes "calls=" ++ decimal row.calls ++ codes " " ++ position_same row.arc.callee known.callee i)
        ∷ Callee row.arc.callee
        ∷ in_file OfCallee (home_same m n same row.arc.callee known.callee i)
        (row_at_same m n same head (plain_row (Arc row)) known.caller before i)

    addr_text_same : (rows : AddrListed) → AreKnown m rows → addr_text head rows m ≡ addr_text head rows n
    unfolding addr_text
    addr_text_same rows known =
        let sum = sum_of_lines (plain_rows rows).lines in
        let all = each_group (IsKnown m) is_row_of (all_rows rows) (below (length m.functions))
        (all_append (IsKnown m) (map Line rows.lines) (map Arc rows.arcs)
        (each_mapped (IsKnownLine m) (IsKnown m) Line (λ row is. is) rows.lines
        (recursion_from_All (IsKnownLine m) rows.lines known.lines))
        (each_mapped (IsKnownArc m) (IsKnown m) Arc (λ row is. is) rows.arcs
        (recursion_from_All (IsKnownArc m) rows.arcs known.arcs))) in
        let before = reverse (map Plain (heading head sum)) in
        let ending = λ (marks : List Mark). Plain (totals head sum) ∷ Plain [] ∷ marks in
        ap (λ marks. text_of m (ending marks))
        (fold_same (after_row head m) (after_row head n) (by_function (length m.functions) (all_rows rows))
        (each_weaker (IsKnown m) (λ row. (marks : List Mark) → after_row head m marks row ≡ after_row head n marks row)
        row_same (by_function (length m.functions) (all_rows rows)) all) before
        ∙ (λ i. fold (after_row head n) before (by_function (length (same.functions i)) (all_rows rows))))
        ∙ text_same m n same (addr_lines head rows n)

  -- ---- the maps that tell code by its addresses

  lines_are : (k : SymbolMap) (o : Option ℕ)
      → option_map_or (λ entry. (place_of (address_map k) entry).line) o 0 ≡ option_map_or address_line o 0
  lines_are k None = refl
  lines_are k (Some entry) = ap (λ (p : Place). p.line) (address_place k entry)

  addresses_same : TellTheSame (address_map m) (address_map n)
  unfolding address_map
  addresses_same = record {
    functions = same.functions;
    files = same.files;
    entries = same.entries;
    entry_lines = λ func known.
        lines_are m (entry_of m func) ∙ ap (λ o. option_map_or address_line o 0) (same.entries func known)
        ∙ sym (lines_are n (entry_of n func));
    places = λ a small.
        address_place m a
        ∙ (λ i. record { func = (same.places a small i).func; file = no_file; line = address_line a })
        ∙ sym (address_place n a);
    entry_addresses = λ a small. address_entry m a ∙ same.entry_addresses a small ∙ sym (address_entry n a);
  }

  -- ---- rows

  stacks_same : (earlier xs : List Step) → AreLow earlier → AreLow xs
      → with_stacks_of (address_map m) earlier xs ≡ with_stacks_of (address_map n) earlier xs
  stacks_same earlier [] past all = refl
  stacks_same earlier (x ∷ xs) past all = λ i.
      record {
        on_stack = record {
          event = event_of x;
          cost = x.on_stack.cost;
          stack = at_same (address_map m) (address_map n) addresses_same earlier (thread_of x) (event_of x).done.pc all.0.0
              past i;
        };
        wait = x.wait;
        woken = x.woken;
      } ∷ stacks_same (earlier ++ x ∷ []) xs (all_append IsLowStep earlier (x ∷ []) past (all.0, tt)) all.1 i

  low_stacked : (k : SymbolMap) (earlier xs : List Step) → AreLow xs → AreLow (with_stacks_of k earlier xs)
  low_stacked k earlier [] all = tt
  low_stacked k earlier (x ∷ xs) all = (all.0, low_stacked k (earlier ++ x ∷ []) xs all.1)

  lines_same : (rows : List LineRow) → AllByRecursion (λ (r : LineRow). r.place.line < 2 ^ 32) rows
      → map (located_line m) rows ≡ map (located_line n) rows
  lines_same [] all = refl
  lines_same (r ∷ rows) all = λ i.
      record { addr = r.place.line; place = same.places r.place.line all.0 i; cost = r.cost } ∷ lines_same rows all.1 i

  arcs_same : (rows : List ArcRow) → AllByRecursion (λ (r : ArcRow). r.arc.line < 2 ^ 32) rows
      → map (located_arc m) rows ≡ map (located_arc n) rows
  arcs_same [] all = refl
  arcs_same (r ∷ rows) all = λ i.
      record {
        addr = r.arc.line;
        arc = record {
          caller = r.arc.caller;
          file = (same.places r.arc.line all.0 i).file;
          line = (same.places r.arc.line all.0 i).line;
          callee = r.arc.callee;
        };
        calls = r.calls;
        cost = r.cost;
      } ∷ arcs_same rows all.1 i

module _ (guest : Program) (can : CanRun guest) (syms : SymbolMap) (same : TellTheSame guest.syms syms)
    (past : List RunStep) (makes : Makes guest past) where
  abbrev m : SymbolMap
  m = guest.syms

  abbrev other : Program
  other = with_map syms guest

  rows_in_same : (thread : ℕ) (segment : List Step) (piece : IsPiece (steps_of past) segment)
      → addr_rows_in m thread piece.before segment ≡ addr_rows_in syms thread piece.before segment
  unfolding addr_rows_of rows_of
  rows_in_same thread segment piece =
      let low = foldable.of_run guest past thread segment can makes piece IsLowStep (lows guest can past makes) in
      let ys = events_on_stack_of thread (with_stacks_of (address_map m) piece.before segment) in
      let fine = good guest past thread segment can makes piece in
      let both = addresses_same m syms same in
      (λ i. record {
        lines = lines_same m syms same (sums m can.sound ys fine).lines
            (all_of (λ (r : LineRow). r.place.line < 2 ^ 32) (sums m can.sound ys fine).lines
            (λ r there. (line_of_sum m can.sound ys fine r there).small)) i;
        arcs = arcs_same m syms same (sums m can.sound ys fine).arcs
            (all_of (λ (r : ArcRow). r.arc.line < 2 ^ 32) (sums m can.sound ys fine).arcs
            (λ r there. (arc_of_sum m can.sound ys fine r there).small)) i;
      })
      ∙ ap (located_rows syms)
      (rows_same (address_map m) (address_map syms) both ys
      (low_seen thread (with_stacks_of (address_map m) piece.before segment)
      (low_stacked m syms same (address_map m) piece.before segment low.1)))
      ∙ ap (λ xs. located_rows syms (rows_of (address_map syms) (events_on_stack_of thread xs)))
      (stacks_same m syms same piece.before segment low.0 low.1)

  -- ---- parts

  thread_same : (number : ℕ) (trigger : Trigger) (thread : ℕ) (rows others : AddrListed) → rows ≡ others
      → (xs : List EventOnStack)
      → AllByRecursion IsLowSeen xs
      → thread_parts (rows_of m) (head_of_run guest) m guest.options.base number trigger thread rows xs
      ≡ thread_parts (rows_of syms) (head_of_run guest) syms guest.options.base number trigger thread others xs
  thread_same number trigger thread rows others are [] all = refl
  thread_same number trigger thread rows others are (x ∷ xs) all = λ i.
      record {
        part = record {
          head = head_of (head_of_run guest) number trigger thread;
          rows = rows_same m syms same (x ∷ xs) all i;
        };
        rows = are i;
      } ∷ []

  parts_same : (earlier : List Step) (number : ℕ) (segments : List Segment) → earlier ++ flat segments ≡ steps_of past
      → parts_from (rows_of m) (head_of_run guest) m guest.options.base earlier number segments
      ≡ parts_from (rows_of syms) (head_of_run guest) syms guest.options.base earlier number segments
  parts_same earlier number [] is = refl
  parts_same earlier number (s ∷ segments) is =
      let piece : IsPiece (steps_of past) s.0 = record { before = earlier; after = flat segments; whole = is } in
      λ i.
      flat_map (λ thread. thread_same number s.1 thread (addr_rows_in m thread earlier s.0)
      (addr_rows_in syms thread earlier s.0) (rows_in_same thread s.0 piece) (events_on_stack_of thread s.0)
      (low_seen thread s.0
      (foldable.of_run guest past thread s.0 can makes piece IsLowStep (lows guest can past makes)).1) i) (threads s.0)
      ++ parts_same (earlier ++ s.0) (number + 1) segments (append_assoc earlier s.0 (flat segments) ∙ is) i

  abbrev file : SymbolMap → AddrPart → Named
  file k p = (part_name guest.options.base p.part.head.part p.part.head.thread.0, addr_text p.part.head p.rows k)

  texts_same : (ps : List AddrPart) → AllByRecursion (λ (p : AddrPart). AreKnown m p.rows) ps
      → map (file m) ps ≡ map (file syms) ps
  texts_same [] all = refl
  texts_same (p ∷ ps) all = λ i. (
    part_name guest.options.base p.part.head.part p.part.head.thread.0,
    addr_text_same m syms same p.part.head p.rows all.0 i,
  )
      ∷ texts_same ps all.1 i

  pub addr_files_same : (stop : Stop)
      → (addr_parts guest).whole (steps_of past) stop.tried ≡ (addr_parts other).whole (steps_of past) stop.tried
  addr_files_same stop =
      let head = head_of_run guest in
      let base = guest.options.base in
      let asked = guest.options.dump_points in
      sym (addr_files_are (rows_of m) head m base asked (steps_of past))
      ∙ texts_same (parts_by_address (rows_of m) head m base asked (steps_of past))
      (each_part (rows_of m) head m base (λ (p : AddrPart). AreKnown m p.rows) (steps_of past)
      (λ number trigger thread segment piece. (rows_writable guest past thread segment can makes piece).of_map) asked)
      ∙ ap (map (file syms))
      (parts_same [] 1 (segments_of m asked (steps_of past)) (whole_run m asked (steps_of past))
      ∙ ap (parts_from (rows_of syms) head syms base [] 1) (segments_same guest can syms same past (lows guest can past makes)))
      ∙ addr_files_are (rows_of syms) head syms base asked (steps_of past)
