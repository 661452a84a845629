-- A guest whose code another map tells the same puts the same files by context.
use Rattle.std.proofs.Common.{◌≡◌, ℕ, zero, suc, ◌+◌, ◌∙◌, Bool, List, [], ◌∷◌, ◌++◌, Option, None, ap, append-nil, append_assoc, codes}
use Rattle.std.proofs.Common.{filter, flat_map, get_or, if◌then◌else◌, length, map, refl, sym}
use Rattle.std.specs.List.{AllByRecursion, enumerate_from}
use Rattle.std.specs.Option.{option_map_or, option_to_list}
use Rattle.std.specs.Prelude.{slice_index, slice_index_or}
use Rattle.std.proofs.lemmas.List.Elements.{recursion_from_All}
use Rattle.arc_costs.specs.Keys.{risen}
use Rattle.cg_format.specs.declared.head.PartHead.{PartHead}
use Rattle.cg_format.specs.declared.trigger.Trigger.{Trigger}
use Rattle.cg_format.specs.declared.trigger.Trigger.TheVariants.{Termination}
use Rattle.sym_map.specs.Places.{unknown_function}
use Rattle.sym_map.specs.SymbolMap.{IsFunc, SymbolMap, entry_of, identity_in, is_entry_at, place_of}
use Rattle.shadow_stack.specs.Changes.{change}
use Rattle.shadow_stack.specs.Traces.{EventOnStack}
use Rattle.part_dump.specs.Calls.{head_of}
use Rattle.part_dump.specs.Cuts.{Split, cuts}
use Rattle.part_dump.specs.Files.{part_name}
use Rattle.part_dump.specs.Steps.{IsPiece, Step, events_on_stack_of, threads}
use Rattle.contexts.specs.Contexts.{Context, context}
use Rattle.ctx_rows.specs.Files.{closed_files, ctx_files, segment_files, thread_files}
use Rattle.ctx_rows.specs.Folding.{function_of}
use Rattle.ctx_rows.specs.Known.{AreKnown, IsKnownContext}
use Rattle.ctx_rows.specs.Rows.{arc_with, arcs_at, ctx_rows_of, is_some_arc, is_some_line, line_with}
use Rattle.ctx_rows.specs.Rows.{CtxListed}
use Rattle.ctx_rows.specs.Sums.{CtxArcKey, CtxPlace, arc_calls, arc_cost, arc_order, counts_at, ctx_arcs, is_arc, place_order}
use Rattle.ctx_rows.specs.Sums.{pushed_arc, same_place, self_cost}
use Rattle.ctx_rows.specs.Texts.{as_function, context_map, context_name, contexts_in, ctx_text, numbered}
use Rattle.ctx_rows.proofs.KnownLemmas.{contexts_known, numbered_known}
use Rattle.profile_run.specs.Program.{CanRun, Program, head_of_run}
use Rattle.profile_run.specs.Trace.{Makes, RunStep, Stop, steps_of}
use Rattle.run_laws.specs.Contexts.{ctx_parts}
use Rattle.run_laws.specs.Maps.{TellTheSame, with_map}
use Rattle.run_laws.proofs.AddrFoldableLemmas as foldable
use Rattle.run_laws.proofs.CtxFoldableLemmas as by_context
use Rattle.report_laws.proofs.Others.{cuts_together}
use Rattle.report_laws.proofs.Others.{lows}
use Rattle.report_laws.proofs.Others.{IsLowSeen, IsLowStep, change_same, cuts_same, low_seen}
use Rattle.report_laws.proofs.Others.{each_weaker, sum_by-each}
use Rattle.report_laws.proofs.AddrOwnPartLemmas.{Segment, flat}
use Rattle.report_laws.proofs.SameTextLemmas.{home_same, part_same}

module _ (m n : SymbolMap) (same : TellTheSame m n) where
  -- ---- the map of contexts

  first_known : (c : Context) → IsKnownContext m c → IsFunc m (function_of c)
  first_known c known = known.1 0 0 known.0

  name_same : (c : Context) → context_name m c ≡ context_name n c
  name_same [] = refl
  name_same (f ∷ []) = λ i. (slice_index_or (map (identity_in (same.files i)) (same.functions i)) f unknown_function).name
  name_same (f ∷ (g ∷ c)) = λ i.
      (slice_index_or (map (identity_in (same.files i)) (same.functions i)) f unknown_function).name
      ++ codes "'" ++ name_same (g ∷ c) i

  functions_same : (cs : List Context) → AllByRecursion (IsKnownContext m) cs
      → map (as_function m) cs ≡ map (as_function n) cs
  functions_same [] all = refl
  functions_same (c ∷ cs) all = λ i.
      record { home = home_same m n same (function_of c) (first_known c all.0) i; name = name_same c i }
      ∷ functions_same cs all.1 i

  entries_same : (cs : List Context) → AllByRecursion (IsKnownContext m) cs
      → map (λ c. entry_of m (function_of c)) cs ≡ map (λ c. entry_of n (function_of c)) cs
  entries_same [] all = refl
  entries_same (c ∷ cs) all = λ i. same.entries (function_of c) (first_known c all.0) i ∷ entries_same cs all.1 i

  lines_same : (cs : List Context) → AllByRecursion (IsKnownContext m) cs → (k : ℕ)
      → option_map_or (λ entry. (place_of m entry).line) (get_or (map (λ c. entry_of m (function_of c)) cs) k None) 0
      ≡ option_map_or (λ entry. (place_of n entry).line) (get_or (map (λ c. entry_of n (function_of c)) cs) k None) 0
  lines_same [] all k = refl
  lines_same (c ∷ cs) all zero = same.entry_lines (function_of c) (first_known c all.0)
  lines_same (c ∷ cs) all (suc k) = lines_same cs all.1 k

  place_is : (k : SymbolMap) (cs : List Context) (a : ℕ) → place_of (context_map k cs) a ≡ place_of k a
  unfolding place_of
  place_is k cs a = refl

  entry_is : (k : SymbolMap) (cs : List Context) (a : ℕ) → is_entry_at (context_map k cs) a ≡ is_entry_at k a
  unfolding is_entry_at
  entry_is k cs a = refl

  contexts_same : (cs : List Context) → AllByRecursion (IsKnownContext m) cs
      → TellTheSame (context_map m cs) (context_map n cs)
  contexts_same cs all = record {
    functions = functions_same cs all;
    files = same.files;
    entries = λ func known. ap (λ (es : List (Option ℕ)). slice_index_or es func.0 None) (entries_same cs all);
    entry_lines = λ func known.
        (λ i. option_map_or (λ entry. (place_is m cs entry i).line)
        (get_or (map (λ c. entry_of m (function_of c)) cs) func.0 None) 0)
        ∙ lines_same cs all func.0
        ∙ (λ i. option_map_or (λ entry. (sym (place_is n cs entry) i).line)
        (get_or (map (λ c. entry_of n (function_of c)) cs) func.0 None) 0);
    places = λ a small. place_is m cs a ∙ same.places a small ∙ sym (place_is n cs a);
    entry_addresses = λ a small. entry_is m cs a ∙ same.entry_addresses a small ∙ sym (entry_is n cs a);
  }

  ctx_text_same : (head : PartHead) (rows : CtxListed) → AreKnown m rows → ctx_text head rows m ≡ ctx_text head rows n
  unfolding ctx_text
  ctx_text_same head rows known =
      part_same (context_map m (contexts_in rows)) (context_map n (contexts_in rows))
      (contexts_same (contexts_in rows)
      (recursion_from_All (IsKnownContext m) (contexts_in rows) (contexts_known m rows known)))
      head (numbered (contexts_in rows) rows) (numbered_known m rows known)

  -- ---- rows

  module _ (callers : ℕ) where
    places_same : (xs : List EventOnStack) → AllByRecursion IsLowSeen xs
        → map (counts_at callers m) xs ≡ map (counts_at callers n) xs
    places_same [] all = refl
    places_same (x ∷ xs) all = λ i.
        record {
          ctx = context callers x.stack;
          file = (same.places x.event.done.pc all.0.0 i).file;
          line = (same.places x.event.done.pc all.0.0 i).line;
        } ∷ places_same xs all.1 i

    arcs_same : (xs : List EventOnStack) → AllByRecursion IsLowSeen xs
        → flat_map (arcs_at callers m) xs ≡ flat_map (arcs_at callers n) xs
    arcs_same [] all = refl
    arcs_same (x ∷ xs) all = λ i.
        (flat_map option_to_list (ctx_arcs callers x.stack)
        ++ option_to_list (pushed_arc callers (change_same m n same x.event all.0 x.stack i)))
        ++ arcs_same xs all.1 i

    self_same : (kind : ℕ) (place : CtxPlace) (xs : List EventOnStack) → AllByRecursion IsLowSeen xs
        → self_cost callers m kind place xs ≡ self_cost callers n kind place xs
    self_same kind place xs all =
        let cost = λ (syms : SymbolMap) (x : EventOnStack).
        if same_place place (counts_at callers syms x) then slice_index x.cost kind else 0 in
        sum_by-each (cost m) (cost n) xs
        (each_weaker IsLowSeen (λ x. cost m x ≡ cost n x)
        (λ x low i. if same_place place (record {
          ctx = context callers x.stack;
          file = (same.places x.event.done.pc low.0 i).file;
          line = (same.places x.event.done.pc low.0 i).line;
        }) then slice_index x.cost kind else 0) xs all)

    calls_same : (arc : CtxArcKey) (xs : List EventOnStack) → AllByRecursion IsLowSeen xs
        → arc_calls callers m arc xs ≡ arc_calls callers n arc xs
    calls_same arc xs all =
        let one : Bool → ℕ = λ b. if b then 1 else 0 in
        let calls = λ (syms : SymbolMap) (x : EventOnStack).
        one (is_arc arc (pushed_arc callers (change syms x.event x.stack))) in
        sum_by-each (calls m) (calls n) xs
        (each_weaker IsLowSeen (λ x. calls m x ≡ calls n x)
        (λ x low i. one (is_arc arc (pushed_arc callers (change_same m n same x.event low x.stack i)))) xs all)

    ctx_rows_same : (xs : List EventOnStack) → AllByRecursion IsLowSeen xs
        → ctx_rows_of callers m xs ≡ ctx_rows_of callers n xs
    unfolding ctx_rows_of
    ctx_rows_same xs all = λ i. record {
      lines = filter is_some_line
          (map (line_with (λ kind p. self_same kind p xs all i)) (risen place_order (places_same xs all i)));
      arcs = filter is_some_arc
          (map (arc_with (λ k. calls_same k xs all i) (λ kind k. arc_cost callers kind k xs))
          (risen arc_order (arcs_same xs all i)));
    }

module _ (guest : Program) (can : CanRun guest) (syms : SymbolMap) (same : TellTheSame guest.syms syms)
    (past : List RunStep) (makes : Makes guest past) (callers : ℕ) where
  abbrev m : SymbolMap
  m = guest.syms

  abbrev other : Program
  other = with_map syms guest

  abbrev head : PartHead
  head = head_of_run guest

  abbrev base : List ℕ
  base = guest.options.base

  texts_same : (part_head : PartHead) (thread : ℕ) (segment : List Step) (piece : IsPiece (steps_of past) segment)
      → ctx_text part_head (ctx_rows_of callers m (events_on_stack_of thread segment)) m
      ≡ ctx_text part_head (ctx_rows_of callers syms (events_on_stack_of thread segment)) syms
  texts_same part_head thread segment piece =
      let low = foldable.of_run guest past thread segment can makes piece IsLowStep (lows guest can past makes) in
      ctx_text_same m syms same part_head (ctx_rows_of callers m (events_on_stack_of thread segment))
      (by_context.known guest past callers thread segment can makes piece)
      ∙ ap (λ rows. ctx_text part_head rows syms)
      (ctx_rows_same m syms same callers (events_on_stack_of thread segment) (low_seen thread segment low.1))

  thread_same : (number : ℕ) (trigger : Trigger) (thread : ℕ) (xs : List EventOnStack)
      → ((part_head : PartHead) → ctx_text part_head (ctx_rows_of callers m xs) m
      ≡ ctx_text part_head (ctx_rows_of callers syms xs) syms)
      → thread_files callers head m base number trigger thread xs
      ≡ thread_files callers head syms base number trigger thread xs
  thread_same number trigger thread [] text = refl
  thread_same number trigger thread (x ∷ xs) text = λ i.
      (part_name base number thread, text (head_of head number trigger thread) i) ∷ []

  segment_same : (number : ℕ) (segment : List Step) (trigger : Trigger) (piece : IsPiece (steps_of past) segment)
      → segment_files callers head m base number segment trigger ≡ segment_files callers head syms base number segment trigger
  segment_same number segment trigger piece = λ i.
      flat_map (λ thread. thread_same number trigger thread (events_on_stack_of thread segment)
      (λ part_head. texts_same part_head thread segment piece) i) (threads segment)

  closed_same : (earlier : List Step) (number : ℕ) (segments : List Segment) (later : List Step)
      → earlier ++ (flat segments ++ later) ≡ steps_of past
      → flat_map (λ s. segment_files callers head m base s.0 s.1.0 s.1.1) (enumerate_from number segments)
      ≡ flat_map (λ s. segment_files callers head syms base s.0 s.1.0 s.1.1) (enumerate_from number segments)
  closed_same earlier number [] later is = refl
  closed_same earlier number (s ∷ segments) later is =
      let whole = ap (λ xs. earlier ++ xs) (sym (append_assoc s.0 (flat segments) later)) ∙ is in
      let piece : IsPiece (steps_of past) s.0
      = record { before = earlier; after = flat segments ++ later; whole = whole } in
      λ i.
      segment_same number s.0 s.1 piece i
      ++ closed_same (earlier ++ s.0) (number + 1) segments later
      (append_assoc earlier s.0 (flat segments ++ later) ∙ whole) i

  pub ctx_files_same : (stop : Stop)
      → (ctx_parts callers guest).whole (steps_of past) stop.tried ≡ (ctx_parts callers other).whole (steps_of past) stop.tried
  unfolding ctx_files
  ctx_files_same stop =
      let asked = guest.options.dump_points in
      let closed = (cuts m asked (steps_of past)).closed in
      let recent = (cuts m asked (steps_of past)).recent in
      let together = cuts_together m asked (steps_of past) in
      let piece : IsPiece (steps_of past) recent
      = record {
        before = flat closed;
        after = [];
        whole = ap (λ xs. flat closed ++ xs) (append-nil recent) ∙ together;
      } in
      (λ i. closed_same [] 1 closed recent together i ++ segment_same (length closed + 1) recent Termination piece i)
      ∙ ap (λ (s : Split Step Trigger). closed_files callers head syms base s.closed
      ++ segment_files callers head syms base (length s.closed + 1) s.recent Termination)
      (cuts_same m syms same asked (steps_of past) (lows guest can past makes))
