-- The text of a part, read again.
use Rattle.cg_format.specs.Part.{IsKnownArc, IsKnownLine}
use Rattle.std.proofs.Common.{suc}
use Rattle.cg_read.specs.declared.error.FormatError.TheVariants.{BadLine, NoEvents}
use Rattle.cg_read.specs.Reading.{last_line}
use Rattle.cg_read.specs.declared.rows.FuncKey.{FuncKey}
use Rattle.std.proofs.Common.{◌≡◌, ℕ, Bool, true, false, cond, List, [], ◌∷◌, ◌++◌, length, map}
use Rattle.std.proofs.Common.{reverse}
use Rattle.std.proofs.Common.{fold, flat_map, Option, Some, None, is_some, refl, sym, ap, ◌∙◌, subst, All}
use Rattle.std.proofs.Common.{arith}
use Rattle.std.specs.List.{AllByRecursion, filter}
use Rattle.arc_costs.specs.Contents.{Listed}
use Rattle.arc_costs.specs.Rows.{ArcRow, LineRow}
use Rattle.event_costs.specs.Costs.{event_names, events_shown}
use Rattle.sym_map.specs.SymbolMap.{IsSound}
use Rattle.sym_map.specs.SymbolMap.{SymbolMap}
use Rattle.cg_format.specs.Heading.{heading, totals}
use Rattle.cg_format.specs.Marks.{Mark, Plain}
use Rattle.cg_format.specs.Part.{after_row, part_lines, part_text}
use Rattle.cg_format.specs.Rows.{all_rows, below, by_function, is_row_of}
use Rattle.cg_format.specs.Sums.{sum_of_lines}
use Rattle.cg_format.specs.declared.head.PartHead.{PartHead}
use Rattle.cg_format.specs.declared.row.Row.{Row}
use Rattle.cg_format.specs.declared.row.Row.TheVariants.{Line, Arc}
use Rattle.cg_read.specs.Meaning as meaning
use Rattle.cg_read.specs.Meaning.{or_else}
use Rattle.cg_read.specs.Profiles.{Contents, IsProfile, NamedCall, NamedSelf, SaysTheSame, files_of, functions_of}
use Rattle.cg_read.specs.Profiles.{has_function, has_text}
use Rattle.cg_read.specs.Reading.{Reads, Says, bad_line, end_fault, first_bad, history}
use Rattle.cg_read.specs.declared.error.FormatError.{FormatError}
use Rattle.cg_lines.specs.declared.line.Line.{Line as ReadLine}
use Rattle.cg_lines.specs.declared.line.Line.TheVariants.{Blank}
use Rattle.reads_back.specs.Rows.{AreWritable, FitsArc, FitsLine, IsOfRows, arcs_read, command_of, lines_read}
use Rattle.reads_back.proofs.EntryLemmas.{CanWrite, Standing, after_rows, calls_of, selfs_of}
use Rattle.reads_back.proofs.HeadingLemmas.{after_heading, says_totals}
use Rattle.reads_back.proofs.LineLemmas.{history_is}
use Rattle.reads_back.proofs.OrderLemmas.{arcs_in_order, lines_in_order}
use Rattle.reads_back.proofs.StandingLemmas.{Stands, after_blank, after_header, fine_more}

-- Each row can be written.

filtered : (m : SymbolMap) (p : Row → Bool) (rows : List Row) → AllByRecursion (CanWrite m) rows
    → AllByRecursion (CanWrite m) (filter p rows)
filtered m p [] all = tt
filtered m p (row ∷ rows) all = go (p row) (filtered m p rows all.1)
  where
    go : (b : Bool) → AllByRecursion (CanWrite m) (filter p rows)
        → AllByRecursion (CanWrite m) (cond b (row ∷ filter p rows) (filter p rows))
    go true rest = (all.0, rest)
    go false rest = rest

appended : (m : SymbolMap) (xs ys : List Row) → AllByRecursion (CanWrite m) xs → AllByRecursion (CanWrite m) ys
    → AllByRecursion (CanWrite m) (xs ++ ys)
appended m [] ys all more = more
appended m (x ∷ xs) ys all more = (all.0, appended m xs ys all.1 more)

in_groups : (m : SymbolMap) (rows : List Row) (ks : List ℕ) → AllByRecursion (CanWrite m) rows
    → AllByRecursion (CanWrite m) (flat_map (λ k. filter (is_row_of k) rows) ks)
in_groups m rows [] all = tt
in_groups m rows (k ∷ ks) all =
    appended m (filter (is_row_of k) rows) (flat_map (λ j. filter (is_row_of j) rows) ks) (filtered m (is_row_of k) rows all)
    (in_groups m rows ks all)

lines_writable : (m : SymbolMap) (lines : List LineRow)
    → All (IsKnownLine m) lines → All FitsLine lines
    → AllByRecursion (CanWrite m) (map Line lines)
lines_writable m [] known fits = tt
lines_writable m (row ∷ lines) known fits = (
  (known 0 row (omega arith), fits 0 row (omega arith)),
  lines_writable m lines
      (λ k d lt. known (suc k) d (omega arith))
      (λ k d lt. fits (suc k) d (omega arith)),
)

arcs_writable : (m : SymbolMap) (arcs : List ArcRow)
    → All (IsKnownArc m) arcs → All FitsArc arcs
    → AllByRecursion (CanWrite m) (map Arc arcs)
arcs_writable m [] known fits = tt
arcs_writable m (row ∷ arcs) known fits = (
  (known 0 row (omega arith), fits 0 row (omega arith)),
  arcs_writable m arcs
      (λ k d lt. known (suc k) d (omega arith))
      (λ k d lt. fits (suc k) d (omega arith)),
)

-- What a reader knows who has read these lines, and then an empty one: just the profile of the rows.
module _ (head : PartHead) (rows : Listed) (m : SymbolMap) (marks : List Mark)
    (whole : Standing head m marks (lines_read head m rows.lines) (arcs_read head m rows.arcs)) where
  abbrev pub end_history : List ReadLine
  end_history = Blank ∷ whole.1.history

  pub end_fine : end_fault end_history ≡ None
  end_fine =
      ap (λ (o : Option meaning.Call). cond (is_some o)
      (Some (BadLine
      (last_line end_history)))
      (cond (is_some (meaning.events end_history)) None
      (Some NoEvents))) whole.1.no_call
      ∙ ap (λ (o : Option (List (List ℕ))). cond (is_some o) None
      (Some NoEvents)) whole.1.events

  pub lines_fine : bad_line end_history ≡ None
  lines_fine = fine_more whole.1.history Blank whole.1.fine whole.1.no_call refl

  same_functions : (f : FuncKey)
      → has_function (functions_of (meaning.self_rows end_history) (meaning.call_rows end_history)) f
      ≡ has_function (functions_of (lines_read head m rows.lines) (arcs_read head m rows.arcs)) f
  same_functions f i = has_function (functions_of (whole.1.self_rows i) (whole.1.call_rows i)) f

  same_files : (t : List ℕ)
      → has_text (files_of (meaning.self_rows end_history) (meaning.call_rows end_history)) t
      ≡ has_text (files_of (lines_read head m rows.lines) (arcs_read head m rows.arcs)) t
  same_files t i = has_text (files_of (whole.1.self_rows i) (whole.1.call_rows i)) t

  pub says_rows : (p : Contents) → IsProfile p → IsOfRows head (command_of head) rows m p → Says end_history p
  says_rows p profile of_rows = record {
    events = whole.1.events ∙ ap (λ (e : List (List ℕ)). Some e) (sym of_rows.events);
    command = whole.1.command ∙ sym of_rows.command_is;
    self_rows = of_rows.self_rows ∙ sym whole.1.self_rows;
    call_rows = of_rows.call_rows ∙ sym whole.1.call_rows;
    functions = λ f. of_rows.functions f ∙ sym (same_functions f);
    files = λ t. of_rows.files t ∙ sym (same_files t);
    profile = profile;
  }

  pub rows_said : (p : Contents) → Says end_history p → IsOfRows head (command_of head) rows m p
  rows_said p says = record {
    events = (let e : Some p.events ≡ Some (events_shown head.branch event_names)
        = sym says.events ∙ whole.1.events in cc);
    command_is = sym says.command ∙ whole.1.command;
    self_rows = says.self_rows ∙ whole.1.self_rows;
    call_rows = says.call_rows ∙ whole.1.call_rows;
    functions = λ f. says.functions f ∙ same_functions f;
    files = λ t. says.files t ∙ same_files t;
  }

-- what the reader knows at the end, after any rows
pub after_all : (head : PartHead) (m : SymbolMap) (sound : IsSound m) (sum : List ℕ) (start : List Mark)
    (written : List Row) → AllByRecursion (CanWrite m) written → Stands head m false start None [] []
    → Standing head m (Plain (totals head sum) ∷ Plain [] ∷ fold (after_row head m) start written)
    (flat_map (selfs_of head m) written) (flat_map (calls_of head m) written)
after_all head m sound sum start written writable begun =
    let done = after_rows head m sound written start [] [] writable (false, begun) in
    let lines : List Mark = fold (after_row head m) start written in
    let selfs : List NamedSelf = flat_map (selfs_of head m) written in
    let calls : List NamedCall = flat_map (calls_of head m) written in
    let blank = after_blank head m sound sound.few_functions sound.few_files done.0 lines None selfs calls done.1 in (
      done.0,
      after_header head m sound sound.few_functions sound.few_files (totals head sum) done.0 (Plain [] ∷ lines) None
          selfs calls (says_totals (events_shown head.branch sum)) blank,
    )

module _ (head : PartHead) (rows : Listed) (m : SymbolMap) (sound : IsSound m) (fits : AreWritable m rows) where
  writable : AllByRecursion (CanWrite m) (by_function (length m.functions) (all_rows rows))
  writable =
      in_groups m (all_rows rows) (below (length m.functions))
      (appended m (map Line rows.lines) (map Arc rows.arcs)
      (lines_writable m rows.lines fits.of_map.lines fits.lines_fit)
      (arcs_writable m rows.arcs fits.of_map.arcs fits.arcs_fit))

  -- what the reader knows at the end
  whole : Standing head m (part_lines head rows m) (lines_read head m rows.lines) (arcs_read head m rows.arcs)
  whole =
      let sum : List ℕ = sum_of_lines rows.lines in
      let written : List Row = by_function (length m.functions) (all_rows rows) in
      subst (λ (s : List NamedSelf). Standing head m (part_lines head rows m) s (arcs_read head m rows.arcs))
      (lines_in_order head m rows fits.of_map fits.lines_rise)
      (subst (λ (c : List NamedCall). Standing head m (part_lines head rows m) (flat_map (selfs_of head m) written) c)
      (arcs_in_order head m rows fits.of_map fits.arcs_rise)
      (after_all head m sound sum (reverse (map Plain (heading head sum))) written writable (after_heading head m sum)))

  history_at_end : history (part_text head rows m) ≡ end_history head rows m (part_lines head rows m) whole
  unfolding part_text
  history_at_end =
      history_is m (part_lines head rows m) whole.1.clear
      ∙ ap (λ (ls : List ReadLine). Blank ∷ ls) whole.1.same

  pub sound_part : first_bad (part_text head rows m) ≡ None
  sound_part =
      subst (λ (h : List ReadLine). or_else (bad_line h) (end_fault h) ≡ None) (sym history_at_end)
      (ap (λ (o : Option FormatError). or_else o
      (end_fault (end_history head rows m (part_lines head rows m) whole)))
      (lines_fine head rows m (part_lines head rows m) whole) ∙ end_fine head rows m (part_lines head rows m) whole)

  pub reads_part : (p : Contents) → IsProfile p → IsOfRows head (command_of head) rows m p
      → Reads (part_text head rows m) p
  reads_part p profile of_rows = record {
    sound = sound_part;
    says = subst (λ (h : List ReadLine). Says h p) (sym history_at_end)
        (says_rows head rows m (part_lines head rows m) whole p profile of_rows);
  }

  pub only_part : (p : Contents) → Reads (part_text head rows m) p → IsOfRows head (command_of head) rows m p
  only_part p reads =
      rows_said head rows m (part_lines head rows m) whole p
      (subst (λ (h : List ReadLine). Says h p) history_at_end reads.says)

pub alike : (head : PartHead) (command : Option (List ℕ)) (rows : Listed) (m : SymbolMap) (p q : Contents)
    → IsOfRows head command rows m p → IsOfRows head command rows m q → SaysTheSame p q
alike head command rows m p q x y = record {
  events = x.events ∙ sym y.events;
  command = x.command_is ∙ sym y.command_is;
  self_rows = x.self_rows ∙ sym y.self_rows;
  call_rows = x.call_rows ∙ sym y.call_rows;
  functions = λ f. x.functions f ∙ sym (y.functions f);
  files = λ t. x.files t ∙ sym (y.files t);
}
