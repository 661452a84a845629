-- The text of a part by address, read again.
use Rattle.std.proofs.Common.{◌≡◌, ℕ, suc, ◌+◌, ◌<◌, ◌^◌, Bool, true, false, cond}
use Rattle.std.proofs.Common.{List, [], ◌∷◌, ◌++◌, length, map, reverse}
use Rattle.std.proofs.Common.{append-nil, drop, take, get_or, fold, flat_map, codes, Option}
use Rattle.std.proofs.Common.{Some, None, option_map, refl, sym, ap, ◌∙◌}
use Rattle.std.proofs.Common.{subst, arith, unwrap_or, All}
use Rattle.std.specs.List.{AllByRecursion, filter, list_all}
use Rattle.std.proofs.lemmas.List.{map-append, reverse-append, reverse-reverse}
use Rattle.event_costs.specs.Costs.{event_names, events_shown}
use Rattle.sym_map.specs.SymbolMap.{IsSound, SymbolMap}
use Rattle.cg_format.specs.Heading.{description_lines, identity_lines, totals}
use Rattle.cg_format.specs.Marks.{Mark, Plain, cost_text, words_text, mark_text, text_of}
use Rattle.cg_format.specs.Part.{after_row as after_plain_row}
use Rattle.cg_format.specs.Rows.{below}
use Rattle.cg_format.specs.Sums.{sum_of_lines}
use Rattle.cg_format.specs.declared.head.PartHead.{PartHead}
use Rattle.cg_read.specs.AddressReading as addressed
use Rattle.cg_read.specs.AddressReading.{AddrContents, ReadsLines, are_two_parts, first_bad_of}
use Rattle.cg_read.specs.AddressReading.{first_positions, is_addr_file}
use Rattle.cg_read.specs.AddressReading.{lines_said}
use Rattle.cg_read.specs.AddressReading.{positions_in}
use Rattle.cg_read.specs.Addresses as addresses
use Rattle.cg_read.specs.Addresses.{address_fault, without_addresses, base}
use Rattle.cg_lines.specs.Addressed.{addressed_of, addressed_shape, alone}
use Rattle.cg_read.specs.Faults.{error_at}
use Rattle.cg_lines.specs.Lines.{lines}
use Rattle.cg_read.specs.Meaning as meaning
use Rattle.cg_read.specs.Meaning.{or_else}
use Rattle.cg_read.specs.Profiles.{Contents, IsProfile, NamedCall, NamedSelf}
use Rattle.cg_read.specs.Reading as reading
use Rattle.cg_read.specs.Reading.{Says, bad_line, end_fault, history}
use Rattle.cg_lines.specs.Shapes.{line_of}
use Rattle.cg_lines.specs.declared.addressed.AddressedLine.{AddressedLine}
use Rattle.cg_read.specs.declared.error.FormatError.{FormatError}
use Rattle.cg_lines.specs.declared.fault.Fault.{Fault}
use Rattle.cg_lines.specs.declared.line.Line.{Line as ReadLine}
use Rattle.cg_lines.specs.declared.line.Line.TheVariants as kind
use Rattle.key_tables.specs.Same.{both_true}
use Rattle.addr_rows.specs.Known.{IsKnownArc, IsKnownLine}
use Rattle.addr_rows.specs.Plain.{plain, plain_arc, plain_line}
use Rattle.addr_rows.specs.Rows.{AddrListed}
use Rattle.addr_rows.specs.Texts.{addr_lines, addr_text, after_row, all_rows, by_function, is_row_of, plain_row}
use Rattle.addr_rows.specs.declared.row.AddrRow.{AddrRow}
use Rattle.addr_rows.specs.declared.row.AddrRow.TheVariants.{Arc, Line}
use Rattle.addr_rows.specs.declared.rows.AddrArc.{AddrArc}
use Rattle.addr_rows.specs.declared.rows.AddrLine.{AddrLine}
use Rattle.once_each.specs.Texts.{named_arc, named_line}
use Rattle.reads_back.specs.Rows.{FitsArc, FitsLine, IsOfRows, arcs_read, command_of, lines_read, naming}
use Rattle.report_laws.proofs.Others.{CanWrite, Standing, calls_of, selfs_of, after_heading_at, heading_at}
use Rattle.report_laws.proofs.Others.{heading_clear, heading_read, heading_same, literal, says, says_totals, AreClear}
use Rattle.report_laws.proofs.Others.{all_clear, history_is, lines_of_marks, split_joined, text_is, texts_of, Spells}
use Rattle.report_laws.proofs.Others.{stripped_kept, all_append, map_map}
use Rattle.reads_back.proofs.PartLemmas as parts
use Rattle.report_laws.specs.Rows.{AreEntriesSmall, AreWritable, IsOfAddrRows}
use Rattle.report_laws.proofs.BesideLemmas.{AreFine, Beside, addr_read, first_positions_of, step_quiet}
use Rattle.report_laws.proofs.AddrRowLemmas.{CanWriteAt, after_rows, arc_address, arc_part, arcs_written, can_write}
use Rattle.report_laws.proofs.AddrRowLemmas.{line_address, line_part, lines_written}
use Rattle.report_laws.proofs.SayLemmas.{is_quiet, says_alone}

-- ---- lists of rows

pub each_filtered : {X : Type 0} (P : X → Type 0) (p : X → Bool) (xs : List X) → AllByRecursion P xs
    → AllByRecursion P (filter p xs)
each_filtered P p [] all = tt
each_filtered P p (x ∷ xs) all = go (p x) (each_filtered P p xs all.1)
  where
    go : (b : Bool) → AllByRecursion P (filter p xs) → AllByRecursion P (cond b (x ∷ filter p xs) (filter p xs))
    go true rest = (all.0, rest)
    go false rest = rest

pub each_group : {X : Type 0} (P : X → Type 0) (p : ℕ → X → Bool) (xs : List X) (ks : List ℕ) → AllByRecursion P xs
    → AllByRecursion P (flat_map (λ k. filter (p k) xs) ks)
each_group P p xs [] all = tt
each_group P p xs (k ∷ ks) all =
    all_append P (filter (p k) xs) (flat_map (λ j. filter (p j) xs) ks) (each_filtered P (p k) xs all)
    (each_group P p xs ks all)

pub each_mapped : {X Y : Type 0} (P : X → Type 0) (Q : Y → Type 0) (f : X → Y) → ((x : X) → P x → Q (f x))
    → (xs : List X)
    → AllByRecursion P xs → AllByRecursion Q (map f xs)
each_mapped P Q f to [] all = tt
each_mapped P Q f to (x ∷ xs) all = (to x all.0, each_mapped P Q f to xs all.1)

lines_can : (m : SymbolMap) (rows : List AddrLine) → All (IsKnownLine m) rows
    → All (λ (row : AddrLine). FitsLine (plain_line row)) rows → All (λ (row : AddrLine). row.addr < 2 ^ 64) rows
    → AllByRecursion (CanWriteAt m) (map Line rows)
lines_can m [] known fits small = tt
lines_can m (row ∷ rows) known fits small = (
  (known 0 row (omega arith), fits 0 row (omega arith), small 0 row (omega arith)),
  lines_can m rows (λ k d lt. known (suc k) d (omega arith)) (λ k d lt. fits (suc k) d (omega arith))
      (λ k d lt. small (suc k) d (omega arith)),
)

arcs_can : (m : SymbolMap) (rows : List AddrArc) → All (IsKnownArc m) rows
    → All (λ (row : AddrArc). FitsArc (plain_arc row)) rows → All (λ (row : AddrArc). row.addr < 2 ^ 64) rows
    → AllByRecursion (CanWriteAt m) (map Arc rows)
arcs_can m [] known fits small = tt
arcs_can m (row ∷ rows) known fits small = (
  (known 0 row (omega arith), fits 0 row (omega arith), small 0 row (omega arith)),
  arcs_can m rows (λ k d lt. known (suc k) d (omega arith)) (λ k d lt. fits (suc k) d (omega arith))
      (λ k d lt. small (suc k) d (omega arith)),
)

-- ---- histories

-- no line is bad, where none is without its address, and none stands too early
all_fine : (before : List AddressedLine) → AreFine before → bad_line (without_addresses before) ≡ None
    → addressed.bad_line before ≡ None
all_fine [] fine none = refl
all_fine (a ∷ before) fine none =
    let both = parted (bad_line (without_addresses before)) (option_map (error_at (length (without_addresses before) + 1))
    (meaning.fault (without_addresses before) a.line)) none in
    let alone_none : meaning.fault (without_addresses before) a.line ≡ None
    = unmapped (error_at (length (without_addresses before) + 1)) (meaning.fault (without_addresses before) a.line) both.1 in
    let fault_none : addresses.fault before a ≡ None
    = ap (λ (o : Option Fault). or_else o (or_else (meaning.fault (without_addresses before) a.line)
    (address_fault (base before) a.address))) fine.0
    ∙ ap (λ (o : Option Fault). or_else o (address_fault (base before) a.address)) alone_none
    ∙ fine.1 (base before) in
    ap (λ (o : Option FormatError). or_else o (option_map (error_at (length before + 1)) (addresses.fault before a)))
    (all_fine before fine.2 both.0)
    ∙ ap (option_map (error_at (length before + 1))) fault_none
  where
    parted : (o p : Option FormatError) → or_else o p ≡ None → (o ≡ None) × (p ≡ None)
    parted None p e = (refl, e)
    parted (Some f) p e = absurd (cc)

    unmapped : (f : Fault → FormatError) (o : Option Fault) → option_map f o ≡ None → o ≡ None
    unmapped f None e = refl
    unmapped f (Some g) e = absurd (cc)

or_else_assoc : (a b c : Option (List (List ℕ))) → or_else (or_else a b) c ≡ or_else a (or_else b c)
or_else_assoc None b c = refl
or_else_assoc (Some x) b c = refl

or_else_none : (a : Option (List (List ℕ))) → or_else a None ≡ a
or_else_none None = refl
or_else_none (Some x) = refl

positions_push : (ls : List ReadLine) (l : ReadLine)
    → first_positions (ls ++ l ∷ []) ≡ or_else (first_positions ls) (positions_in l)
positions_push [] l = or_else_none (positions_in l)
positions_push (x ∷ ls) l =
    ap (or_else (positions_in x)) (positions_push ls l)
    ∙ sym (or_else_assoc (positions_in x) (first_positions ls) (positions_in l))

positions_back : (ls : List ReadLine) → first_positions (reverse ls) ≡ first_positions_of ls
positions_back [] = refl
positions_back (l ∷ ls) =
    ap first_positions (reverse-append (l ∷ []) ls) ∙ positions_push (reverse ls) l
    ∙ ap (λ o. or_else o (positions_in l)) (positions_back ls)

addr_read_is : (m : SymbolMap) (marks : List Mark) → addressed.history_of (texts_of m marks) ≡ addr_read m marks
addr_read_is m [] = refl
addr_read_is m (mark ∷ before) =
    ap reverse (map-append addressed_of (texts_of m before) (mark_text m before mark ∷ []))
    ∙ reverse-append (map addressed_of (texts_of m before)) (addressed_of (mark_text m before mark) ∷ [])
    ∙ ap (λ (ls : List AddressedLine). addressed_of (mark_text m before mark) ∷ ls) (addr_read_is m before)

-- the last line feed is followed by an empty line
addr_history_is : (m : SymbolMap) (marks : List Mark) → AreClear m marks
    → addressed.history (text_of m marks) ≡ alone kind.Blank ∷ addr_read m marks
addr_history_is m marks clear =
    ap addressed.history (text_is m marks)
    ∙ ap addressed.history_of (split_joined (texts_of m marks) (all_clear m marks clear))
    ∙ ap reverse (map-append addressed_of (texts_of m marks) ([] ∷ []))
    ∙ reverse-append (map addressed_of (texts_of m marks)) (addressed_of [] ∷ [])
    ∙ ap (λ (ls : List AddressedLine). alone kind.Blank ∷ ls) (addr_read_is m marks)

-- the first line on positions
positions_of : (m : SymbolMap) (marks : List Mark) → AreClear m marks
    → first_positions (map line_of (lines (text_of m marks))) ≡ first_positions_of (lines_of_marks m marks)
positions_of m marks clear =
    ap first_positions
    (sym (reverse-reverse (map line_of (lines (text_of m marks)))) ∙ ap reverse (history_is m marks clear))
    ∙ positions_back (kind.Blank ∷ lines_of_marks m marks) ∙ or_else_none (first_positions_of (lines_of_marks m marks))

-- ---- the heading

alone_all : (m : SymbolMap) (texts : List (List ℕ)) (ls : List ReadLine) → lines_of_marks m (map Plain texts) ≡ ls
    → list_all is_quiet ls ≡ true → addr_read m (map Plain texts) ≡ map alone ls
alone_all m [] [] said quiet = refl
alone_all m [] (l ∷ ls) said quiet = absurd (cc)
alone_all m (text ∷ texts) [] said quiet = absurd (cc)
alone_all m (text ∷ texts) (l ∷ ls) said quiet =
    let parts_quiet = both_true (is_quiet l) (list_all is_quiet ls) quiet in
    λ i. says_alone text l (ap (λ (xs : List ReadLine). get_or xs 0 kind.Blank) said) parts_quiet.0 i
    ∷ alone_all m texts ls (ap (drop 1) said) parts_quiet.1 i

alone_fine : (ls : List ReadLine) → AreFine (map alone ls)
alone_fine [] = tt
alone_fine (l ∷ ls) = (refl, λ n. refl, alone_fine ls)

-- the same heading, where positions are lines
says_line : Spells (codes "positions:line") (kind.Positions (codes "line"))
says_line = says 112 (codes "ositions:line") (kind.Positions (codes "line")) refl
    (literal (codes "positions:line") refl (omega arith) refl) refl

says_two : Spells (codes "positions: instr line") (kind.Positions (codes " instr line"))
says_two = says 112 (codes "ositions: instr line") (kind.Positions (codes " instr line")) refl
    (literal (codes "positions: instr line") refl (omega arith) refl) refl

two_said : addressed_of (codes "positions: instr line") ≡ alone (kind.Positions (codes "line"))
two_said =
    ap addressed_shape (stripped_kept 112 (codes "ositions: instr line") refl
    (literal (codes "positions: instr line") refl (omega arith) refl))

module _ (head : PartHead) (m : SymbolMap) (sum : List ℕ) where
  abbrev start : List Mark
  start = reverse (map Plain (heading_at head (codes "positions: instr line") sum))

  abbrev plain_start : List Mark
  plain_start = reverse (map Plain (heading_at head (codes "positions:line") sum))

  abbrev said : List ReadLine
  said = heading_read head.branch head.cmd (codes "line")

  heading_said : lines_of_marks m start ≡ heading_read head.branch head.cmd (codes " instr line")
  heading_said = heading_same head m sum (codes "positions: instr line") (codes " instr line") says_two

  abbrev first_texts : List (List ℕ)
  first_texts = reverse (identity_lines head ++ description_lines head)

  beside_heading : Beside m start plain_start [] []
  beside_heading = record {
    history = map alone said;
    clear = heading_clear head m sum (codes "positions: instr line") (codes " instr line") says_two;
    same = λ i.
        alone_all m ((codes "summary:" ++ cost_text (events_shown head.branch sum))
        ∷ (codes "events:" ++ words_text (events_shown head.branch event_names)) ∷ [])
        (kind.Header ∷ kind.Events (words_text (events_shown head.branch event_names)) ∷ []) (ap (take 2) heading_said)
        refl i
        ++ two_said i ∷ alone_all m first_texts (drop 3 said) (ap (drop 3) heading_said)
        refl i;
    lines = sym (heading_same head m sum (codes "positions:line") (codes "line") says_line);
    files_are = refl;
    functions_are = refl;
    file = refl;
    function = refl;
    closed = refl;
    placed = refl;
    fine = alone_fine said;
    self_rows = refl;
    call_rows = refl;
    positions = ap first_positions_of heading_said;
  }

-- ---- the part

module _ (head : PartHead) (rows : AddrListed) (m : SymbolMap) (sound : IsSound m) (entries : AreEntriesSmall m)
    (fits : AreWritable m rows) where
  abbrev sum : List ℕ
  sum = sum_of_lines (plain rows).lines

  abbrev written : List AddrRow
  written = by_function (length m.functions) (all_rows rows)

  can : AllByRecursion (CanWriteAt m) written
  can =
      each_group (CanWriteAt m) is_row_of (all_rows rows) (below (length m.functions))
      (all_append (CanWriteAt m) (map Line rows.lines) (map Arc rows.arcs)
      (lines_can m rows.lines fits.of_map.lines fits.lines_fit fits.line_addresses)
      (arcs_can m rows.arcs fits.of_map.arcs fits.arcs_fit fits.arc_addresses))

  -- the same lines without addresses
  abbrev plain_marks : List Mark
  plain_marks =
      Plain (totals head sum) ∷ Plain []
      ∷ fold (after_plain_row head m) (plain_start head m sum) (map plain_row written)

  lines_are : {Y : Type 0} (f : AddrLine → Y) → flat_map (line_part f) written ≡ map f rows.lines
  lines_are f = lines_written (length m.functions) rows f fits.lines_rise (λ k d lt. (fits.of_map.lines k d lt).function)

  arcs_are : {Y : Type 0} (f : AddrArc → Y) → flat_map (arc_part f) written ≡ map f rows.arcs
  arcs_are f = arcs_written (length m.functions) rows f fits.arcs_rise (λ k d lt. (fits.of_map.arcs k d lt).caller)

  selfs_are : flat_map (selfs_of head m) (map plain_row written) ≡ lines_read head m (plain rows).lines
  selfs_are =
      named (by_function (length m.functions) (all_rows rows))
      ∙ lines_are (λ (row : AddrLine). named_line (naming head m) (plain_line row))
      ∙ sym (map_map (named_line (naming head m)) plain_line rows.lines)
    where
      named : (xs : List AddrRow) → flat_map (selfs_of head m) (map plain_row xs)
          ≡ flat_map (line_part (λ (row : AddrLine). named_line (naming head m) (plain_line row))) xs
      named [] = refl
      named (Line row ∷ xs) = ap (λ ys. named_line (naming head m) (plain_line row) ∷ ys) (named xs)
      named (Arc row ∷ xs) = named xs

  calls_are : flat_map (calls_of head m) (map plain_row written) ≡ arcs_read head m (plain rows).arcs
  calls_are =
      named (by_function (length m.functions) (all_rows rows))
      ∙ arcs_are (λ (row : AddrArc). named_arc (naming head m) (plain_arc row))
      ∙ sym (map_map (named_arc (naming head m)) plain_arc rows.arcs)
    where
      named : (xs : List AddrRow) → flat_map (calls_of head m) (map plain_row xs)
          ≡ flat_map (arc_part (λ (row : AddrArc). named_arc (naming head m) (plain_arc row))) xs
      named [] = refl
      named (Line row ∷ xs) = named xs
      named (Arc row ∷ xs) = ap (λ ys. named_arc (naming head m) (plain_arc row) ∷ ys) (named xs)

  -- what the reader of the lines without addresses knows at the end
  whole : Standing head m plain_marks (lines_read head m (plain rows).lines) (arcs_read head m (plain rows).arcs)
  whole =
      subst (λ (s : List NamedSelf). Standing head m plain_marks s (arcs_read head m (plain rows).arcs)) selfs_are
      (subst (λ (c : List NamedCall). Standing head m plain_marks
      (flat_map (selfs_of head m) (map plain_row written)) c) calls_are
      (parts.after_all head m sound sum (plain_start head m sum) (map plain_row written)
      (each_mapped (CanWriteAt m) (CanWrite m) plain_row (can_write m) written can)
      (after_heading_at head m sum (codes "positions:line") (codes "line") says_line refl)))

  blank : Spells [] kind.Blank
  blank = record { clear = refl; said = refl }

  -- and the reader of the part
  beside : Beside m (addr_lines head rows m) plain_marks (map (λ (row : AddrLine). row.addr) rows.lines)
      (map (λ (row : AddrArc). row.addr) rows.arcs)
  beside =
      let body = fold (after_row head m) (start head m sum) written in
      let plain_body = fold (after_plain_row head m) (plain_start head m sum) (map plain_row written) in
      let done = after_rows head m sound entries written (start head m sum) (plain_start head m sum) [] [] can
      (beside_heading head m sum) in
      subst (λ s. Beside m (addr_lines head rows m) plain_marks s (map (λ (row : AddrArc). row.addr) rows.arcs))
      (lines_are (λ (row : AddrLine). row.addr))
      (subst (λ c. Beside m (addr_lines head rows m) plain_marks (flat_map line_address written) c)
      (arcs_are (λ (row : AddrArc). row.addr))
      (step_quiet m (Plain (totals head sum)) kind.Header (Plain [] ∷ body) (Plain [] ∷ plain_body)
      (flat_map line_address written) (flat_map arc_address written) (says_totals (events_shown head.branch sum)) refl
      (step_quiet m (Plain []) kind.Blank body plain_body (flat_map line_address written)
      (flat_map arc_address written) blank refl done)))

  abbrev end_history : List AddressedLine
  end_history = alone kind.Blank ∷ beside.history

  history_at_end : addressed.history (addr_text head rows m) ≡ end_history
  unfolding addr_text
  history_at_end =
      addr_history_is m (addr_lines head rows m) beside.clear
      ∙ ap (λ (ls : List AddressedLine). alone kind.Blank ∷ ls) beside.same

  abbrev plain_end : List ReadLine
  plain_end = parts.end_history head (plain rows) m plain_marks whole

  bare_is : without_addresses end_history ≡ plain_end
  bare_is = ap (λ (ls : List ReadLine). kind.Blank ∷ ls) (beside.lines ∙ whole.1.same)

  -- the text is of a part whose positions have two parts
  pub is_file : is_addr_file (addr_text head rows m) ≡ true
  unfolding addr_text
  is_file = ap are_two_parts (positions_of m (addr_lines head rows m) beside.clear ∙ beside.positions)

  pub sound_text : addressed.first_bad (addr_text head rows m) ≡ None
  sound_text =
      subst (λ (h : List AddressedLine). or_else (addressed.bad_line h) (end_fault (without_addresses h)) ≡ None)
      (sym history_at_end)
      (ap (λ (o : Option FormatError). or_else o (end_fault (without_addresses end_history)))
      (all_fine end_history (refl, λ n. refl, beside.fine)
      (ap bad_line bare_is ∙ parts.lines_fine head (plain rows) m plain_marks whole))
      ∙ ap end_fault bare_is ∙ parts.end_fine head (plain rows) m plain_marks whole)

  -- no line of it is bad, however it is read
  pub no_bad : first_bad_of (addr_text head rows m) ≡ None
  no_bad =
      ap (λ b. cond b (addressed.first_bad (addr_text head rows m)) (reading.first_bad (addr_text head rows m))) is_file
      ∙ sound_text

  self_addresses_are : addresses.self_addresses end_history ≡ map (λ (row : AddrLine). row.addr) rows.lines
  self_addresses_are = append-nil (addresses.self_addresses beside.history) ∙ beside.self_rows

  call_addresses_are : addresses.call_addresses end_history ≡ map (λ (row : AddrArc). row.addr) rows.arcs
  call_addresses_are = append-nil (addresses.call_addresses beside.history) ∙ beside.call_rows

  -- the profile of the rows, and no other
  pub reads_text : (p : AddrContents) → IsProfile p.lines → IsOfAddrRows head (command_of head) rows m p
      → addressed.Reads (addr_text head rows m) p
  reads_text p profile of_rows = record {
    sound = sound_text;
    says = subst (λ (h : List AddressedLine). addressed.Says h p) (sym history_at_end) (record {
      lines = subst (λ (h : List ReadLine). Says h p.lines) (sym bare_is)
          (parts.says_rows head (plain rows) m plain_marks whole p.lines profile of_rows.lines);
      self_addresses = of_rows.self_addresses ∙ sym self_addresses_are;
      call_addresses = of_rows.call_addresses ∙ sym call_addresses_are;
    });
  }

  pub only_text : (p : AddrContents) → addressed.Reads (addr_text head rows m) p
      → IsOfAddrRows head (command_of head) rows m p
  only_text p reads =
      let says = subst (λ (h : List AddressedLine). addressed.Says h p) history_at_end reads.says in
      record {
        lines = parts.rows_said head (plain rows) m plain_marks whole p.lines
            (subst (λ (h : List ReadLine). Says h p.lines) bare_is says.lines);
        self_addresses = says.self_addresses ∙ self_addresses_are;
        call_addresses = says.call_addresses ∙ call_addresses_are;
      }

  -- without addresses it is the profile of the plain rows
  pub only_lines : (p : Contents) → ReadsLines (addr_text head rows m) p
      → IsOfRows head (command_of head) (plain rows) m p
  only_lines p reads =
      parts.rows_said head (plain rows) m plain_marks whole p
      (subst (λ (h : List ReadLine). Says h p)
      (ap (λ b. cond b (without_addresses (addressed.history (addr_text head rows m))) (history (addr_text head rows m))) is_file
      ∙ ap without_addresses history_at_end ∙ bare_is) reads.says)

  -- the events that it shows
  pub events_are : unwrap_or (meaning.events (lines_said (addr_text head rows m))) []
      ≡ events_shown head.branch event_names
  events_are =
      ap (λ (h : List ReadLine). unwrap_or (meaning.events h) [])
      (ap (λ b. cond b (without_addresses (addressed.history (addr_text head rows m))) (history (addr_text head rows m))) is_file
      ∙ ap without_addresses history_at_end ∙ bare_is)
      ∙ ap (λ (o : Option (List (List ℕ))). unwrap_or o []) whole.1.events
