-- Lines with addresses: one more of them, and the end of their file.
use Rattle.std.proofs.Common.{◌≡◌, ℕ, ◌+◌, not, ◌&&◌, List, [], ◌∷◌, ◌++◌, length}
use Rattle.std.proofs.Common.{Option, None, Some, refl, sym, ◌∙◌, ap, is_some, if◌then◌else◌, Result, Ok, Err}
use Rattle.std.proofs.Common.{MatchResult, IfOk, arith, append-nil, length-append}
use Rattle.std.proofs.lemmas.List.{length-map}
use Rattle.cg_lines.specs.Lines.{lines}
use Rattle.cg_read.specs.Meaning.{Call, open_call, self_if, call_if, self_row, call_row}
use Rattle.cg_lines.specs.Shapes.{is_blank_line}
use Rattle.cg_read.specs.Meaning.{self_rows, call_rows}
use Rattle.cg_read.specs.Profiles.{Contents, NamedSelf, NamedCall, named_self, named_call}
use Rattle.cg_read.specs.Faults.{Answers, error_at}
use Rattle.cg_read.specs.Reading as reading
use Rattle.cg_read.specs.Reading.{end_fault, last_line}
use Rattle.cg_lines.specs.Addressed.{addressed_of}
use Rattle.cg_read.specs.Addresses.{address_if, without_addresses, fault as fault_of}
use Rattle.cg_lines.specs.Shapes.{is_cost}
use Rattle.cg_read.specs.Addresses.{self_addresses, call_addresses}
use Rattle.cg_read.specs.AddressReading.{AddrContents, Says, SaysTheSame, Reads, history, history_of}
use Rattle.cg_read.specs.AddressReading.{bad_line, first_bad}
use Rattle.cg_lines.specs.Faults.{Refuses}
use Rattle.cg_read.proofs.HistoryLemmas as histories
use Rattle.cg_read.proofs.ReadingLemmas as plain
use Rattle.cg_lines.specs.declared.addressed.AddressedLine.{AddressedLine}
use Rattle.cg_lines.specs.declared.line.Line.{Line}
use Rattle.cg_lines.specs.declared.line.Line.TheVariants.{Cost}
use Rattle.cg_lines.specs.declared.fault.Fault.{Fault}
use Rattle.cg_read.specs.declared.error.FormatError.{FormatError}

-- One line more

pub history_more : (texts : List (List ℕ)) (text : List ℕ)
    → history_of (texts ++ text ∷ []) ≡ addressed_of text ∷ history_of texts
history_more texts text = histories.history_more addressed_of texts text

pub sound_more : (before : List AddressedLine) (a : AddressedLine) → bad_line before ≡ None → fault_of before a ≡ None
    → bad_line (a ∷ before) ≡ None
sound_more before a sound none = histories.sound_more fault_of before a sound none

-- the fault of a line is the first one
pub refused_line : (bytes : List ℕ) (seen : List (List ℕ)) (text : List ℕ) (rest : List (List ℕ)) (number : ℕ)
    (f : Fault) → lines bytes ≡ seen ++ text ∷ rest → bad_line (history_of seen) ≡ None → number ≡ length seen + 1
    → Refuses f (fault_of (history_of seen) (addressed_of text)) → Answers (error_at number f) (first_bad bytes)
refused_line bytes seen text rest number f split sound count h =
    histories.refused_line addressed_of fault_of (lines bytes) seen text rest number f _ split sound count h

pub last_more : (texts : List (List ℕ)) (text : List ℕ) (last number : ℕ) → last ≡ last_line (without_addresses (history_of texts))
    → number ≡ length texts + 1
    → (if is_blank_line (addressed_of text).line then last else number)
    ≡ last_line ((addressed_of text).line ∷ without_addresses (history_of texts))
last_more texts text last number same count =
    let long : length (without_addresses (history_of texts)) ≡ length texts =
    length-map (history_of texts) (λ (a : AddressedLine). a.line) ∙ histories.length-history_by addressed_of texts in
    rw (same, count, ← long) refl

-- the end of a file whose lines are sound
pub at_end : (r : Result AddrContents FormatError) (bytes : List ℕ) → bad_line (history bytes) ≡ None
    → MatchResult r (λ p. Says (history bytes) p × (end_fault (without_addresses (history bytes)) ≡ None))
    (λ e. Answers e (end_fault (without_addresses (history bytes))))
    → MatchResult r (λ p. (first_bad bytes ≡ None) × Says (history bytes) p) (λ e. Answers e (first_bad bytes))
at_end (Ok p) bytes sound h = (rw sound h.1, h.0)
at_end (Err e) bytes sound h = rw sound h

-- What follows of bytes that are read

pub says_the_same : (before : List AddressedLine) (p q : AddrContents) → Says before p → Says before q
    → SaysTheSame p q
says_the_same before p q x y = record {
  lines = plain.says_the_same (without_addresses before) p.lines q.lines x.lines y.lines;
  self_addresses = x.self_addresses ∙ sym y.self_addresses;
  call_addresses = x.call_addresses ∙ sym y.call_addresses;
}

pub only_reads : (r : Result AddrContents FormatError) (bytes : List ℕ)
    → MatchResult r (λ p. (first_bad bytes ≡ None) × Says (history bytes) p) (λ e. Answers e (first_bad bytes))
    → IfOk r (λ p. (q : AddrContents) → Reads bytes q → SaysTheSame p q)
only_reads (Ok p) bytes h = λ q reads. says_the_same (history bytes) p q h.1 reads.says
only_reads (Err e) bytes h = tt

-- Rows have addresses

self_one : (o : Option Call) (ns : List ℕ) (rows : List NamedSelf) (row : NamedSelf) (n : ℕ)
    → length ns ≡ length rows → length (ns ++ address_if (not (is_some o)) n) ≡ length (rows ++ self_if o row)
self_one None ns rows row n h = omega (arith, length-append ns (n ∷ []), length-append rows (row ∷ []), h)
self_one (Some call) ns rows row n h = rw (append-nil, append-nil) h

call_one : (o : Option Call) (ns : List ℕ) (rows : List NamedCall) (row : Call → NamedCall) (n : ℕ)
    → length ns ≡ length rows → length (ns ++ address_if (is_some o) n) ≡ length (rows ++ call_if o row)
call_one None ns rows row n h = rw (append-nil, append-nil) h
call_one (Some call) ns rows row n h =
    omega (arith, length-append ns (n ∷ []), length-append rows (row call ∷ []), h)

self_more : (line : Line) (before : List Line) (ns : List ℕ) (n : ℕ) → length ns ≡ length (self_rows before)
    → length (ns ++ address_if (is_cost line && not (is_some (open_call before))) n)
    ≡ length (self_rows (line ∷ before))
self_more (Cost place costs) before ns n h =
    self_one (open_call before) ns (self_rows before) (self_row before place costs) n h
self_more _ before ns n h = rw append-nil h

call_more : (line : Line) (before : List Line) (ns : List ℕ) (n : ℕ) → length ns ≡ length (call_rows before)
    → length (ns ++ address_if (is_cost line && is_some (open_call before)) n)
    ≡ length (call_rows (line ∷ before))
call_more (Cost place costs) before ns n h =
    call_one (open_call before) ns (call_rows before) (call_row before place costs) n h
call_more _ before ns n h = rw append-nil h

pub self_addressed : (before : List AddressedLine)
    → length (self_addresses before) ≡ length (self_rows (without_addresses before))
self_addressed [] = refl
self_addressed (a ∷ before) = self_more a.line (without_addresses before) (self_addresses before) _ (self_addressed before)

pub call_addressed : (before : List AddressedLine)
    → length (call_addresses before) ≡ length (call_rows (without_addresses before))
call_addressed [] = refl
call_addressed (a ∷ before) = call_more a.line (without_addresses before) (call_addresses before) _ (call_addressed before)

-- a profile has as many self rows as its lines say
pub self_count : (before : List Line) (p : Contents) → reading.Says before p
    → length p.self_rows ≡ length (self_rows before)
self_count before p says =
    sym (length-map p.self_rows (named_self p.functions p.files)) ∙ ap length says.self_rows

pub call_count : (before : List Line) (p : Contents) → reading.Says before p
    → length p.call_rows ≡ length (call_rows before)
call_count before p says =
    sym (length-map p.call_rows (named_call p.functions p.files)) ∙ ap length says.call_rows
