-- The end of a file, and what follows for its bytes.
use Rattle.std.proofs.Common.{◌≡◌, ◌⊎◌, inl, inr, ℕ, ◌+◌, false, List, [], ◌∷◌, ◌++◌, length, map, Option}
use Rattle.std.proofs.Common.{None, Some, refl, sym, ◌∙◌, is_some, if◌then◌else◌, Result, Ok}
use Rattle.std.proofs.Common.{Err, MatchResult, IfOk}
use Rattle.cg_lines.specs.Lines.{lines}
use Rattle.cg_lines.specs.Shapes.{line_of}
use Rattle.cg_read.specs.Meaning as meaning
use Rattle.cg_read.specs.Meaning.{fault, or_else}
use Rattle.cg_lines.specs.Shapes.{is_blank_line}
use Rattle.cg_read.specs.Faults.{Answers, IsWantOfMemory, error_at}
use Rattle.cg_lines.specs.Faults.{Refuses}
use Rattle.std.specs.List.{AllByRecursion}
use Rattle.cg_read.specs.Profiles.{AreApart, Contents, FitsSelf, FitsCall, IsProfile, contents, SaysTheSame}
use Rattle.cg_read.specs.inner.Events.{AreEvents}
use Rattle.cg_read.proofs.ProfileLemmas.{is_profile}
use Rattle.cg_read.specs.Reading.{Says, Reads, history, history_of, bad_line, first_bad, end_fault, last_line}
use Rattle.cg_read.specs.inner.Knowing.{Knows, Opens}
use Rattle.cg_read.specs.inner.Texts.{function_in, text_in}
use Rattle.cg_read.proofs.HistoryLemmas as histories
use Rattle.cg_read.proofs.TextLemmas.{opens_some}
use Rattle.cg_read.specs.declared.reader.OpenCall.{OpenCall}
use Rattle.cg_read.specs.declared.reader.Reader.{Reader}
use Rattle.cg_lines.specs.declared.line.Line.{Line}
use Rattle.cg_lines.specs.declared.fault.Fault.{Fault}
use Rattle.cg_read.specs.declared.error.FormatError.{FormatError}
use Rattle.cg_read.specs.declared.error.FormatError.TheVariants.{BadLine, NoEvents, Jumps, UnknownId, BadNumber, Instr}
use Rattle.cg_read.specs.declared.error.FormatError.TheVariants.{OutOfMemory}

pub ended : (texts : List (List ℕ)) (o : Option OpenCall) (before : List Line) (es : List (List ℕ))
    → Opens texts o (meaning.open_call before) → is_some o ≡ false → meaning.events before ≡ Some es
    → end_fault before ≡ None
ended texts o before es opens closed named =
    rw (opens_some texts o (meaning.open_call before) opens, closed, named) refl

-- the profile that a reader has drafted, with these events
abbrev pub drafted : Reader → List (List ℕ) → Contents
drafted r es =
    contents es r.command (map (function_in r.texts) r.draft.functions) (map (text_in r.texts) r.draft.files)
    r.draft.self_rows.items r.draft.call_rows.items

says_of : (r : Reader) (before : List Line) (es : List (List ℕ)) → Knows r before → meaning.events before ≡ Some es
    → IsProfile (drafted r es) → Says before (drafted r es)
says_of r before es k named holds = record {
  events = named;
  command = sym k.command;
  self_rows = k.rows.rows.stands.self_rows;
  call_rows = k.rows.rows.stands.call_rows;
  functions = k.rows.rows.stands.functions;
  files = k.rows.rows.stands.files;
  profile = holds;
}

pub texts_say : (r : Reader) (before : List Line) (es : List (List ℕ)) → Knows r before
    → meaning.events before ≡ Some es → AreApart (map (function_in r.texts) r.draft.functions)
    → AreApart (map (text_in r.texts) r.draft.files) → Says before (drafted r es)
texts_say r before es k named apart_f apart_t =
    let are : AreEvents es = rw named at k.rows.sound in
    let fits_s : AllByRecursion (FitsSelf (length es) (length (map (function_in r.texts) r.draft.functions))
    (length (map (text_in r.texts) r.draft.files))) r.draft.self_rows.items
    = rw named at k.rows.rows.stands.self_fit in
    let fits_c : AllByRecursion (FitsCall (length es) (length (map (function_in r.texts) r.draft.functions))
    (length (map (text_in r.texts) r.draft.files))) r.draft.call_rows.items
    = rw named at k.rows.rows.stands.call_fit in
    says_of r before es k named
    (is_profile es r.command (map (function_in r.texts) r.draft.functions) (map (text_in r.texts) r.draft.files)
    r.draft.self_rows.items r.draft.call_rows.items are apart_f apart_t fits_s fits_c)

-- One line more

pub history_more : (texts : List (List ℕ)) (text : List ℕ)
    → history_of (texts ++ text ∷ []) ≡ line_of text ∷ history_of texts
history_more texts text = histories.history_more line_of texts text

pub sound_more : (before : List Line) (line : Line) → bad_line before ≡ None → fault before line ≡ None
    → bad_line (line ∷ before) ≡ None
sound_more before line sound none = histories.sound_more fault before line sound none

-- the fault of a line is the first one
pub refused_line : (bytes : List ℕ) (seen : List (List ℕ)) (text : List ℕ) (rest : List (List ℕ)) (number : ℕ)
    (f : Fault) → lines bytes ≡ seen ++ text ∷ rest → bad_line (history_of seen) ≡ None → number ≡ length seen + 1
    → Refuses f (fault (history_of seen) (line_of text)) → Answers (error_at number f) (first_bad bytes)
refused_line bytes seen text rest number f split sound count h =
    histories.refused_line line_of fault (lines bytes) seen text rest number f _ split sound count h

-- the end of a file whose lines are sound
pub at_end : (r : Result Contents FormatError) (bytes : List ℕ) → bad_line (history bytes) ≡ None
    → MatchResult r (λ p. Says (history bytes) p × (end_fault (history bytes) ≡ None))
    (λ e. Answers e (end_fault (history bytes)))
    → MatchResult r (λ p. (first_bad bytes ≡ None) × Says (history bytes) p) (λ e. Answers e (first_bad bytes))
at_end (Ok p) bytes sound h = (rw sound h.1, h.0)
at_end (Err e) bytes sound h = rw sound h

-- What follows of bytes that are read

pub says_the_same : (before : List Line) (p q : Contents) → Says before p → Says before q → SaysTheSame p q
says_the_same before p q x y = record {
  events = (let e : Some p.events ≡ Some q.events = sym x.events ∙ y.events in cc);
  command = sym x.command ∙ y.command;
  self_rows = x.self_rows ∙ sym y.self_rows;
  call_rows = x.call_rows ∙ sym y.call_rows;
  functions = λ f. x.functions f ∙ sym (y.functions f);
  files = λ t. x.files t ∙ sym (y.files t);
}

nothing_reads : (bytes : List ℕ) (e : FormatError) → first_bad bytes ≡ Some e → (p : Contents) → Reads bytes p → ⊥
nothing_reads bytes e bad p reads = let sound = reads.sound in cc

pub refused_bytes : (bytes : List ℕ) (e : FormatError) → Answers e (first_bad bytes)
    → IsWantOfMemory e ⊎ ((p : Contents) → Reads bytes p → ⊥)
refused_bytes bytes (OutOfMemory _) h = inl refl
refused_bytes bytes NoEvents h = inr (nothing_reads bytes NoEvents h)
refused_bytes bytes (BadLine n) h = inr (nothing_reads bytes (BadLine n) h)
refused_bytes bytes (Jumps n) h = inr (nothing_reads bytes (Jumps n) h)
refused_bytes bytes (UnknownId n) h = inr (nothing_reads bytes (UnknownId n) h)
refused_bytes bytes (BadNumber n) h = inr (nothing_reads bytes (BadNumber n) h)
refused_bytes bytes (Instr n) h = inr (nothing_reads bytes (Instr n) h)

pub only_reads : (r : Result Contents FormatError) (bytes : List ℕ)
    → MatchResult r (λ p. (first_bad bytes ≡ None) × Says (history bytes) p) (λ e. Answers e (first_bad bytes))
    → IfOk r (λ p. (q : Contents) → Reads bytes q → SaysTheSame p q)
only_reads (Ok p) bytes h = λ q reads. says_the_same (history bytes) p q h.1 reads.says
only_reads (Err e) bytes h = tt

pub last_more : (texts : List (List ℕ)) (text : List ℕ) (last number : ℕ) → last ≡ last_line (history_of texts)
    → number ≡ length texts + 1
    → (if is_blank_line (line_of text) then last else number) ≡ last_line (line_of text ∷ history_of texts)
last_more texts text last number same count = rw (same, count, ← histories.length-history_by line_of texts) refl
