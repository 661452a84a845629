-- What lines that are read one after another leave, whatever a line says and whatever its fault is.
use Rattle.std.proofs.Common.{◌≡◌, ◌==◌, ◌≤◌, ℕ, ◌+◌, List, [], ◌∷◌, ◌++◌, length, map, reverse, Option, None, Some}
use Rattle.std.proofs.Common.{refl, sym, ap, ◌∙◌, subst, append_assoc, length-append, arith, Bor}
use Rattle.std.proofs.lemmas.List.{map_push, length-map, append-nil, reverse-append, length-reverse}
use Rattle.std.proofs.lemmas.List.Sums.{count_by-le-length}
use Rattle.std.proofs.lemmas.List.Splits.{length-slice_split}
use Rattle.cg_lines.specs.Lines.{lines}
use Rattle.cg_read.specs.Faults.{Answers, error_at}
use Rattle.cg_read.specs.Meaning.{or_else}
use Rattle.cg_read.specs.Reading.{first_fault}
use Rattle.cg_lines.specs.Faults.{Refuses}
use Rattle.cg_lines.specs.declared.fault.Fault.{Fault}
use Rattle.cg_lines.specs.declared.fault.Fault.TheVariants as fault
use Rattle.cg_read.specs.declared.error.FormatError.{FormatError}

abbrev pub history_by : {L : Type 0} → (List ℕ → L) → List (List ℕ) → List L
history_by of texts = reverse (map of texts)

pub history_more : {L : Type 0} (of : List ℕ → L) (texts : List (List ℕ)) (text : List ℕ)
    → history_by of (texts ++ text ∷ []) ≡ of text ∷ history_by of texts
history_more of texts text = rw (map_push of texts text) (reverse-append (map of texts) (of text ∷ []))

pub length-history_by : {L : Type 0} (of : List ℕ → L) (texts : List (List ℕ))
    → length (history_by of texts) ≡ length texts
length-history_by of texts = rw (length-reverse, length-map) refl

bad_kept : {L : Type 0} (of : List ℕ → L) (says : List L → L → Option Fault) (rest texts : List (List ℕ))
    (e : FormatError) → first_fault says (history_by of texts) ≡ Some e
    → first_fault says (history_by of (texts ++ rest)) ≡ Some e
bad_kept of says [] texts e h = rw append-nil h
bad_kept of says (x ∷ rest) texts e h =
    let more : first_fault says (history_by of (texts ++ x ∷ [])) ≡ Some e = rw (history_more of texts x, h) refl in
    let whole = bad_kept of says rest (texts ++ x ∷ []) e more in
    let again : (texts ++ x ∷ []) ++ rest ≡ texts ++ (x ∷ rest) = append_assoc texts (x ∷ []) rest in
    let P : List (List ℕ) → Type 0 = λ l. first_fault says (history_by of l) ≡ Some e in subst P again whole

pub sound_more : {L : Type 0} (says : List L → L → Option Fault) (before : List L) (line : L)
    → first_fault says before ≡ None → says before line ≡ None → first_fault says (line ∷ before) ≡ None
sound_more says before line sound none = rw (sound, none) refl

found : {L : Type 0} (of : List ℕ → L) (says : List L → L → Option Fault) (texts texts_so_far : List (List ℕ)) (text : List ℕ)
    (rest : List (List ℕ)) (number : ℕ) (f : Fault) (end : Option FormatError)
    → texts ≡ texts_so_far ++ text ∷ rest → first_fault says (history_by of texts_so_far) ≡ None → number ≡ length texts_so_far + 1
    → says (history_by of texts_so_far) (of text) ≡ Some f
    → or_else (first_fault says (history_by of texts)) end ≡ Some (error_at number f)
found of says texts texts_so_far text rest number f end split sound count meant =
    let here : first_fault says (history_by of (texts_so_far ++ text ∷ [])) ≡ Some (error_at number f)
    = rw (history_more of texts_so_far text, sound, meant, length-history_by of texts_so_far, ← count) refl in
    let again : (texts_so_far ++ text ∷ []) ++ rest ≡ texts = append_assoc texts_so_far (text ∷ []) rest ∙ sym split in
    let whole : first_fault says (history_by of ((texts_so_far ++ text ∷ []) ++ rest)) ≡ Some (error_at number f)
    = bad_kept of says rest (texts_so_far ++ text ∷ []) (error_at number f) here in
    let all : first_fault says (history_by of texts) ≡ Some (error_at number f)
    = (let P : List (List ℕ) → Type 0 = λ l. first_fault says (history_by of l) ≡ Some (error_at number f) in
    subst P again whole) in
    rw all refl

-- the fault of a line is the first one
pub refused_line : {L : Type 0} (of : List ℕ → L) (says : List L → L → Option Fault) (texts texts_so_far : List (List ℕ))
    (text : List ℕ) (rest : List (List ℕ)) (number : ℕ) (f : Fault) (end : Option FormatError)
    → texts ≡ texts_so_far ++ text ∷ rest → first_fault says (history_by of texts_so_far) ≡ None → number ≡ length texts_so_far + 1
    → Refuses f (says (history_by of texts_so_far) (of text))
    → Answers (error_at number f) (or_else (first_fault says (history_by of texts)) end)
refused_line of says texts texts_so_far text rest number (fault.OutOfMemory _) end split sound count h = tt
refused_line of says texts texts_so_far text rest number fault.BadLine end split sound count h =
    found of says texts texts_so_far text rest number fault.BadLine end split sound count h
refused_line of says texts texts_so_far text rest number fault.NoEvents end split sound count h =
    found of says texts texts_so_far text rest number fault.NoEvents end split sound count h
refused_line of says texts texts_so_far text rest number fault.Jumps end split sound count h =
    found of says texts texts_so_far text rest number fault.Jumps end split sound count h
refused_line of says texts texts_so_far text rest number fault.UnknownId end split sound count h =
    found of says texts texts_so_far text rest number fault.UnknownId end split sound count h
refused_line of says texts texts_so_far text rest number fault.BadNumber end split sound count h =
    found of says texts texts_so_far text rest number fault.BadNumber end split sound count h
refused_line of says texts texts_so_far text rest number fault.Instr end split sound count h =
    found of says texts texts_so_far text rest number fault.Instr end split sound count h

-- ---- a loop over the lines of a file

-- the texts that it has seen
abbrev pub texts_so_far : List (Bor (List ℕ)) → List (List ℕ)
texts_so_far yielded = map (λ (text : Bor (List ℕ)). text.now) yielded

seen_more : (yielded : List (Bor (List ℕ))) (text : Bor (List ℕ))
    → texts_so_far (yielded ++ text ∷ []) ≡ texts_so_far yielded ++ text.now ∷ []
seen_more yielded text = map_push (λ (text : Bor (List ℕ)). text.now) yielded text

-- the next text stands behind those
pub split_here : (all : List (List ℕ)) (yielded : List (Bor (List ℕ))) (left rest : List (List ℕ)) (text : List ℕ)
    → all ≡ texts_so_far yielded ++ left → left ≡ text ∷ rest → all ≡ texts_so_far yielded ++ text ∷ rest
split_here all yielded left rest text split steps = split ∙ ap (λ (l : List (List ℕ)). texts_so_far yielded ++ l) steps

pub split_more : (all : List (List ℕ)) (yielded : List (Bor (List ℕ))) (rest : List (List ℕ)) (text : Bor (List ℕ))
    → all ≡ texts_so_far yielded ++ text.now ∷ rest → all ≡ texts_so_far (yielded ++ text ∷ []) ++ rest
split_more all yielded rest text split =
    rw (seen_more yielded text) (split ∙ sym (append_assoc (texts_so_far yielded) (text.now ∷ []) rest))

pub history_seen : {L : Type 0} (of : List ℕ → L) (yielded : List (Bor (List ℕ))) (text : Bor (List ℕ))
    → history_by of (texts_so_far (yielded ++ text ∷ [])) ≡ of text.now ∷ history_by of (texts_so_far yielded)
history_seen of yielded text = rw (seen_more yielded text) (history_more of (texts_so_far yielded) text.now)

-- its number counts from 1
pub number_seen : (yielded : List (Bor (List ℕ))) (number : ℕ) → number ≡ length yielded
    → number + 1 ≡ length (texts_so_far yielded) + 1
number_seen yielded number count =
    rw (length-map yielded (λ (text : Bor (List ℕ)). text.now)) (ap (λ n. n + 1) count)

-- there is at most one line more than bytes
lines-few : (bytes : List ℕ) → length (lines bytes) ≤ length bytes + 1
lines-few bytes = omega (arith, length-slice_split (λ b. b == 10) bytes, count_by-le-length (λ b. b == 10) bytes)

-- there are no more lines before one than bytes
pub number_within : (bytes : List ℕ) (yielded : List (Bor (List ℕ))) (rest : List (List ℕ)) (text : List ℕ) (number : ℕ)
    → lines bytes ≡ texts_so_far yielded ++ text ∷ rest → number ≡ length yielded → number ≤ length bytes
number_within bytes yielded rest text number split count =
    let all : length (lines bytes) ≡ length (texts_so_far yielded) + length (text ∷ rest)
    = ap length split ∙ length-append (texts_so_far yielded) (text ∷ rest) in
    let yields : length (texts_so_far yielded) ≡ length yielded = length-map yielded (λ (text : Bor (List ℕ)). text.now) in
    omega (arith, lines-few bytes, all, yields, count)
