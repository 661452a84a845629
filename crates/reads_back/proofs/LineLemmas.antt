-- The lines of a text that is written line by line.
use Rattle.std.proofs.Common.{◌≡◌, ℕ, true, false, ◌==◌, List, [], ◌∷◌, ◌++◌, map, reverse, codes, flat_map}
use Rattle.std.proofs.Common.{append_assoc, append-nil, refl, sym, ap, ◌∙◌, suc, zero, arith, All}
use Rattle.std.specs.List.{AllByRecursion, list_all, slice_split}
use Rattle.std.proofs.lemmas.Bool.Decides.{nat_tests}
use Rattle.std.proofs.lemmas.List.{map-append, reverse-append}
use Rattle.std.proofs.lemmas.List.Concat.{flat_map-append}
use Rattle.std.proofs.lemmas.List.Splits.{slice_split_at}
use Rattle.byte_text.specs.Names.{is_printable}
use Rattle.sym_map.specs.SymbolMap.{SymbolMap}
use Rattle.cg_format.specs.Marks.{Mark, mark_text, text_of}
use Rattle.cg_lines.specs.Lines.{lines}
use Rattle.cg_read.specs.Reading.{history, history_of}
use Rattle.cg_lines.specs.Shapes.{line_of}
use Rattle.cg_lines.specs.declared.line.Line.{Line}
use Rattle.cg_lines.specs.declared.line.Line.TheVariants.{Blank}
use Rattle.key_tables.specs.Same.{both_true}

-- the lines' texts, first line first
abbrev pub texts_of : SymbolMap → List Mark → List (List ℕ)
texts_of m [] = []
texts_of m (mark ∷ before) = texts_of m before ++ mark_text m before mark ∷ []

abbrev joined : List (List ℕ) → List ℕ
joined texts = flat_map (λ text. text ++ codes "\n") texts

pub text_is : (m : SymbolMap) (marks : List Mark) → text_of m marks ≡ joined (texts_of m marks)
text_is m [] = refl
text_is m (mark ∷ before) =
    let line : List ℕ = mark_text m before mark in
    append_assoc (text_of m before) line (codes "\n")
    ∙ ap (λ (xs : List ℕ). xs ++ (line ++ codes "\n")) (text_is m before)
    ∙ ap (λ (xs : List ℕ). joined (texts_of m before) ++ xs) (sym (append-nil (line ++ codes "\n")))
    ∙ sym (flat_map-append (λ (text : List ℕ). text ++ codes "\n") (texts_of m before) (line ∷ []))

-- all characters of all lines are printable
abbrev pub AreClear : SymbolMap → List Mark → Type 0
AreClear m [] = Unit {0}
AreClear m (mark ∷ before) = AreClear m before × (list_all is_printable (mark_text m before mark) ≡ true)

abbrev pub is_clear_text : List ℕ → Type 0
is_clear_text text = list_all is_printable text ≡ true

each_push : (xs : List (List ℕ)) (x : List ℕ) → AllByRecursion is_clear_text xs → is_clear_text x
    → AllByRecursion is_clear_text (xs ++ x ∷ [])
each_push [] x all one = (one, tt)
each_push (y ∷ ys) x all one = (all.0, each_push ys x all.1 one)

pub all_clear : (m : SymbolMap) (marks : List Mark) → AreClear m marks → AllByRecursion is_clear_text (texts_of m marks)
all_clear m [] clear = tt
all_clear m (mark ∷ before) clear =
    each_push (texts_of m before) (mark_text m before mark) (all_clear m before clear.0) clear.1

printable_no_feed : (b : ℕ) → is_printable b ≡ true → (b == 10) ≡ false
printable_no_feed b e = grind (arith, nat_tests)

no_feed : (text : List ℕ) → is_clear_text text → All (λ b. (b == 10) ≡ false) text
no_feed [] clear k d lt = absurd (omega arith)
no_feed (b ∷ bs) clear zero d lt = printable_no_feed b (both_true (is_printable b) (list_all is_printable bs) clear).0
no_feed (b ∷ bs) clear (suc k) d lt =
    no_feed bs (both_true (is_printable b) (list_all is_printable bs) clear).1 k d (omega arith)

pub split_joined : (texts : List (List ℕ)) → AllByRecursion is_clear_text texts
    → lines (joined texts) ≡ texts ++ [] ∷ []
split_joined [] all = refl
split_joined (text ∷ texts) all =
    ap (slice_split (λ b. b == 10)) (append_assoc text (codes "\n") (joined texts))
    ∙ slice_split_at (λ b. b == 10) text 10 (joined texts) (no_feed text all.0) refl
    ∙ ap (λ (ts : List (List ℕ)). text ∷ ts) (split_joined texts all.1)

-- what the lines say, the newest first
abbrev pub lines_of_marks : SymbolMap → List Mark → List Line
lines_of_marks m [] = []
lines_of_marks m (mark ∷ before) = line_of (mark_text m before mark) ∷ lines_of_marks m before

read_is : (m : SymbolMap) (marks : List Mark) → history_of (texts_of m marks) ≡ lines_of_marks m marks
read_is m [] = refl
read_is m (mark ∷ before) =
    ap reverse (map-append line_of (texts_of m before) (mark_text m before mark ∷ []))
    ∙ reverse-append (map line_of (texts_of m before)) (line_of (mark_text m before mark) ∷ [])
    ∙ ap (λ (ls : List Line). line_of (mark_text m before mark) ∷ ls) (read_is m before)

-- the last line feed is followed by an empty line
pub history_is : (m : SymbolMap) (marks : List Mark) → AreClear m marks
    → history (text_of m marks) ≡ Blank ∷ lines_of_marks m marks
history_is m marks clear =
    ap history (text_is m marks)
    ∙ ap history_of (split_joined (texts_of m marks) (all_clear m marks clear))
    ∙ ap reverse (map-append line_of (texts_of m marks) ([] ∷ []))
    ∙ reverse-append (map line_of (texts_of m marks)) (line_of [] ∷ [])
    ∙ ap (λ (ls : List Line). Blank ∷ ls) (read_is m marks)
