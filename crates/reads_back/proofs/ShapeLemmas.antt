-- What each line of a part says by itself.
use Rattle.cg_lines.specs.Lines.{is_blank}
use Rattle.std.proofs.Common.{option_map}
use Rattle.std.proofs.Common.{◌≡◌, ℕ, ◌+◌, ◌<◌, ◌^◌, Bool, true, false, not, ◌||◌, ◌==◌, if◌then◌else◌}
use Rattle.std.proofs.Common.{cond, List}
use Rattle.std.proofs.Common.{[], ◌∷◌, ◌++◌, length, take, drop, codes, Some, refl, sym, ap, ◌∙◌, subst, suc}
use Rattle.std.proofs.Common.{append_assoc, append-nil, arith}
use Rattle.std.specs.Char.{is_ascii_digit}
use Rattle.std.specs.Fmt.{decimal}
use Rattle.std.specs.List.{list_all, prefix_len, position_or_len, All}
use Rattle.std.proofs.lemmas.Bool.Decides.{nat_tests}
use Rattle.std.proofs.lemmas.List.{take_at, drop_at}
use Rattle.byte_text.specs.Names.{is_printable}
use Rattle.event_costs.specs.declared.numbers.FileId.{FileId}
use Rattle.event_costs.specs.declared.numbers.FuncId.{FuncId}
use Rattle.sym_map.specs.SymbolMap.{SymbolMap, file_text, identity_of}
use Rattle.cg_format.specs.Marks.{Mark, File, Function, Callee, Calls, Costs, cost_text, files, functions, id}
use Rattle.cg_format.specs.Marks.{is_in, id_text, mark_text}
use Rattle.cg_format.specs.declared.file_key.FileKey.{FileKey}
use Rattle.cg_format.specs.declared.file_key.FileKey.TheVariants.{Home, Other, Back, OfCallee}
use Rattle.cg_lines.specs.Lines.{is_space, strip, without_front, words}
use Rattle.cg_lines.specs.Numbers.{number_of}
use Rattle.cg_lines.specs.Shapes.{begins_position, bracketed_name, calls_line, calls_with, cost_line, cost_with, id_of}
use Rattle.cg_lines.specs.Shapes.{line_of, name_of, name_with_id, sub_position_of, shape}
use Rattle.cg_lines.specs.declared.line.Line.{Line}
use Rattle.cg_lines.specs.declared.line.Line.TheVariants as line
use Rattle.cg_lines.specs.declared.name.Name.{Name}
use Rattle.cg_lines.specs.declared.name.Name.TheVariants as name
use Rattle.cg_lines.specs.declared.number.Number.TheVariants.{Fits}
use Rattle.cg_lines.specs.declared.sub_position.SubPosition.TheVariants.{At}
use Rattle.key_tables.specs.Same.{both_true}
use Rattle.reads_back.proofs.TextLemmas.{IsText, clear-append, stripped_kept, text-append}
use Rattle.reads_back.proofs.CleanLemmas.{IsName, name-text, seen_no_space}
use Rattle.reads_back.proofs.NumberLemmas.{decimal_digits, decimal_parts, decimal_some, no_space, number_decimal}
use Rattle.reads_back.proofs.NumberLemmas.{text-decimal, words_more, words_one}
use Rattle.std.proofs.lemmas.Bool.{and_from}

one_more : (n : ℕ) → 1 + n ≡ suc n
one_more n = omega arith

-- Names with ids

-- the id of a number in a list, as it is read
abbrev pub id_read : List ℕ → ℕ → List ℕ
id_read written number = id_of (decimal (id written number))

-- the name that is written for a number
abbrev pub name_read : List ℕ → ℕ → List ℕ → Name
name_read written number text =
    if is_in written number then name.Id (id_read written number) else name.Named (id_read written number) text

-- a list of elements that pass, up to one that doesn't
pub front : (p : ℕ → Bool) (xs : List ℕ) (y : ℕ) (ys : List ℕ) → list_all p xs ≡ true → p y ≡ false
    → prefix_len p (xs ++ y ∷ ys) ≡ length xs
front p [] y ys all stops = ap (λ b. cond b (1 + prefix_len p ys) 0) stops
front p (x ∷ xs) y ys all stops =
    let parts = both_true (p x) (list_all p xs) all in
    ap (λ b. cond b (1 + prefix_len p (xs ++ y ∷ ys)) 0) parts.0 ∙ ap (λ n. 1 + n) (front p xs y ys parts.1 stops)
    ∙ one_more (length xs)

some_length : (ds : List ℕ) → 0 < length ds → not (length ds == 0) ≡ true
some_length ds some = grind (arith, nat_tests)

-- digits in brackets
bracketed : (ds tail : List ℕ) → list_all is_ascii_digit ds ≡ true → 0 < length ds
    → name_of (40 ∷ (ds ++ 41 ∷ tail)) ≡ name_with_id (id_of ds) (without_front is_space tail)
bracketed ds tail all some =
    let rest : List ℕ = ds ++ 41 ∷ tail in
    let long : prefix_len is_ascii_digit rest ≡ length ds = front is_ascii_digit ds 41 tail all refl in
    ap (λ n. bracketed_name (40 ∷ rest) (take n rest) (drop n rest)) long
    ∙ ap (λ front. bracketed_name (40 ∷ rest) front (drop (length ds) rest)) (take_at ds (41 ∷ tail) (length ds) refl)
    ∙ ap (λ back. bracketed_name (40 ∷ rest) ds back) (drop_at ds (41 ∷ tail) (length ds) refl)
    ∙ ap (λ b. cond b (name_with_id (id_of ds) (without_front is_space tail)) (name.Plain (40 ∷ rest)))
    (some_length ds some)

no_front_space : (first : ℕ) (rest : List ℕ) → is_space first ≡ false
    → without_front is_space (32 ∷ first ∷ rest) ≡ first ∷ rest
no_front_space first rest e =
    ap (λ b. drop (1 + cond b (1 + prefix_len is_space rest) 0) (32 ∷ first ∷ rest)) e

pub new_name : (ident text : List ℕ) → IsName text
    → name_with_id ident (without_front is_space (32 ∷ text)) ≡ name.Named ident text
new_name ident text n =
    subst (λ (t : List ℕ). name_with_id ident (without_front is_space (32 ∷ t)) ≡ name.Named ident t) (sym n.is)
    (ap (name_with_id ident) (no_front_space n.first n.rest (seen_no_space n.first n.seen)))

-- how a named line ends, and what its name is
pub name_of-named : (written : List ℕ) (number : ℕ) (text : List ℕ) → IsName text
    → name_of (id_text written number text) ≡ name_read written number text
name_of-named written number text n = go (is_in written number)
  where
    ds : List ℕ
    ds = decimal (id written number)

    go : (b : Bool)
        → name_of (codes "(" ++ decimal (id written number) ++ codes ")" ++ cond b [] (codes " " ++ text))
        ≡ cond b (name.Id (id_read written number)) (name.Named (id_read written number) text)
    go true =
        ap (λ (xs : List ℕ). name_of (40 ∷ xs)) (append_assoc (decimal (id written number)) (41 ∷ []) [])
        ∙ bracketed (decimal (id written number)) [] (decimal_digits (id written number))
        (decimal_some (id written number))
    go false =
        ap (λ (xs : List ℕ). name_of (40 ∷ xs)) (append_assoc (decimal (id written number)) (41 ∷ []) (32 ∷ text))
        ∙ bracketed (decimal (id written number)) (32 ∷ text) (decimal_digits (id written number))
        (decimal_some (id written number))
        ∙ new_name (id_read written number) text n

-- the text of a name is printable, and its last character is seen
named_text : (written : List ℕ) (number : ℕ) (text : List ℕ) → IsName text → IsText (id_text written number text)
named_text written number text n = go (is_in written number)
  where
    head_clear : list_all is_printable (codes "(" ++ decimal (id written number)) ≡ true
    head_clear = clear-append (codes "(") (decimal (id written number)) refl
        (text-decimal (id written number)).clear

    go : (b : Bool) → IsText (codes "(" ++ decimal (id written number) ++ codes ")" ++ cond b [] (codes " " ++ text))
    go true =
        subst IsText (sym (append-nil (codes "(" ++ decimal (id written number) ++ codes ")")))
        (text-append (codes "(" ++ decimal (id written number)) (codes ")") head_clear
        (record { clear = refl; some = omega arith; last = refl }))
    go false =
        text-append (codes "(" ++ decimal (id written number) ++ codes ")") (codes " " ++ text)
        (clear-append (codes "(" ++ decimal (id written number)) (codes ")") head_clear refl)
        (text-append (codes " ") text refl (name-text text n))

-- What a line says, where its text is as it should be

pub record Spells (text : List ℕ) (l : Line) : Type 0 where
  pub clear : list_all is_printable text ≡ true
  pub said : line_of text ≡ l

-- the key of a file's line, and what the line says
abbrev pub file_line : FileKey → Name → Line
file_line Home n = line.File n
file_line Other n = line.File n
file_line Back n = line.File n
file_line OfCallee n = line.CalleeFile n

named_line : (first : ℕ) (key : List ℕ) (written : List ℕ) (number : ℕ) (text : List ℕ) (made : Name → Line)
    → is_blank first ≡ false → list_all is_printable (first ∷ key) ≡ true
    → shape ((first ∷ key) ++ id_text written number text) ≡ made (name_of (id_text written number text))
    → IsName text → Spells ((first ∷ key) ++ id_text written number text) (made (name_read written number text))
named_line first key written number text made front clear shaped n =
    let whole : IsText ((first ∷ key) ++ id_text written number text)
    = text-append (first ∷ key) (id_text written number text) clear (named_text written number text n) in
    record {
      clear = whole.clear;
      said = ap shape (stripped_kept first (key ++ id_text written number text) front whole)
          ∙ shaped ∙ ap made (name_of-named written number text n);
    }

pub spells_file : (m : SymbolMap) (before : List Mark) (key : FileKey) (file : FileId) → IsName (file_text m file)
    → Spells (mark_text m before (File key file)) (file_line key (name_read (files before) file.0 (file_text m file)))
spells_file m before Home file n =
    named_line 102 (108 ∷ 61 ∷ []) (files before) file.0 (file_text m file) line.File refl refl refl n
spells_file m before Other file n =
    named_line 102 (105 ∷ 61 ∷ []) (files before) file.0 (file_text m file) line.File refl refl refl n
spells_file m before Back file n =
    named_line 102 (101 ∷ 61 ∷ []) (files before) file.0 (file_text m file) line.File refl refl refl n
spells_file m before OfCallee file n =
    named_line 99 (102 ∷ 105 ∷ 61 ∷ []) (files before) file.0 (file_text m file) line.CalleeFile refl refl refl n

pub spells_function : (m : SymbolMap) (before : List Mark) (f : FuncId) → IsName (identity_of m f).name
    → Spells (mark_text m before (Function f)) (line.Function (name_read (functions before) f.0 (identity_of m f).name))
spells_function m before f n =
    named_line 102 (110 ∷ 61 ∷ []) (functions before) f.0 (identity_of m f).name line.Function refl refl refl n

pub spells_callee : (m : SymbolMap) (before : List Mark) (f : FuncId) → IsName (identity_of m f).name
    → Spells (mark_text m before (Callee f)) (line.Callee (name_read (functions before) f.0 (identity_of m f).name))
spells_callee m before f n =
    named_line 99 (102 ∷ 110 ∷ 61 ∷ []) (functions before) f.0 (identity_of m f).name line.Callee refl refl refl n

-- Numbers

pub digit_no_place : (d : ℕ) → is_ascii_digit d ≡ true
    → ((d == 42) ≡ false) × ((d == 43) ≡ false) × ((d == 45) ≡ false) × ((d == 35) ≡ false)
digit_no_place d e =
    (grind (arith, nat_tests), grind (arith, nat_tests), grind (arith, nat_tests), grind (arith, nat_tests))

pub place_decimal : (n : ℕ) → n < 2 ^ 64 → sub_position_of (decimal n) ≡ Some (At (Fits n))
place_decimal n small =
    let parts = decimal_parts n in
    let other = digit_no_place parts.first parts.digit in
    let rest : List ℕ = parts.rest in
    ap sub_position_of parts.is
    ∙ plain parts.first rest other.0 other.1 other.2
    ∙ ap (λ (ds : List ℕ). option_map At (number_of ds)) (sym parts.is)
    ∙ ap (option_map At) (number_decimal n small)
  where
    plain : (d : ℕ) (rest : List ℕ) → (d == 42) ≡ false → (d == 43) ≡ false → (d == 45) ≡ false
        → sub_position_of (d ∷ rest) ≡ option_map At (number_of (d ∷ rest))
    plain d rest p q r = rw (p, q, r) refl

pub spells_calls : (m : SymbolMap) (before : List Mark) (calls entry : ℕ) → calls < 2 ^ 64 → entry < 2 ^ 64
    → Spells (mark_text m before (Calls calls entry)) (line.Calls (Fits calls) (At (Fits entry)))
spells_calls m before calls entry calls_small entry_small =
    let whole : IsText (codes "calls=" ++ decimal calls ++ codes " " ++ decimal entry) =
    text-append (codes "calls=" ++ decimal calls ++ codes " ") (decimal entry)
    (clear-append (codes "calls=" ++ decimal calls) (codes " ")
    (clear-append (codes "calls=") (decimal calls) refl (text-decimal calls).clear) refl) (text-decimal entry) in
    record {
      clear = whole.clear;
      said = ap shape (stripped_kept 99 (97 ∷ 108 ∷ 108 ∷ 115 ∷ 61 ∷ (decimal calls ++ codes " " ++ decimal entry))
          refl whole)
          ∙ ap (λ (text : List ℕ). calls_line (words text)) (append_assoc (decimal calls) (codes " ") (decimal entry))
          ∙ ap calls_line (words_more calls (decimal entry) ∙ ap (λ ws. decimal calls ∷ ws) (words_one entry))
          ∙ ap (λ n. calls_with n (sub_position_of (decimal entry))) (number_decimal calls calls_small)
          ∙ ap (calls_with (Some (Fits calls))) (place_decimal entry entry_small);
    }

-- a text that is followed by costs
pub costs_after : (text costs : List ℕ) → IsText text → IsText (text ++ cost_text costs)
costs_after text [] t = subst IsText (sym (append-nil text)) t
costs_after text (cost ∷ costs) t =
    subst IsText (append_assoc text (codes " " ++ decimal cost) (cost_text costs))
    (costs_after (text ++ (codes " " ++ decimal cost)) costs
    (text-append text (codes " " ++ decimal cost) t.clear (text-append (codes " ") (decimal cost) refl
    (text-decimal cost))))

pub digit_begins : (d : ℕ) → is_ascii_digit d ≡ true → begins_position d ≡ true
digit_begins d e = ap (λ b. b || d == 42 || d == 43 || d == 45) e

no_space_front : (n : ℕ) (rest : List ℕ) → position_or_len is_space (decimal n ++ 32 ∷ rest) ≡ length (decimal n)
no_space_front n rest = front (λ x. not (is_space x)) (decimal n) 32 rest (each (decimal n) (no_space n)) refl
  where
    each : (ds : List ℕ) → All (λ x. (x == 32) ≡ false) ds → list_all (λ x. not (is_space x)) ds ≡ true
    each [] all = refl
    each (d ∷ ds) all =
        and_from (not (is_space d)) (list_all (λ x. not (is_space x)) ds) (ap not (all 0 d (omega arith)))
        (each ds (λ k e lt. all (suc k) e (omega arith)))

pub digit_no_blank : (d : ℕ) → is_ascii_digit d ≡ true → is_blank d ≡ false
digit_no_blank d e = grind (arith, nat_tests)

-- the costs of a line, as they are read
abbrev pub costs_read : List ℕ → List ℕ
costs_read [] = []
costs_read (cost ∷ costs) = decimal cost ++ cost_text costs

pub spells_costs : (m : SymbolMap) (before : List Mark) (at cost : ℕ) (costs : List ℕ) → at < 2 ^ 64
    → Spells (mark_text m before (Costs at (cost ∷ costs))) (line.Cost (At (Fits at)) (costs_read (cost ∷ costs)))
spells_costs m before at cost costs small =
    let whole : IsText (decimal at ++ cost_text (cost ∷ costs)) =
    costs_after (decimal at) (cost ∷ costs) (text-decimal at) in
    let rest : List ℕ = decimal cost ++ cost_text costs in
    let text : List ℕ = decimal at ++ 32 ∷ rest in
    record {
      clear = whole.clear;
      said = ap shape (kept (decimal_parts at).is (decimal_parts at).digit whole)
          ∙ begun (decimal_parts at).is (decimal_parts at).digit
          ∙ ap (λ n. cost_with (sub_position_of (take n text)) (drop (n + 1) text)) (no_space_front at rest)
          ∙ ap (λ (ds : List ℕ). cost_with (sub_position_of ds) (drop (length (decimal at) + 1) text))
          (take_at (decimal at) (32 ∷ rest) (length (decimal at)) refl)
          ∙ ap (cost_with (sub_position_of (decimal at))) (behind (decimal at))
          ∙ ap (λ p. cost_with p rest) (place_decimal at small);
    }
  where
    kept : {d : ℕ} {ds : List ℕ} → decimal at ≡ d ∷ ds → is_ascii_digit d ≡ true
        → IsText (decimal at ++ cost_text (cost ∷ costs))
        → strip (decimal at ++ cost_text (cost ∷ costs)) ≡ decimal at ++ cost_text (cost ∷ costs)
    kept {d} {ds} is digit whole =
        subst (λ (xs : List ℕ). IsText (xs ++ cost_text (cost ∷ costs))
        → strip (xs ++ cost_text (cost ∷ costs)) ≡ xs ++ cost_text (cost ∷ costs)) (sym is)
        (stripped_kept d (ds ++ cost_text (cost ∷ costs)) (digit_no_blank d digit)) whole

    begun : {d : ℕ} {ds : List ℕ} → decimal at ≡ d ∷ ds → is_ascii_digit d ≡ true
        → shape (decimal at ++ cost_text (cost ∷ costs)) ≡ cost_line (decimal at ++ cost_text (cost ∷ costs))
    begun {d} {ds} is digit =
        subst (λ (xs : List ℕ). shape (xs ++ cost_text (cost ∷ costs)) ≡ cost_line (xs ++ cost_text (cost ∷ costs)))
        (sym is) (rw ((digit_no_place d digit).3, digit_begins d digit) refl)

    behind : (ds : List ℕ) → drop (length ds + 1) (ds ++ 32 ∷ (decimal cost ++ cost_text costs))
        ≡ decimal cost ++ cost_text costs
    behind [] = refl
    behind (d ∷ ds) = ap (λ n. drop n (d ∷ (ds ++ 32 ∷ (decimal cost ++ cost_text costs))))
        (let e : suc (length ds) + 1 ≡ suc (length ds + 1) = omega arith in e) ∙ behind ds
