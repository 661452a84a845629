-- Symbols read back.
use Rattle.std.proofs.Common.{◌≡◌, ℕ, zero, suc, ◌+◌, ◌*◌, ◌/◌, ◌%◌, ◌<◌, ◌≤◌, ◌^◌, List, [], ◌∷◌, ◌++◌, length, drop}
use Rattle.std.proofs.Common.{take, map, get_or, refl, sym, ap, ◌∙◌, arith, add-one, add-zero, append_assoc}
use Rattle.std.proofs.Common.{length-append}
use Rattle.std.specs.List.{All, flat_map}
use Rattle.std.proofs.lemmas.List.{drop-drop, get_or-drop, map-append, take_more, take_all}
use Rattle.elf_read.specs.declared.symbol.SymbolTable.{SymbolTable}
use Rattle.elf_read.specs.Checks.{table}
use Rattle.elf_read.specs.Numbers.{word_at}
use Rattle.elf_read.specs.Strings.{part_of, string_at, string_len}
use Rattle.elf_read.specs.Symbols as elf
use Rattle.elf_read.proofs.StringLemmas.{string_len-le}
use Rattle.prog_make.specs.declared.function_part.FunctionPart.{FunctionPart}
use Rattle.prog_make.specs.declared.symbol.SymbolEntry.{SymbolEntry}
use Rattle.prog_make.specs.SegmentContent.{SegmentContent}
use Rattle.prog_make.specs.Encoding.{half_bytes}
use Rattle.prog_make.specs.Names.{HasNoZero}
use Rattle.prog_make.specs.Contents.{NamedSymbol, symbol_in, function_symbol}
use Rattle.prog_make.specs.inner.Strings.{with_zero}
use Rattle.prog_make.specs.Functions.{section_number}
use Rattle.prog_make.specs.inner.Symbols.{symbol_bytes, symbols_bytes, entries_from, undefined_entry}
use Rattle.prog_make.proofs.Reading.{word_in, half_here, entries_behind}
use Rattle.prog_make.proofs.Bounds.{length-symbol_bytes}
use Rattle.prog_make.proofs.SegmentsRead.{All-rest, All-more}
use Rattle.prog_make.proofs.StringsRead.{text_at, text_at-is, string-read}

-- an entry whose name stands among the strings
abbrev pub seen : List ℕ → SymbolEntry → NamedSymbol
seen strings e = record {
  name = text_at strings e.name;
  value = e.value;
  size = e.size;
  kind = e.info % 16;
  binding = e.info / 16;
  section = e.section;
}

-- the fields fit their places, and the name is one of the strings
pub record EntryFits (strings : List ℕ) (e : SymbolEntry) : Type 0 where
  pub name : e.name < length strings
  pub name_fits : e.name < 2 ^ 32
  pub value : e.value < 2 ^ 32
  pub size : e.size < 2 ^ 32
  pub section : e.section < 2 ^ 16
  pub short : string_len (drop e.name strings) ≤ length (drop e.name strings)

same_symbol : (a a' : List ℕ) (b c d e f b' c' d' e' f' : ℕ) → a ≡ a' → b ≡ b' → c ≡ c' → d ≡ d' → e ≡ e' → f ≡ f'
    → ◌≡◌ {A = NamedSymbol} (record { name = a; value = b; size = c; kind = d; binding = e; section = f })
    (record { name = a'; value = b'; size = c'; kind = d'; binding = e'; section = f' })
same_symbol a a' b c d e f b' c' d' e' f' p q r s t u = cc

-- a symbol that stands at a place
symbol_at-is : (file strings rest others : List ℕ) (names place : ℕ) (e : SymbolEntry) → EntryFits strings e
    → drop names file ≡ strings ++ rest → drop place file ≡ symbol_bytes e ++ others
    → symbol_in file (elf.symbol_at file (record { start = names; end = names + length strings }) place)
    ≡ seen strings e
unfolding symbol_bytes
symbol_at-is file strings rest others names place e fits strings_at at =
    let ws : List ℕ = e.name ∷ e.value ∷ e.size ∷ [] in
    let behind : List ℕ = e.info ∷ 0 ∷ (half_bytes e.section ++ others) in
    let name : word_at file place ≡ e.name = ap (word_at file) (sym (add-zero place))
    ∙ word_in file place ws behind 0 at (omega arith) fits.name_fits in
    let info : get_or file (place + 12) 0 ≡ e.info = sym (get_or-drop place file 12 0) ∙ ap (λ xs. get_or xs 12 0) at in
    let section_at : drop (place + 14) file ≡ half_bytes e.section ++ others = sym (drop-drop 14 place file)
    ∙ ap (drop 14) at in
    same_symbol _ _ _ _ _ _ _ _ _ _ _ _
    (ap (λ n. part_of file (string_at file (record { start = names; end = names + length strings }) n)) name
    ∙ string-read file strings rest names e.name strings_at fits.name fits.short)
    (word_in file place ws behind 1 at (omega arith) fits.value)
    (word_in file place ws behind 2 at (omega arith) fits.size)
    (ap (λ n. n % 16) info)
    (ap (λ n. n / 16) info)
    (half_here file (place + 14) e.section others section_at fits.section)

map-table : {A B C : Type 0} (g : A → C) (f : ℕ → A) (h : B → C) (ys : List B) (d : B)
    → ((k : ℕ) → k < length ys → g (f k) ≡ h (get_or ys k d)) → (n : ℕ) → n ≤ length ys
    → map g (table f n) ≡ map h (take n ys)
map-table g f h ys d each zero le = refl
map-table g f h ys d each (suc n) le =
    let more : take (suc n) ys ≡ take n ys ++ get_or ys n d ∷ [] = rw add-one at (take_more ys n d (omega arith)) in
    rw (
      more,
      map-append g (table f n) (f n ∷ []),
      map-append h (take n ys)
          (get_or ys n d ∷ []),
      map-table g f h ys d each n (omega arith),
      each n (omega arith),
    ) refl

-- the symbols of a table in a file
pub symbols-are : (file strings rest others : List ℕ) (names place : ℕ) (entries : List SymbolEntry)
    → All (EntryFits strings) entries → drop names file ≡ strings ++ rest
    → drop place file ≡ symbols_bytes entries ++ others
    → map (symbol_in file) (table (elf.symbol_in file
    (record {
      place = place;
      count = length entries;
      names = record { start = names; end = names + length strings };
    })) (length entries)) ≡ map (seen strings) entries
unfolding elf.symbol_in
symbols-are file strings rest others names place entries fits strings_at at =
    let t : SymbolTable = record {
      place = place;
      count = length entries;
      names = record { start = names; end = names + length strings };
    } in
    let each : (k : ℕ) → k < length entries
    → symbol_in file (elf.symbol_in file t k) ≡ seen strings (get_or entries k undefined_entry) =
    λ k lt.
    symbol_at-is file strings rest (symbols_bytes (drop (k + 1) entries) ++ others) names (place + 16 * k)
    (get_or entries k undefined_entry) (fits k undefined_entry lt) strings_at
    (sym (drop-drop (16 * k) place file) ∙ ap (drop (16 * k)) at
    ∙ entries_behind symbol_bytes 16 length-symbol_bytes entries k undefined_entry others lt) in
    map-table (symbol_in file) (elf.symbol_in file t) (seen strings) entries undefined_entry each (length entries)
    (omega arith) ∙ ap (map (seen strings)) (take_all (length entries) entries (omega arith))

-- ---- the entries of functions

module _ (segments : List SegmentContent) where
  regroup : (front : List ℕ) (f : FunctionPart) (functions : List FunctionPart)
      → front ++ flat_map (λ g. with_zero g.name) (f ∷ functions)
      ≡ (front ++ with_zero f.name) ++ flat_map (λ g. with_zero g.name) functions
  regroup front f functions = sym (append_assoc front (with_zero f.name) (flat_map (λ g. with_zero g.name) functions))

  behind : (front : List ℕ) (f : FunctionPart) (functions : List FunctionPart)
      → front ++ flat_map (λ g. with_zero g.name) (f ∷ functions)
      ≡ front ++ (f.name ++ 0 ∷ flat_map (λ g. with_zero g.name) functions)
  behind front f functions = ap (λ xs. front ++ xs)
      (append_assoc f.name (0 ∷ []) (flat_map (λ g. with_zero g.name) functions))

  front_len : (front : List ℕ) (f : FunctionPart) → length (front ++ with_zero f.name) ≡ length front + length f.name + 1
  front_len front f = let a = length-append front (with_zero f.name) in let b = length-append f.name (0 ∷ []) in omega arith

  pub entries-seen : (front : List ℕ) (functions : List FunctionPart) → All (λ f. HasNoZero f.name) functions
      → map (seen (front ++ flat_map (λ f. with_zero f.name) functions)) (entries_from (length front) segments functions)
      ≡ map (function_symbol segments) functions
  entries-seen front [] none = refl
  entries-seen front (f ∷ functions) none =
      let rest = entries-seen (front ++ with_zero f.name) functions (All-rest (λ g. HasNoZero g.name) f functions none) in
      let rest' : map (seen (front ++ flat_map (λ g. with_zero g.name) (f ∷ functions)))
      (entries_from (length front + length f.name + 1) segments functions)
      ≡ map (function_symbol segments) functions =
      rw (regroup front f functions, ← front_len front f) rest in
      let name : text_at (front ++ flat_map (λ g. with_zero g.name) (f ∷ functions)) (length front) ≡ f.name =
      rw (behind front f functions) (text_at-is front f.name (flat_map (λ g. with_zero g.name) functions)
      (none 0 f (omega arith))) in
      ap (λ (n : List ℕ). let x : NamedSymbol =
      record {
        name = n;
        value = f.addr;
        size = f.size;
        kind = 2;
        binding = 1;
        section = section_number segments f;
      } in x ∷ map (seen (front ++ flat_map (λ g. with_zero g.name) (f ∷ functions)))
      (entries_from (length front + length f.name + 1) segments functions)) name
      ∙ ap (λ xs. function_symbol segments f ∷ xs) rest'

  -- what holds of a function makes its entry fit
  pub record FunctionFits (f : FunctionPart) : Type 0 where
    pub none : HasNoZero f.name
    pub addr : f.addr < 2 ^ 32
    pub size : f.size < 2 ^ 32
    pub section : section_number segments f < 2 ^ 16

  pub entries-fit : (front : List ℕ) (functions : List FunctionPart)
      → length (front ++ flat_map (λ f. with_zero f.name) functions) < 2 ^ 32 → All FunctionFits functions
      → All (EntryFits (front ++ flat_map (λ f. with_zero f.name) functions))
      (entries_from (length front) segments functions)
  entries-fit front [] short fit = λ k d lt. absurd (omega arith)
  entries-fit front (f ∷ functions) short fit =
      let whole = front ++ flat_map (λ g. with_zero g.name) (f ∷ functions) in
      let here : FunctionFits f = fit 0 f (omega arith) in
      let inside : length front < length (front ++ flat_map (λ g. with_zero g.name) (f ∷ functions)) =
      let a = length-append front (flat_map (λ g. with_zero g.name) (f ∷ functions)) in let b =
      length-append (with_zero f.name) (flat_map (λ g. with_zero g.name) functions) in let c =
      length-append f.name (0 ∷ []) in omega arith in
      let rest = entries-fit (front ++ with_zero f.name) functions (rw (← regroup front f functions) short)
      (All-rest FunctionFits f functions fit) in
      let rest' : All (EntryFits (front ++ flat_map (λ g. with_zero g.name) (f ∷ functions)))
      (entries_from (length front + length f.name + 1) segments functions) =
      rw (regroup front f functions, ← front_len front f) rest in
      All-more (EntryFits (front ++ flat_map (λ g. with_zero g.name) (f ∷ functions)))
      (record {
        name = length front;
        value = f.addr;
        size = f.size;
        info = 0x12;
        section = section_number segments f;
      }) (entries_from (length front + length f.name + 1) segments functions)
      (record {
        name = inside;
        name_fits = omega arith;
        value = here.addr;
        size = here.size;
        section = here.section;
        short = string_len-le
            (drop (length front) (front ++ flat_map (λ g. with_zero g.name) (f ∷ functions)));
      })
      rest'
