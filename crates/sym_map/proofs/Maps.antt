-- What a map that was built says.
use Rattle.std.proofs.Common.{◌≡◌, ℕ, ◌-◌, ◌<◌, ◌≤◌, ◌^◌, Bool, true, false, cond, eqb, leb, List, [], ◌∷◌, length}
use Rattle.std.proofs.Common.{get_or, map, Option, Some, None, option_map, refl, sym, ap, ◌∙◌, subst, Contains, ◌⊎◌}
use Rattle.std.proofs.Common.{⊎_elim, arith, Ordering}
use Rattle.std.specs.Prelude.{All, IfSome, filter, find, flat_map, not, slice_get}
use Rattle.std.specs.Option.{option_or, option_and_then, option_map_or}
use Rattle.std.specs.declared.cmp.Ordering.TheVariants.{Less, Equal, Greater}
use Rattle.std.specs.Ordering.{nat_cmp, is_lt, ordering_then, MatchOrdering}
use Rattle.std.specs.Cmp.Lexicographic.{slice_cmp}
use Rattle.std.specs.List.{AllByRecursion, list_all}
use Rattle.std.specs.List.Sorted.{IsStrictlySortedBy}
use Rattle.std.specs.Cmp.{IsTotalOrder}
use Rattle.std.proofs.lemmas.Cmp.{ranked, tied_itself, nat_list_cmp_total, then_total, on_total}
use Rattle.std.proofs.lemmas.List.{get_or-map, length-map, get_or_default}
use Rattle.std.proofs.lemmas.List.Elements.{All-contains, Contains-get_or, recursion_from_All}
use Rattle.std.proofs.lemmas.Option.{get_or_from_slice_get, slice_get_within}
use Rattle.std.proofs.lemmas.Bool.Decides.{nat_tests}
use Rattle.std.proofs.lemmas.Bool.{leb-true}
use Rattle.elf_read.specs.declared.symbol.Symbol.{Symbol}
use Rattle.elf_read.specs.Image.{Image}
use Rattle.dwarf_line.specs.Program.{SequenceOf}
use Rattle.dwarf_line.specs.LineRow.{LineRow, row_at, line_of, line_at, last_at}
use Rattle.byte_text.specs.Names.{clean_name}
use Rattle.event_costs.specs.declared.numbers.FileId.{FileId}
use Rattle.event_costs.specs.declared.numbers.FuncId.{FuncId}
use Rattle.event_costs.specs.Keys.{Place}
use Rattle.sym_map.specs.declared.function.Function.{Function}
use Rattle.sym_map.specs.declared.range.Cover.TheVariants as what
use Rattle.sym_map.specs.declared.range.LineHere.{LineHere}
use Rattle.sym_map.specs.declared.range.Range.{Range}
use Rattle.sym_map.specs.declared.range.SymbolHere.{SymbolHere}
use Rattle.sym_map.specs.inner.Functions.{home_at}
use Rattle.sym_map.specs.inner.Lines.{IsLineOf, AreLinesOf}
use Rattle.byte_text.specs.Names.{unknown as unknown_name}
use Rattle.sym_map.specs.Places.{Identity, Enters, IsEntryOf, unknown_function, function_of, function_at}
use Rattle.sym_map.specs.Places.{location_at, is_entry, functions_of}
use Rattle.sym_map.specs.inner.Ranges.{AddressRanges, start_of, cover_at, symbol_of}
use Rattle.sym_map.specs.inner.Ranges.{here_at, map_of}
use Rattle.sym_map.specs.inner.Entries.{entered_func, enters, start_of_first}
use Rattle.sym_map.proofs.Ranges.{cover_at-start, far_starts}
use Rattle.sym_map.proofs.EntryTables.{entered_symbol}
use Rattle.sym_map.specs.inner.Shows.{Shows}
use Rattle.sym_map.specs.SymbolMap.{SymbolMap, by_identity, place_of, is_entry_at, identity_in}
use Rattle.sym_map.specs.inner.Maps.{IsMap}
use Rattle.sym_map.specs.SymbolMap.{location_of, IsCleaned}
use Rattle.sym_map.specs.inner.Maps.{IsKnown}
use Rattle.sym_map.specs.inner.SymbolTable.{IsSymbolOf}
use Rattle.sym_map.specs.Symbols.{candidates, covers_sized, covers_unsized, best_of, preference, symbol_at}
use Rattle.sym_map.specs.inner.SymbolTable.{symbol_key, unknown_key, AreSymbolsOf}
use Rattle.sym_map.proofs.Members.{Alike, Alike-trans, Alike-refl, Alike-map, Contains-first, Contains-cons}
use Rattle.sym_map.proofs.Members.{Contains-from_map, first_or_rest}
use Rattle.sym_map.proofs.Preference.{Contains-filter, Found, none, some, found}
use Rattle.sym_map.proofs.Rising.{far}
use Rattle.sym_map.proofs.Told.{entry_is, place_is}
use Rattle.sym_map.specs.FunctionOrder.{by_function}

-- ---- the symbol of an address isn't above it

found_passes : {X : Type 0} (p : X → Bool) (xs : List X) (x : X) → find p xs ≡ Some x → Contains xs x
found_passes p [] x e = absurd (cc)
found_passes p (y ∷ ys) x e = go (p y) e (found_passes p ys x)
  where
    go : (b : Bool) → cond b (Some y) (find p ys) ≡ Some x → (find p ys ≡ Some x → Contains ys x) → Contains (y ∷ ys) x
    go true f inner = let same : y ≡ x = cc in subst (λ z. Contains (y ∷ ys) z) same (Contains-first y ys)
    go false f inner = Contains-cons y ys x (inner f)

best_passes : (image : Image) (test : Symbol → Bool) (s : Symbol)
    → best_of image (filter test (candidates image)) ≡ Some s → test s ≡ true
best_passes image test s e =
    let passing : List Symbol = filter test (candidates image) in
    (Contains-filter test (candidates image) s (found_passes (λ (x : Symbol). list_all (λ y. not (is_lt (preference image y x))) passing) passing s e)).1

sized_below : (a : ℕ) (s : Symbol) → covers_sized a s ≡ true → s.value ≤ a
sized_below a s e = grind (arith, nat_tests)

unsized_below : (image : Image) (a : ℕ) (s : Symbol) → covers_unsized image a s ≡ true → s.value ≤ a
unsized_below image a s e = grind (arith, nat_tests)

pub symbol_below : (image : Image) (a : ℕ) (s : Symbol) → symbol_at image a ≡ Some s → s.value ≤ a
unfolding symbol_at
symbol_below image a s e =
    go (best_of image (filter (covers_sized a) (candidates image)))
    (best_of image (filter (covers_unsized image a) (candidates image))) refl refl e
  where
    go : (o p : Option Symbol) → best_of image (filter (covers_sized a) (candidates image)) ≡ o
        → best_of image (filter (covers_unsized image a) (candidates image)) ≡ p → option_or o p ≡ Some s → s.value ≤ a
    go None p is_o is_p f = unsized_below image a s (best_passes image (covers_unsized image a) s (is_p ∙ f))
    go (Some x) p is_o is_p f = sized_below a s (best_passes image (covers_sized a) s (is_o ∙ f))

-- ---- the range of an address

range_there : (xs : List Range) (a : ℕ) (s : SymbolHere) → symbol_of (cover_at xs a) ≡ Some s
    → (r : Range) × Contains xs r × (r.start ≤ a) × (symbol_of r.cover ≡ Some s)
range_there xs a s e = go (last_at start_of a xs) refl e
  where
    go : (o : Option Range) → last_at start_of a xs ≡ o
        → symbol_of (option_map_or (λ (r : Range). r.cover) o what.Nothing) ≡ Some s
        → (r : Range) × Contains xs r × (r.start ≤ a) × (symbol_of r.cover ≡ Some s)
    go None is f = absurd (cc)
    go (Some r) is f =
        let below : List Range = filter (λ (x : Range). leb x.start a) xs in
        let at = slice_get_within below (length below - 1) r is in
        let there : Contains below r = (length below - 1, at, get_or_from_slice_get below (length below - 1) r r is) in
        let inner = Contains-filter (λ (x : Range). leb x.start a) xs r there in
        (r, inner.0, leb-true r.start a inner.1, f)

eqb-same : (n : ℕ) → eqb n n ≡ true
eqb-same n = grind (arith, nat_tests)

same_from_eqb : (m n : ℕ) → eqb m n ≡ true → m ≡ n
same_from_eqb m n e = grind (arith, nat_tests)

identity_total : IsTotalOrder by_identity
identity_total = then_total (on_total (λ (x : Identity). x.file) nat_list_cmp_total)
    (on_total (λ (x : Identity). x.name) nat_list_cmp_total)

-- ---- files and lines

module _ (lines : List (SequenceOf LineRow)) (names : List (List ℕ)) (unknown : FileId) (line_ranges : List Range)
    (L : AreLinesOf lines names unknown line_ranges) where
  unknown_text : get_or names unknown.0 unknown_name ≡ unknown_name
  unknown_text = get_or_from_slice_get names unknown.0 unknown_name unknown_name L.unknown_is

  file_shown : (o : Option LineHere) (row : Option LineRow) → Shows (IsLineOf names) o row
      → get_or names (option_map_or (λ (l : LineHere). l.file) o unknown).0 unknown_name ≡ clean_name (line_of row).file
  file_shown None None shows = unknown_text
  file_shown None (Some r) shows = absurd shows
  file_shown (Some l) None shows = absurd shows
  file_shown (Some l) (Some r) shows = get_or_from_slice_get names l.file.0 (clean_name r.file) unknown_name shows.0

  line_shown : (o : Option LineHere) (row : Option LineRow) → Shows (IsLineOf names) o row
      → option_map_or (λ (l : LineHere). l.line) o 0 ≡ (line_of row).line
  line_shown None None shows = refl
  line_shown None (Some r) shows = absurd shows
  line_shown (Some l) None shows = absurd shows
  line_shown (Some l) (Some r) shows = shows.1

  file_within : (o : Option LineHere) (row : Option LineRow) → Shows (IsLineOf names) o row
      → (option_map_or (λ (l : LineHere). l.file) o unknown).0 < length names
  file_within None None shows = slice_get_within names unknown.0 unknown_name L.unknown_is
  file_within None (Some r) shows = absurd shows
  file_within (Some l) None shows = absurd shows
  file_within (Some l) (Some r) shows = slice_get_within names l.file.0 (clean_name r.file) shows.0

  abbrev line_seen : ℕ → Option LineHere
  line_seen a = Rattle.sym_map.specs.inner.Ranges.line_of (cover_at line_ranges a)

  home_text : (a : ℕ) → a < 2 ^ 32
      → get_or names (home_at line_ranges unknown a).0 unknown_name ≡ clean_name (line_at lines a).file
  home_text a small = file_shown (line_seen a) (row_at lines a) (L.shows a small)

  home_within : (a : ℕ) → a < 2 ^ 32 → (home_at line_ranges unknown a).0 < length names
  home_within a small = file_within (line_seen a) (row_at lines a) (L.shows a small)

  module _ (image : Image) (functions : List Function) (unknown_func : FuncId) (symbol_ranges : List Range)
      (S : AreSymbolsOf image line_ranges unknown functions unknown_func symbol_ranges) where
    abbrev ranges : AddressRanges
    ranges = record { symbols = symbol_ranges; lines = line_ranges; by_address = false }

    abbrev symbol_seen : ℕ → Option SymbolHere
    symbol_seen a = symbol_of (cover_at symbol_ranges a)

    abbrev key : Symbol → Function
    key = symbol_key image line_ranges unknown

    key_identity : (s : Symbol) → s.value < 2 ^ 32 → identity_in names (key s) ≡ function_of image lines s
    key_identity s small = λ i. record
        { file = home_text s.value small i; name = clean_name (Rattle.sym_map.specs.Symbols.symbol_name image s) }

    unknown_identity : identity_in names (unknown_key unknown) ≡ unknown_function
    unknown_identity = λ i. record { file = unknown_text i; name = unknown_name }

    -- the identity of a number that is given to a key
    named_identity : (func : FuncId) (function : Function) → slice_get functions func.0 ≡ Some function
        → get_or (map (identity_in names) functions) func.0 unknown_function ≡ identity_in names function
    named_identity func function at =
        get_or-map (identity_in names) functions func.0 function unknown_function
        (slice_get_within functions func.0 function at)
        ∙ ap (identity_in names) (get_or_from_slice_get functions func.0 function function at)

    func_shown : (o : Option SymbolHere) (symbol : Option Symbol) → Shows (IsSymbolOf key functions) o symbol
        → ((s : Symbol) → symbol ≡ Some s → s.value < 2 ^ 32)
        → get_or (map (identity_in names) functions) (option_map_or (λ (h : SymbolHere). h.func) o unknown_func).0
        unknown_function ≡ option_map_or (function_of image lines) symbol unknown_function
    func_shown None None shows small = named_identity unknown_func (unknown_key unknown) S.unknown_is ∙ unknown_identity
    func_shown None (Some s) shows small = absurd shows
    func_shown (Some h) None shows small = absurd shows
    func_shown (Some h) (Some s) shows small = named_identity h.func (key s) shows.0 ∙ key_identity s (small s refl)

    values_small : (a : ℕ) → a < 2 ^ 32 → (s : Symbol) → symbol_at image a ≡ Some s → s.value < 2 ^ 32
    values_small a small s at = let le = symbol_below image a s at in omega arith

    symbol_within : (o : Option SymbolHere) (symbol : Option Symbol) → Shows (IsSymbolOf key functions) o symbol
        → IfSome o (λ (h : SymbolHere). h.func.0 < length functions)
    symbol_within None symbol shows = tt
    symbol_within (Some h) None shows = absurd shows
    symbol_within (Some h) (Some s) shows = slice_get_within functions h.func.0 (key s) shows.0

    line_within : (o : Option LineHere) (row : Option LineRow) → Shows (IsLineOf names) o row
        → IfSome o (λ (l : LineHere). l.file.0 < length names)
    line_within None row shows = tt
    line_within (Some l) None shows = absurd shows
    line_within (Some l) (Some r) shows = slice_get_within names l.file.0 (clean_name r.file) shows.0

    line_limit : (o : Option LineHere) (row : Option LineRow) → Shows (IsLineOf names) o row
        → IfSome o (λ (l : LineHere). l.line < 2 ^ 32)
    line_limit None row shows = tt
    line_limit (Some l) None shows = absurd shows
    line_limit (Some l) (Some r) shows = shows.2

    -- names are cleaned texts
    name_cleaned : (function : Function) → Contains functions function → IsCleaned function.name
    name_cleaned function there =
        ⊎_elim
        (λ (e : unknown_key unknown ≡ function). subst (λ (f : Function). IsCleaned f.name) e ([], refl))
        (λ (r : Contains (map key (candidates image)) function).
        let from = Contains-from_map key (candidates image) function r in
        subst (λ (f : Function). IsCleaned f.name) from.2
        (Rattle.sym_map.specs.Symbols.symbol_name image from.0, refl))
        (first_or_rest (unknown_key unknown) (map key (candidates image)) function ((S.functions_are function).0 there))

    names_cleaned : All (λ (f : Function). IsCleaned f.name) functions
    names_cleaned k d lt = name_cleaned (get_or functions k d) (Contains-get_or functions k d lt)

    file_cleaned : (text : List ℕ) → Contains names text → IsCleaned text
    file_cleaned text there =
        let rows : List LineRow = flat_map (λ (s : SequenceOf LineRow). s.rows) lines in
        ⊎_elim
        (λ (e : unknown_name ≡ text). ([], sym e))
        (λ (r : Contains (map (λ (row : LineRow). clean_name row.file) rows) text).
        let from = Contains-from_map (λ (row : LineRow). clean_name row.file) rows text r in
        (from.0.file, sym from.2))
        (first_or_rest unknown_name (map (λ (row : LineRow). clean_name row.file) rows) text ((L.names_are text).0 there))

    files_cleaned : All IsCleaned names
    files_cleaned k d lt = file_cleaned (get_or names k d) (Contains-get_or names k d lt)

    pub known : (a : ℕ) → a < 2 ^ 32 → IsKnown functions names (here_at ranges a)
    known a small = record {
      symbol = symbol_within (symbol_seen a) (symbol_at image a) (S.shows a small);
      line = line_within (line_seen a) (row_at lines a) (L.shows a small);
      line_limit = line_limit (line_seen a) (row_at lines a) (L.shows a small);
    }

    home_of : (function : Function) → Contains functions function → function.home.0 < length names
    home_of function there =
        ⊎_elim
        (λ (e : unknown_key unknown ≡ function). subst (λ (f : Function). f.home.0 < length names) e
        (slice_get_within names unknown.0 unknown_name L.unknown_is))
        (λ (r : Contains (map key (candidates image)) function).
        let from = Contains-from_map key (candidates image) function r in
        subst (λ (f : Function). f.home.0 < length names) from.2
        (home_within from.0.value (All-contains (λ (s : Symbol). s.value < 2 ^ 32)
        (candidates image) from.0 S.values from.1)))
        (first_or_rest (unknown_key unknown) (map key (candidates image)) function ((S.functions_are function).0 there))

    homes : (k : ℕ) (d : Function) → k < length functions → (get_or functions k d).home.0 < length names
    homes k d lt = home_of (get_or functions k d) (Contains-get_or functions k d lt)

    less_identity : (x y : Function) → x.home.0 < length names → y.home.0 < length names → by_function x y ≡ Less
        → by_identity (identity_in names x) (identity_in names y) ≡ Less
    less_identity x y px py e = go (nat_cmp x.home.0 y.home.0)
        (ranked x.home.0 y.home.0 (nat_cmp x.home.0 y.home.0) refl) e
      where
        go : (r : Ordering) → MatchOrdering r (x.home.0 < y.home.0) (x.home.0 ≡ y.home.0) (y.home.0 < x.home.0)
            → ordering_then r (slice_cmp nat_cmp x.name y.name) ≡ Less
            → by_identity (identity_in names x) (identity_in names y) ≡ Less
        go Less lt f = rw (far (slice_cmp nat_cmp) nat_list_cmp_total names L.names_rise x.home.0 y.home.0 unknown_name
            lt py) refl
        go Equal same f =
            let tie : slice_cmp nat_cmp (get_or names x.home.0 unknown_name) (get_or names y.home.0 unknown_name)
            ≡ Equal = ap (λ n. slice_cmp nat_cmp (get_or names x.home.0 unknown_name) (get_or names n unknown_name))
            (sym same) ∙ tied_itself nat_list_cmp_total (get_or names x.home.0 unknown_name) in
            rw tie f
        go Greater lt f = absurd (cc)

    all_less : (x : Function) (ys : List Function) → x.home.0 < length names
        → ((y : Function) → Contains ys y → y.home.0 < length names) → AllByRecursion (λ y. by_function x y ≡ Less) ys
        → AllByRecursion (λ y. by_identity (identity_in names x) y ≡ Less) (map (identity_in names) ys)
    all_less x [] px py all = tt
    all_less x (y ∷ ys) px py all = (
      less_identity x y px (py y (Contains-first y ys)) all.0,
      all_less x ys px
          (λ z h. py z (Contains-cons y ys z h)) all.1,
    )

    rise_by_identity : (xs : List Function) → ((x : Function) → Contains xs x → x.home.0 < length names)
        → IsStrictlySortedBy by_function xs → IsStrictlySortedBy by_identity (map (identity_in names) xs)
    unfolding IsStrictlySortedBy
    rise_by_identity [] within rise = tt
    rise_by_identity (x ∷ xs) within rise = (
      all_less x xs (within x (Contains-first x xs))
          (λ z h. within z (Contains-cons x xs z h)) rise.0,
      rise_by_identity xs
          (λ z h. within z (Contains-cons x xs z h)) rise.1,
    )

    pub identities_rise : IsStrictlySortedBy by_identity (map (identity_in names) functions)
    identities_rise = rise_by_identity functions home_of S.functions_rise

    keys_named : (xs : List Symbol) → AllByRecursion (λ (s : Symbol). s.value < 2 ^ 32) xs
        → map (identity_in names) (map key xs) ≡ map (function_of image lines) xs
    keys_named [] small = refl
    keys_named (x ∷ xs) small = λ i. key_identity x small.0 i ∷ keys_named xs small.1 i

    pub identities_are : Alike (map (identity_in names) functions) (functions_of image lines)
    identities_are =
        let all : List Function = unknown_key unknown ∷ map key (candidates image) in
        Alike-trans (map (identity_in names) functions) (map (identity_in names) all) (functions_of image lines)
        (Alike-map (identity_in names) functions all S.functions_are)
        (Alike-refl (map (identity_in names) all) (functions_of image lines)
        (λ i. unknown_identity i ∷ keys_named (candidates image)
        (recursion_from_All (λ (s : Symbol). s.value < 2 ^ 32) (candidates image) S.values) i))

    module _ (entries : List (Option ℕ)) where
      abbrev nowhere : Place
      nowhere = record { func = unknown_func; file = unknown; line = 0 }

      abbrev built : SymbolMap
      built = map_of functions names entries ranges nowhere

      pub places : (a : ℕ) → a < 2 ^ 32 → location_of built (place_of built a) ≡ location_at image lines a
      places a small =
          ap (location_of built) (place_is functions names entries ranges nowhere a small)
          ∙ (λ i. record {
            function = func_shown (symbol_seen a) (symbol_at image a) (S.shows a small)
                (values_small a small) i;
            file = file_shown (line_seen a) (row_at lines a) (L.shows a small) i;
            line = line_shown (line_seen a) (row_at lines a) (L.shows a small) i;
          })

      begins : (a : ℕ) (o : Option SymbolHere) (symbol : Option Symbol) → Shows (IsSymbolOf key functions) o symbol
          → option_map_or (λ (h : SymbolHere). eqb h.value a) o false
          ≡ option_map_or (λ (s : Symbol). eqb s.value a) symbol false
      begins a None None shows = refl
      begins a None (Some s) shows = absurd shows
      begins a (Some h) None shows = absurd shows
      begins a (Some h) (Some s) shows = ap (λ n. eqb n a) shows.1

      pub entry_addresses : (a : ℕ) → a < 2 ^ 32 → is_entry_at built a ≡ is_entry image a
      entry_addresses a small =
          entry_is functions names entries ranges nowhere a small
          ∙ begins a (symbol_seen a) (symbol_at image a) (S.shows a small)

      -- an entry is the start of a range
      entry_limit : All (λ (r : Range). r.start < 2 ^ 32) symbol_ranges
          → ((func : ℕ) → func < length functions → get_or entries func None ≡ start_of_first func symbol_ranges)
          → length entries ≡ length functions → All (λ (e : Option ℕ). IfSome e (λ a. a < 2 ^ 32)) entries
      entry_limit starts each as_many k d lt =
          subst (λ (o : Option ℕ). IfSome o (λ a. a < 2 ^ 32))
          (sym (each k (omega (arith, as_many, lt))) ∙ get_or_default entries k None d lt)
          (go (find (enters k) symbol_ranges) refl)
        where
          go : (o : Option Range) → find (enters k) symbol_ranges ≡ o
              → IfSome (option_map (λ (r : Range). r.start) o) (λ a. a < 2 ^ 32)
          go None is = tt
          go (Some r) is = All-contains (λ (x : Range). x.start < 2 ^ 32) symbol_ranges r starts
              (found_passes (enters k) symbol_ranges r is)

      pub is_map : length entries ≡ length functions → All (λ (r : Range). r.start < 2 ^ 32) symbol_ranges
          → ((func : ℕ) → func < length functions → get_or entries func None ≡ start_of_first func symbol_ranges)
          → IsMap functions names entries ranges nowhere
      is_map as_many starts each = record {
        functions_rise = S.functions_rise;
        few_functions = S.few;
        homes = homes;
        files_rise = L.names_rise;
        few_files = L.few;
        functions_cleaned = names_cleaned;
        files_cleaned = files_cleaned;
        as_many = as_many;
        entry_limit = entry_limit starts each as_many;
        ranges_rise = record { symbols = S.rise; lines = L.rise };
        here_known = known;
        unknown_func = slice_get_within functions unknown_func.0 (unknown_key unknown) S.unknown_is;
        unknown_file = slice_get_within names unknown.0 unknown_name L.unknown_is;
      }

      -- ---- entries

      -- the function that a symbol is seen to be of
      func_is : (a : ℕ) (s : SymbolHere) → a < 2 ^ 32 → (symbol_seen a) ≡ Some s
          → get_or (map (identity_in names) functions) s.func.0 unknown_function ≡ function_at image lines a
      func_is a s small at =
          func_shown (Some s) (symbol_at image a)
          (subst (λ (o : Option SymbolHere). Shows (IsSymbolOf key functions) o (symbol_at image a)) at
          (S.shows a small)) (values_small a small)

      begins_there : (a : ℕ) (s : SymbolHere) → a < 2 ^ 32 → (symbol_seen a) ≡ Some s
          → eqb s.value a ≡ is_entry image a
      begins_there a s small at =
          begins a (Some s) (symbol_at image a)
          (subst (λ (o : Option SymbolHere). Shows (IsSymbolOf key functions) o (symbol_at image a)) at
          (S.shows a small))

      value_below : (a : ℕ) (s : SymbolHere) → a < 2 ^ 32 → (symbol_seen a) ≡ Some s → s.value ≤ a
      value_below a s small at = go (symbol_at image a) refl
          (subst (λ (o : Option SymbolHere). Shows (IsSymbolOf key functions) o (symbol_at image a)) at
          (S.shows a small))
        where
          go : (o : Option Symbol) → symbol_at image a ≡ o → Shows (IsSymbolOf key functions) (Some s) o → s.value ≤ a
          go None is shows = absurd shows
          go (Some x) is shows = let le = symbol_below image a x is in let e = shows.1 in omega arith

      enters_func : (func : ℕ) (r : Range) → enters func r ≡ true → (g : FuncId) × (entered_func r ≡ Some g) × (g.0 ≡ func)
      enters_func func r e = go (entered_func r) refl e
        where
          go : (o : Option FuncId) → entered_func r ≡ o → option_map_or (λ (f : FuncId). eqb f.0 func) o false ≡ true
              → (g : FuncId) × (entered_func r ≡ Some g) × (g.0 ≡ func)
          go None is f = absurd (cc)
          go (Some g) is f = (g, is, same_from_eqb g.0 func f)

      -- a range at which a function is entered starts at an entry address of it
      enters_there : (func : ℕ) (k : ℕ) (d : Range) → k < length symbol_ranges → (get_or symbol_ranges k d).start < 2 ^ 32
          → enters func (get_or symbol_ranges k d) ≡ true
          → Enters image lines (get_or (map (identity_in names) functions) func unknown_function)
          (get_or symbol_ranges k d).start
      enters_there func k d lt small e =
          let r : Range = get_or symbol_ranges k d in
          let g = enters_func func r e in
          let s = entered_symbol r g.0 g.1 in
          let at : symbol_seen r.start ≡ Some s.0 =
          ap symbol_of (cover_at-start symbol_ranges k d S.rise lt) ∙ s.1 in
          record {
            in_range = small;
            is_entry = sym (begins_there r.start s.0 small at) ∙ ap (λ n. eqb n r.start) s.3 ∙ eqb-same r.start;
            of_function = sym (func_is r.start s.0 small at)
                ∙ ap (λ (f : FuncId). get_or (map (identity_in names) functions) f.0 unknown_function) s.2
                ∙ ap (λ n. get_or (map (identity_in names) functions) n unknown_function) g.2;
          }

      same_number : (f g : ℕ) → f < length functions → g < length functions
          → get_or (map (identity_in names) functions) f unknown_function
          ≡ get_or (map (identity_in names) functions) g unknown_function → f ≡ g
      same_number f g f_in g_in same =
          let ids : List Identity = map (identity_in names) functions in
          let long : length ids ≡ length functions = length-map functions (identity_in names) in
          let tie : by_identity (get_or ids f unknown_function) (get_or ids g unknown_function) ≡ Equal =
          ap (λ (x : Identity). by_identity (get_or ids f unknown_function) x) (sym same)
          ∙ tied_itself identity_total (get_or ids f unknown_function) in
          let back : by_identity (get_or ids g unknown_function) (get_or ids f unknown_function) ≡ Equal =
          ap (λ (x : Identity). by_identity x (get_or ids f unknown_function)) (sym same)
          ∙ tied_itself identity_total (get_or ids f unknown_function) in
          ⊎_elim (λ (e : f ≡ g). e)
          (λ (rest : (f < g) ⊎ (g < f)).
          ⊎_elim
          (λ (lt : f < g). let less = far by_identity identity_total ids identities_rise f g unknown_function lt
          (omega arith) in absurd (cc))
          (λ (lt : g < f). let less = far by_identity identity_total ids identities_rise g f unknown_function lt
          (omega arith) in absurd (cc))
          rest)
          (let P : (f ≡ g) ⊎ ((f < g) ⊎ (g < f)) = three f g in P)
        where
          three : (a b : ℕ) → (a ≡ b) ⊎ ((a < b) ⊎ (b < a))
          three a b = grind arith

      -- each entry address of a function is the start of a range at which it is entered
      entry_there : (func a : ℕ) → func < length functions
          → ((k : ℕ) (d : Range) → k < length symbol_ranges → (get_or symbol_ranges k d).start < 2 ^ 32)
          → Enters image lines (get_or (map (identity_in names) functions) func unknown_function) a
          → (r : Range) × Contains symbol_ranges r × (r.start ≡ a) × (enters func r ≡ true)
      entry_there func a within starts enter = go (symbol_seen a) refl
        where
          go : (o : Option SymbolHere) → (symbol_seen a) ≡ o
              → (r : Range) × Contains symbol_ranges r × (r.start ≡ a) × (enters func r ≡ true)
          go None at =
              let no : option_map_or (λ (h : SymbolHere). eqb h.value a) None false ≡ is_entry image a =
              begins a None (symbol_at image a)
              (subst (λ (o : Option SymbolHere). Shows (IsSymbolOf key functions) o (symbol_at image a)) at
              (S.shows a enter.in_range)) in
              let yes = enter.is_entry in absurd (cc)
          go (Some s) at =
              let value : s.value ≡ a = same_from_eqb s.value a (begins_there a s enter.in_range at ∙ enter.is_entry) in
              let there = range_there symbol_ranges a s at in
              let r : Range = there.0 in
              let k : ℕ = there.1.0 in
              let is : get_or symbol_ranges k r ≡ r = there.1.2 in
              let small : r.start < 2 ^ 32 = subst (λ (x : Range). x.start < 2 ^ 32) is (starts k r there.1.1) in
              let own : symbol_seen r.start ≡ Some s =
              ap (λ (x : Range). symbol_seen x.start) (sym is)
              ∙ ap symbol_of (cover_at-start symbol_ranges k r S.rise there.1.1)
              ∙ ap (λ (x : Range). symbol_of x.cover) is ∙ there.3 in
              let below = value_below r.start s small own in
              let start : r.start ≡ a = let le = there.2 in omega arith in
              let number : s.func.0 ≡ func =
              same_number s.func.0 func (let w =
              known a enter.in_range in subst
              (λ (o : Option SymbolHere). IfSome o (λ (h : SymbolHere). h.func.0 < length functions)) at w.symbol)
              within (func_is a s enter.in_range at ∙ enter.of_function) in
              let test : eqb s.value r.start ≡ true = ap (λ n. eqb n r.start) (value ∙ sym start) ∙ eqb-same r.start in
              let is_entered : entered_func r ≡ Some s.func =
              ap (λ (o : Option SymbolHere). option_and_then
              (λ (x : SymbolHere). cond (eqb x.value r.start) (Some x.func) None) o) there.3
              ∙ ap (λ b. cond b (Some s.func) None) test in (
                r,
                there.1,
                start,
                ap (λ (o : Option FuncId). option_map_or (λ (f : FuncId). eqb f.0 func) o false)
                    is_entered ∙ ap (λ n. eqb n func) number ∙ eqb-same func,
              )

      pub entries_are : ((k : ℕ) (d : Range) → k < length symbol_ranges → (get_or symbol_ranges k d).start < 2 ^ 32)
          → ((func : ℕ) → func < length functions → get_or entries func None ≡ start_of_first func symbol_ranges)
          → (func : FuncId) → func.0 < length functions
          → IsEntryOf image lines (get_or (map (identity_in names) functions) func.0 unknown_function)
          (get_or entries func.0 None)
      entries_are starts each func within =
          subst (IsEntryOf image lines (get_or (map (identity_in names) functions) func.0 unknown_function))
          (sym (each func.0 within)) (go (found (enters func.0) symbol_ranges))
        where
          go : Found (enters func.0) symbol_ranges
              → IsEntryOf image lines (get_or (map (identity_in names) functions) func.0 unknown_function)
              (start_of_first func.0 symbol_ranges)
          go (none is fails) =
              subst (λ (o : Option Range). IsEntryOf image lines
              (get_or (map (identity_in names) functions) func.0 unknown_function)
              (option_map (λ (r : Range). r.start) o)) (sym is)
              (λ a enter. let there = entry_there func.0 a within starts enter in let no =
              fails there.0 there.1 in let yes = there.3 in absurd (cc))
          go (some j y rest lt at passes before is filtered) =
              subst (λ (o : Option Range). IsEntryOf image lines
              (get_or (map (identity_in names) functions) func.0 unknown_function)
              (option_map (λ (r : Range). r.start) o)) (sym is) (
                subst (λ (x : Range). Enters image lines
                    (get_or (map (identity_in names) functions) func.0 unknown_function) x.start) at
                    (enters_there func.0 j y lt (starts j y lt) (ap (enters func.0) at ∙ passes)),
                (λ a less enter.
                    let there = entry_there func.0 a within starts enter in
                    let k : ℕ = there.1.0 in
                    ⊎_elim
                    (λ (earlier : k < j). let no : enters func.0 there.0 ≡ false = ap (enters func.0) (sym there.1.2)
                    ∙ before k there.0 earlier in let yes = there.3 in absurd (cc))
                    (λ (later : j ≤ k).
                    let le = far_starts symbol_ranges S.rise j k y later there.1.1 in
                    let first : (get_or symbol_ranges j y).start ≡ y.start = ap (λ (r : Range). r.start) at in
                    let other : (get_or symbol_ranges k y).start ≡ there.0.start =
                    ap (λ (r : Range). r.start) (get_or_default symbol_ranges k y there.0 there.1.1 ∙ there.1.2) in
                    let start = there.2 in
                    absurd (omega arith))
                    (let P : (k < j) ⊎ (j ≤ k) = grind arith in P)),
              )
