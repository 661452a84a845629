-- The symbols of a whole symbol table.
use Rattle.std.proofs.Common.{◌≡◌, ℕ, ◌<◌, ◌^◌, Bool, true, false, not, cond, List, [], ◌∷◌, length, map}
use Rattle.std.proofs.Common.{Option, Some, None, option_map, refl, sym, ap, ◌∙◌, subst, arith, get_or, Contains}
use Rattle.std.specs.Prelude.{All, bit_and, filter, find, slice_get, ◌&&◌, ◌||◌, ◌==◌, nat_lt}
use Rattle.std.specs.Option.{option_map_or, option_or}
use Rattle.std.specs.Ordering.{is_lt}
use Rattle.std.specs.List.{list_all}
use Rattle.std.specs.List.Sorted.{IsPermutation, IsSortedBy, IsStableBy, IsStrictlySortedBy}
use Rattle.std.proofs.lemmas.List.{get_or_default}
use Rattle.std.proofs.lemmas.List.Sorted.{IsPermutation-map, IsPermutation-sym}
use Rattle.std.proofs.lemmas.Option.{slice_get_within}
use Rattle.elf_read.specs.declared.section.Section.{Section}
use Rattle.elf_read.specs.declared.symbol.Symbol.{Symbol}
use Rattle.elf_read.specs.Image.{Image}
use Rattle.event_costs.specs.declared.numbers.FileId.{FileId}
use Rattle.sym_map.specs.declared.function.Function.{Function}
use Rattle.sym_map.specs.declared.range.Cover.{Cover}
use Rattle.sym_map.specs.declared.range.Range.{Range}
use Rattle.sym_map.specs.declared.range.Span.{Span}
use Rattle.sym_map.specs.declared.range.SymbolHere.{SymbolHere}
use Rattle.sym_map.specs.FunctionOrder.{by_function}
use Rattle.sym_map.specs.inner.Functions.{key_of, symbol_cover, first_cover}
use Rattle.name_numbers.specs.Keys.{NumberEach}
use Rattle.sym_map.specs.inner.Limits.{Limit, limit_of}
use Rattle.sym_map.specs.inner.Naming.{NamedSymbol, NumberedSymbol, nameless, name_beside, is_preferred, candidates_with_names}
use Rattle.sym_map.specs.inner.Spans.{or_below, cover, IsCutOf}
use Rattle.sym_map.specs.inner.Shows.{Shows}
use Rattle.sym_map.specs.inner.Ranges.{symbol_of}
use Rattle.sym_map.specs.inner.SymbolTable.{IsSymbolOf}
use Rattle.sym_map.specs.Symbols.{candidates, covers_sized, covers_unsized, best_of, symbol_at}
use Rattle.sym_map.specs.Symbols.{is_candidate, is_chosen_name, symbol_name, section_of}
use Rattle.sym_map.specs.Symbols.{preference}
use Rattle.sym_map.specs.inner.SymbolTable.{symbol_key, unknown_key, AreSymbolsOf}
use Rattle.sym_map.proofs.Members.{Alike, Alike-refl, Alike-trans, Alike-permutation, Alike-cons, Contains-map}
use Rattle.sym_map.proofs.Members.{Contains-from_map}
use Rattle.sym_map.proofs.Preference.{preferred_weak, first_is_least, Contains-filter}
use Rattle.sym_map.proofs.Numbers.{nested, rest_numbered}
use Rattle.sym_map.proofs.Spans.{Shows-or}

-- ---- lists of named symbols

pub filter-map : {X Y : Type 0} (f : X → Y) (p : Y → Bool) (xs : List X)
    → filter p (map f xs) ≡ map f (filter (λ x. p (f x)) xs)
filter-map f p [] = refl
filter-map f p (x ∷ xs) = go (p (f x)) (filter-map f p xs)
  where
    go : (b : Bool) → filter p (map f xs) ≡ map f (filter (λ x. p (f x)) xs)
        → cond b (f x ∷ filter p (map f xs)) (filter p (map f xs))
        ≡ map f (cond b (x ∷ filter (λ x. p (f x)) xs) (filter (λ x. p (f x)) xs))
    go true e = ap (λ ys. f x ∷ ys) e
    go false e = e

find-map : {X Y : Type 0} (f : X → Y) (p : Y → Bool) (xs : List X)
    → find p (map f xs) ≡ option_map f (find (λ x. p (f x)) xs)
find-map f p [] = refl
find-map f p (x ∷ xs) = go (p (f x)) (find-map f p xs)
  where
    go : (b : Bool) → find p (map f xs) ≡ option_map f (find (λ x. p (f x)) xs)
        → cond b (Some (f x)) (find p (map f xs)) ≡ option_map f (cond b (Some x) (find (λ x. p (f x)) xs))
    go true e = refl
    go false e = e

all-map : {X Y : Type 0} (f : X → Y) (p : Y → Bool) (xs : List X) → list_all p (map f xs) ≡ list_all (λ x. p (f x)) xs
all-map f p [] = refl
all-map f p (x ∷ xs) = ap (λ b. p (f x) && b) (all-map f p xs)

find_same : {X : Type 0} (p q : X → Bool) → ((x : X) → p x ≡ q x) → (xs : List X) → find p xs ≡ find q xs
find_same p q same [] = refl
find_same p q same (x ∷ xs) = rw (same x, find_same p q same xs) refl

all_same : {X : Type 0} (p q : X → Bool) → ((x : X) → p x ≡ q x) → (xs : List X) → list_all p xs ≡ list_all q xs
all_same p q same [] = refl
all_same p q same (x ∷ xs) = rw (same x, all_same p q same xs) refl

-- ---- limits

pub limits_alike : (image : Image) (sorted : List NamedSymbol) (placed : List NumberedSymbol)
    → IsPermutation (candidates_with_names image) sorted
    → map (λ (p : NumberedSymbol). p.symbol) placed ≡ map (λ (c : NamedSymbol). c.symbol) sorted
    → Alike (map (λ (p : NumberedSymbol). limit_of p.symbol) placed) (map limit_of (candidates image))
limits_alike image sorted placed moved symbols =
    let of_named : NamedSymbol → Limit = λ (c : NamedSymbol). limit_of c.symbol in
    let of_placed : NumberedSymbol → Limit = λ (p : NumberedSymbol). limit_of p.symbol in
    let same : map of_placed placed ≡ map of_named sorted =
    sym (nested (λ (p : NumberedSymbol). p.symbol) limit_of placed) ∙ ap (map limit_of) symbols
    ∙ nested (λ (c : NamedSymbol). c.symbol) limit_of sorted in
    Alike-trans (map of_placed placed) (map of_named sorted) (map limit_of (candidates image))
    (Alike-refl (map of_placed placed) (map of_named sorted) same)
    (Alike-trans (map of_named sorted) (map of_named (candidates_with_names image)) (map limit_of (candidates image))
    (Alike-permutation (map of_named sorted) (map of_named (candidates_with_names image))
    (IsPermutation-map of_named sorted (candidates_with_names image)
    (IsPermutation-sym (candidates_with_names image) sorted moved)))
    (Alike-refl (map of_named (candidates_with_names image)) (map limit_of (candidates image))
    (nested (name_beside image) of_named (candidates image))))

-- a candidate's section is one of the file's
candidate_within : (image : Image) (s : Symbol) → is_candidate image s ≡ true → s.section < length image.sections
candidate_within image s passes =
    go (s.kind == 2 || s.kind == 0) (is_chosen_name (symbol_name image s)) (section_of image s) refl passes
  where
    inside : (b : Bool) (x : Section) → cond b (slice_get image.sections s.section) None ≡ Some x
        → s.section < length image.sections
    inside true x e = slice_get_within image.sections s.section x e
    inside false x e = absurd (cc)

    go : (a c : Bool) (o : Option Section) → section_of image s ≡ o
        → (a && option_map_or (λ (x : Section). not (bit_and x.flags 4 == 0)) o false && c) ≡ true → s.section < length image.sections
    go a c (Some x) e h = inside (nat_lt 0 s.section && nat_lt s.section 0xff00) x e
    go true c None e h = absurd (cc)
    go false c None e h = absurd (cc)

pub sections_within : (image : Image) (placed : List NumberedSymbol)
    → Alike (map (λ (p : NumberedSymbol). limit_of p.symbol) placed) (map limit_of (candidates image))
    → All (λ (p : NumberedSymbol). p.symbol.section < length image.sections) placed
unfolding candidates
sections_within image placed alike k d lt =
    let of_placed : NumberedSymbol → Limit = λ (p : NumberedSymbol). limit_of p.symbol in
    let p : NumberedSymbol = get_or placed k d in
    let here : Contains placed p = (k, lt, get_or_default placed k p d lt) in
    let from = Contains-from_map limit_of (candidates image) (limit_of p.symbol)
    ((alike (limit_of p.symbol)).0 (Contains-map of_placed placed p here)) in
    let section : from.0.section ≡ p.symbol.section = ap (λ (l : Limit). l.section) from.2 in
    subst (λ n. n < length image.sections) section
    (candidate_within image from.0 (Contains-filter (is_candidate image) image.symbols from.0 from.1).1)

-- ---- the symbol that is seen

module _ (functions : List Function) (key : NamedSymbol → Function) where
  abbrev Goes : SymbolHere → NamedSymbol → Type 0
  Goes here n = (slice_get functions here.func.0 ≡ Some (key n)) × (here.value ≡ n.symbol.value)

  pairs : (test : Symbol → Bool) (placed : List NumberedSymbol) (sorted : List NamedSymbol) (numbers : List ℕ)
      → map (λ (p : NumberedSymbol). p.symbol) placed ≡ map (λ (c : NamedSymbol). c.symbol) sorted
      → map (λ (p : NumberedSymbol). p.number) placed ≡ numbers
      → NumberEach functions numbers (map key sorted)
      → Shows Goes (symbol_of (first_cover test placed)) (find (λ (n : NamedSymbol). test n.symbol) sorted)
  pairs test [] [] numbers e f each = tt
  pairs test [] (n ∷ ns) numbers e f each = absurd (cc)
  pairs test (p ∷ ps) [] numbers e f each = absurd (cc)
  pairs test (p ∷ ps) (n ∷ ns) [] e f each = absurd (cc)
  pairs test (p ∷ ps) (n ∷ ns) (m ∷ ms) e f each =
      let symbol : p.symbol ≡ n.symbol = cc in
      let symbols : map (λ (p : NumberedSymbol). p.symbol) ps ≡ map (λ (c : NamedSymbol). c.symbol) ns = cc in
      let number : p.number ≡ m = cc in
      let numbers : map (λ (p : NumberedSymbol). p.number) ps ≡ ms = cc in
      let named_so : slice_get functions p.number ≡ Some (key n) = ap (slice_get functions) number
      ∙ each.each 0 (omega arith) in
      go (test p.symbol) (test n.symbol) (ap test symbol) (named_so, ap (λ (s : Symbol). s.value) symbol)
      (pairs test ps ns ms symbols numbers (rest_numbered functions m ms (key n) (map key ns) each))
    where
      go : (b c : Bool) → b ≡ c → Goes (record { func = record { 0 = p.number }; value = p.symbol.value }) n
          → Shows Goes (symbol_of (first_cover test ps)) (find (λ (n : NamedSymbol). test n.symbol) ns)
          → Shows Goes (symbol_of (symbol_cover (cond b (Some p) (find (λ (p : NumberedSymbol). test p.symbol) ps))))
          (cond c (Some n) (find (λ (n : NamedSymbol). test n.symbol) ns))
      go true true same here rest = here
      go false false same here rest = rest
      go true false same here rest = absurd (cc)
      go false true same here rest = absurd (cc)

pub best_named : (image : Image) (f : Symbol → NamedSymbol)
    → ((x y : Symbol) → is_preferred (f x) (f y) ≡ is_lt (preference image x y)) → (xs : List Symbol)
    → find (λ (n : NamedSymbol). list_all (λ t. not (is_preferred t n)) (map f xs)) (map f xs)
    ≡ option_map f (best_of image xs)
best_named image f agree xs =
    let least : NamedSymbol → Bool = λ n. list_all (λ t. not (is_preferred t n)) (map f xs) in
    find-map f least xs
    ∙ ap (option_map f)
    (find_same (λ s. least (f s)) (λ s. list_all (λ t. not (is_lt (preference image t s))) xs)
    (λ s. all-map f (λ t. not (is_preferred t (f s))) xs
    ∙ all_same (λ t. not (is_preferred (f t) (f s))) (λ t. not (is_lt (preference image t s)))
    (λ t. ap not (agree t s)) xs) xs)

best_is : (image : Image) (sorted : List NamedSymbol) (test : Symbol → Bool) → IsPermutation (candidates_with_names image) sorted
    → IsSortedBy is_preferred sorted → IsStableBy is_preferred (candidates_with_names image) sorted
    → find (λ (n : NamedSymbol). test n.symbol) sorted
    ≡ option_map (name_beside image) (best_of image (filter (λ s. test (nameless s)) (candidates image)))
best_is image sorted test moved in_order stable =
    let p : NamedSymbol → Bool = λ (n : NamedSymbol). test n.symbol in
    let least : List NamedSymbol → NamedSymbol → Bool = λ ns n. list_all (λ t. not (is_preferred t n)) ns in
    first_is_least is_preferred preferred_weak p (candidates_with_names image) sorted moved in_order stable
    ∙ ap (λ (ns : List NamedSymbol). find (least ns) ns) (filter-map (name_beside image) p (candidates image))
    ∙ best_named image (name_beside image) (λ x y. refl) (filter (λ s. test (nameless s)) (candidates image))

module _ (image : Image) (lines : List Range) (unknown : FileId) (functions : List Function) (numbers : List ℕ)
    (sorted : List NamedSymbol) (placed : List NumberedSymbol)
    (moved : IsPermutation (candidates_with_names image) sorted) (in_order : IsSortedBy is_preferred sorted)
    (stable : IsStableBy is_preferred (candidates_with_names image) sorted)
    (symbols : map (λ (p : NumberedSymbol). p.symbol) placed ≡ map (λ (c : NamedSymbol). c.symbol) sorted)
    (funcs : map (λ (p : NumberedSymbol). p.number) placed ≡ numbers)
    (each : NumberEach functions numbers (map (key_of lines unknown) sorted))
    (values : All (λ (s : Symbol). s.value < 2 ^ 32) (candidates image)) where
  abbrev Stands : SymbolHere → Symbol → Type 0
  Stands = IsSymbolOf (symbol_key image lines unknown) functions

  unnamed : (h : Option SymbolHere) (o : Option Symbol)
      → Shows (Goes functions (key_of lines unknown)) h (option_map (name_beside image) o) → Shows Stands h o
  unnamed None None shows = tt
  unnamed None (Some s) shows = shows
  unnamed (Some h) None shows = shows
  unnamed (Some h) (Some s) shows = shows

  shown_best : (test : Symbol → Bool)
      → Shows Stands (symbol_of (first_cover test placed))
      (best_of image (filter (λ s. test (nameless s)) (candidates image)))
  shown_best test =
      unnamed (symbol_of (first_cover test placed))
      (best_of image (filter (λ s. test (nameless s)) (candidates image)))
      (subst (Shows (Goes functions (key_of lines unknown)) (symbol_of (first_cover test placed)))
      (best_is image sorted test moved in_order stable)
      (pairs functions (key_of lines unknown) test placed sorted numbers symbols funcs each))

  symbol_over : (o : Option NumberedSymbol) (below : Cover)
      → symbol_of (or_below (symbol_cover o) below) ≡ option_or (symbol_of (symbol_cover o)) (symbol_of below)
  symbol_over None below = refl
  symbol_over (Some p) below = refl

  pub seen_symbol : (a : ℕ) → Shows Stands
      (symbol_of (or_below (first_cover (covers_sized a) placed) (first_cover (covers_unsized image a) placed)))
      (symbol_at image a)
  unfolding symbol_at
  seen_symbol a =
      let sized : Cover = first_cover (covers_sized a) placed in
      let unsized : Cover = first_cover (covers_unsized image a) placed in
      subst (λ (o : Option SymbolHere). Shows Stands o (symbol_at image a))
      (sym (symbol_over (find (λ (p : NumberedSymbol). covers_sized a p.symbol) placed) unsized))
      (Shows-or Stands (symbol_of sized) (symbol_of unsized)
      (best_of image (filter (covers_sized a) (candidates image)))
      (best_of image (filter (covers_unsized image a) (candidates image)))
      (shown_best (covers_sized a)) (shown_best (covers_unsized image a)))

  keys_alike : Alike (map (key_of lines unknown) sorted) (map (symbol_key image lines unknown) (candidates image))
  keys_alike =
      Alike-trans (map (key_of lines unknown) sorted) (map (key_of lines unknown) (candidates_with_names image))
      (map (symbol_key image lines unknown) (candidates image))
      (Alike-permutation (map (key_of lines unknown) sorted) (map (key_of lines unknown) (candidates_with_names image))
      (IsPermutation-map (key_of lines unknown) sorted (candidates_with_names image)
      (IsPermutation-sym (candidates_with_names image) sorted moved)))
      (Alike-refl (map (key_of lines unknown) (candidates_with_names image))
      (map (symbol_key image lines unknown) (candidates image))
      (nested (name_beside image) (key_of lines unknown) (candidates image)))

  pub are_symbols : (spans : List Span) (ranges : List Range) (number : ℕ) → IsStrictlySortedBy by_function functions
      → Alike functions (unknown_key unknown ∷ map (key_of lines unknown) sorted) → length functions < 2 ^ 32
      → slice_get functions number ≡ Some (unknown_key unknown)
      → ((a : ℕ) → cover spans a ≡ or_below (first_cover (covers_sized a) placed)
      (first_cover (covers_unsized image a) placed)) → IsCutOf spans ranges
      → AreSymbolsOf image lines unknown functions (record { 0 = number }) ranges
  are_symbols spans ranges number rise alike few at seen_so cut = record {
    functions_rise = rise;
    functions_are =
        Alike-trans functions (unknown_key unknown ∷ map (key_of lines unknown) sorted)
        (unknown_key unknown ∷ map (symbol_key image lines unknown) (candidates image)) alike
        (Alike-cons (unknown_key unknown) (map (key_of lines unknown) sorted)
        (map (symbol_key image lines unknown) (candidates image)) keys_alike);
    few = few;
    values = values;
    unknown_is = at;
    rise = cut.rise;
    shows = λ a small. subst (λ (h : Cover). Shows Stands (symbol_of h) (symbol_at image a))
        (sym (cut.same a small ∙ seen_so a)) (seen_symbol a);
  }
