-- What holds of every map, in its own words.
use Rattle.std.proofs.Common.{◌≡◌, ℕ, ◌<◌, ◌^◌, List, [], length}
use Rattle.std.proofs.Common.{get_or, map, Option, Some, None, sym, ap, ◌∙◌}
use Rattle.std.proofs.Common.{subst, ◌⊎◌, ⊎_elim, arith}
use Rattle.std.specs.Prelude.{IfSome, slice_get, AllPairs, ◌≢◌}
use Rattle.std.proofs.lemmas.Bool.Decides.{nat_tests}
use Rattle.std.specs.Option.{option_map_or}
use Rattle.std.specs.declared.cmp.Ordering.TheVariants.{Less, Equal}
use Rattle.std.specs.Ordering.{nat_cmp, ordering_then}
use Rattle.std.specs.Cmp.Lexicographic.{slice_cmp}
use Rattle.std.specs.Cmp.{IsTotalOrder}
use Rattle.std.proofs.lemmas.Cmp.{tied_itself, nat_cmp_total, nat_list_cmp_total, then_total, on_total}
use Rattle.std.proofs.lemmas.List.{get_or-map, length-map}
use Rattle.std.proofs.lemmas.Option.{slice_get-get_or}
use Rattle.event_costs.specs.declared.numbers.FuncId.{FuncId}
use Rattle.sym_map.specs.declared.function.Function.{Function}
use Rattle.sym_map.specs.declared.range.Here.{Here}
use Rattle.sym_map.specs.declared.range.LineHere.{LineHere}
use Rattle.sym_map.specs.declared.range.SymbolHere.{SymbolHere}
use Rattle.sym_map.specs.FunctionOrder.{by_function}
use Rattle.byte_text.specs.Names.{unknown as unknown_name}
use Rattle.sym_map.specs.Places.{Identity, unknown_function}
use Rattle.event_costs.specs.Keys.{Place}
use Rattle.sym_map.specs.AddressMap.{address_line}
use Rattle.sym_map.specs.inner.Ranges.{AddressRanges, here_at, map_of, place_in}
use Rattle.sym_map.specs.SymbolMap.{SymbolMap, IsSound, place_of, identity_in}
use Rattle.sym_map.specs.inner.Maps.{IsKnown, IsMap}
use Rattle.sym_map.proofs.Rising.{far}
use Rattle.sym_map.proofs.Told.{place_told}

function_total : IsTotalOrder by_function
function_total = then_total (on_total (λ (f : Function). f.home.0) nat_cmp_total)
    (on_total (λ (f : Function). f.name) nat_list_cmp_total)

module _ (functions : List Function) (files : List (List ℕ)) (entries : List (Option ℕ)) (ranges : AddressRanges)
    (unknown : Place) (is : IsMap functions files entries ranges unknown) where
  abbrev m : SymbolMap
  m = map_of functions files entries ranges unknown

  files_differ : AllPairs (λ x y. x ≢ y) files
  files_differ i j d less within same =
      let below = far (slice_cmp nat_cmp) nat_list_cmp_total files is.files_rise i j d less within in
      let tie : slice_cmp nat_cmp (get_or files i d) (get_or files j d) ≡ Equal =
      ap (λ (t : List ℕ). slice_cmp nat_cmp (get_or files i d) t) (sym same)
      ∙ tied_itself nat_list_cmp_total (get_or files i d) in
      absurd (cc)

  -- files of one text are one
  same_file : (i j : ℕ) (d : List ℕ) → i < length files → j < length files → get_or files i d ≡ get_or files j d
      → i ≡ j
  same_file i j d i_in j_in same =
      ⊎_elim (λ (e : i ≡ j). e)
      (λ (rest : (i < j) ⊎ (j < i)).
      ⊎_elim (λ (less : i < j). absurd (files_differ i j d less j_in same))
      (λ (less : j < i). absurd (files_differ j i d less i_in (sym same))) rest)
      (let P : (i ≡ j) ⊎ ((i < j) ⊎ (j < i)) = grind arith in P)

  by_homes : (x y : Function) → x.home.0 ≡ y.home.0 → x.name ≡ y.name → by_function x y ≡ Equal
  by_homes x y home name =
      ap (λ n. ordering_then (nat_cmp x.home.0 n) (slice_cmp nat_cmp x.name y.name)) (sym home)
      ∙ ap (λ (t : List ℕ). ordering_then (nat_cmp x.home.0 x.home.0) (slice_cmp nat_cmp x.name t)) (sym name)
      ∙ tied_itself function_total x

  functions_differ : AllPairs (λ x y. x ≢ y) (map (identity_in files) functions)
  functions_differ i j d less within same =
      let long : length (map (identity_in files) functions) ≡ length functions =
      length-map functions (identity_in files) in
      let i_in : i < length functions = omega (arith, long, less, within) in
      let j_in : j < length functions = omega (arith, long, within) in
      let f : Function = record { home = record { 0 = 0 }; name = [] } in
      let x : Function = get_or functions i f in
      let y : Function = get_or functions j f in
      let pair : identity_in files x ≡ identity_in files y =
      sym (get_or-map (identity_in files) functions i f d i_in) ∙ same
      ∙ get_or-map (identity_in files) functions j f d j_in in
      let home : x.home.0 ≡ y.home.0 =
      same_file x.home.0 y.home.0 unknown_name (is.homes i f i_in) (is.homes j f j_in)
      (ap (λ (a : Identity). a.file) pair) in
      let tie : by_function x y ≡ Equal = by_homes x y home (ap (λ (a : Identity). a.name) pair) in
      let below : by_function x y ≡ Less = far by_function function_total functions is.functions_rise i
      j f less j_in in
      absurd (cc)

  function_at : (func : FuncId) → func.0 < length functions
      → (f : Function) × (slice_get functions func.0 ≡ Some f) × (f.home.0 < length files)
      × (get_or (map (identity_in files) functions) func.0 unknown_function ≡ identity_in files f)
  function_at func within =
      let d : Function = record { home = record { 0 = 0 }; name = [] } in (
        get_or functions func.0 d,
        slice_get-get_or functions func.0 d within,
        is.homes func.0 d within,
        get_or-map (identity_in files) functions func.0 d unknown_function within,
      )

  known_func : (here : Here) → IfSome here.symbol (λ (s : SymbolHere). s.func.0 < length functions)
      → (place_in unknown here).func.0 < length functions
  known_func here known = go here.symbol known
    where
      go : (o : Option SymbolHere) → IfSome o (λ (s : SymbolHere). s.func.0 < length functions)
          → (option_map_or (λ (s : SymbolHere). s.func) o unknown.func).0 < length functions
      go None known = is.unknown_func
      go (Some s) known = known

  known_file : (here : Here) → IfSome here.line (λ (l : LineHere). l.file.0 < length files)
      → (place_in unknown here).file.0 < length files
  known_file here known = go here.line known
    where
      go : (o : Option LineHere) → IfSome o (λ (l : LineHere). l.file.0 < length files)
          → (option_map_or (λ (l : LineHere). l.file) o unknown.file).0 < length files
      go None known = is.unknown_file
      go (Some l) known = known

  known_line : (here : Here) → IfSome here.line (λ (l : LineHere). l.line < 2 ^ 32)
      → (place_in unknown here).line < 2 ^ 32
  known_line here known = go here.line known
    where
      go : (o : Option LineHere) → IfSome o (λ (l : LineHere). l.line < 2 ^ 32)
          → option_map_or (λ (l : LineHere). l.line) o 0 < 2 ^ 32
      go None known = omega arith
      go (Some l) known = known

  -- past the last address as before it
  known : (P : Place → Type 0) → ((here : Here) → IsKnown functions files here → P (place_in unknown here))
      → (a : ℕ) → P (place_of m a)
  known P each a =
      subst P (sym (place_told functions files entries ranges unknown a))
      (each (here_at ranges (address_line a)) (is.here_known (address_line a) (grind (arith, nat_tests))))

  place_line : (a : ℕ) → (place_of m a).line < 2 ^ 32
  place_line = known (λ (p : Place). p.line < 2 ^ 32) (λ here is_known. known_line here is_known.line_limit)

  entry_line : (o : Option ℕ) → IfSome o (λ a. a < 2 ^ 32)
      → option_map_or (λ entry. (place_of m entry).line) o 0 < 2 ^ 32
  entry_line None small = omega arith
  entry_line (Some a) small = place_line a

  pub sound : IsSound m
  sound = record {
    few_functions = is.few_functions;
    few_files = is.few_files;
    functions_cleaned = is.functions_cleaned;
    files_cleaned = is.files_cleaned;
    functions_differ = functions_differ;
    files_differ = files_differ;
    homes = λ func within.
        let f = function_at func within in
        subst (λ (o : Option Function). (option_map_or (λ (g : Function). g.home) o unknown.file).0 < length files)
        (sym f.1) f.2;
    home_texts = λ func within.
        let f = function_at func within in
        ap (λ (o : Option Function).
        get_or files (option_map_or (λ (g : Function). g.home) o unknown.file).0 unknown_name) f.1
        ∙ sym (ap (λ (a : Identity). a.file) f.3);
    place_functions = known (λ (p : Place). p.func.0 < length functions)
        (λ here is_known. known_func here is_known.symbol);
    place_files = known (λ (p : Place). p.file.0 < length files) (λ here is_known. known_file here is_known.line);
    place_lines = place_line;
    entry_lines = λ func within.
        let there : func.0 < length entries = omega (arith, is.as_many, within) in
        entry_line (get_or entries func.0 None) (is.entry_limit func.0 None there);
  }
