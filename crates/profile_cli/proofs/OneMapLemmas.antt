-- Two maps of one image tell the same of code, and so a job has one run.
use Rattle.std.proofs.Common.{◌≡◌, ◌≢◌, ◌⊎◌, inl, inr, ℕ, ◌<◌, ◌^◌, ◌∙◌, List, [], ◌∷◌, AllPairs, Contains, Option, None, Some}
use Rattle.std.proofs.Common.{IfSome, ap, arith, get_or, length, map, refl, subst, sym}
use Rattle.std.specs.List.Sorted.{IsStrictlySortedBy}
use Rattle.std.specs.Option.{option_map_or}
use Rattle.std.specs.Cmp.{IsTotalOrder}
use Rattle.std.specs.Cmp.Lexicographic.{nat_list_cmp_total, slice_cmp}
use Rattle.std.specs.FinMap.{IsAntisymmetric, nat_cmp-IsAntisymmetric, slice_cmp-IsAntisymmetric}
use Rattle.std.specs.Ordering.{nat_cmp}
use Rattle.std.specs.declared.cmp.Ordering.{Ordering}
use Rattle.std.proofs.Math.ListN.{get_or-map}
use Rattle.std.proofs.lemmas.Bool.{cases_order}
use Rattle.std.proofs.lemmas.Cmp.{on_total, then_total}
use Rattle.std.proofs.lemmas.List.{ext_get_or, length-map}
use Rattle.std.proofs.lemmas.Option.{slice_get-get_or}
use Rattle.arc_costs.specs.Keys.{IsIn}
use Rattle.ctx_rows.specs.Texts.{FunctionIn}
use Rattle.dwarf_line.specs.LineRow.{LineRow}
use Rattle.dwarf_line.specs.Program.{SequenceOf}
use Rattle.elf_read.specs.Image.{Image}
use Rattle.event_costs.specs.Keys.{Place}
use Rattle.event_costs.specs.declared.numbers.FuncId.{FuncId}
use Rattle.report_laws.proofs.Others.{Contains-cons, Contains-first, first_or_rest, one_list, rises_from, then_equal}
use Rattle.byte_text.specs.Names.{unknown as unknown_name}
use Rattle.sym_map.specs.Places.{Identity, IsEntryOf, Location, unknown_function}
use Rattle.sym_map.specs.SymbolMap.{IsFunc, IsSound, SymbolMap, by_identity, entry_of, identities}
use Rattle.sym_map.specs.SymbolMap.{identity_in, identity_of, place_of}
use Rattle.run_laws.specs.Maps.{TellTheSame}
use Rattle.profile_cli.specs.Program.{IsMapOf, lines_of}
use Rattle.profile_cli.proofs.ReadBackLemmas.{entries_small}

-- ---- lists

within : {X : Type 0} (xs : List X) (x : X) → Contains xs x → IsIn xs x
within [] x is = absurd (omega (arith, is.1))
within (y ∷ ys) x is = by (first_or_rest y ys x is) (within ys x)
  where
    by : (y ≡ x) ⊎ Contains ys x → (Contains ys x → IsIn ys x) → IsIn (y ∷ ys) x
    by (inl first) rest = inl first
    by (inr later) rest = inr (rest later)

among : {X : Type 0} (xs : List X) (x : X) → IsIn xs x → Contains xs x
among [] x is = absurd is
among (y ∷ ys) x (inl first) = subst (Contains (y ∷ ys)) first (Contains-first y ys)
among (y ∷ ys) x (inr later) = Contains-cons y ys x (among ys x later)

-- two rising lists with the same elements
one_rising : {K : Type 0} (R : K → K → Ordering) → IsTotalOrder R → IsAntisymmetric R → (xs ys : List K)
    → IsStrictlySortedBy R xs → IsStrictlySortedBy R ys → ((x : K) → Contains xs x → Contains ys x)
    → ((x : K) → Contains ys x → Contains xs x) → xs ≡ ys
one_rising R total only xs ys rise rises to back =
    one_list R total only xs ys (rises_from R total only xs rise) (rises_from R total only ys rises)
    (λ x here. within ys x (to x (among xs x here))) (λ x here. within xs x (back x (among ys x here)))

-- elements that differ have one number each
pub one_number : {X : Type 0} (xs : List X) (d : X) → AllPairs (λ x y. x ≢ y) xs → (i j : ℕ) → i < length xs → j < length xs
    → get_or xs i d ≡ get_or xs j d → i ≡ j
one_number xs d apart i j first second same = by (cases_order i j)
  where
    by : (i ≡ j) ⊎ ((i < j) ⊎ (j < i)) → i ≡ j
    by (inl is) = is
    by (inr (inl less)) = absurd (apart i j d less second same)
    by (inr (inr more)) = absurd (apart j i d more first (sym same))

identity_total : IsTotalOrder by_identity
identity_total =
    then_total (on_total (λ (x : Identity). x.file) nat_list_cmp_total) (on_total (λ (x : Identity). x.name) nat_list_cmp_total)

identity_only : IsAntisymmetric by_identity
identity_only x y e =
    let only = slice_cmp-IsAntisymmetric nat_cmp-IsAntisymmetric in
    let both = then_equal (slice_cmp nat_cmp x.file y.file) (slice_cmp nat_cmp x.name y.name) e in
    λ i. record { file = only x.file y.file both.0 i; name = only x.name y.name both.1 i }

-- ---- maps

-- a function has one entry
one_entry : (image : Image) (lines : List (SequenceOf LineRow)) (f : Identity) (o p : Option ℕ)
    → IsEntryOf image lines f o → IsEntryOf image lines f p → o ≡ p
one_entry image lines f None None a b = refl
one_entry image lines f None (Some e) a b = absurd (a e b.0)
one_entry image lines f (Some d) None a b = absurd (b d a.0)
one_entry image lines f (Some d) (Some e) a b = by (cases_order d e)
  where
    by : (d ≡ e) ⊎ ((d < e) ⊎ (e < d)) → Some d ≡ Some e
    by (inl is) = ap (λ n. Some n) is
    by (inr (inl less)) = absurd (b.1 d less a.0)
    by (inr (inr more)) = absurd (a.1 e more b.0)

module _ (image : Image) (m n : SymbolMap) (is : IsMapOf image m) (also : IsMapOf image n) (sound : IsSound m)
    (sounder : IsSound n) where
  files_same : m.files ≡ n.files
  files_same =
      one_rising (slice_cmp nat_cmp) nat_list_cmp_total (slice_cmp-IsAntisymmetric nat_cmp-IsAntisymmetric) m.files n.files
      is.files_rise also.files_rise (λ name here. (also.files name).1 ((is.files name).0 here))
      (λ name here. (is.files name).1 ((also.files name).0 here))

  identities_same : identities m ≡ identities n
  identities_same =
      one_rising by_identity identity_total identity_only (identities m) (identities n) is.functions_rise
      also.functions_rise (λ f here. (also.functions f).1 ((is.functions f).0 here))
      (λ f here. (is.functions f).1 ((also.functions f).0 here))

  functions_many : length m.functions ≡ length n.functions
  functions_many =
      sym (length-map m.functions (identity_in m.files)) ∙ ap length identities_same
      ∙ length-map n.functions (identity_in n.files)

  functions_same : m.functions ≡ n.functions
  functions_same = ext_get_or (record { home = m.unknown.file; name = [] }) m.functions n.functions functions_many (λ k less.
      let nobody : FunctionIn m = record { home = m.unknown.file; name = [] } in
      let identity = identity_in m.files in
      let less_too : k < length n.functions = omega (arith, less, functions_many) in
      let one = sym (get_or-map identity m.functions k nobody)
      ∙ ap (λ fs. get_or fs k (identity nobody))
      (identities_same ∙ ap (λ fs. map (identity_in fs) n.functions) (sym files_same))
      ∙ get_or-map identity n.functions k nobody in
      let many = ap length files_same in
      let home = sound.homes (record { 0 = k }) less in
      let home_too = sounder.homes (record { 0 = k }) less_too in
      let found = slice_get-get_or m.functions k nobody less in
      let found_too = slice_get-get_or n.functions k nobody less_too in
      let at = ap (λ o. (option_map_or (λ f. f.home) o m.unknown.file).0) found in
      let at_too = ap (λ o. (option_map_or (λ f. f.home) o n.unknown.file).0) found_too in
      let number = one_number m.files unknown_name sound.files_differ (get_or m.functions k nobody).home.0
      (get_or n.functions k nobody).home.0 (omega (arith, home, at)) (omega (arith, home_too, at_too, many))
      (ap (λ (x : Identity). x.file) one) in
      λ i. record { home = record { 0 = number i }; name = (one i).name })

  places_same : (address : ℕ) → address < 2 ^ 32 → place_of m address ≡ place_of n address
  places_same address small =
      let one = is.places address small ∙ sym (also.places address small) in
      let function = one_number (identities m) unknown_function sound.functions_differ (place_of m address).func.0
      (place_of n address).func.0
      (omega (arith, sound.place_functions address, length-map m.functions (identity_in m.files)))
      (omega (arith, sounder.place_functions address, functions_many, length-map m.functions (identity_in m.files)))
      (ap (λ (l : Location). l.function) one
      ∙ ap (λ fs. get_or fs (place_of n address).func.0 unknown_function) (sym identities_same)) in
      let file = one_number m.files unknown_name sound.files_differ (place_of m address).file.0 (place_of n address).file.0
      (sound.place_files address) (omega (arith, sounder.place_files address, ap length files_same))
      (ap (λ (l : Location). l.file) one ∙ ap (λ fs. get_or fs (place_of n address).file.0 unknown_name) (sym files_same)) in
      λ i. record { func = record { 0 = function i }; file = record { 0 = file i }; line = (one i).line }

  entries_same : (func : FuncId) → IsFunc m func → entry_of m func ≡ entry_of n func
  entries_same func known =
      one_entry image (lines_of image) (identity_of m func) (entry_of m func) (entry_of n func) (is.entries func known)
      (subst (λ fs. IsEntryOf image (lines_of image) (get_or fs func.0 unknown_function) (entry_of n func))
      (sym identities_same) (also.entries func (omega (arith, known, functions_many))))

  lines_same : (o : Option ℕ) → IfSome o (λ entry. entry < 2 ^ 32)
      → option_map_or (λ entry. (place_of m entry).line) o 0 ≡ option_map_or (λ entry. (place_of n entry).line) o 0
  lines_same None small = refl
  lines_same (Some entry) small = ap (λ (p : Place). p.line) (places_same entry small)

  pub tell_the_same : TellTheSame m n
  tell_the_same = record {
    functions = functions_same;
    files = files_same;
    entries = entries_same;
    entry_lines = λ func known.
        lines_same (entry_of m func) (entries_small image m is func known)
        ∙ ap (λ o. option_map_or (λ entry. (place_of n entry).line) o 0) (entries_same func known);
    places = places_same;
    entry_addresses = λ address small. is.entry_addresses address small ∙ sym (also.entry_addresses address small);
  }
