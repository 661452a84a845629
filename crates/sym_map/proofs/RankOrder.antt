-- Candidates compare by the ranks of their names as by the names.
use Rattle.std.proofs.Common.{◌≡◌, ℕ, ◌<◌, ◌≤◌, Bool, true, false, List, [], ◌∷◌, length, get_or}
use Rattle.std.proofs.Common.{map, refl, sym, ap, ◌∙◌, subst, ◌⊎◌}
use Rattle.std.proofs.Common.{⊎_elim, Ordering, Contains, arith}
use Rattle.std.specs.Prelude.{All}
use Rattle.std.specs.declared.cmp.Ordering.TheVariants.{Less, Equal, Greater}
use Rattle.std.specs.Cmp.{IsTotalOrder, IsStrictWeakOrder, nat_cmp_is}
use Rattle.std.specs.Cmp.Lexicographic.{slice_cmp}
use Rattle.std.specs.Ordering.{nat_cmp, is_lt, ordering_then}
use Rattle.std.specs.List.Sorted.{IsSortedBy, IsStrictlySortedBy}
use Rattle.std.proofs.lemmas.Cmp.{on_total, then_total, back_total, nat_cmp_total, nat_list_cmp_total}
use Rattle.std.proofs.lemmas.List.{length-map, get_or-map}
use Rattle.std.proofs.lemmas.List.Elements.{All-contains}
use Rattle.std.proofs.lemmas.List.Sorted.{ranks_by, sorted_far}
use Rattle.std.proofs.lemmas.Option.{slice_get-get_or, get_or_from_slice_get, slice_get_within}
use Rattle.elf_read.specs.Image.{Image}
use Rattle.elf_read.specs.declared.symbol.Symbol.{Symbol}
use Rattle.sym_map.specs.Symbols.{binding_rank, symbol_name}
use Rattle.name_numbers.specs.Keys.{NumberEach}
use Rattle.sym_map.specs.inner.Limits.{Fall}
use Rattle.sym_map.specs.inner.Naming.{NamedSymbol, NumberedSymbol, is_preferred, nameless, name_beside}
use Rattle.sym_map.specs.inner.Ranking.{by_rank, named_in}
use Rattle.sym_map.proofs.Preference.{preference_total, preferred_weak}
use Rattle.sym_map.proofs.Numbers.{number_order, rest_numbered}

abbrev symbol_of : NumberedSymbol → Symbol
symbol_of r = r.symbol

abbrev number_of : NumberedSymbol → ℕ
number_of r = r.number

-- its number is that of a name
abbrev pub IsWithin : List (List ℕ) → NumberedSymbol → Type 0
IsWithin names r = r.number < length names

abbrev pub is_before : NumberedSymbol → NumberedSymbol → Bool
is_before x y = is_lt (by_rank x y)

-- ---- both are orders

rank_total : IsTotalOrder by_rank
rank_total =
    then_total
    (then_total (on_total (λ (x : NumberedSymbol). x.symbol.value) (back_total nat_cmp_total))
    (on_total (λ (x : NumberedSymbol). binding_rank x.symbol.binding) nat_cmp_total))
    (on_total number_of nat_cmp_total)

pub before_weak : IsStrictWeakOrder is_before
before_weak = ranks_by rank_total (λ (x : NumberedSymbol). x)

pub preferred_weak_in : (names : List (List ℕ))
    → IsStrictWeakOrder (λ (x y : NumberedSymbol). is_preferred (named_in names x) (named_in names y))
preferred_weak_in names = ranks_by preference_total (named_in names)

-- ---- and the same

then_assoc : (r s t : Ordering) → ordering_then (ordering_then r s) t ≡ ordering_then r (ordering_then s t)
then_assoc Less s t = refl
then_assoc Equal s t = refl
then_assoc Greater s t = refl

pub ranks_agree : (names : List (List ℕ)) → IsStrictlySortedBy (slice_cmp nat_cmp) names
    → (rs : List NumberedSymbol) → All (IsWithin names) rs → (x y : NumberedSymbol) → Contains rs x → Contains rs y
    → is_before x y ≡ is_preferred (named_in names x) (named_in names y)
ranks_agree names rise rs all x y here there =
    let by_value : Ordering = nat_cmp y.symbol.value x.symbol.value in
    let by_binding : Ordering = nat_cmp (binding_rank x.symbol.binding) (binding_rank y.symbol.binding) in
    ap is_lt (then_assoc by_value by_binding (nat_cmp x.number y.number)
    ∙ ap (λ t. ordering_then by_value (ordering_then by_binding t))
    (number_order (slice_cmp nat_cmp) nat_list_cmp_total names rise x.number y.number (get_or names x.number []) (get_or names y.number [])
    (slice_get-get_or names x.number [] (All-contains (IsWithin names) rs x all here))
    (slice_get-get_or names y.number [] (All-contains (IsWithin names) rs y all there))))

-- ---- lists of candidates with their ranks

-- symbols whose numbers stand for their names are the candidates
pub all_parted : (image : Image) (names : List (List ℕ)) (rs : List NumberedSymbol) (ss : List Symbol)
    → map symbol_of rs ≡ map nameless ss → NumberEach names (map number_of rs) (map (symbol_name image) ss)
    → map (named_in names) rs ≡ map (name_beside image) ss
all_parted image names [] [] e each = refl
all_parted image names [] (s ∷ ss) e each = absurd (cc)
all_parted image names (r ∷ rs) [] e each = absurd (cc)
all_parted image names (r ∷ rs) (s ∷ ss) e each =
    let symbol : r.symbol ≡ nameless s = cc in
    let symbols : map symbol_of rs ≡ map nameless ss = cc in
    let name : get_or names r.number [] ≡ symbol_name image s =
    get_or_from_slice_get names r.number (symbol_name image s) [] (each.each 0 (omega arith)) in
    let first : named_in names r ≡ name_beside image s = λ i. record { symbol = symbol i; name = name i } in
    ap (λ (n : NamedSymbol). n ∷ map (named_in names) rs) first
    ∙ ap (λ (ns : List NamedSymbol). name_beside image s ∷ ns) (all_parted image names rs ss symbols
    (rest_numbered names r.number (map number_of rs) (symbol_name image s) (map (symbol_name image) ss) each))

pub all_within : (names : List (List ℕ)) (rs : List NumberedSymbol) (wanted : List (List ℕ))
    → NumberEach names (map number_of rs) wanted → All (IsWithin names) rs
all_within names rs wanted so k d lt =
    let long : length (map number_of rs) ≡ length rs = length-map rs number_of in
    let inside : k < length wanted = omega (arith, long, so.as_many) in
    subst (λ n. n < length names) (get_or-map number_of rs k d 0 lt)
    (slice_get_within names (get_or (map number_of rs) k 0) (get_or wanted k [])
    (so.each k inside ∙ slice_get-get_or wanted k [] inside))

-- what is sorted by preference has no greater value behind a lesser one
pub values_fall : (ns : List NamedSymbol) → IsSortedBy is_preferred ns → Fall (map (λ (n : NamedSymbol). n.symbol) ns)
values_fall ns sorted i j d le lt =
    let symbol : NamedSymbol → Symbol = λ (n : NamedSymbol). n.symbol in
    let long : length (map symbol ns) ≡ length ns = length-map ns symbol in
    let unnamed : NamedSymbol = record { symbol = d; name = [] } in
    let x : NamedSymbol = get_or ns i unnamed in
    let y : NamedSymbol = get_or ns j unnamed in
    let first : get_or (map symbol ns) i d ≡ x.symbol = get_or-map symbol ns i unnamed d (omega (arith, long)) in
    let second : get_or (map symbol ns) j d ≡ y.symbol = get_or-map symbol ns j unnamed d (omega (arith, long)) in
    let behind : is_preferred y x ≡ false =
    sorted_far is_preferred preferred_weak ns sorted i j unnamed le (omega (arith, long)) in
    rw (first, second) (below x y behind)
  where
    either : (a b : ℕ) → (a < b) ⊎ (b ≤ a)
    either a b = grind arith

    below : (x y : NamedSymbol) → is_preferred y x ≡ false → y.symbol.value ≤ x.symbol.value
    below x y behind =
        ⊎_elim
        (λ (gt : x.symbol.value < y.symbol.value).
        let less : nat_cmp x.symbol.value y.symbol.value ≡ Less =
        sym (nat_cmp_is x.symbol.value y.symbol.value Less gt) in
        let passes : is_preferred y x ≡ true =
        ap (λ o. is_lt (ordering_then o (ordering_then (nat_cmp (binding_rank y.symbol.binding)
        (binding_rank x.symbol.binding)) (slice_cmp nat_cmp y.name x.name)))) less in
        absurd (cc))
        (λ (ok : y.symbol.value ≤ x.symbol.value). ok)
        (let P : (x.symbol.value < y.symbol.value) ⊎ (y.symbol.value ≤ x.symbol.value) =
        either x.symbol.value y.symbol.value in P)
