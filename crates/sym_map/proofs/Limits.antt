-- The next value of a section, while symbols are passed from the greatest value down.
use Rattle.std.proofs.Common.{◌≡◌, ◌≢◌, ℕ, ◌+◌, ◌<◌, ◌≤◌, ◌↔◌, List, [], ◌∷◌, ◌++◌, length, get_or, map, take}
use Rattle.std.proofs.Common.{Option, Some, None, sym, ap, ◌∙◌, subst, Contains, ◌⊎◌, ⊎_elim, arith}
use Rattle.std.proofs.Math.ListN.{set}
use Rattle.std.proofs.lemmas.List.{length-map, get_or-map, get_or_default, length-take-le, get_or-take, length-set}
use Rattle.std.proofs.lemmas.List.{get_or-set_same, get_or-set_other, take_more, map_push}
use Rattle.std.proofs.lemmas.List.Elements.{Contains-append_left, Contains-push, Contains-push_cases}
use Rattle.elf_read.specs.declared.symbol.Symbol.{Symbol}
use Rattle.sym_map.specs.declared.limit.Lowest.{Lowest}
use Rattle.sym_map.specs.inner.Limits.{Limit, limit_of, IsNextValue, IsBelow, IsLowest, AreLowest, Fall}
use Rattle.sym_map.specs.inner.Naming.{NumberedSymbol}
use Rattle.sym_map.proofs.Members.{Contains-map, Contains-from_map}

abbrev pub symbol_of : NumberedSymbol → Symbol
symbol_of p = p.symbol

abbrev pub limit_in : NumberedSymbol → Limit
limit_in p = limit_of p.symbol

abbrev pub with_value : ℕ → ℕ → Limit
with_value section value = record { section = section; value = value }

-- what lies above a limit is the same in two lists
abbrev pub SameAbove : List Limit → List Limit → Limit → Type 0
SameAbove xs ys limit = (value : ℕ) → limit.value < value
    → Contains xs (with_value limit.section value) ↔ Contains ys (with_value limit.section value)

pub next_alike : (xs ys : List Limit) (limit : Limit) (next : Option ℕ) → SameAbove xs ys limit
    → IsNextValue xs limit next → IsNextValue ys limit next
next_alike xs ys limit None same none = λ value above there. none value above ((same value above).1 there)
next_alike xs ys limit (Some next) same is =
    (is.0, (same next is.0).0 is.1, (λ value above there. is.2 value above ((same value above).1 there)))

-- one more that does not lie above
pub more_above : (limits : List Limit) (new limit : Limit) → (new.section ≡ limit.section → new.value ≤ limit.value)
    → SameAbove limits (limits ++ new ∷ []) limit
more_above limits new limit low value above = (
  (λ there. Contains-append_left limits (new ∷ []) (with_value limit.section value) there),
  (λ there.
      ⊎_elim (λ (old : Contains limits (with_value limit.section value)). old)
      (λ (same : new ≡ with_value limit.section value).
      let section : new.section ≡ limit.section = ap (λ (l : Limit). l.section) same in
      let is : new.value ≡ value = ap (λ (l : Limit). l.value) same in
      let below : new.value ≤ limit.value = low section in
      absurd (omega arith))
      (Contains-push_cases limits new (with_value limit.section value) there)),
)

-- ---- the next value of the one that is passed

pub passed_none : (limits : List Limit) (limit : Limit) → IsLowest limits limit.section None
    → IsNextValue limits limit None
passed_none limits limit none = λ value above. none value

pub passed_lower : (limits : List Limit) (limit : Limit) (lowest : Lowest)
    → IsLowest limits limit.section (Some lowest) → IsBelow limits limit.value → lowest.value ≢ limit.value
    → IsNextValue limits limit (Some lowest.value)
passed_lower limits limit lowest is below other =
    let low : limit.value ≤ lowest.value = below (with_value limit.section lowest.value) is.0 in (
      (omega arith),
      is.0,
      (λ value above there. is.1 value there),
    )

-- what is read at the place of a section
pub lowest_at : (limits : List Limit) (sections : List (Option Lowest)) (section place : ℕ) (o : Option Lowest)
    → place ≡ section → section < length sections → AreLowest limits sections → o ≡ get_or sections place o
    → IsLowest limits section o
lowest_at limits sections section place o same inside are is =
    subst (IsLowest limits section)
    (sym (is ∙ get_or_default sections place o None (omega arith) ∙ ap (λ k. get_or sections k None) same))
    (are section inside)

-- ---- what is known of the sections then

own_lowest : (limits : List Limit) (limit : Limit) (next : Option ℕ) → IsBelow limits limit.value
    → IsNextValue limits limit next
    → IsLowest (limits ++ limit ∷ []) limit.section (Some (record { value = limit.value; next = next }))
own_lowest limits limit next below is = (
  Contains-push limits limit,
  (λ value there.
      ⊎_elim
      (λ (old : Contains limits (with_value limit.section value)). below (with_value limit.section value) old)
      (λ (same : limit ≡ with_value limit.section value).
      let e : limit.value ≡ value = ap (λ (l : Limit). l.value) same in omega arith)
      (Contains-push_cases limits limit (with_value limit.section value) there)),
  next_alike limits (limits ++ limit ∷ []) limit next (more_above limits limit limit (λ e. omega arith)) is,
)

other_lowest : (limits : List Limit) (limit : Limit) (section : ℕ) (o : Option Lowest) → limit.section ≢ section
    → IsLowest limits section o → IsLowest (limits ++ limit ∷ []) section o
other_lowest limits limit section None other none = λ value there.
    ⊎_elim (λ (old : Contains limits (with_value section value)). none value old)
    (λ (same : limit ≡ with_value section value). other (ap (λ (l : Limit). l.section) same))
    (Contains-push_cases limits limit (with_value section value) there)
other_lowest limits limit section (Some lowest) other is = (
  Contains-append_left limits (limit ∷ []) (with_value section lowest.value) is.0,
  (λ value there.
      ⊎_elim (λ (old : Contains limits (with_value section value)). is.1 value old)
      (λ (same : limit ≡ with_value section value). absurd (other (ap (λ (l : Limit). l.section) same)))
      (Contains-push_cases limits limit (with_value section value) there)),
  next_alike limits (limits ++ limit ∷ []) (with_value section lowest.value) lowest.next
      (more_above limits limit (with_value section lowest.value) (λ e. absurd (other e))) is.2,
)

pub lowest_more : (limits : List Limit) (limit : Limit) (sections : List (Option Lowest)) (next : Option ℕ)
    → limit.section < length sections → AreLowest limits sections → IsBelow limits limit.value
    → IsNextValue limits limit next
    → AreLowest (limits ++ limit ∷ [])
    (set sections limit.section (Some (record { value = limit.value; next = next })))
lowest_more limits limit sections next inside are below is section within =
    let new : Option Lowest = Some (record { value = limit.value; next = next }) in
    let long = length-set sections limit.section new in
    ⊎_elim
    (λ (same : limit.section ≡ section).
    subst (λ (s : ℕ). IsLowest (limits ++ limit ∷ []) s (get_or (set sections limit.section new) s None)) same
    (subst (IsLowest (limits ++ limit ∷ []) limit.section)
    (sym (get_or-set_same sections limit.section new None inside)) (own_lowest limits limit next below is)))
    (λ (other : limit.section ≢ section).
    subst (IsLowest (limits ++ limit ∷ []) section)
    (sym (get_or-set_other sections limit.section section new None (λ e. other (sym e))))
    (other_lowest limits limit section (get_or sections section None) other (are section (omega (arith, long)))))
    (let P : (limit.section ≡ section) ⊎ (limit.section ≢ section) = either limit.section section in P)
  where
    either : (a b : ℕ) → (a ≡ b) ⊎ (a ≢ b)
    either a b = grind arith

-- ---- symbols whose values fall

module _ (placed : List NumberedSymbol) (i : ℕ) (d : NumberedSymbol) (fall : Fall (map symbol_of placed))
    (inside : i < length placed) where
  abbrev here : NumberedSymbol
  here = get_or placed i d

  no_greater : (j k : ℕ) (p : NumberedSymbol) → j ≤ k → k < length placed
      → (get_or placed k p).symbol.value ≤ (get_or placed j p).symbol.value
  no_greater j k p le lt =
      let long : length (map symbol_of placed) ≡ length placed = length-map placed symbol_of in
      let first : get_or (map symbol_of placed) j p.symbol ≡ (get_or placed j p).symbol =
      get_or-map symbol_of placed j p p.symbol (omega arith) in
      let second : get_or (map symbol_of placed) k p.symbol ≡ (get_or placed k p).symbol =
      get_or-map symbol_of placed k p p.symbol lt in
      rw (first, second) at (fall j k p.symbol le (omega (arith, long)))

  -- those before a symbol have no lesser value
  pub before_below : IsBelow (map limit_in (take i placed)) here.symbol.value
  before_below limit there =
      let from = Contains-from_map limit_in (take i placed) limit there in
      let long = length-take-le i placed (omega arith) in
      let k : ℕ = from.1.0 in
      let k_before : k < i = let lt = from.1.1 in omega arith in
      let at : get_or placed k from.0 ≡ from.0 = sym (get_or-take i placed k from.0 k_before) ∙ from.1.2 in
      let value : from.0.symbol.value ≡ limit.value = ap (λ (l : Limit). l.value) from.2 in
      let falls = no_greater k i from.0 (omega arith) inside in
      let low : here.symbol.value ≤ (get_or placed k from.0).symbol.value =
      subst (λ (p : NumberedSymbol). p.symbol.value ≤ (get_or placed k from.0).symbol.value)
      (get_or_default placed i from.0 d inside) falls in
      let same : (get_or placed k from.0).symbol.value ≡ from.0.symbol.value =
      ap (λ (p : NumberedSymbol). p.symbol.value) at in
      omega arith

  -- those that lie above it are before it
  pub above_before : SameAbove (map limit_in (take i placed)) (map limit_in placed) (limit_in here)
  above_before value above = (
    (λ there.
        let limit : Limit = with_value here.symbol.section value in
        let from = Contains-from_map limit_in (take i placed) limit there in
        let long = length-take-le i placed (omega arith) in
        let k : ℕ = from.1.0 in
        let k_before : k < i = let lt = from.1.1 in omega arith in
        let at : get_or placed k from.0 ≡ from.0 = sym (get_or-take i placed k from.0 k_before) ∙ from.1.2 in
        subst (Contains (map limit_in placed)) from.2
        (Contains-map limit_in placed from.0 (k, omega arith, at))),
    (λ there.
        let limit : Limit = with_value here.symbol.section value in
        let from = Contains-from_map limit_in placed limit there in
        let k : ℕ = from.1.0 in
        let is : from.0.symbol.value ≡ value = ap (λ (l : Limit). l.value) from.2 in
        ⊎_elim
        (λ (k_before : k < i).
        let long = length-take-le i placed (omega arith) in
        let at : get_or (take i placed) k from.0 ≡ from.0 = get_or-take i placed k from.0 k_before ∙ from.1.2 in
        subst (Contains (map limit_in (take i placed))) from.2
        (Contains-map limit_in (take i placed) from.0 (k, omega (arith, long), at)))
        (λ (behind : i ≤ k).
        let falls = no_greater i k from.0 behind from.1.1 in
        let same : (get_or placed k from.0).symbol.value ≡ from.0.symbol.value =
        ap (λ (p : NumberedSymbol). p.symbol.value) from.1.2 in
        let own : (get_or placed i from.0).symbol.value ≡ here.symbol.value =
        ap (λ (p : NumberedSymbol). p.symbol.value) (get_or_default placed i from.0 d inside) in
        let gt : here.symbol.value < value = above in
        absurd (omega arith))
        (let P : (k < i) ⊎ (i ≤ k) = either k i in P)),
  )
    where
      either : (a b : ℕ) → (a < b) ⊎ (b ≤ a)
      either a b = grind arith

  -- one symbol more is passed
  pub limits_more : map limit_in (take (i + 1) placed) ≡ map limit_in (take i placed) ++ limit_in here ∷ []
  limits_more = ap (map limit_in) (take_more placed i d inside) ∙ map_push limit_in (take i placed) here
