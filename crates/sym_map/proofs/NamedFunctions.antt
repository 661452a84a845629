-- The functions of a name, one by one.
use Rattle.std.proofs.Common.{◌≡◌, ◌≢◌, ℕ, ◌+◌, ◌<◌, ◌↔◌, List, [], ◌∷◌, ◌++◌, length, get_or, map, Some, sym, ap}
use Rattle.std.proofs.Common.{subst, Contains, ◌⊎◌, ⊎_elim, arith}
use Rattle.std.specs.Prelude.{All, slice_get}
use Rattle.std.specs.List.Sorted.{IsStrictlyIncreasing}
use Rattle.std.proofs.lemmas.List.{map_push, length_push, length-map, get_or-map, get_or_push, get_or_append_left}
use Rattle.std.proofs.lemmas.List.Elements.{Contains-append_left, Contains-push, Contains-push_cases}
use Rattle.event_costs.specs.FuncSet.{numbers}
use Rattle.event_costs.specs.declared.numbers.FuncId.{FuncId}
use Rattle.sym_map.specs.declared.function.Function.{Function}
use Rattle.sym_map.specs.SymbolMap.{IsNamed}

-- these are the functions of the name among the first so many
abbrev pub AreNamed : List Function → List ℕ → ℕ → List FuncId → Type 0
AreNamed functions name count items = (func : FuncId)
    → Contains items func ↔ ((func.0 < count) × IsNamed functions name func)

pub named_more : (functions : List Function) (name : List ℕ) (items : List FuncId) (i : ℕ)
    → slice_get (map (λ (f : Function). f.name) functions) i ≡ Some name → AreNamed functions name i items
    → AreNamed functions name (i + 1) (items ++ record { 0 = i } ∷ [])
named_more functions name items i at each func = (
  (λ h.
      ⊎_elim
      (λ (old : Contains items func). let both = (each func).0 old in let lt = both.0 in ((omega arith), both.1))
      (λ (new : record { 0 = i } ≡ func). let e : i ≡ func.0 =
      ap (λ (f : FuncId). f.0) new in
      ((omega arith), subst (λ n. slice_get (map (λ (f : Function). f.name) functions) n ≡ Some name) e at))
      (Contains-push_cases items (record { 0 = i }) func h)),
  (λ h.
      let lt = h.0 in
      ⊎_elim
      (λ (old : func.0 < i). Contains-append_left items (record { 0 = i } ∷ []) func ((each func).1 (old, h.1)))
      (λ (new : func.0 ≡ i).
      let same : record { 0 = i } ≡ func = λ k. record { 0 = sym new k } in
      subst (λ (f : FuncId). Contains (items ++ record { 0 = i } ∷ []) f) same (Contains-push items (record { 0 = i })))
      (let P : (func.0 < i) ⊎ (func.0 ≡ i) = last func.0 i lt in P)),
)
  where
    last : (a b : ℕ) → a < b + 1 → (a < b) ⊎ (a ≡ b)
    last a b lt = grind arith

pub named_skipped : (functions : List Function) (name : List ℕ) (items : List FuncId) (i : ℕ)
    → slice_get (map (λ (f : Function). f.name) functions) i ≢ Some name → AreNamed functions name i items
    → AreNamed functions name (i + 1) items
named_skipped functions name items i other each func = (
  (λ h. let both = (each func).0 h in let lt = both.0 in ((omega arith), both.1)),
  (λ h.
      let lt = h.0 in
      ⊎_elim
      (λ (old : func.0 < i). (each func).1 (old, h.1))
      (λ (new : func.0 ≡ i). absurd (other
      (subst (λ n. slice_get (map (λ (f : Function). f.name) functions) n ≡ Some name) new h.1)))
      (let P : (func.0 < i) ⊎ (func.0 ≡ i) = last func.0 i lt in P)),
)
  where
    last : (a b : ℕ) → a < b + 1 → (a < b) ⊎ (a ≡ b)
    last a b lt = grind arith

pub rise_more : (items : List FuncId) (i : ℕ) → IsStrictlyIncreasing (numbers items)
    → All (λ (f : FuncId). f.0 < i) items → IsStrictlyIncreasing (numbers (items ++ record { 0 = i } ∷ []))
rise_more items i rise below =
    subst IsStrictlyIncreasing (sym (map_push (λ (f : FuncId). f.0) items (record { 0 = i }))) (λ k lt.
    let ns : List ℕ = numbers items in
    let long : length ns ≡ length items = length-map items (λ (f : FuncId). f.0) in
    let more : length (ns ++ i ∷ []) ≡ length ns + 1 = length_push ns i in
    ⊎_elim
    (λ (inner : k + 1 < length ns). rw
    (get_or_append_left ns (i ∷ []) 0 k (omega arith), get_or_append_left ns (i ∷ []) 0 (k + 1) inner)
    (rise k inner))
    (λ (outer : k + 1 ≡ length ns).
    let under : (get_or items k (record { 0 = 0 })).0 < i = below k (record { 0 = 0 }) (omega arith) in
    let is : get_or ns k 0 ≡ (get_or items k (record { 0 = 0 })).0 =
    get_or-map (λ (f : FuncId). f.0) items k (record { 0 = 0 }) 0 (omega arith) in
    rw (get_or_append_left ns (i ∷ []) 0 k (omega arith), get_or_push ns i 0 (k + 1) (sym outer)) (omega arith))
    (let P : (k + 1 < length ns) ⊎ (k + 1 ≡ length ns) = last (k + 1) (length ns) (omega arith) in P))
  where
    last : (a b : ℕ) → a < b + 1 → (a < b) ⊎ (a ≡ b)
    last a b lt = grind arith
