-- Contexts that stand for functions, and their names.
use Rattle.std.proofs.Common.{◌≡◌, ◌⊎◌, inl, inr, ℕ, zero, suc, ◌+◌, ◌<◌, List, [], ◌∷◌}
use Rattle.std.proofs.Common.{◌++◌, Option, append_assoc, get_or, length, map}
use Rattle.std.proofs.Common.{take, refl, sym, ap, subst, ◌∙◌, arith}
use Rattle.std.specs.Prelude.{codes}
use Rattle.std.specs.Option.{option_map, option_map_or}
use Rattle.std.proofs.lemmas.List.{get_or-map, length-map, take_more}
use Rattle.std.proofs.lemmas.Option.{slice_get-get_or, slice_get-map}
use Rattle.event_costs.specs.declared.numbers.FuncId.{FuncId}
use Rattle.sym_map.specs.SymbolMap.{IsFunc, SymbolMap, entry_line_of, entry_of, home_of, identity_in}
use Rattle.sym_map.specs.SymbolMap.{identity_of, place_of}
use Rattle.contexts.specs.Contexts.{Context}
use Rattle.ctx_rows.specs.Folding.{function_of}
use Rattle.ctx_rows.specs.Texts.{FunctionIn, as_function, context_map, context_name}
use Rattle.ctx_rows.specs.inner.Named.{AreNamed}

-- A function of the map of contexts, by its number.
module _ (m : SymbolMap) (cs : List Context) (w : SymbolMap) (view : context_map m cs ≡ w) (func given : FuncId)
    (same : func ≡ given) (is : IsFunc w given) where
  pub within_contexts : func.0 < length cs
  within_contexts =
      let now = subst (λ (v : SymbolMap). IsFunc v func) (sym view) (subst (λ (f : FuncId). IsFunc w f) (sym same) is) in
      let all = length-map cs (as_function m) in
      omega (arith, now, all)

  module _ (d : Context) where
    pub home_there : home_of m (function_of (get_or cs func.0 d)) ≡ home_of w given
    home_there =
        sym (ap (λ (o : Option (FunctionIn m)). option_map_or (λ (f : FunctionIn m). f.home) o m.unknown.file)
        (slice_get-map (as_function m) cs func.0
        ∙ ap (option_map (as_function m)) (slice_get-get_or cs func.0 d within_contexts)))
        ∙ (λ i. home_of (view i) (same i))

    name_there : context_name m (get_or cs func.0 d) ≡ (identity_of w given).name
    name_there =
        let all = length-map cs (as_function m) in
        sym (ap (λ (f : FunctionIn m). f.name)
        (get_or-map (as_function m) cs func.0 d (as_function m d) within_contexts))
        ∙ ap (λ i. i.name) (sym (get_or-map (identity_in m.files) (map (as_function m) cs) func.0 (as_function m d) _
        (omega (arith, all, within_contexts))))
        ∙ (λ i. (identity_of (view i) (same i)).name)

    pub entry_there : entry_line_of m (function_of (get_or cs func.0 d)) ≡ entry_line_of w given
    unfolding place_of
    entry_there =
        sym (ap (λ (o : Option ℕ). option_map_or (λ entry. (place_of m entry).line) o 0)
        (get_or-map (λ (c : Context). entry_of m (function_of c)) cs func.0 d _ within_contexts))
        ∙ (λ i. entry_line_of (view i) (same i))

    module _ (names : List (List ℕ)) (named : AreNamed m cs names) where
      pub name_is : (text : List ℕ) → text ≡ get_or names func.0 text → text ≡ (identity_of w given).name
      name_is text at =
          at ∙ ap (λ (ns : List (List ℕ)). get_or ns func.0 text) named.names_are
          ∙ get_or-map (context_name m) cs func.0 d text within_contexts ∙ name_there

      -- the function that it has its file and entry from
      pub first_there : IsFunc m (function_of (get_or cs func.0 d))
      first_there = let known = named.known func.0 d within_contexts in known.1 0 0 known.0

-- ---- names

abbrev pub name_of : SymbolMap → ℕ → List ℕ
name_of m f = (identity_of m (record { 0 = f })).name

name_more : (m : SymbolMap) (xs : Context) (x f : ℕ)
    → context_name m ((x ∷ xs) ++ f ∷ []) ≡ context_name m (x ∷ xs) ++ (codes "'" ++ name_of m f)
name_more m [] x f = append_assoc (name_of m x) (codes "'") (name_of m f)
name_more m (y ∷ xs) x f =
    ap (λ (t : List ℕ). (name_of m x ++ codes "'") ++ t) (name_more m xs y f)
    ∙ sym (append_assoc (name_of m x ++ codes "'") (context_name m (y ∷ xs)) (codes "'" ++ name_of m f))

-- a name with one function more
pub named_first : (m : SymbolMap) (c : Context) → 0 < length c → context_name m (take 1 c) ≡ name_of m (get_or c 0 0)
named_first m [] some = absurd (omega (arith, some))
named_first m (x ∷ c) some = refl

pub named_next : (m : SymbolMap) (c : Context) (k : ℕ) → 0 < k → k < length c
    → context_name m (take (k + 1) c) ≡ context_name m (take k c) ++ (codes "'" ++ name_of m (get_or c k 0))
named_next m c zero some less = absurd (omega (arith, some))
named_next m [] (suc k) some less = absurd (omega (arith, less))
named_next m (x ∷ c) (suc k) some less =
    ap (context_name m) (take_more (x ∷ c) (suc k) 0 less) ∙ name_more m (take k c) x (get_or (x ∷ c) (suc k) 0)

-- ---- the loop over a context's functions

pub name_grows : (m : SymbolMap) (c : Context) (k : ℕ) (old mid new name : List ℕ) → k < length c
    → old ≡ context_name m (take k c) → name ≡ name_of m (get_or c k 0)
    → new ≡ mid ++ name → ((0 < k) × (mid ≡ old ++ codes "'")) ⊎ ((k ≡ 0) × (mid ≡ old))
    → new ≡ context_name m (take (k + 1) c)
name_grows m c k old mid new name less old_is name_is_ new_is by_place = by by_place
  where
    by : ((0 < k) × (mid ≡ old ++ codes "'")) ⊎ ((k ≡ 0) × (mid ≡ old)) → new ≡ context_name m (take (k + 1) c)
    by (inl later) =
        new_is ∙ (λ i. (later.1 ∙ ap (λ (t : List ℕ). t ++ codes "'") old_is) i ++ name_is_ i)
        ∙ append_assoc (context_name m (take k c)) (codes "'") (name_of m (get_or c k 0))
        ∙ sym (named_next m c k later.0 less)
    by (inr first) =
        let none : old ≡ [] = old_is ∙ ap (λ n. context_name m (take n c)) first.0 in
        let one : 1 ≡ k + 1 = omega (arith, first.0) in
        let at_first : name_of m (get_or c k 0) ≡ context_name m (take (k + 1) c)
        = ap (λ n. name_of m (get_or c n 0)) first.0
        ∙ sym (named_first m c (omega (arith, less, first.0)))
        ∙ ap (λ n. context_name m (take n c)) one in
        new_is ∙ (λ i. (first.1 ∙ none) i ++ name_is_ i) ∙ at_first
