-- The first range at which a function is entered.
use Rattle.std.proofs.Common.{◌≡◌, ◌≢◌, ℕ, ◌+◌, ◌<◌, Bool, true, false, cond, eqb, List, [], ◌∷◌, length, get_or, take}
use Rattle.std.proofs.Common.{Option, Some, None, option_map, refl, sym, ap, ◌∙◌, ◌⊎◌, ⊎_elim, arith, get_or-set_same}
use Rattle.std.proofs.Common.{get_or-set_other}
use Rattle.std.specs.Prelude.{find}
use Rattle.std.specs.Option.{option_or, option_and_then, option_map_or}
use Rattle.std.proofs.Math.ListN.{set}
use Rattle.std.proofs.lemmas.List.{take_more}
use Rattle.std.proofs.lemmas.List.Folds.{find-append}
use Rattle.std.proofs.lemmas.Bool.Decides.{nat_tests}
use Rattle.event_costs.specs.declared.numbers.FuncId.{FuncId}
use Rattle.sym_map.specs.declared.range.Range.{Range}
use Rattle.sym_map.specs.declared.range.SymbolHere.{SymbolHere}
use Rattle.sym_map.specs.inner.Ranges.{symbol_of}
use Rattle.sym_map.specs.inner.Entries.{entered_func, enters, start_of_first}
use Rattle.sym_map.proofs.Spans.{or-none}

starts-or : (o p : Option Range)
    → option_map (λ (r : Range). r.start) (option_or o p)
    ≡ option_or (option_map (λ (r : Range). r.start) o) (option_map (λ (r : Range). r.start) p)
starts-or None p = refl
starts-or (Some x) p = refl

first-more : (ranges : List Range) (i : ℕ) (d : Range) (func : ℕ) → i < length ranges
    → start_of_first func (take (i + 1) ranges)
    ≡ option_or (start_of_first func (take i ranges))
    (cond (enters func (get_or ranges i d)) (Some (get_or ranges i d).start) None)
first-more ranges i d func lt =
    let r : Range = get_or ranges i d in
    ap (start_of_first func) (take_more ranges i d lt)
    ∙ ap (option_map (λ (r : Range). r.start)) (find-append (enters func) (take i ranges) (r ∷ []))
    ∙ starts-or (find (enters func) (take i ranges)) (find (enters func) (r ∷ []))
    ∙ ap (option_or (start_of_first func (take i ranges))) (alone (enters func r) r)
  where
    alone : (b : Bool) (r : Range)
        → option_map (λ (r : Range). r.start) (cond b (Some r) None) ≡ cond b (Some r.start) None
    alone true r = refl
    alone false r = refl

pub unentered : (entries : List (Option ℕ)) (ranges : List Range) (i : ℕ) (d : Range) (func : ℕ) → i < length ranges
    → entered_func (get_or ranges i d) ≡ None
    → get_or entries func None ≡ start_of_first func (take i ranges)
    → get_or entries func None ≡ start_of_first func (take (i + 1) ranges)
unentered entries ranges i d func lt none so =
    let no : enters func (get_or ranges i d) ≡ false =
    ap (λ (o : Option FuncId). option_map_or (λ (f : FuncId). eqb f.0 func) o false) none in
    so ∙ sym (first-more ranges i d func lt ∙ rw no (or-none (start_of_first func (take i ranges))))

pub noted : (entries : List (Option ℕ)) (ranges : List Range) (i : ℕ) (d : Range) (g : FuncId) (func : ℕ)
    → i < length ranges → g.0 < length entries → entered_func (get_or ranges i d) ≡ Some g
    → get_or entries func None ≡ start_of_first func (take i ranges)
    → get_or (set entries g.0 (option_or (get_or entries g.0 None) (Some (get_or ranges i d).start))) func None
    ≡ start_of_first func (take (i + 1) ranges)
noted entries ranges i d g func lt within is so =
    let test : enters func (get_or ranges i d) ≡ eqb g.0 func =
    ap (λ (o : Option FuncId). option_map_or (λ (f : FuncId). eqb f.0 func) o false) is in
    ⊎_elim
    (λ (same : func ≡ g.0).
    let yes : eqb g.0 func ≡ true = grind (arith, nat_tests) in
    ap (λ n. get_or (set entries g.0 (option_or (get_or entries g.0 None) (Some (get_or ranges i d).start))) n None)
    same
    ∙ get_or-set_same entries g.0 (option_or (get_or entries g.0 None) (Some (get_or ranges i d).start)) None within
    ∙ ap (λ n. option_or (get_or entries n None) (Some (get_or ranges i d).start)) (sym same)
    ∙ ap (λ (o : Option ℕ). option_or o (Some (get_or ranges i d).start)) so
    ∙ sym (first-more ranges i d func lt ∙ rw (test, yes) refl))
    (λ (other : func ≢ g.0).
    let no : eqb g.0 func ≡ false = grind (arith, nat_tests) in
    get_or-set_other entries g.0 func (option_or (get_or entries g.0 None) (Some (get_or ranges i d).start)) None other
    ∙ so ∙ sym (first-more ranges i d func lt ∙ rw (test, no) (or-none (start_of_first func (take i ranges)))))
    (let P : (func ≡ g.0) ⊎ (func ≢ g.0) = grind arith in P)

-- the function that is entered is the range's
pub entered_symbol : (r : Range) (g : FuncId) → entered_func r ≡ Some g
    → (s : SymbolHere) × (symbol_of r.cover ≡ Some s) × (s.func ≡ g) × (s.value ≡ r.start)
entered_symbol r g is = go (symbol_of r.cover) refl is
  where
    go : (o : Option SymbolHere) → symbol_of r.cover ≡ o
        → option_and_then (λ (s : SymbolHere). cond (eqb s.value r.start) (Some s.func) None) o ≡ Some g
        → (s : SymbolHere) × (symbol_of r.cover ≡ Some s) × (s.func ≡ g) × (s.value ≡ r.start)
    go None at e = absurd (cc)
    go (Some s) at e = tested (eqb s.value r.start) refl e
      where
        tested : (b : Bool) → eqb s.value r.start ≡ b → cond b (Some s.func) None ≡ Some g
            → (s : SymbolHere) × (symbol_of r.cover ≡ Some s) × (s.func ≡ g) × (s.value ≡ r.start)
        tested true test f = (s, at, cc, grind (arith, nat_tests))
        tested false test f = absurd (cc)
