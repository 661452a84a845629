-- The numbers of a profile that was read are the places of its texts.
use Rattle.std.proofs.Common.{◌≡◌, ◌≢◌, ℕ, ◌<◌, Bool, true, false, List, [], ◌∷◌, get_or, length, map, refl, sym}
use Rattle.std.proofs.Common.{ap, ◌∙◌, ◌&&◌, arith, inl, inr}
use Rattle.std.specs.List.{AllByRecursion, AllPairs, position_or_len}
use Rattle.std.specs.Str.{bytes_eq}
use Rattle.std.proofs.lemmas.List.Sums.{passes_at_first, position_or_len_is}
use Rattle.std.proofs.lemmas.Slice.Eq.{bytes_eq-Decides}
use Rattle.std.proofs.lemmas.List.Elements.{All-contains}
use Rattle.sym_map.specs.SymbolMap.{SymbolMap}
use Rattle.once_each.proofs.Others.{Contains-from_map}
use Rattle.call_graph.specs.Reach.{Steps}
use Rattle.call_graph.specs.declared.arc.CallArc.{CallArc}
use Rattle.cycles.specs.Costs.{arc_of, call_arcs}
use Rattle.once_each.specs.Graphs.{AreApartIn, AreOfMap, AreOwn, AreOwnIn, IsOwn, TakesPart, graph}
use Rattle.shadow_stack.specs.Traces.{CountedEvent}
use Rattle.arc_costs.specs.Rows.{ArcRow, LineRow}
use Rattle.cg_read.specs.Profiles.{Contents, FitsCall, FitsSelf, IsProfile, NamedCall, NamedSelf, named_call}
use Rattle.cg_read.specs.Profiles.{named_self, same_function, unknown, unknown_function}
use Rattle.cg_read.specs.declared.rows.CallRow.{CallRow}
use Rattle.cg_read.specs.declared.rows.FuncKey.{FuncKey}
use Rattle.cg_read.specs.declared.rows.SelfRow.{SelfRow}
use Rattle.cg_read.proofs.DraftLemmas.{functions_eq, texts_are}
use Rattle.cg_read.proofs.JoinLemmas.{each_from}
use Rattle.once_each.specs.Profiles.{IsProfileOf, call_row, self_row}
use Rattle.once_each.proofs.KnownLemmas.{known_part}
use Rattle.once_each.proofs.LawLemmas.{graph_to}
use Rattle.once_each.specs.Texts.{IsReadOf, Naming, named_arc, named_line, numbers_in}
use Rattle.std.proofs.lemmas.Bool.{and_from}

-- the place of an element of a list whose elements differ
module _ {K : Type 0} (same : K → K → Bool) (one : (k l : K) → same k l ≡ true → k ≡ l)
    (itself : (k : K) → same k k ≡ true) where
  place_is : (ks : List K) (i : ℕ) (d k : K) → AllPairs (λ x y. x ≢ y) ks → i < length ks → get_or ks i d ≡ k
      → position_or_len (same k) ks ≡ i
  place_is ks i d k apart within is =
      position_or_len_is (same k) ks i d (omega (arith, within)) before (λ _. ap (same k) is ∙ itself k)
    where
      before : (j : ℕ) → j < i → same k (get_or ks j d) ≡ false
      before j less = by (same k (get_or ks j d)) refl
        where
          by : (b : Bool) → same k (get_or ks j d) ≡ b → b ≡ false
          by false so = refl
          by true so = absurd (apart j i d less within (sym (one k (get_or ks j d) so) ∙ sym is))

itself_text : (t : List ℕ) → bytes_eq t t ≡ true
itself_text t = (bytes_eq-Decides t t).1 refl

itself_function : (f : FuncKey) → same_function f f ≡ true
itself_function f =
    and_from (bytes_eq f.object f.object) (bytes_eq f.file f.file && bytes_eq f.name f.name) (itself_text f.object)
    (and_from (bytes_eq f.file f.file) (bytes_eq f.name f.name) (itself_text f.file) (itself_text f.name))

-- lists whose elements correspond, as their images do
from_images : {X L N : Type 0} (f : X → N) (g : L → N) (h : L → X) (Fits : X → Type 0)
    → ((x : X) (l : L) → Fits x → f x ≡ g l → x ≡ h l)
    → (xs : List X) (ls : List L) → AllByRecursion Fits xs → map f xs ≡ map g ls → xs ≡ map h ls
from_images f g h Fits each [] [] fits is = refl
from_images f g h Fits each [] (l ∷ ls) fits is = absurd (cc)
from_images f g h Fits each (x ∷ xs) [] fits is = absurd (cc)
from_images f g h Fits each (x ∷ xs) (l ∷ ls) fits is =
    let head : f x ≡ g l = cc in
    let tail : map f xs ≡ map g ls = cc in
    ap (λ y. y ∷ xs) (each x l fits.0 head) ∙ ap (λ ys. h l ∷ ys) (from_images f g h Fits each xs ls fits.1 tail)

abbrev self_at : ℕ → ℕ → ℕ → List ℕ → SelfRow
self_at func file line cost = record { func = func; file = file; line = line; cost = cost }

abbrev call_at : ℕ → ℕ → ℕ → ℕ → ℕ → List ℕ → CallRow
call_at caller file line callee calls cost = record {
  caller = caller;
  file = file;
  line = line;
  callee = callee;
  calls = calls;
  cost = cost;
}

module _ (p : Contents) (profile : IsProfile p) (names : Naming) where
  func_is : (n : ℕ) (f : FuncKey) → n < length p.functions → get_or p.functions n unknown_function ≡ f
      → n ≡ position_or_len (same_function f) p.functions
  func_is n f within is =
      sym (place_is same_function functions_eq itself_function p.functions n unknown_function f
      profile.functions_differ within is)

  file_is : (n : ℕ) (t : List ℕ) → n < length p.files → get_or p.files n unknown ≡ t
      → n ≡ position_or_len (bytes_eq t) p.files
  file_is n t within is =
      sym (place_is bytes_eq texts_are itself_text p.files n unknown t profile.files_differ within is)

  self_is : (r : SelfRow) (l : LineRow) → FitsSelf (length p.events) (length p.functions) (length p.files) r
      → named_self p.functions p.files r ≡ named_line names l → r ≡ self_row (numbers_in p names) l
  self_is r l fits is =
      ap (λ n. self_at n r.file r.line r.cost)
      (func_is r.func (names.func l.place.func.0) fits.function (ap (λ (x : NamedSelf). x.function) is))
      ∙ ap (λ n. self_at ((numbers_in p names).func l.place.func.0) n r.line r.cost)
      (file_is r.file (names.file l.place.file.0) fits.file (ap (λ (x : NamedSelf). x.file) is))
      ∙ ap (λ n. self_at ((numbers_in p names).func l.place.func.0) ((numbers_in p names).file l.place.file.0) n r.cost)
      (ap (λ (x : NamedSelf). x.line) is)
      ∙ ap (λ c. self_at ((numbers_in p names).func l.place.func.0)
      ((numbers_in p names).file l.place.file.0) l.place.line c) (ap (λ (x : NamedSelf). x.cost) is)

  call_is : (r : CallRow) (a : ArcRow) → FitsCall (length p.events) (length p.functions) (length p.files) r
      → named_call p.functions p.files r ≡ named_arc names a → r ≡ call_row (numbers_in p names) a
  call_is r a fits is =
      let n = numbers_in p names in
      ap (λ m. call_at m r.file r.line r.callee r.calls r.cost)
      (func_is r.caller (names.func a.arc.caller.0) fits.caller (ap (λ (x : NamedCall). x.caller) is))
      ∙ ap (λ m. call_at (n.func a.arc.caller.0) m r.line r.callee r.calls r.cost)
      (file_is r.file (names.file a.arc.file.0) fits.file (ap (λ (x : NamedCall). x.file) is))
      ∙ ap (λ m. call_at (n.func a.arc.caller.0) (n.file a.arc.file.0) m r.callee r.calls r.cost)
      (ap (λ (x : NamedCall). x.line) is)
      ∙ ap (λ m. call_at (n.func a.arc.caller.0) (n.file a.arc.file.0) a.arc.line m r.calls r.cost)
      (func_is r.callee (names.func a.arc.callee.0) fits.callee (ap (λ (x : NamedCall). x.callee) is))
      ∙ ap (λ m. call_at (n.func a.arc.caller.0) (n.file a.arc.file.0) a.arc.line (n.func a.arc.callee.0) m r.cost)
      (ap (λ (x : NamedCall). x.calls) is)
      ∙ ap (λ c. call_at (n.func a.arc.caller.0) (n.file a.arc.file.0) a.arc.line (n.func a.arc.callee.0) a.calls c)
      (ap (λ (x : NamedCall). x.cost) is)

pub read_is : (syms : SymbolMap) (trace : List CountedEvent) (names : Naming) (p : Contents) → IsReadOf syms trace names p
    → IsProfileOf syms trace (numbers_in p names) p
read_is syms trace names p read = record {
  parts = read.parts;
  exact = read.exact;
  events = read.events;
  self_rows = from_images (named_self p.functions p.files) (named_line names) (self_row (numbers_in p names))
      (FitsSelf (length p.events) (length p.functions) (length p.files))
      (self_is p read.profile names) p.self_rows _
      (each_from
      (FitsSelf (length p.events) (length p.functions) (length p.files)) p.self_rows read.profile.self_rows_fit)
      read.self_rows;
  call_rows = from_images (named_call p.functions p.files) (named_arc names) (call_row (numbers_in p names))
      (FitsCall (length p.events) (length p.functions) (length p.files))
      (call_is p read.profile names) p.call_rows _
      (each_from
      (FitsCall (length p.events) (length p.functions) (length p.files)) p.call_rows read.profile.call_rows_fit)
      read.call_rows;
}

-- Functions that take part and have texts of their own have numbers of their own.
module _ (syms : SymbolMap) (trace : List CountedEvent) (names : Naming) (p : Contents)
    (read : IsReadOf syms trace names p) where
  is_profile : IsProfileOf syms trace (numbers_in p names) p
  is_profile = read_is syms trace names p read

  row_within : (a b : ℕ) → Steps (call_arcs p) a b → (a < length p.functions) × (b < length p.functions)
  row_within a b step =
      let row = Contains-from_map arc_of p.call_rows (record { caller = a; callee = b }) step in
      let fits = All-contains (FitsCall (length p.events) (length p.functions) (length p.files)) p.call_rows row.0
      read.profile.call_rows_fit row.1 in
      let caller : row.0.caller ≡ a = ap (λ (c : CallArc). c.caller) row.2 in
      let callee : row.0.callee ≡ b = ap (λ (c : CallArc). c.callee) row.2 in
      let caller_fits = fits.caller in
      let callee_fits = fits.callee in
      (omega (arith, caller, caller_fits), omega (arith, callee, callee_fits))

  number_within : (f : ℕ) → TakesPart (graph syms trace) f → (numbers_in p names).func f < length p.functions
  number_within f (g, inl step) =
      (row_within _ _ (graph_to syms trace (numbers_in p names) p is_profile f g step)).0
  number_within f (g, inr step) =
      (row_within _ _ (graph_to syms trace (numbers_in p names) p is_profile g f step)).1

  text_within : (f : ℕ) → (numbers_in p names).func f < length p.functions
      → get_or p.functions ((numbers_in p names).func f) unknown_function ≡ names.func f
  text_within f within =
      sym (functions_eq (names.func f) (get_or p.functions ((numbers_in p names).func f) unknown_function)
      (passes_at_first (same_function (names.func f)) p.functions unknown_function within))

  text_at : (f : ℕ) → TakesPart (graph syms trace) f → get_or p.functions ((numbers_in p names).func f) unknown_function
      ≡ names.func f
  text_at f part = text_within f (number_within f part)

  pub numbered_apart : ((f g : ℕ) → TakesPart (graph syms trace) f → TakesPart (graph syms trace) g
      → names.func f ≡ names.func g → f ≡ g)
      → AreApartIn (graph syms trace) (numbers_in p names).func
  numbered_apart apart f g part_f part_g same =
      apart f g part_f part_g
      (sym (text_at f part_f) ∙ ap (λ n. get_or p.functions n unknown_function) same ∙ text_at g part_g)

  -- Where each function of the map has a text of its own, each that stands in the profile has a number of its own.
  pub numbered_own : (f : ℕ) → AreOwn syms names.func → f < length syms.functions
      → (numbers_in p names).func f < length p.functions → IsOwn syms (numbers_in p names).func f
  numbered_own f own known within g known_g same =
      own f known g known_g
      (sym (text_within g (omega (arith, within, same))) ∙ ap (λ n. get_or p.functions n unknown_function) same
      ∙ text_within f within)

  pub numbered_parts : AreOwn syms names.func → AreOfMap syms trace
      → AreOwnIn syms (graph syms trace) (numbers_in p names).func
  numbered_parts own of_map f part =
      numbered_own f own (known_part syms trace of_map f part) (number_within f part)
