-- What holds of a profile that is made.
use Rattle.std.proofs.Common.{◌≡◌, ◌≢◌, ℕ, ◌<◌, Bool, true, false, not, List, [], ◌∷◌, length, get_or}
use Rattle.std.proofs.Common.{Option, refl, sym, ◌∙◌, ap, arith, map, ◌⊎◌, ⊎_elim}
use Rattle.std.specs.List.{AllByRecursion, All, list_any}
use Rattle.std.specs.Str.{bytes_eq}
use Rattle.std.proofs.lemmas.Bool.{cases_order}
use Rattle.std.proofs.lemmas.List.{get_or-map, length-map}
use Rattle.std.proofs.lemmas.List.Folds.{list_any_at}
use Rattle.std.proofs.lemmas.List.Kept.{AllPairs-cons}
use Rattle.std.proofs.lemmas.Slice.Eq.{bytes_eq-Decides}
use Rattle.cg_read.specs.Profiles.{IsProfile, AreApart, FitsSelf, FitsCall, contents}
use Rattle.cg_read.specs.inner.Events.{AreEvents}
use Rattle.cg_read.specs.inner.Texts.{IsOfTexts, function_in, text_in}
use Rattle.cg_lines.specs.Names.{is_distinct}
use Rattle.cg_read.specs.inner.Same.{both_true}
pub use Rattle.std.proofs.lemmas.List.Elements.{All-from_recursion as each_at}
use Rattle.cg_read.specs.declared.rows.FuncKey.{FuncKey}
use Rattle.cg_read.specs.declared.rows.SelfRow.{SelfRow}
use Rattle.cg_read.specs.declared.rows.CallRow.{CallRow}
use Rattle.cg_read.specs.declared.function_numbers.FunctionNumbers.{FunctionNumbers}

not_true : (b : Bool) → not b ≡ true → b ≡ false
not_true true e = absurd (cc)
not_true false e = refl

pub apart_names : (names : List (List ℕ)) → is_distinct names ≡ true → AreApart names
apart_names [] e = λ i j d lt le. absurd (omega arith)
apart_names (x ∷ xs) e =
    let both = both_true (not (list_any (λ other. bytes_eq other x) xs)) (is_distinct xs) e in
    let none = not_true (list_any (λ other. bytes_eq other x) xs) both.0 in
    AllPairs-cons (λ a b. a ≢ b) x xs
    (λ k d lt same.
    let hit : bytes_eq (get_or xs k d) x ≡ true = (bytes_eq-Decides (get_or xs k d) x).1 (sym same) in
    let found = list_any_at (λ other. bytes_eq other x) xs k d lt hit in cc)
    (apart_names xs both.1)

-- elements that differ stand at one place each
pub place_is : {X : Type 0} (xs : List X) (d : X) (i j : ℕ) → AreApart xs → i < length xs → j < length xs
    → get_or xs i d ≡ get_or xs j d → i ≡ j
place_is xs d i j apart in_i in_j same =
    ⊎_elim
    (λ (e : i ≡ j). e)
    (λ (o : (i < j) ⊎ (j < i)).
    ⊎_elim
    (λ (lt : i < j). absurd (apart i j d lt in_j same))
    (λ (gt : j < i). absurd (apart j i d gt in_i (sym same)))
    o)
    (cases_order i j)

pub number_is : (texts : List (List ℕ)) (a b : ℕ) → AreApart texts → a < length texts → b < length texts
    → text_in texts a ≡ text_in texts b → a ≡ b
number_is texts a b = place_is texts [] a b

abbrev no_numbers : FunctionNumbers
no_numbers = record { object = 0; file = 0; name = 0 }

pub apart_numbered : (texts : List (List ℕ)) (fs : List FunctionNumbers) → AreApart texts → AreApart fs
    → All (IsOfTexts (length texts)) fs → AreApart (map (function_in texts) fs)
apart_numbered texts fs apart_t apart known = λ i j d lt le same.
    let lt_j : j < length fs = rw length-map at le in
    let lt_i : i < length fs = omega (arith, lt_j, lt) in
    let x : FunctionNumbers = get_or fs i no_numbers in
    let y : FunctionNumbers = get_or fs j no_numbers in
    let known_x = known i no_numbers lt_i in
    let known_y = known j no_numbers lt_j in
    let is : function_in texts x ≡ function_in texts y
    = sym (get_or-map (function_in texts) fs i no_numbers d lt_i) ∙ same
    ∙ get_or-map (function_in texts) fs j no_numbers d lt_j in
    apart i j no_numbers lt lt_j
    (λ k. record {
      object = number_is texts x.object y.object apart_t known_x.object known_y.object
          (ap (λ (f : FuncKey). f.object) is) k;
      file = number_is texts x.file y.file apart_t known_x.file known_y.file (ap (λ (f : FuncKey). f.file) is) k;
      name = number_is texts x.name y.name apart_t known_x.name known_y.name (ap (λ (f : FuncKey). f.name) is) k;
    })

pub apart_files : (texts : List (List ℕ)) (ts : List ℕ) → AreApart texts → AreApart ts
    → All (λ t. t < length texts) ts → AreApart (map (text_in texts) ts)
apart_files texts ts apart_t apart known = λ i j d lt le same.
    let lt_j : j < length ts = rw length-map at le in
    let lt_i : i < length ts = omega (arith, lt_j, lt) in
    apart i j 0 lt lt_j
    (number_is texts (get_or ts i 0) (get_or ts j 0) apart_t (known i 0 lt_i) (known j 0 lt_j)
    (sym (get_or-map (text_in texts) ts i 0 d lt_i) ∙ same ∙ get_or-map (text_in texts) ts j 0 d lt_j))

pub is_profile : (events : List (List ℕ)) (command : Option (List ℕ)) (functions : List FuncKey) (files : List (List ℕ))
    (rows : List SelfRow) (arcs : List CallRow)
    → AreEvents events → AreApart functions → AreApart files
    → AllByRecursion (FitsSelf (length events) (length functions) (length files)) rows
    → AllByRecursion (FitsCall (length events) (length functions) (length files)) arcs
    → IsProfile (contents events command functions files rows arcs)
is_profile events command functions files rows arcs are apart_n apart_f fit_s fit_c = record {
  event_limit = are.limit;
  events_differ = apart_names events are.differ;
  functions_differ = apart_n;
  files_differ = apart_f;
  self_rows_fit = each_at (FitsSelf (length events) (length functions) (length files)) rows fit_s;
  call_rows_fit = each_at (FitsCall (length events) (length functions) (length files)) arcs fit_c;
}
