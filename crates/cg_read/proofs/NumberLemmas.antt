-- A row more in a draft whose functions and files are known by the numbers of their texts.
use Rattle.std.proofs.Common.{◌≡◌, ◌==◌, ℕ, ◌<◌, Bool, true, false, ◌||◌, cond, List, [], ◌∷◌, ◌++◌, length, map}
use Rattle.std.proofs.Common.{Some, refl, sym, ◌∙◌, ap, slice_get, option_map, append_assoc}
use Rattle.std.specs.List.{list_any, AllByRecursion}
use Rattle.std.specs.Str.{bytes_eq}
use Rattle.std.proofs.lemmas.List.{map-append}
use Rattle.std.proofs.lemmas.List.Folds.{list_any-append}
use Rattle.std.proofs.lemmas.Option.{get_or_from_slice_get, slice_get_within, slice_get-map}
use Rattle.cg_read.specs.inner.Drafts.{StandForNumbered}
use Rattle.cg_read.specs.inner.Same.{same_numbers, same_function_numbers}
use Rattle.key_tables.specs.Keys.{with_key}
use Rattle.cg_read.specs.inner.Texts.{Names, IsOfTexts, function_in, numbers_eq, text_in}
use Rattle.cg_read.specs.Profiles.{NamedSelf, NamedCall, has_function, has_text, same_function}
use Rattle.cg_read.proofs.DraftLemmas.{with_key-grows, fresh, or-false, or_assoc, each_push, StandFor-self, StandFor-call}
use Rattle.cg_read.proofs.TextLemmas.{slice_get_kept}
use Rattle.cg_read.specs.declared.rows.FuncKey.{FuncKey}
use Rattle.cg_read.specs.declared.rows.SelfRow.{SelfRow}
use Rattle.cg_read.specs.declared.rows.CallRow.{CallRow}
use Rattle.cg_read.specs.declared.function_numbers.FunctionNumbers.{FunctionNumbers}

abbrev pub number_eq : ℕ → ℕ → Bool
number_eq x y = x == y

-- What is among the keys, seen otherwise, once one is added

or_itself : (a b : Bool) → (a || b) ≡ ((a || b) || a)
or_itself true b = refl
or_itself false b = sym (or-false b)

module _ {K V : Type 0} (same : K → K → Bool) (exact : (x y : K) → same x y ≡ true → x ≡ y) (see : K → V)
    (test : V → Bool) where
  already : (x : K) (xs : List K) → list_any (same x) xs ≡ true
      → list_any test (map see xs) ≡ (list_any test (map see xs) || test (see x))
  already x [] h = absurd (cc)
  already x (y ∷ ys) h =
      let go : (b : Bool) → same x y ≡ b → (b || list_any (same x) ys) ≡ true
      → (test (see y) || list_any test (map see ys))
      ≡ ((test (see y) || list_any test (map see ys)) || test (see x))
      = elim [
        | true ↦ λ e k. rw (exact x y e) (or_itself (test (see y)) (list_any test (map see ys)))
        | false ↦ λ e k. ap (λ b. test (see y) || b) (already x ys k)
            ∙ sym (or_assoc (test (see y)) (list_any test (map see ys)) (test (see x)))
      ]
      in go (same x y) refl h

  any-with_key-seen : (xs : List K) (x : K)
      → list_any test (map see (with_key same xs x)) ≡ (list_any test (map see xs) || test (see x))
  any-with_key-seen xs x = go (list_any (same x) xs) refl
    where
      go : (b : Bool) → list_any (same x) xs ≡ b
          → list_any test (map see (cond b xs (xs ++ x ∷ []))) ≡ (list_any test (map see xs) || test (see x))
      go true e = already x xs e
      go false e = ap (list_any test) (map-append see xs (x ∷ []))
          ∙ list_any-append test (map see xs) (see x ∷ [])
          ∙ ap (λ b. list_any test (map see xs) || b) (or-false (test (see x)))

pub each_added : {K : Type 0} (P : K → Type 0) (same : K → K → Bool) (xs : List K) (x : K) → AllByRecursion P xs → P x
    → AllByRecursion P (with_key same xs x)
each_added P same xs x h p =
    let go : (b : Bool) → AllByRecursion P (cond b xs (xs ++ x ∷ []))
    = elim [ true ↦ h | false ↦ each_push P xs x h p ]
    in go (list_any (same x) xs)

-- Functions and files by their numbers

function_is : (texts : List (List ℕ)) (x : FunctionNumbers) (f : FuncKey) → Names texts x f → function_in texts x ≡ f
function_is texts x f h = λ i. record {
  object = get_or_from_slice_get texts x.object f.object [] h.object i;
  file = get_or_from_slice_get texts x.file f.file [] h.file i;
  name = get_or_from_slice_get texts x.name f.name [] h.name i;
}

of_texts : (texts : List (List ℕ)) (x : FunctionNumbers) (f : FuncKey) → Names texts x f → IsOfTexts (length texts) x
of_texts texts x f h = record {
  object = slice_get_within texts x.object f.object h.object;
  file = slice_get_within texts x.file f.file h.file;
  name = slice_get_within texts x.name f.name h.name;
}

-- a number stands for what its key is seen as
pub at_seen : {K V : Type 0} (see : K → V) (xs : List K) (n : ℕ) (x : K) (v : V) → slice_get xs n ≡ Some x → see x ≡ v
    → slice_get (map see xs) n ≡ Some v
at_seen see xs n x v at is = slice_get-map see xs n ∙ ap (option_map see) at ∙ ap Some is

pub draft_self : (texts : List (List ℕ)) (n : ℕ) (names names' : List FunctionNumbers) (ts ts' : List ℕ)
    (rows rows' : List SelfRow) (arcs : List CallRow) (selfs : List NamedSelf) (calls : List NamedCall)
    (x : FunctionNumbers) (t : ℕ) (f : FuncKey) (text : List ℕ) (row : SelfRow)
    → names' ≡ with_key numbers_eq names x → slice_get names' row.func ≡ Some x → ts' ≡ with_key number_eq ts t
    → slice_get ts' row.file ≡ Some t → rows' ≡ rows ++ row ∷ []
    → StandForNumbered texts n names ts rows arcs selfs calls → length row.cost ≡ n → Names texts x f
    → slice_get texts t ≡ Some text
    → StandForNumbered texts n names' ts' rows' arcs
    (selfs ++ record { function = f; file = text; line = row.line; cost = row.cost } ∷ []) calls
draft_self texts n names names' ts ts' rows rows' arcs selfs calls x t f text row e_x at_x e_t at_t e was
    width is there =
    let see : FunctionNumbers → FuncKey = function_in texts in
    let read : ℕ → List ℕ = text_in texts in
    let more : List FunctionNumbers = fresh numbers_eq names x in
    let others : List ℕ = fresh number_eq ts t in
    let fs : map see names' ≡ map see names ++ map see more = ap (map see) (e_x ∙ with_key-grows numbers_eq names x)
    ∙ map-append see names more in
    let files : map read ts' ≡ map read ts ++ map read others = ap (map read) (e_t ∙ with_key-grows number_eq ts t)
    ∙ map-append read ts others in
    let x_is : see x ≡ f = function_is texts x f is in
    let t_is : read t ≡ text = get_or_from_slice_get texts t text [] there in
    record {
      functions_known =
          rw e_x
          (each_added (IsOfTexts (length texts)) numbers_eq names x was.functions_known (of_texts texts x f is));
      files_known =
          rw e_t
          (each_added (λ k. k < length texts) number_eq ts t was.files_known
          (slice_get_within texts t text there));
      stands =
          rw (fs, files, e)
          (StandFor-self n (map see names) (map see more) (map read ts)
          (map read others) rows arcs selfs calls f text row
          was.stands
          (λ q. ap (λ (l : List FuncKey). has_function l q) (sym fs ∙ ap (map see) e_x)
          ∙ any-with_key-seen numbers_eq same_function_numbers see (same_function q) names x
          ∙ ap (λ (g : FuncKey). has_function (map see names) q || same_function q g) x_is)
          (λ q. ap (λ (l : List (List ℕ)). has_text l q) (sym files ∙ ap (map read) e_t)
          ∙ any-with_key-seen number_eq same_numbers read (bytes_eq q) ts t
          ∙ ap (λ (g : List ℕ). has_text (map read ts) q || bytes_eq q g) t_is)
          (ap (λ (l : List FuncKey). slice_get l row.func) (sym fs) ∙ at_seen see names' row.func x f at_x x_is)
          (ap (λ (l : List (List ℕ)). slice_get l row.file) (sym files) ∙ at_seen read ts' row.file t text at_t t_is)
          width);
    }

pub draft_call : (texts : List (List ℕ)) (n : ℕ) (names names₁ names' : List FunctionNumbers) (ts ts' : List ℕ)
    (rows : List SelfRow) (arcs arcs' : List CallRow) (selfs : List NamedSelf) (calls : List NamedCall)
    (x y : FunctionNumbers) (t : ℕ) (f g : FuncKey) (text : List ℕ) (row : CallRow)
    → names₁ ≡ with_key numbers_eq names x → slice_get names₁ row.caller ≡ Some x → names' ≡ with_key numbers_eq names₁ y
    → slice_get names' row.callee ≡ Some y → ts' ≡ with_key number_eq ts t → slice_get ts' row.file ≡ Some t
    → arcs' ≡ arcs ++ row ∷ []
    → StandForNumbered texts n names ts rows arcs selfs calls → length row.cost ≡ n → Names texts x f → Names texts y g
    → slice_get texts t ≡ Some text
    → StandForNumbered texts n names' ts' rows arcs' selfs
    (calls ++ record { caller = f; file = text; line = row.line; callee = g; calls = row.calls; cost = row.cost } ∷ [])
draft_call texts n names names₁ names' ts ts' rows arcs arcs' selfs calls x y t f g text row e_x at_x e_y
    at_y e_t at_t e
    was width is_f is_g there =
    let see : FunctionNumbers → FuncKey = function_in texts in
    let read : ℕ → List ℕ = text_in texts in
    let first : List FunctionNumbers = fresh numbers_eq names x in
    let second : List FunctionNumbers = fresh numbers_eq names₁ y in
    let others : List ℕ = fresh number_eq ts t in
    let grown : names' ≡ names ++ (first ++ second) = e_y ∙ with_key-grows numbers_eq names₁ y
    ∙ ap (λ (l : List FunctionNumbers). l ++ second) (e_x ∙ with_key-grows numbers_eq names x)
    ∙ append_assoc names first second in
    let fs : map see names' ≡ map see names ++ map see (first ++ second) = ap (map see) grown
    ∙ map-append see names (first ++ second) in
    let files : map read ts' ≡ map read ts ++ map read others = ap (map read) (e_t ∙ with_key-grows number_eq ts t)
    ∙ map-append read ts others in
    let x_is : see x ≡ f = function_is texts x f is_f in
    let y_is : see y ≡ g = function_is texts y g is_g in
    let t_is : read t ≡ text = get_or_from_slice_get texts t text [] there in
    let at_x' : slice_get names' row.caller ≡ Some x
    = ap (λ (l : List FunctionNumbers). slice_get l row.caller) (e_y ∙ with_key-grows numbers_eq names₁ y)
    ∙ slice_get_kept names₁ second row.caller x at_x in
    let known₁ : AllByRecursion (IsOfTexts (length texts)) names₁ =
    rw e_x (each_added (IsOfTexts (length texts)) numbers_eq names x was.functions_known (of_texts texts x f is_f)) in
    let has₁ : (q : FuncKey) → has_function (map see names₁) q ≡ (has_function (map see names) q || same_function q f)
    = λ q. ap (λ (l : List FunctionNumbers). has_function (map see l) q) e_x
    ∙ any-with_key-seen numbers_eq same_function_numbers see (same_function q) names x
    ∙ ap (λ (h : FuncKey). has_function (map see names) q || same_function q h) x_is in
    record {
      functions_known =
          rw e_y (each_added (IsOfTexts (length texts)) numbers_eq names₁ y known₁ (of_texts texts y g is_g));
      files_known =
          rw e_t
          (each_added (λ k. k < length texts) number_eq ts t was.files_known
          (slice_get_within texts t text there));
      stands =
          rw (fs, files, e)
          (StandFor-call n (map see names) (map see (first ++ second)) (map read ts) (map read others) rows arcs selfs
          calls f g text row was.stands
          (λ q. ap (λ (l : List FuncKey). has_function l q) (sym fs ∙ ap (map see) e_y)
          ∙ any-with_key-seen numbers_eq same_function_numbers see (same_function q) names₁ y
          ∙ ap (λ (h : FuncKey). has_function (map see names₁) q || same_function q h) y_is
          ∙ ap (λ b. b || same_function q g) (has₁ q))
          (λ q. ap (λ (l : List (List ℕ)). has_text l q) (sym files ∙ ap (map read) e_t)
          ∙ any-with_key-seen number_eq same_numbers read (bytes_eq q) ts t
          ∙ ap (λ (h : List ℕ). has_text (map read ts) q || bytes_eq q h) t_is)
          (ap (λ (l : List FuncKey). slice_get l row.caller) (sym fs) ∙ at_seen see names' row.caller x f at_x' x_is)
          (ap (λ (l : List FuncKey). slice_get l row.callee) (sym fs) ∙ at_seen see names' row.callee y g at_y y_is)
          (ap (λ (l : List (List ℕ)). slice_get l row.file) (sym files) ∙ at_seen read ts' row.file t text at_t t_is)
          width);
    }
