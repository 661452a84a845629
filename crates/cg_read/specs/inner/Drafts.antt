-- What a draft of a profile holds.
use Rattle.std.specs.Prelude.{◌≡◌, ℕ, ◌<◌, List, length, map}
use Rattle.std.specs.List.{AllByRecursion}
use Rattle.cg_read.specs.Profiles.{FitsSelf, FitsCall, NamedSelf, NamedCall, named_self, named_call, has_function}
use Rattle.cg_read.specs.Profiles.{has_text, functions_of, files_of}
use Rattle.cg_read.specs.declared.rows.FuncKey.{FuncKey}
use Rattle.cg_read.specs.declared.rows.SelfRow.{SelfRow}
use Rattle.cg_read.specs.declared.rows.CallRow.{CallRow}
use Rattle.cg_read.specs.declared.function_numbers.FunctionNumbers.{FunctionNumbers}
use Rattle.cg_read.specs.declared.draft.Draft.{Draft}
use Rattle.cg_read.specs.inner.Texts.{IsOfTexts, function_in, text_in}

-- The rows stand for these rows with texts, each with n costs, over functions and files that are theirs.
pub record StandFor (n : ℕ) (fs : List FuncKey) (ts : List (List ℕ)) (rows : List SelfRow) (arcs : List CallRow)
    (selfs : List NamedSelf) (calls : List NamedCall) : Type 0 where
  pub self_rows : map (named_self fs ts) rows ≡ selfs
  pub call_rows : map (named_call fs ts) arcs ≡ calls
  pub self_fit : AllByRecursion (FitsSelf n (length fs) (length ts)) rows
  pub call_fit : AllByRecursion (FitsCall n (length fs) (length ts)) arcs
  pub functions : (f : FuncKey) → has_function fs f ≡ has_function (functions_of selfs calls) f
  pub files : (t : List ℕ) → has_text ts t ≡ has_text (files_of selfs calls) t

-- the same of functions and files by the numbers of their texts
pub record StandForNumbered (texts : List (List ℕ)) (n : ℕ) (functions : List FunctionNumbers) (files : List ℕ)
    (rows : List SelfRow) (arcs : List CallRow) (selfs : List NamedSelf) (calls : List NamedCall) : Type 0 where
  pub functions_known : AllByRecursion (IsOfTexts (length texts)) functions
  pub files_known : AllByRecursion (λ file. file < length texts) files
  pub stands : StandFor n (map (function_in texts) functions) (map (text_in texts) files) rows arcs selfs calls

abbrev pub Holds : List (List ℕ) → ℕ → Draft → List NamedSelf → List NamedCall → Type 0
Holds texts n draft selfs calls =
    StandForNumbered texts n draft.functions draft.files draft.self_rows.items draft.call_rows.items selfs calls
