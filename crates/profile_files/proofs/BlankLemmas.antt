-- A profile joined to one of no events and no rows is that profile.
use Rattle.std.proofs.Common.{◌≡◌, ℕ, Bool, true, if◌then◌else◌, List, [], ◌∷◌, length}
use Rattle.std.proofs.Common.{map, refl, sym, ap, arith}
use Rattle.std.specs.List.{AllByRecursion, starts_with}
use Rattle.std.specs.Str.{bytes_eq}
use Rattle.std.proofs.lemmas.Bool.{lt-ltb, or_right}
use Rattle.cg_read.specs.Merge.{IsJoined, agree, longer, missing, padded_self, padded_call}
use Rattle.cg_read.specs.Profiles.{Contents, IsProfile, FitsSelf, FitsCall, named_self, named_call, same_function}
use Rattle.cg_read.proofs.CostLemmas.{padded_whole}
use Rattle.std.proofs.lemmas.List.Elements.{recursion_from_All as each_from}
use Rattle.cg_read.specs.declared.rows.FuncKey.{FuncKey}
use Rattle.cg_read.specs.declared.rows.SelfRow.{SelfRow}
use Rattle.cg_read.specs.declared.rows.CallRow.{CallRow}
use Rattle.profile_files.specs.Joined.{no_rows}

none_missing : {K : Type 0} (same : K → K → Bool) (ys : List K) → missing same [] ys ≡ ys
none_missing same [] = refl
none_missing same (y ∷ ys) = ap (λ rest. y ∷ rest) (none_missing same ys)

longer_than_none : (names : List (List ℕ)) → names ≡ longer [] names
longer_than_none [] = refl
longer_than_none (name ∷ names) =
    ap (λ (b : Bool). if b then (name ∷ names) else []) (sym (lt-ltb 0 (length (name ∷ names)) (omega arith)))

pub blank_agrees : (names : List (List ℕ)) → agree [] names ≡ true
blank_agrees names = or_right (starts_with bytes_eq [] names) (starts_with bytes_eq names []) refl

module _ (n : ℕ) (fs : List FuncKey) (ts : List (List ℕ)) where
  self_whole : (rows : List SelfRow) → AllByRecursion (FitsSelf n (length fs) (length ts)) rows
      → map (named_self fs ts) rows ≡ map (padded_self n) (map (named_self fs ts) rows)
  self_whole [] fits = refl
  self_whole (row ∷ rows) fits = rw (padded_whole n row.cost fits.0.cost, ← self_whole rows fits.1) refl

  call_whole : (rows : List CallRow) → AllByRecursion (FitsCall n (length fs) (length ts)) rows
      → map (named_call fs ts) rows ≡ map (padded_call n) (map (named_call fs ts) rows)
  call_whole [] fits = refl
  call_whole (row ∷ rows) fits = rw (padded_whole n row.cost fits.0.cost, ← call_whole rows fits.1) refl

pub blank_joined : (read : Contents) → IsProfile read → IsJoined (no_rows []) read read
blank_joined read is = record {
  events = longer_than_none read.events;
  command = refl;
  functions = sym (none_missing same_function read.functions);
  files = sym (none_missing bytes_eq read.files);
  self_rows = self_whole (length read.events) read.functions read.files read.self_rows
      (each_from (FitsSelf (length read.events) (length read.functions) (length read.files)) read.self_rows
      is.self_rows_fit);
  call_rows = call_whole (length read.events) read.functions read.files read.call_rows
      (each_from (FitsCall (length read.events) (length read.functions) (length read.files)) read.call_rows
      is.call_rows_fit);
}
