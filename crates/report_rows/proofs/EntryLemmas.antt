-- One more entry in the lists and at the places.
use Rattle.std.proofs.Common.{◌≡◌, ◌≢◌, ◌⊎◌, inl, inr, ℕ, ◌+◌, ◌<◌, ◌==◌, Bool, true, false, cond, List, [], ◌∷◌, ◌++◌}
use Rattle.std.proofs.Common.{length}
use Rattle.std.proofs.Common.{get_or, set, take, Vec, ap, sym, subst, ◌∙◌, arith}
use Rattle.std.specs.List.{filter}
use Rattle.std.specs.declared.alloc.Global.{Global}
use Rattle.std.proofs.lemmas.Bool.{cases_eq}
use Rattle.std.proofs.lemmas.Bool.Decides.{nat_tests}
use Rattle.std.proofs.lemmas.List.{take_more, length-map, get_or-map, map-set, map-append, get_or-set_same}
use Rattle.std.proofs.lemmas.List.{get_or-set_other, length-set, append-nil}
use Rattle.std.proofs.lemmas.List.Elements.{filter-append}
use Rattle.report_rows.specs.Entries.{HaveValues, EntryValue, entry_value, of_list, entry_values}
use Rattle.report_rows.specs.Tables.{list_at, lists}
use Rattle.report_rows.specs.declared.entries.Entry.{Entry}

module _ {X : Type 0} where
  lists-set : (table : List (Vec X Global)) (place : ℕ) (v : Vec X Global)
      → lists (set table place v) ≡ set (lists table) place v.items
  lists-set table place v = map-set (λ row. row.items) table place v

  pub list_at-set_same : (table : List (Vec X Global)) (place : ℕ) (v : Vec X Global) → place < length table
      → list_at (set table place v) place ≡ v.items
  list_at-set_same table place v lt =
      let size = length-map table (λ (row : Vec X Global). row.items) in
      ap (λ l. get_or l place []) (lists-set table place v)
      ∙ get_or-set_same (lists table) place v.items [] (omega (arith, lt, size))

  pub list_at-set_other : (table : List (Vec X Global)) (place q : ℕ) (v : Vec X Global) → q ≢ place
      → list_at (set table place v) q ≡ list_at table q
  list_at-set_other table place q v differ = ap (λ l. get_or l q []) (lists-set table place v)
      ∙ get_or-set_other (lists table) place q v.items [] differ

  pub list_at_read : (table : List (Vec X Global)) (place : ℕ) (v : Vec X Global) → place < length table
      → v ≡ get_or table place v → v.items ≡ list_at table place
  list_at_read table place v lt is =
      ap (λ (row : Vec X Global). row.items) is ∙ sym (get_or-map (λ row. row.items) table place v [] lt)

pub said_more : (es : List Entry) (i : ℕ) (e : Entry) → i < length es → e ≡ get_or es i e
    → entry_values (take (i + 1) es) ≡ entry_values (take i es) ++ entry_value e ∷ []
said_more es i e lt is =
    ap entry_values (take_more es i e lt ∙ ap (λ x. take i es ++ x ∷ []) (sym is)) ∙ map-append entry_value (take i es) (e ∷ [])

filter_one_yes : (p : EntryValue → Bool) (ks : List EntryValue) (k : EntryValue) → p k ≡ true
    → filter p (ks ++ k ∷ []) ≡ filter p ks ++ k ∷ []
filter_one_yes p ks k e = filter-append p ks (k ∷ []) ∙ ap (λ b. filter p ks ++ cond b (k ∷ []) []) e

filter_one_no : (p : EntryValue → Bool) (ks : List EntryValue) (k : EntryValue) → p k ≡ false → filter p (ks ++ k ∷ []) ≡ filter p ks
filter_one_no p ks k e = filter-append p ks (k ∷ []) ∙ ap (λ b. filter p ks ++ cond b (k ∷ []) []) e
    ∙ append-nil (filter p ks)

pub said_lists_more : (count : ℕ) (es : List Entry) (i : ℕ) (e : Entry) (rows : List (Vec Entry Global))
    (old v : Vec Entry Global) → i < length es → e ≡ get_or es i e → e.list < count
    → HaveValues count (λ n. filter (of_list n) (entry_values (take i es))) rows → old ≡ get_or rows e.list old
    → v.items ≡ old.items ++ e ∷ []
    → HaveValues count (λ n. filter (of_list n) (entry_values (take (i + 1) es))) (set rows e.list v)
said_lists_more count es i e rows old v lt is within stands read pushed = record {
  size = length-set rows e.list v ∙ stands.size;
  exact = λ n below. at n below (cases_eq n e.list);
}
  where
    more : entry_values (take (i + 1) es) ≡ entry_values (take i es) ++ entry_value e ∷ []
    more = said_more es i e lt is

    here : entry_values (list_at (set rows e.list v) e.list) ≡ filter (of_list e.list) (entry_values (take (i + 1) es))
    here =
        let inside : e.list < length rows = omega (arith, within, stands.size) in
        let yes : (e.list == e.list) ≡ true = grind (arith, nat_tests) in
        ap entry_values (list_at-set_same rows e.list v inside ∙ pushed) ∙ map-append entry_value old.items (e ∷ [])
        ∙ ap (λ ks. ks ++ entry_value e ∷ []) (ap entry_values (list_at_read rows e.list old inside read)
        ∙ stands.exact e.list within)
        ∙ sym (ap (filter (of_list e.list)) more
        ∙ filter_one_yes (of_list e.list) (entry_values (take i es)) (entry_value e) yes)

    at : (n : ℕ) → n < count → (n ≡ e.list) ⊎ (n ≢ e.list)
        → entry_values (list_at (set rows e.list v) n) ≡ filter (of_list n) (entry_values (take (i + 1) es))
    at n below (inl same) =
        let P : ℕ → Type 0 = λ m. entry_values (list_at (set rows e.list v) m) ≡ filter (of_list m) (entry_values (take (i + 1) es)) in
        subst P (sym same) here
    at n below (inr differ) =
        let no : (e.list == n) ≡ false = grind (arith, nat_tests) in
        ap entry_values (list_at-set_other rows e.list n v differ) ∙ stands.exact n below
        ∙ sym (ap (filter (of_list n)) more ∙ filter_one_no (of_list n) (entry_values (take i es)) (entry_value e) no)
