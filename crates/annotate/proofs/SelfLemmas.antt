-- The texts of sums over self rows.
use Rattle.std.proofs.Common.{◌≡◌, ℕ, ◌<◌, ◌==◌, Bool, cond, List, [], ◌∷◌, length, get_or, map}
use Rattle.std.proofs.Common.{All, refl, ap, ◌∙◌, arith, sum_by, Vec}
use Rattle.std.specs.List.{filter}
use Rattle.std.specs.declared.alloc.Global.{Global}
use Rattle.std.proofs.lemmas.List.{length-map, get_or-map}
use Rattle.cg_read.specs.Profiles.{Contents, IsProfile}
use Rattle.cg_read.specs.declared.rows.SelfRow.{SelfRow}
use Rattle.cycles.specs.Limits.{AreAllWithin}
use Rattle.annotate.specs.Names.{costs_text}
use Rattle.report_rows.specs.Lists.{each_event}
use Rattle.report_rows.specs.Orders.{numbers}
use Rattle.report_rows.specs.Entries.{HaveValues, EntryValue, cost_of, costs_of, list_of, of_list, entry_values}
use Rattle.report_rows.specs.Entries.{self_entry}
use Rattle.annotate.specs.inner.Layout.{AreTexts}
use Rattle.report_rows.specs.Tables.{lists}
use Rattle.report_rows.specs.declared.entries.By.{By}
use Rattle.report_rows.specs.declared.entries.Entry.{Entry}
use Rattle.report_rows.proofs.ListLemmas.{map_agree, sum_agree_on}
use Rattle.report_rows.proofs.RowLemmas.{cost_there}

map_twice : {X Y Z : Type 0} (g : Y → Z) (f : X → Y) (xs : List X) → map (λ x. g (f x)) xs ≡ map g (map f xs)
map_twice g f [] = refl
map_twice g f (x ∷ xs) = ap (λ ys. g (f x) ∷ ys) (map_twice g f xs)

module _ (p : Contents) (profile : IsProfile p) (within : AreAllWithin p) (by : By) where
  abbrev entry : SelfRow → EntryValue
  entry = self_entry by

  abbrev all : List EntryValue
  all = map entry p.self_rows

  -- the texts of lists
  pub texts_there : (count : ℕ) (rows : List (Vec Entry Global)) (texts : List (List ℕ)) (test : ℕ → ℕ → Bool)
      → HaveValues count (λ n. filter (of_list n) all) rows
      → texts ≡ map (λ entries. costs_text (costs_of (length p.events) (entry_values entries.items))) rows
      → ((n : ℕ) → n < count → All (λ row. (list_of by row == n) ≡ test n row.func) p.self_rows)
      → AreTexts count (λ n. costs_text (each_event p
      (λ event. sum_by (λ row. cond (test n row.func) (get_or row.cost event 0) 0) p.self_rows))) texts
  texts_there count rows texts test stands is agree = record {
    size = ap length is ∙ length-map rows (λ entries. costs_text (costs_of (length p.events) (entry_values entries.items)))
        ∙ stands.size;
    exact = λ n lt. ap (λ ts. get_or ts n []) is ∙ at n lt;
  }
    where
      costs_at : (n : ℕ) → n < count → costs_of (length p.events) (filter (of_list n) all)
          ≡ each_event p (λ event. sum_by (λ row. cond (test n row.func) (get_or row.cost event 0) 0) p.self_rows)
      costs_at n lt =
          map_agree (cost_of (filter (of_list n) all))
          (λ event. sum_by (λ row. cond (test n row.func) (get_or row.cost event 0) 0) p.self_rows)
          (numbers (length p.events))
          (λ k d small. let event = get_or (numbers (length p.events)) k d in
          cost_there p profile within by n event
          ∙ sum_agree_on (λ row. cond (list_of by row == n) (get_or row.cost event 0) 0)
          (λ row. cond (test n row.func) (get_or row.cost event 0) 0) p.self_rows
          (λ i e below. ap (λ b. cond b (get_or (get_or p.self_rows i e).cost event 0) 0) (agree n lt i e below)))

      at : (n : ℕ) → n < count → get_or (map
          (λ entries. costs_text (costs_of (length p.events) (entry_values entries.items))) rows) n []
          ≡ costs_text (each_event p (λ event. sum_by
          (λ row. cond (test n row.func) (get_or row.cost event 0) 0) p.self_rows))
      at n lt =
          let h : List Entry → List ℕ = λ es. costs_text (costs_of (length p.events) (entry_values es)) in
          let size = length-map rows (λ (r : Vec Entry Global). r.items) in
          ap (λ ts. get_or ts n []) (map_twice h (λ (r : Vec Entry Global). r.items) rows)
          ∙ get_or-map h (lists rows) n [] [] (omega (arith, lt, stands.size, size))
          ∙ ap (λ ks. costs_text (costs_of (length p.events) ks)) (stands.exact n lt)
          ∙ ap costs_text (costs_at n lt)
