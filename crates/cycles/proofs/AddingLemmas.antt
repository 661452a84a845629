-- A cost is added place by place.
use Rattle.std.proofs.Common.{◌≡◌, ◌≢◌, ℕ, ◌+◌, ◌^◌, ◌<◌, ◌≤◌, List, [], length, get_or, set, sym, ap, subst, ◌∙◌}
use Rattle.std.proofs.Common.{arith, Vec}
use Rattle.std.proofs.lemmas.List.{get_or-map, get_or-set_same, get_or-set_other}
use Rattle.std.specs.declared.alloc.Global.{Global}
use Rattle.cycles.specs.inner.Counting.{IsAdded, list_at, lists}
use Rattle.call_graph.proofs.RowLemmas.{lists-set, length-lists}

pub record IsAddedSoFar (old cost : List ℕ) (i : ℕ) (new : List ℕ) : Type 0 where
  pub size : length new ≡ length old
  pub exact : (k : ℕ) → k < i
      → (get_or new k 0 ≡ get_or old k 0 + get_or cost k 0) × (get_or old k 0 + get_or cost k 0 < 2 ^ 64)
  pub rest : (k : ℕ) → i ≤ k → get_or new k 0 ≡ get_or old k 0

pub added_along : {old old' cost : List ℕ} {limit : ℕ} {new new' : List ℕ} {left : ℕ} → old ≡ old' → new ≡ new'
    → IsAdded old cost limit new left → IsAdded old' cost limit new' left
added_along {old = old} {cost = cost} {limit = limit} {new' = new'} {left = left} a b added =
    subst (λ x. IsAdded x cost limit new' left) a (subst (λ x. IsAdded old cost limit x left) b added)

-- A list of a table after a write

pub list_at-set_same : (table : List (Vec ℕ Global)) (place : ℕ) (v : Vec ℕ Global) → place < length table
    → list_at (set table place v) place ≡ v.items
list_at-set_same table place v lt = ap (λ l. get_or l place []) (lists-set table place v)
    ∙ get_or-set_same (lists table) place v.items [] (omega (arith, lt, length-lists table))

pub list_at-set_other : (table : List (Vec ℕ Global)) (place q : ℕ) (v : Vec ℕ Global) → q ≢ place
    → list_at (set table place v) q ≡ list_at table q
list_at-set_other table place q v differ = ap (λ l. get_or l q []) (lists-set table place v)
    ∙ get_or-set_other (lists table) place q v.items [] differ

pub list_at_read : (table : List (Vec ℕ Global)) (place : ℕ) (v : Vec ℕ Global) → place < length table
    → v ≡ get_or table place v → v.items ≡ list_at table place
list_at_read table place v lt is = ap (λ row. row.items) is ∙ sym (get_or-map (λ row. row.items) table place v [] lt)
