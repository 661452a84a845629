-- What a step leaves of the steps.
use Rattle.std.proofs.Common.{◌≡◌, ℕ, zero, suc, ◌+◌, ◌*◌, ◌<◌, List, [], ◌∷◌, ◌++◌, length, length-append, get_or}
use Rattle.std.proofs.Common.{refl, ap, arith, ◌∙◌}
use Rattle.std.specs.Prelude.{remove, slice_set}
use Rattle.std.proofs.lemmas.List.{get_or_append_left}
use Rattle.demo_run.proofs.Ways.{Stop, stop_behind, way_behind}
use Rattle.demo_run.proofs.Left.{all_left, left_on}
use Rattle.demo_run.proofs.WayLemmas.{each}

set_left : (size place : ℕ) (ways : List (Stop × ℕ)) (new d : Stop × ℕ) → place < length ways
    → all_left size (slice_set ways place new) + left_on size (get_or ways place d)
    ≡ all_left size ways + left_on size new
set_left size place [] new d lt = absurd (omega arith)
set_left size zero (way ∷ ways) new d lt = omega arith
set_left size (suc place) (way ∷ ways) new d lt = let rest = set_left size place ways new d (omega arith) in omega arith

removed_left : (size place : ℕ) (ways : List (Stop × ℕ)) (d : Stop × ℕ) → place < length ways
    → all_left size (remove ways place) + left_on size (get_or ways place d) ≡ all_left size ways
removed_left size place [] d lt = absurd (omega arith)
removed_left size zero (way ∷ ways) d lt = omega arith
removed_left size (suc place) (way ∷ ways) d lt = let rest = removed_left size place ways d (omega arith) in omega arith

more_left : (size : ℕ) (ways : List (Stop × ℕ)) (new : Stop × ℕ) → all_left size (ways ++ new ∷ [])
    ≡ all_left size ways + left_on size new
more_left size [] new = omega arith
more_left size (way ∷ ways) new = let rest = more_left size ways new in omega arith

-- one way in place of another
pub changed : (size place : ℕ) (ways : List (Stop × ℕ)) (old new : Stop × ℕ) (less more : ℕ) → place < length ways
    → get_or ways place old ≡ old → left_on size new + less ≡ left_on size old + more
    → all_left size (slice_set ways place new) + less ≡ all_left size ways + more
changed size place ways old new less more lt here is =
    let set = set_left size place ways new old lt in
    let now = ap (left_on size) here in
    omega arith

pub ended : (size t place : ℕ) (ways : List (Stop × ℕ)) → place < length ways
    → get_or ways place (Stop.ends t, 0) ≡ (Stop.ends t, 0) → all_left size (remove ways place) + 1 ≡ all_left size ways
ended size t place ways lt here =
    let gone = removed_left size place ways (Stop.ends t, 0) lt in
    let now = ap (left_on size) here in
    omega arith

pub begun : (size t place : ℕ) (ways : List (Stop × ℕ)) → t < 3 → place < length ways
    → get_or ways place (Stop.makes t, 0) ≡ (Stop.makes t, 0)
    → all_left size (slice_set (ways ++ (Stop.ends t, 947 * size + 5) ∷ []) place (way_behind size t)) + 1
    ≡ all_left size ways
begun size t place ways three lt here =
    let long = length-append ways ((Stop.ends t, 947 * size + 5) ∷ []) in
    let there = get_or_append_left ways ((Stop.ends t, 947 * size + 5) ∷ []) (Stop.makes t, 0) place lt ∙ here in
    let all = more_left size ways (Stop.ends t, 947 * size + 5) in
    let set = set_left size place (ways ++ (Stop.ends t, 947 * size + 5) ∷ []) (way_behind size t) (Stop.makes t, 0)
    (omega arith) in
    let now = ap (left_on size) there in
    let both = each (λ t. left_on size (way_behind size t) + (947 * size + 5) + 2 ≡ left_on size (Stop.makes t, 0))
    (omega arith) (omega arith)
    (omega arith) t three in
    omega arith

pub waited : (size t : ℕ) → t < 3 → left_on size (Stop.looks t, 3) + 1 ≡ left_on size (Stop.waits t, 0) + 0
waited size = each (λ t. left_on size (Stop.looks t, 3) + 1 ≡ left_on size (Stop.waits t, 0) + 0) refl refl refl

pub found_other : (size t : ℕ) → t < 3 → left_on size (Stop.waits t, 4) + 1 ≡ left_on size (Stop.looks t, 0) + 9
found_other size = each (λ t. left_on size (Stop.waits t, 4) + 1 ≡ left_on size (Stop.looks t, 0) + 9) refl refl refl

pub found_ended : (size t : ℕ) → t < 3 → left_on size (stop_behind t, 3) + 1 ≡ left_on size (Stop.looks t, 0) + 0
found_ended size = each (λ t. left_on size (stop_behind t, 3) + 1 ≡ left_on size (Stop.looks t, 0) + 0) refl refl refl
