-- Costs, read again.
use Rattle.cg_lines.specs.declared.fault.Fault.TheVariants.{BadLine}
use Rattle.std.proofs.lemmas.List.Elements.{All-take}
use Rattle.std.proofs.Common.{◌≡◌, ℕ, ◌-◌, ◌<◌, ◌^◌, Bool, true, false, nat_le, cond, List, [], ◌∷◌}
use Rattle.std.proofs.Common.{◌++◌, length, map, replicate, Option, Some, None, option_map, is_some, unwrap_or, refl}
use Rattle.std.proofs.Common.{ap, ◌∙◌, arith, All, append-nil}
use Rattle.std.specs.Fmt.{decimal}
use Rattle.std.specs.List.{list_all}
use Rattle.std.proofs.lemmas.Bool.Decides.{nat_tests}
use Rattle.std.proofs.lemmas.List.{length-map, length-take-le}
use Rattle.std.proofs.lemmas.List.Elements.{All-head, All-tail}
use Rattle.event_costs.specs.Costs.{IsWhole, event_names, events_shown}
use Rattle.cg_read.specs.Meaning.{cost_fault, cost_of, events, number_fault, numbers, or_else, padded}
use Rattle.cg_read.specs.Meaning.{values}
use Rattle.cg_lines.specs.Numbers.{number_of}
use Rattle.cg_lines.specs.declared.line.Line.{Line}
use Rattle.cg_lines.specs.declared.number.Number.{Number}
use Rattle.cg_lines.specs.declared.number.Number.TheVariants.{Fits}
use Rattle.reads_back.proofs.NumberLemmas.{number_decimal, words_costs}
use Rattle.reads_back.proofs.ShapeLemmas.{costs_read}
use Rattle.std.proofs.lemmas.Bool.{and_from}

abbrev fits : ℕ → Option Number
fits n = Some (Fits n)

numbers_of_decimals : (costs : List ℕ) → All (λ n. n < 2 ^ 64) costs
    → map number_of (map decimal costs) ≡ map fits costs
numbers_of_decimals [] small = refl
numbers_of_decimals (cost ∷ costs) small =
    ap (λ (o : Option Number). o ∷ map number_of (map decimal costs))
    (number_decimal cost (All-head (λ n. n < 2 ^ 64) cost costs small))
    ∙ ap (λ (os : List (Option Number)). fits cost ∷ os)
    (numbers_of_decimals costs (All-tail (λ n. n < 2 ^ 64) cost costs small))

pub numbers_read : (cost : ℕ) (costs : List ℕ) → All (λ n. n < 2 ^ 64) (cost ∷ costs)
    → numbers (costs_read (cost ∷ costs)) ≡ map fits (cost ∷ costs)
numbers_read cost costs small =
    ap (map number_of) (words_costs cost costs) ∙ numbers_of_decimals (cost ∷ costs) small

values_are : (costs : List ℕ) → values (map fits costs) ≡ Some costs
values_are [] = refl
values_are (cost ∷ costs) = ap (option_map (λ (ns : List ℕ). cost ∷ ns)) (values_are costs)

all_some : (costs : List ℕ) → list_all is_some (map fits costs) ≡ true
all_some [] = refl
all_some (cost ∷ costs) = all_some costs

-- the costs are those that were written
pub cost_read : (history : List Line) (names : List (List ℕ)) (cost : ℕ) (costs : List ℕ)
    → events history ≡ Some names → length (cost ∷ costs) ≡ length names → All (λ n. n < 2 ^ 64) (cost ∷ costs)
    → cost_of history (costs_read (cost ∷ costs)) ≡ cost ∷ costs
cost_read history names cost costs known long small =
    let all : List ℕ = cost ∷ costs in
    ap (λ (o : Option (List (List ℕ))). padded (length (unwrap_or o []))
    (unwrap_or (values (numbers (costs_read all))) [])) known
    ∙ ap (λ (ns : List (Option Number)). padded (length names) (unwrap_or (values ns) []))
    (numbers_read cost costs small)
    ∙ ap (λ (o : Option (List ℕ)). padded (length names) (unwrap_or o [])) (values_are all)
    ∙ ap (λ n. all ++ replicate n 0) (let e : length names - length all ≡ 0 = omega (arith, long) in e)
    ∙ append-nil all

no_more : (m n : ℕ) → m ≡ n → nat_le m n ≡ true
no_more m n e = grind (arith, nat_tests)

-- and such a line has no fault
pub cost_fine : (o : Option (List (List ℕ))) (names : List (List ℕ)) (at cost : ℕ) (costs : List ℕ) → o ≡ Some names
    → length (cost ∷ costs) ≡ length names → All (λ n. n < 2 ^ 64) (cost ∷ costs)
    → cost_fault o (Some at) (numbers (costs_read (cost ∷ costs))) ≡ None
cost_fine o names at cost costs known long small =
    let all : List ℕ = cost ∷ costs in
    let count : length (map fits all) ≡ length names = length-map all fits ∙ long in
    ap (λ (e : Option (List (List ℕ))). cost_fault e (Some at) (numbers (costs_read all))) known
    ∙ ap (λ (ns : List (Option Number)). cost_fault (Some names) (Some at) ns) (numbers_read cost costs small)
    ∙ ap (λ b. or_else (cond b (number_fault (values (map fits all)))
    (Some BadLine)) (number_fault (Some at)))
    (and_from (list_all is_some (map fits all)) (nat_le (length (map fits all)) (length names)) (all_some all)
    (no_more (length (map fits all)) (length names) count))
    ∙ ap (λ (o : Option (List ℕ)). or_else (number_fault o) (number_fault (Some at))) (values_are all)

-- The events shown

pub shown_length : (branch : Bool) (cost : List ℕ) → IsWhole cost
    → length (events_shown branch cost) ≡ length (events_shown branch event_names)
unfolding event_names
shown_length true cost whole = whole
shown_length false cost whole = length-take-le 9 cost (omega (arith, whole))

pub shown_some : (branch : Bool) → 0 < length (events_shown branch event_names)
unfolding event_names
shown_some true = omega arith
shown_some false = omega arith

pub shown_small : (branch : Bool) (cost : List ℕ) → All (λ n. n < 2 ^ 64) cost
    → All (λ n. n < 2 ^ 64) (events_shown branch cost)
shown_small true cost small = small
shown_small false cost small = All-take (λ n. n < 2 ^ 64) 9 cost small
