-- Costs that are summed up number by number.
use Rattle.std.proofs.Common.{◌≡◌, ℕ, ◌≤◌, Bool, true, false, List, length, take, ap, arith}
use Rattle.std.proofs.lemmas.List.{take_all}
use Rattle.event_costs.specs.Costs.{IsWhole, event_names, events_shown}

-- as many of the sums as there are names of the events shown
pub shown_by_names : (branches : Bool) (count : ℕ) (sums : List ℕ) → count ≡ length (events_shown branches event_names)
    → IsWhole sums → (count ≤ length sums) × (take count sums ≡ events_shown branches sums)
unfolding event_names
shown_by_names true count sums counted whole =
    (omega (arith, counted, whole), take_all count sums (omega (arith, counted, whole)))
shown_by_names false count sums counted whole =
    (omega (arith, counted, whole), ap (λ n. take n sums) counted)
