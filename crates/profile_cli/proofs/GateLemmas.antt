-- What a list of gates comes to.
use Rattle.std.proofs.Common.{◌≡◌, ◌⊎◌, List, [], ◌∷◌, Option, Some, None, inl, inr, refl, sym, ap}
use Rattle.std.specs.List.{AllByRecursion}
use Rattle.std.proofs.lemmas.Option.{none-some}
use Rattle.outside.specs.Outside.{nothing}
use Rattle.command_status.specs.declared.status.Status.{Status}
use Rattle.command_steps.specs.Gates.{Gate, Outcome, check, first_stop, or_next, gates_outcome}

-- the outcome where checks stop the work, or let it go on
abbrev pub unless_stopped : Option Status → Outcome → Outcome
unless_stopped (Some status) after = record { status = status; output = nothing }
unless_stopped None after = after

-- five checks before other gates
pub gates_outcome-five_checks : (a b c d e : Option Status) (gates : List Gate) (last : Status)
    → gates_outcome (check a ∷ check b ∷ check c ∷ check d ∷ check e ∷ gates) last
    ≡ unless_stopped (first_stop (check a ∷ check b ∷ check c ∷ check d ∷ check e ∷ [])) (gates_outcome gates last)
gates_outcome-five_checks (Some a) b c d e gates last = refl
gates_outcome-five_checks None (Some b) c d e gates last = refl
gates_outcome-five_checks None None (Some c) d e gates last = refl
gates_outcome-five_checks None None None (Some d) e gates last = refl
gates_outcome-five_checks None None None None (Some e) gates last = refl
gates_outcome-five_checks None None None None None gates last = refl

-- where no gate stops, each is passed
pub all_pass : (gates : List Gate) → first_stop gates ≡ None → AllByRecursion (λ (gate : Gate). gate.stops ≡ None) gates
all_pass [] is = tt
all_pass (gate ∷ gates) is =
    let both = neither gate.stops (first_stop gates) is in (both.0, all_pass gates both.1)
  where
    neither : (first next : Option Status) → or_next first next ≡ None → (first ≡ None) × (next ≡ None)
    neither None next none = (refl, none)
    neither (Some status) next none = absurd (none-some status (sym none))

-- Where the third of five stops, so does the whole; or one before it does, whatever the third is.
pub third_stops : (a b c d e other : Option Status) (status : Status) → c ≡ Some status
    → (first_stop (check a ∷ check b ∷ check c ∷ check d ∷ check e ∷ []) ≡ Some status)
    ⊎ ((earlier : Status) × (first_stop (check a ∷ check b ∷ check c ∷ check d ∷ check e ∷ []) ≡ Some earlier)
    × (first_stop (check a ∷ check b ∷ check other ∷ check d ∷ check e ∷ []) ≡ Some earlier))
third_stops (Some a) b c d e other status is = inr (a, refl, refl)
third_stops None (Some b) c d e other status is = inr (b, refl, refl)
third_stops None None c d e other status is = inl (ap (λ s. or_next s (or_next d (or_next e None))) is)
