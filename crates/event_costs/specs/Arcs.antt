-- What a call stack tells of its arcs.
use Rattle.std.specs.Prelude.{◌≡◌, ℕ, List, [], ◌∷◌}
use Rattle.event_costs.specs.Keys.{ArcKey}

-- an arc's frame was pushed, or it was closed with the cost since its start
pub data Telling : Type 0 where
  Pushed : ArcKey → Telling
  Closed : ArcKey → List ℕ → Telling

-- These tellings, in their order, lead from the old sink to the new one.
abbrev pub TakesAll : {S : Type 0} → (S → Telling → S → Type 0) → S → List Telling → S → Type 0
TakesAll takes old [] new = old ≡ new
TakesAll {S} takes old (t ∷ ts) new = (mid : S) × takes old t mid × TakesAll takes mid ts new
