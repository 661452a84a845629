-- Runs and traces of a machine whose next step is a function: an event and the machine after it, or an end.
use Rattle.std.specs.Prelude.{◌≡◌, List, [], ◌∷◌, Result, Ok, Err}

-- these events lead from the first machine to the last
abbrev pub Run : {M E X : Type 0} → (M → Result (E × M) X) → M → List E → M → Type 0
Run next first [] last = first ≡ last
Run {M} next first (event ∷ events) last = (mid : M) × (next first ≡ Ok (event, mid)) × Run next mid events last

-- The trace from the first machine: the events of the longest run, and the end that stops it.
pub record IsTrace {M E X : Type 0} (next : M → Result (E × M) X) (first : M) (events : List E) (end : X) : Type 0 where
  pub last : M
  pub run : Run next first events last
  pub stop : next last ≡ Err end
