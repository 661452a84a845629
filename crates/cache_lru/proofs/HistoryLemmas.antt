-- One more access, or one more event, at the end of what came before.
use Rattle.std.proofs.Common.{◌≡◌, ℕ, Bool, true, false, ◌&&◌, List, [], ◌∷◌, ◌++◌, map, ◌≤◌, arith, All, refl, ap, sym}
use Rattle.std.proofs.Common.{subst, ◌∙◌, ◌⊎◌, inl, inr}
use Rattle.std.specs.Prelude.{if◌then◌else◌}
use Rattle.std.specs.List.{list_any, flat_map}
use Rattle.std.proofs.Math.Bool.{or-false}
use Rattle.std.proofs.lemmas.Grind.{flat_map-append}
use Rattle.std.proofs.lemmas.List.Elements.{All-cons, All-nil}
use Rattle.std.proofs.lemmas.List.{append-nil, append_assoc, map-append}
use Rattle.event_costs.specs.declared.event.Event.{Event}
use Rattle.event_costs.specs.declared.event.Touch.{Touch}
use Rattle.event_costs.specs.declared.event.Touch.TheVariants.{Read, Write}
use Rattle.event_costs.specs.declared.kind.Kind.{Kind}
use Rattle.event_costs.specs.Kinds.{kinds}
use Rattle.cache_lru.specs.Shape.{Shape}
use Rattle.cache_lru.specs.History.{Access, blocks_of, history_of, access_misses}
use Rattle.cache_lru.specs.Lines.{Cache, StandsFor}
use Rattle.cache_lru.specs.Costs.{Shapes, StandForEvents, each_after, fetch_of, data_of}
use Rattle.cache_lru.specs.Costs.{data_misses_ll, fetches, data_references, misses_d1, misses_i1, onward, onward_fetch}
use Rattle.cache_lru.specs.Costs.{access_of, onward_data, onward_of, counts_as_branch, counts_by, misses_after}
use Rattle.cache_lru.specs.Costs.{event_cost, event_costs}

pub history_of-push : (shape : Shape) (earlier : List Access) (access : Access)
    → history_of shape (earlier ++ access ∷ []) ≡ history_of shape earlier ++ blocks_of shape access
history_of-push shape earlier access =
    flat_map-append (blocks_of shape) earlier (access ∷ [])
    ∙ ap (λ bs. history_of shape earlier ++ bs) (append-nil (blocks_of shape access))

-- a cache that stands for a history with the blocks of an access stands for the accesses with it
pub StandsFor-access : (shape : Shape) (cache : Cache) (earlier : List Access) (access : Access)
    → StandsFor shape cache (history_of shape earlier ++ blocks_of shape access)
    → StandsFor shape cache (history_of shape (earlier ++ access ∷ []))
StandsFor-access shape cache earlier access stands =
    subst (λ (history : List ℕ). StandsFor shape cache history) (sym (history_of-push shape earlier access)) stands

-- what is given for each element of two lists, one after the other
pub each_after-append : {E A : Type 0} (f : List E → E → A) (earlier xs ys : List E)
    → each_after f earlier (xs ++ ys) ≡ each_after f earlier xs ++ each_after f (earlier ++ xs) ys
each_after-append f earlier [] ys = ap (λ before. each_after f before ys) (sym (append-nil earlier))
each_after-append f earlier (x ∷ xs) ys =
    ap (λ t. f earlier x ∷ t) (
    each_after-append f (earlier ++ x ∷ []) xs ys
    ∙ ap (λ before. each_after f (earlier ++ x ∷ []) xs ++ each_after f before ys) (append_assoc earlier (x ∷ []) xs)
    )

-- and for one more at the end
pub each_after-push : {E A : Type 0} (f : List E → E → A) (earlier xs : List E) (x : E)
    → each_after f earlier (xs ++ x ∷ []) ≡ each_after f earlier xs ++ f (earlier ++ xs) x ∷ []
each_after-push f earlier xs x = each_after-append f earlier xs (x ∷ [])

pub fetches-push : (events : List Event) (event : Event)
    → fetches (events ++ event ∷ []) ≡ fetches events ++ fetch_of event ∷ []
fetches-push events event = map-append fetch_of events (event ∷ [])

pub data_references-push : (events : List Event) (event : Event)
    → data_references (events ++ event ∷ []) ≡ data_references events ++ data_of event
data_references-push events event =
    flat_map-append data_of events (event ∷ []) ∙ ap (λ t. data_references events ++ t) (append-nil (data_of event))

pub onward-push : (shapes : Shapes) (events : List Event) (event : Event)
    → onward shapes (events ++ event ∷ []) ≡ onward shapes events ++ onward_fetch shapes events event
    ++ onward_data shapes events event
onward-push shapes events event =
    let each = λ (before : List Event) (e : Event). onward_fetch shapes before e ++ onward_data shapes before e in
    ap (flat_map (λ accesses. accesses)) (each_after-push each [] events event)
    ∙ flat_map-append (λ accesses. accesses) (each_after each [] events) (each events event ∷ [])
    ∙ ap (λ t. onward shapes events ++ t) (append-nil (each events event))
    ∙ sym (append_assoc (onward shapes events) (onward_fetch shapes events event) (onward_data shapes events event))

-- the costs of a longer list begin with those of the shorter one
pub event_costs-push : (branches : Bool) (shapes : Shapes) (events : List Event) (event : Event)
    → event_costs branches shapes (events ++ event ∷ [])
    ≡ event_costs branches shapes events ++ event_cost branches shapes events event ∷ []
event_costs-push branches shapes events event = each_after-push (event_cost branches shapes) [] events event

pub list_any-if : (p : Access → Bool) (b : Bool) (access : Access)
    → list_any p (if b then access ∷ [] else []) ≡ (b && p access)
list_any-if p true access = or-false (p access)
list_any-if p false access = refl

-- an access alone goes on where it misses
pub onward_of-one : (shape : Shape) (earlier : List Access) (access : Access)
    → onward_of shape earlier (access ∷ []) ≡ (if access_misses shape earlier access then access ∷ [] else [])
onward_of-one shape earlier access =
    ap (λ b. if b then access ∷ [] else []) (or-false (access_misses shape earlier access))

-- the caches after an event
pub StandForEvents-push : (shapes : Shapes) (events : List Event) (event : Event) (i1 d1 ll : Cache)
    → StandsFor shapes.i1 i1 (history_of shapes.i1 (fetches events ++ fetch_of event ∷ []))
    → StandsFor shapes.d1 d1 (history_of shapes.d1 (data_references events ++ data_of event))
    → StandsFor shapes.ll ll
    (history_of shapes.ll
    (onward shapes events ++ onward_fetch shapes events event ++ onward_data shapes events event))
    → StandForEvents shapes (record { i1 = i1; d1 = d1; ll = ll }) (events ++ event ∷ [])
StandForEvents-push shapes events event i1 d1 ll i1_stands d1_stands ll_stands = record {
  i1 = rw fetches-push i1_stands;
  d1 = rw data_references-push d1_stands;
  ll = rw onward-push ll_stands;
}

-- what an event misses, from what its accesses do
pub misses_are : (shapes : Shapes) (events : List Event) (event : Event) (fetch datum fetch_last datum_last : Bool)
    → fetch ≡ misses_i1 shapes events event → datum ≡ misses_d1 shapes events event
    → fetch_last ≡ (misses_i1 shapes events event && access_misses shapes.ll (onward shapes events) (fetch_of event))
    → datum_last ≡ data_misses_ll shapes events event
    → record { fetch = fetch; reference = datum; fetch_in_last = fetch_last; reference_in_last = datum_last }
    ≡ misses_after shapes events event
misses_are shapes events event fetch datum fetch_last datum_last is datum_is last_is datum_last_is =
    let onward_is = list_any-if (access_misses shapes.ll (onward shapes events)) (misses_i1 shapes events event)
    (fetch_of event) in
    (λ i. record {
      fetch = is i;
      reference = datum_is i;
      fetch_in_last = (last_is ∙ sym onward_is) i;
      reference_in_last = datum_last_is i;
    })

-- a read and a write have one access
pub one_access : (touch : Touch) (addr len given : ℕ) → given ≡ len → (touch ≡ Read addr len) ⊎ (touch ≡ Write addr len)
    → access_of touch ≡ record { addr = addr; len = given } ∷ []
one_access touch addr len given same (inl read) = ap access_of read
    ∙ ap (λ (n : ℕ). record { addr = addr; len = n } ∷ []) (sym same)
one_access touch addr len given same (inr write) = ap access_of write
    ∙ ap (λ (n : ℕ). record { addr = addr; len = n } ∷ []) (sym same)

-- ---- an event whose accesses all hit

module _ (shapes : Shapes) (events : List Event) (event : Event) (fetched : misses_i1 shapes events event ≡ false)
    (referred : misses_d1 shapes events event ≡ false) where
  none_onward : onward_fetch shapes events event ≡ []
  none_onward = ap (λ b. if b then fetch_of event ∷ [] else []) fetched

  no_data_onward : onward_data shapes events event ≡ []
  no_data_onward = ap (λ b. if b then data_of event else []) referred

  pub all_hit-misses : record { fetch = false; reference = false; fetch_in_last = false; reference_in_last = false }
      ≡ misses_after shapes events event
  all_hit-misses =
      let fetched_last = ap (list_any (access_misses shapes.ll (onward shapes events))) none_onward in
      let referred_last = ap (list_any (access_misses shapes.ll
      (onward shapes events ++ onward_fetch shapes events event))) no_data_onward in
      sym (λ i. record {
        fetch = fetched i;
        reference = referred i;
        fetch_in_last = fetched_last i;
        reference_in_last = referred_last i;
      })

  pub all_hit-stands : (i1 d1 ll : Cache)
      → StandsFor shapes.i1 i1 (history_of shapes.i1 (fetches events ++ fetch_of event ∷ []))
      → StandsFor shapes.d1 d1 (history_of shapes.d1 (data_references events ++ data_of event))
      → StandsFor shapes.ll ll (history_of shapes.ll (onward shapes events))
      → StandForEvents shapes (record { i1 = i1; d1 = d1; ll = ll }) (events ++ event ∷ [])
  all_hit-stands i1 d1 ll i1_stands d1_stands ll_stands =
      let same : onward shapes events ++ onward_fetch shapes events event ++ onward_data shapes events event
      ≡ onward shapes events
      = ap (λ (s : List Access). onward shapes events ++ s ++ onward_data shapes events event) none_onward
      ∙ ap (λ (s : List Access). onward shapes events ++ [] ++ s) no_data_onward
      ∙ append-nil (onward shapes events ++ [])
      ∙ append-nil (onward shapes events) in
      StandForEvents-push shapes events event i1 d1 ll i1_stands d1_stands
      (subst (λ (accesses : List Access). StandsFor shapes.ll ll (history_of shapes.ll accesses)) (sym same)
      ll_stands)

-- ---- each number of a cost is 0 or 1

one_or_none : (b : Bool) → (if b then 1 else 0) ≤ 1
one_or_none true = omega arith
one_or_none false = omega arith

ones_by : (counts : Kind → Bool) (some : List Kind) → All (λ n. n ≤ 1) (map (λ kind. if counts kind then 1 else 0) some)
ones_by counts [] = All-nil (λ n. n ≤ 1)
ones_by counts (kind ∷ some) =
    All-cons (λ n. n ≤ 1) (if counts kind then 1 else 0) (map (λ other. if counts other then 1 else 0) some)
    (one_or_none (counts kind)) (ones_by counts some)

pub event_cost-ones : (branches : Bool) (shapes : Shapes) (events : List Event) (event : Event)
    → All (λ n. n ≤ 1) (event_cost branches shapes events event)
unfolding event_cost
event_cost-ones branches shapes events event =
    ones_by (counts_by event.done.touch (misses_after shapes events event) (counts_as_branch branches events event)) kinds
