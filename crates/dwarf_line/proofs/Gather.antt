-- Gathering rows into sequences sees only their addresses.
use Rattle.std.proofs.Common.{◌≡◌, ℕ, ◌-◌, Bool, true, false, cond, List, [], ◌∷◌, ◌++◌, length, map, Option, Some}
use Rattle.std.proofs.Common.{None, option_map, refl}
use Rattle.std.specs.List.{slice_get}
use Rattle.std.specs.Option.{option_map_or}
use Rattle.std.proofs.lemmas.List.{map_push, length-map}
use Rattle.std.proofs.lemmas.Option.{slice_get-map}
use Rattle.dwarf_line.specs.Bytes.{◌>>=◌}
use Rattle.dwarf_line.specs.Program.{Event, emits, ends, SequenceOf, sequence_by, last_address, allows, closed_sequence}
use Rattle.dwarf_line.specs.Program.{sequences_at_end, gather_sequences}

-- the same event of a row that is seen otherwise
abbrev pub event_by : {R S : Type 0} → (R → S) → Event R → Event S
event_by see (emits row) = emits (see row)
event_by see (ends end) = ends end

or_same : {R S : Type 0} (address : R → ℕ) (address' : S → ℕ) (see : R → S) → ((r : R) → address' (see r) ≡ address r)
    → (o : Option R) → option_map_or address' (option_map see o) 0 ≡ option_map_or address o 0
or_same address address' see same None = refl
or_same address address' see same (Some r) = same r

last_address-map : {R S : Type 0} (address : R → ℕ) (address' : S → ℕ) (see : R → S)
    → ((r : R) → address' (see r) ≡ address r) → (rows : List R)
    → last_address address' (map see rows) ≡ last_address address rows
last_address-map address address' see same rows =
    rw (length-map rows see, slice_get-map see rows (length rows - 1))
    (or_same address address' see same (slice_get rows (length rows - 1)))

sequences_at_end-map : {R S : Type 0} (see : R → S) (rows : List R)
    → sequences_at_end (map see rows) ≡ option_map (map (sequence_by see)) (sequences_at_end rows)
sequences_at_end-map see [] = refl
sequences_at_end-map see (r ∷ rows) = refl

closed_sequence-map : {R S : Type 0} (see : R → S) (rows : List R) (end : ℕ) (read : Option (List (SequenceOf R)))
    → (option_map (map (sequence_by see)) read >>= λ others. Some (closed_sequence (map see rows) end ++ others))
    ≡ option_map (map (sequence_by see)) (read >>= λ others. Some (closed_sequence rows end ++ others))
closed_sequence-map see rows end None = refl
closed_sequence-map see [] end (Some others) = refl
closed_sequence-map see (r ∷ rows) end (Some others) = refl

choose : {A B : Type 0} (f : A → B) (b : Bool) (x : Option A) (y : Option B) → y ≡ option_map f x
    → cond b y None ≡ option_map f (cond b x None)
choose f true x y e = e
choose f false x y e = refl

pub gather_sequences-map : {R S : Type 0} (address : R → ℕ) (address' : S → ℕ) (see : R → S)
    → ((r : R) → address' (see r) ≡ address r) → (rows : List R) (events : List (Event R))
    → gather_sequences address' (map see rows) (map (event_by see) events)
    ≡ option_map (map (sequence_by see)) (gather_sequences address rows events)
gather_sequences-map address address' see same rows [] = sequences_at_end-map see rows
gather_sequences-map {R} {S} address address' see same rows (emits r ∷ events) =
    let last = last_address-map address address' see same rows in
    let pushed : map see (rows ++ r ∷ []) ≡ map see rows ++ see r ∷ [] = map_push see rows r in
    let later : gather_sequences address' (map see rows ++ see r ∷ []) (map (event_by see) events)
    ≡ option_map (map (sequence_by see)) (gather_sequences address (rows ++ r ∷ []) events) =
    rw (← pushed) (gather_sequences-map address address' see same (rows ++ r ∷ []) events) in
    rw (last, same r) (choose (map (sequence_by see)) (allows address rows (address r))
    (gather_sequences address (rows ++ r ∷ []) events)
    (gather_sequences address' (map see rows ++ see r ∷ []) (map (event_by see) events)) later)
gather_sequences-map {R} {S} address address' see same rows (ends end ∷ events) =
    let last = last_address-map address address' see same rows in
    let later : (gather_sequences address' [] (map (event_by see) events) >>=
    λ others. Some (closed_sequence (map see rows) end ++ others))
    ≡ option_map (map (sequence_by see))
    (gather_sequences address [] events >>= λ others. Some (closed_sequence rows end ++ others)) =
    rw (gather_sequences-map address address' see same [] events) (closed_sequence-map see rows end (gather_sequences address [] events)) in
    rw last (choose (map (sequence_by see)) (allows address rows end)
    (gather_sequences address [] events >>= λ others. Some (closed_sequence rows end ++ others))
    (gather_sequences address' [] (map (event_by see) events) >>= λ others. Some (closed_sequence (map see rows) end ++ others))
    later)
