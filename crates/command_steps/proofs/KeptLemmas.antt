-- The events of a profile are among those of all files that are joined to it.
use Rattle.std.proofs.Common.{Bor, ◌≡◌, ◌⊎◌, ℕ, ◌<◌, ◌≤◌, Bool, true, false, nat_lt, if◌then◌else◌, List, [], ◌∷◌}
use Rattle.std.proofs.Common.{◌++◌, length, map, drop, Contains, Option, Some, None, IfSome, Ok, inl, inr, refl, sym}
use Rattle.std.proofs.Common.{ap, subst, ◌∙◌, arith}
use Rattle.std.specs.List.{starts_with}
use Rattle.std.specs.Str.{bytes_eq}
use Rattle.std.proofs.lemmas.Bool.{cond_both, ltb-true}
use Rattle.std.proofs.lemmas.Cmp.{nat_list_eq_equiv}
use Rattle.std.proofs.lemmas.List.{length-append, length-map}
use Rattle.std.proofs.lemmas.List.Elements.{Contains-append_left}
use Rattle.std.proofs.lemmas.Map.Views.{list_any-from_Contains}
use Rattle.std.proofs.lemmas.Slice.Eq.{bytes_eq-Decides, starts_is}
use Rattle.event_costs.specs.Costs.{event_names, events_shown}
use Rattle.outside.specs.Files.{Files}
use Rattle.cg_read.specs.Merge.{agree, longer}
use Rattle.cg_read.proofs.ProfileLemmas.{apart_names}
use Rattle.cg_lines.specs.Names.{is_distinct}
use Rattle.cg_read.specs.Profiles.{AreApart, Contents, most_events}
use Rattle.profile_files.specs.Joined.{Joins, no_rows}
use Rattle.outside.specs.Load.{Load, bytes_of}
use Rattle.profile_files.specs.Reading.{IsReading, events_fault, events_of, file_fault, format_fault, load_fault}
use Rattle.profile_files.specs.Reading.{reading_fault}
use Rattle.profile_files.specs.WantedFile.{WantedFile}
use Rattle.profile_files.specs.declared.fault.ReadFault.TheVariants.{EventsDiffer}
use Rattle.profile_files.proofs.ReadingLemmas.{events_read}
use Rattle.command_steps.specs.ReportStages.{HasEvents}
use Rattle.command_steps.proofs.NamedLemmas.{neither, stay_named}
use Rattle.std.proofs.lemmas.Bool.{or_cases}

-- a list begins with another
begins : (all front : List (List ℕ)) → starts_with bytes_eq all front ≡ true → all ≡ front ++ drop (length front) all
begins all front is = (starts_is bytes_eq-Decides all front true (sym is)).0 refl

-- the longer one of two lists that agree has what the first has
in_longer : (xs ys : List (List ℕ)) (event : List ℕ) → agree xs ys ≡ true → Contains xs event
    → Contains (longer xs ys) event
in_longer xs ys event agrees has =
    cond_both (nat_lt (length xs) (length ys)) ys xs (λ zs. Contains zs event)
    (λ less. by (ltb-true (length xs) (length ys) less)
    (or_cases (starts_with bytes_eq xs ys) (starts_with bytes_eq ys xs) agrees))
    (λ other. has)
  where
    by : length xs < length ys → (starts_with bytes_eq xs ys ≡ true) ⊎ (starts_with bytes_eq ys xs ≡ true)
        → Contains ys event
    by less (inl longer) =
        let same = ap length (begins xs ys longer) ∙ length-append ys (drop (length ys) xs) in
        absurd (omega (arith, less, same))
    by less (inr front) =
        subst (λ zs. Contains zs event) (sym (begins ys xs front))
        (Contains-append_left xs (drop (length xs) ys) event has)

-- a file without a fault has events that agree
agrees : (wanted : WantedFile) (before : List (List ℕ)) (found : Load) → file_fault wanted before found ≡ None
    → agree before (events_of (bytes_of found)) ≡ true
agrees wanted before found none =
    let behind = neither (load_fault wanted.name found) _ none in
    let last = neither (format_fault wanted.name (bytes_of found))
    (events_fault wanted.name before (events_of (bytes_of found))) behind.1 in
    by (agree before (events_of (bytes_of found))) last.1
  where
    by : (b : Bool) → (if b then None else Some (EventsDiffer wanted.name)) ≡ None → b ≡ true
    by true is = refl
    by false is = absurd (cc)

keeps : (first : Contents) (files : List WantedFile) (loads : List Load) (joined : Contents) (event : List ℕ)
    → reading_fault first.events files loads ≡ None → length loads ≡ length files
    → Joins first (map bytes_of loads) joined → Contains first.events event → Contains joined.events event
keeps first [] [] joined event none many joins has = subst (λ (p : Contents). Contains p.events event) (sym joins) has
keeps first [] (found ∷ loads) joined event none many joins has = absurd (omega (arith, many))
keeps first (wanted ∷ files) [] joined event none many joins has = absurd (omega (arith, many))
keeps first (wanted ∷ files) (found ∷ loads) joined event none many (read, next, reads, joins, rest) has =
    let own = events_of (bytes_of found) in
    let parts = neither (file_fault wanted first.events found)
    (reading_fault (longer first.events own) files loads) none in
    let same : next.events ≡ longer first.events own
    = joins.events ∙ ap (longer first.events) (sym (events_read (bytes_of found) read reads)) in
    keeps next files loads joined event
    (subst (λ names. reading_fault names files loads ≡ None) (sym same) parts.1) (omega (arith, many)) rest
    (subst (λ names. Contains names event) (sym same)
    (in_longer first.events own event (agrees wanted first.events found parts.0) has))

-- ---- of a run's own parts

-- the events of a run may be those of a profile
few : (branches : Bool) → length (events_shown branches event_names) ≤ most_events
unfolding event_names
few true = omega arith
few false = omega arith

distinct : (branches : Bool) → is_distinct (events_shown branches event_names) ≡ true
unfolding event_names
distinct true = refl
distinct false = refl

some : (branches : Bool) → 0 < length (events_shown branches event_names)
unfolding event_names
some true = omega arith
some false = omega arith

pub events_fit : (branches : Bool) (names : List (Bor (List ℕ)))
    → map (λ name. name.now) names ≡ events_shown branches event_names
    → length names ≤ most_events
events_fit branches names is =
    let count : length names ≡ length (events_shown branches event_names)
    = sym (length-map names (λ name. name.now)) ∙ ap length is in
    let most = few branches in
    omega (arith, count, most)

pub events_apart : (branches : Bool) (names : List (Bor (List ℕ)))
    → map (λ name. name.now) names ≡ events_shown branches event_names
    → AreApart (map {A = Bor (List ℕ)} (λ name. name.now) names)
events_apart branches names is =
    subst (λ (events : List (List ℕ)). AreApart events) (sym is)
    (apart_names (events_shown branches event_names) (distinct branches))

-- there are events
pub own_named : (told : Option Files) (before now : ℕ) (branches : Bool) (files : List WantedFile) (joined : Contents)
    → IsReading told before now (no_rows (events_shown branches event_names)) files (Ok joined)
    → 0 < length joined.events
own_named told before now branches files joined reading =
    stay_named (no_rows (events_shown branches event_names)) (map bytes_of reading.loads) joined (some branches)
    reading.answers.2

-- and those of a run are among them
pub own_events : (told : Option Files) (before now : ℕ) (branches : Bool) (files : List WantedFile) (joined : Contents)
    → IsReading told before now (no_rows (events_shown branches event_names)) files (Ok joined)
    → HasEvents (events_shown branches event_names) joined
own_events told before now branches files joined reading event is =
    list_any-from_Contains nat_list_eq_equiv event joined.events
    (keeps (no_rows (events_shown branches event_names)) files reading.loads joined event reading.answers.0
    reading.answers.1 reading.answers.2 is)
