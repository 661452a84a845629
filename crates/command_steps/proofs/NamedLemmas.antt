-- What files read as has the name of an event.
use Rattle.std.proofs.Common.{Bor, ◌≡◌, ℕ, ◌<◌, ◌≤◌, ◌+◌, Bool, true, false, ◌&&◌, not, nat_le, nat_lt, is_some}
use Rattle.std.proofs.Common.{if◌then◌else◌, List, [], ◌∷◌, length, map, Option, Some, None, option_map, IfSome, Ok}
use Rattle.std.proofs.Common.{refl, sym, subst, arith}
use Rattle.std.proofs.lemmas.Bool.{and_parts, cond_both, leb-true, ltb-true, ltb-false}
use Rattle.outside.specs.Files.{Files}
use Rattle.cg_lines.specs.Lines.{words}
use Rattle.cg_read.specs.Meaning.{events, events_fault, fault, fault_alone, open_call, or_else}
use Rattle.cg_lines.specs.Shapes.{follows_call}
use Rattle.cg_lines.specs.Names.{is_distinct, same_names}
use Rattle.cg_read.specs.Faults.{error_at}
use Rattle.cg_read.specs.Merge.{longer}
use Rattle.cg_read.specs.Profiles.{Contents, most_events}
use Rattle.cg_read.specs.AddressReading.{ReadsLines, lines_said}
use Rattle.cg_read.specs.Reading.{bad_line}
use Rattle.cg_read.proofs.PlainLemmas.{lines_sound}
use Rattle.cg_lines.specs.declared.line.Line.{Line}
use Rattle.cg_lines.specs.declared.line.Line.TheVariants.{Events}
use Rattle.cg_lines.specs.declared.fault.Fault.TheVariants.{BadLine}
use Rattle.profile_files.specs.Joined.{Joins, no_rows}
use Rattle.outside.specs.Load.{Load, bytes_of}
use Rattle.profile_files.specs.Reading.{IsReading}
use Rattle.profile_files.specs.WantedFile.{WantedFile, with_limit}
use Rattle.command_steps.specs.Annotate.{profile_limit}

-- ---- what holds where there is no fault

passes : {X : Type 0} (test : Bool) (x : X) → (if test then None else Some x) ≡ None → test ≡ true
passes true x is = refl
passes false x is = absurd (cc)

goes_on : {X : Type 0} (test : Bool) (x : X) (next : Option X) → (if test then Some x else next) ≡ None → next ≡ None
goes_on true x next is = absurd (cc)
goes_on false x next is = is

pub neither : {X : Type 0} (first next : Option X) → or_else first next ≡ None → (first ≡ None) × (next ≡ None)
neither (Some x) next is = absurd (cc)
neither None next is = (refl, is)

not_mapped : {X Y : Type 0} (f : X → Y) (x : Option X) → option_map f x ≡ None → x ≡ None
not_mapped f None is = refl
not_mapped f (Some x) is = absurd (cc)

-- ---- the events of a file

as_many : (xs ys : List (List ℕ)) → same_names xs ys ≡ true → 0 < length xs → 0 < length ys
as_many [] ys same some = absurd (omega (arith, some))
as_many (x ∷ xs) [] same some = absurd (cc)
as_many (x ∷ xs) (y ∷ ys) same some = omega arith

first_named : (names : List (List ℕ))
    → (nat_le 1 (length names) && nat_le (length names) most_events && is_distinct names) ≡ true → 0 < length names
first_named names fine =
    let least = leb-true 1 (length names)
    (and_parts (nat_le 1 (length names)) (nat_le (length names) most_events)
    (and_parts (nat_le 1 (length names) && nat_le (length names) most_events) (is_distinct names) fine).0).0 in
    omega (arith, least)

line_named : (before : Option (List (List ℕ))) (names : List (List ℕ)) → events_fault before names ≡ None
    → IfSome before (λ first. 0 < length first)
    → 0 < length names
line_named None names sound some =
    first_named names
    (passes (nat_le 1 (length names) && nat_le (length names) most_events && is_distinct names) BadLine sound)
line_named (Some first) names sound some = as_many first names (passes (same_names first names) BadLine sound) some

-- the line has no fault by itself, and none stands before it
alone : (before : List Line) (line : Line) → bad_line (line ∷ before) ≡ None
    → (bad_line before ≡ None) × (fault_alone before line ≡ None)
alone before line sound =
    let parts = neither (bad_line before) (option_map (error_at (length before + 1)) (fault before line)) sound in (
      parts.0,
      goes_on (is_some (open_call before) && not (follows_call line)) BadLine (fault_alone before line)
          (not_mapped (error_at (length before + 1)) (fault before line) parts.1),
    )

events_named : (before : List Line) → bad_line before ≡ None → IfSome (events before) (λ names. 0 < length names)
events_named [] sound = tt
events_named (Events text ∷ before) sound =
    let parts = alone before (Events text) sound in
    line_named (events before) (words text) parts.1 (events_named before parts.0)
events_named (line ∷ before) sound = events_named before (alone before line sound).0

read_named : (bytes : List ℕ) (read : Contents) → ReadsLines bytes read → 0 < length read.events
read_named bytes read reads =
    subst (λ names. IfSome names (λ n. 0 < length n)) reads.says.events
    (events_named (lines_said bytes) (lines_sound bytes reads.sound))

-- ---- the events of joined files

at_least : (xs ys : List (List ℕ)) → (length xs ≤ length (longer xs ys)) × (length ys ≤ length (longer xs ys))
at_least xs ys =
    cond_both (nat_lt (length xs) (length ys)) ys xs (λ zs. (length xs ≤ length zs) × (length ys ≤ length zs))
    (λ less. let l = ltb-true (length xs) (length ys) less in (omega (arith, l), omega arith))
    (λ other. let l = ltb-false (length xs) (length ys) other in (omega arith, omega (arith, l)))

pub stay_named : (first : Contents) (files : List (List ℕ)) (joined : Contents) → 0 < length first.events
    → Joins first files joined
    → 0 < length joined.events
stay_named first [] joined some joins = subst (λ (p : Contents). 0 < length p.events) (sym joins) some
stay_named first (bytes ∷ files) joined some (read, next, reads, joins, rest) =
    stay_named next files joined
    (subst (λ names. 0 < length names) (sym joins.events)
    (let least = (at_least first.events read.events).0 in omega (arith, least, some))) rest

joined_named : (first : Contents) (bytes : List ℕ) (files : List (List ℕ)) (joined : Contents)
    → Joins first (bytes ∷ files) joined
    → 0 < length joined.events
joined_named first bytes files joined (read, next, reads, joins, rest) =
    let some = read_named bytes read reads in
    stay_named next files joined
    (subst (λ names. 0 < length names) (sym joins.events)
    (let least = (at_least first.events read.events).1 in omega (arith, least, some))) rest

pub events_have_names : (told : Option Files) (before now : ℕ) (files : List WantedFile) (joined : Contents) → 0 < length files
    → IsReading told before now (no_rows []) files (Ok joined)
    → 0 < length joined.events
events_have_names told before now files joined some reading = by reading.loads reading.answers.1 reading.answers.2
  where
    by : (loads : List Load) → length loads ≡ length files → Joins (no_rows []) (map bytes_of loads) joined
        → 0 < length joined.events
    by [] many joins = absurd (omega (arith, many, some))
    by (found ∷ loads) many joins = joined_named (no_rows []) (bytes_of found) (map bytes_of loads) joined joins

-- as many files as names
pub some_wanted : (names : List (Bor (List ℕ))) (files : List WantedFile) → 0 < length names
    → files ≡ map (with_limit profile_limit) (map (λ name. name.now) names)
    → 0 < length files
some_wanted [] files some is = absurd (omega (arith, some))
some_wanted (name ∷ names) files some is = subst (λ fs. 0 < length fs) (sym is) (omega arith)
