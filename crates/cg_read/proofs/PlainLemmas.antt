-- Files without addresses: what reads without a fault as such a file is one.
use Rattle.std.proofs.Common.{◌≡◌, ℕ, ◌+◌, Bool, true, false, List, [], ◌∷◌, ◌++◌, length, map, reverse, codes, Option}
use Rattle.std.proofs.Common.{None, Some, refl, subst, option_map, if◌then◌else◌}
use Rattle.std.specs.List.{AllByRecursion}
use Rattle.std.proofs.lemmas.List.{reverse-append}
use Rattle.cg_lines.specs.Lines.{lines, words}
use Rattle.cg_lines.specs.Shapes.{line_of}
use Rattle.cg_read.specs.Meaning as meaning
use Rattle.cg_read.specs.Meaning.{open_call, or_else}
use Rattle.cg_lines.specs.Positions.{positions_fault}
use Rattle.cg_lines.specs.Names.{same_names}
use Rattle.cg_read.specs.Faults.{error_at}
use Rattle.cg_read.specs.Profiles.{Contents, has_text}
use Rattle.cg_read.specs.Reading as reading
use Rattle.cg_read.specs.Reading.{end_fault, first_fault}
use Rattle.cg_read.specs.Addresses.{address_fault, without_addresses, base, fault as fault_of, is_early, order_fault}
use Rattle.cg_lines.specs.Positions.{two_parts}
use Rattle.cg_read.specs.AddressReading.{ReadsLines, are_two_parts, bad_line, first_bad, first_bad_of, first_positions}
use Rattle.cg_read.specs.AddressReading.{history, is_addr_file, lines_said, positions_in}
use Rattle.cg_read.proofs.KnowingLemmas.{names_are}
use Rattle.cg_read.proofs.ReadingLemmas.{sound_more}
use Rattle.cg_lines.specs.declared.addressed.AddressedLine.{AddressedLine}
use Rattle.cg_lines.specs.declared.line.Line.{Line}
use Rattle.cg_lines.specs.declared.line.Line.TheVariants.{Positions}
use Rattle.cg_lines.specs.declared.fault.Fault.{Fault}
use Rattle.cg_lines.specs.declared.fault.Fault.TheVariants as fault

-- Histories without a fault

neither : {X : Type 0} (a b : Option X) → or_else a b ≡ None → (a ≡ None) × (b ≡ None)
neither None b h = (refl, h)
neither (Some x) b h = absurd (cc)

not_mapped : {X Y : Type 0} (f : X → Y) (o : Option X) → option_map f o ≡ None → o ≡ None
not_mapped f None h = refl
not_mapped f (Some x) h = absurd (cc)

-- the last line has no fault, and those before it have none
sound_parts : {L : Type 0} (says : List L → L → Option Fault) (before : List L) (line : L)
    → first_fault says (line ∷ before) ≡ None → (first_fault says before ≡ None) × (says before line ≡ None)
sound_parts says before line sound =
    let parts = neither (first_fault says before)
    (option_map (error_at (length before + 1)) (says before line)) sound in (
      parts.0,
      not_mapped (error_at (length before + 1)) (says before line) parts.1,
    )

-- lines that have no fault with their addresses have none without them
bare_fault : (before : List AddressedLine) (a : AddressedLine) → fault_of before a ≡ None
    → meaning.fault (without_addresses before) a.line ≡ None
bare_fault before a none =
    let rest = neither (order_fault (is_early before a))
    (or_else (meaning.fault (without_addresses before) a.line) (address_fault (base before) a.address)) none in
    (neither (meaning.fault (without_addresses before) a.line) (address_fault (base before) a.address) rest.1).0

bare_sound : (before : List AddressedLine) → bad_line before ≡ None → reading.bad_line (without_addresses before) ≡ None
bare_sound [] sound = refl
bare_sound (a ∷ before) sound =
    let parts = sound_parts fault_of before a sound in
    sound_more (without_addresses before) a.line (bare_sound before parts.0) (bare_fault before a parts.1)

-- where a file has no bad line, its lines have no fault without addresses
pub lines_sound : (bytes : List ℕ) → first_bad_of bytes ≡ None → reading.bad_line (lines_said bytes) ≡ None
lines_sound bytes sound = go (is_addr_file bytes) sound
  where
    go : (b : Bool) → (if b then first_bad bytes else reading.first_bad bytes) ≡ None
        → reading.bad_line (if b then without_addresses (history bytes) else reading.history bytes) ≡ None
    go true none =
        bare_sound (history bytes) (neither (bad_line (history bytes)) (end_fault (without_addresses (history bytes))) none).0
    go false none =
        (neither (reading.bad_line (reading.history bytes)) (end_fault (reading.history bytes)) none).0

-- Lines on positions

-- the line doesn't say that positions have two parts
abbrev IsPlain : Line → Type 0
IsPlain line = are_two_parts (positions_in line) ≡ false

passes : (b c : Bool) → (if b then None else if c then Some fault.Instr else Some fault.BadLine) ≡ None → b ≡ true
passes true c none = refl
passes false true none = absurd (cc)
passes false false none = absurd (cc)

one_part : (names : List (List ℕ)) → positions_fault names ≡ None → same_names names two_parts ≡ false
one_part names none =
    let same : same_names names (codes "line" ∷ []) ≡ true
    = passes (same_names names (codes "line" ∷ [])) (has_text names (codes "instr")) none in
    let is : names ≡ codes "line" ∷ [] = names_are names (codes "line" ∷ []) same in rw is refl

otherwise : (b : Bool) (o : Option Fault) → (if b then Some fault.BadLine else o) ≡ None → o ≡ None
otherwise true o none = absurd (cc)
otherwise false o none = none

plain_line : (before : List Line) (line : Line) → meaning.fault before line ≡ None → IsPlain line
plain_line before (Positions text) none = one_part (words text) (otherwise _ (positions_fault (words text)) none)
plain_line before _ none = refl

all_plain : (before : List Line) → reading.bad_line before ≡ None → AllByRecursion IsPlain before
all_plain [] sound = tt
all_plain (line ∷ before) sound =
    let parts = sound_parts meaning.fault before line sound in
    (plain_line before line parts.1, all_plain before parts.0)

all_split : {X : Type 0} (P : X → Type 0) (xs : List X) (x : X) → AllByRecursion P (xs ++ x ∷ [])
    → AllByRecursion P xs × P x
all_split P [] x h = (tt, h.0)
all_split P (y ∷ ys) x h = let rest = all_split P ys x h.1 in ((h.0, rest.0), rest.1)

all_reversed : {X : Type 0} (P : X → Type 0) (xs : List X) → AllByRecursion P (reverse xs) → AllByRecursion P xs
all_reversed P [] h = tt
all_reversed P (x ∷ xs) h =
    let split : reverse (x ∷ xs) ≡ reverse xs ++ x ∷ [] = reverse-append (x ∷ []) xs in
    let parts = all_split P (reverse xs) x (subst (AllByRecursion P) split h) in (parts.1, all_reversed P xs parts.0)

first_plain : (xs : List Line) → AllByRecursion IsPlain xs → are_two_parts (first_positions xs) ≡ false
first_plain [] all = refl
first_plain (line ∷ xs) all = go (positions_in line) (first_positions xs) all.0 (first_plain xs all.1)
  where
    go : (o p : Option (List (List ℕ))) → are_two_parts o ≡ false → are_two_parts p ≡ false
        → are_two_parts (or_else o p) ≡ false
    go None p one rest = rest
    go (Some names) p one rest = one

-- Files

-- a file that has no bad line without addresses is one without them
pub plain_file : (bytes : List ℕ) → reading.first_bad bytes ≡ None → is_addr_file bytes ≡ false
plain_file bytes sound =
    first_plain (map line_of (lines bytes))
    (all_reversed IsPlain (map line_of (lines bytes))
    (all_plain (reading.history bytes)
    (neither (reading.bad_line (reading.history bytes)) (end_fault (reading.history bytes)) sound).0))

pub plain_sound : (bytes : List ℕ) → reading.first_bad bytes ≡ None → first_bad_of bytes ≡ None
plain_sound bytes sound = rw (plain_file bytes sound) sound

pub plain_lines : (bytes : List ℕ) → reading.first_bad bytes ≡ None → lines_said bytes ≡ reading.history bytes
plain_lines bytes sound = rw (plain_file bytes sound) refl

pub reads_lines : (bytes : List ℕ) (p : Contents) → reading.Reads bytes p → ReadsLines bytes p
reads_lines bytes p reads = record {
  sound = plain_sound bytes reads.sound;
  says = rw (plain_lines bytes reads.sound) reads.says;
}

pub lines_read : (bytes : List ℕ) (p : Contents) → reading.first_bad bytes ≡ None → ReadsLines bytes p
    → reading.Reads bytes p
lines_read bytes p sound reads = record {
  sound = sound;
  says = rw (plain_lines bytes sound) at reads.says;
}
