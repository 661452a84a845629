-- A file's tables are short enough for their places to be numbers of 32 bits.
use Rattle.std.proofs.Common.{◌≡◌, ℕ, zero, suc, ◌+◌, ◌-◌, ◌*◌, ◌^◌, ◌<◌, ◌≤◌, ◌&&◌, ◌||◌, Bool, true, false, cond, leb}
use Rattle.std.proofs.Common.{ltb, min, List, [], ◌∷◌, length, filter, get_or, replicate, refl, ap, ◌∙◌, arith}
use Rattle.std.proofs.Common.{length-append}
use Rattle.std.specs.List.{All, count_by, flat_map, list_any, sum_by}
use Rattle.std.proofs.lemmas.Bool.{leb-true, ltb-true}
use Rattle.std.proofs.lemmas.Bool.Decides.{nat_tests}
use Rattle.std.proofs.lemmas.List.{length-replicate}
use Rattle.std.proofs.lemmas.List.Sums.{sum_by-cons}
use Rattle.prog_make.specs.declared.function_part.FunctionPart.{FunctionPart}
use Rattle.prog_make.specs.SegmentContent.{SegmentContent}
use Rattle.prog_make.specs.Parts.{Parts, content_len}
use Rattle.prog_make.specs.Functions.{holds, lies_in, has_lines, is_executable, instruction_count, IsWhole}
use Rattle.prog_make.specs.Lengths.{sequence_len, line_table_len}
use Rattle.prog_make.specs.inner.Conditions.{IsPlaced, covers, AreFit}
use Rattle.prog_make.specs.inner.LineProgram.{first_row_bytes, end_bytes, next_row, padded_leb128, sequence_bytes}
use Rattle.prog_make.specs.inner.LineProgram.{program_bytes}
use Rattle.prog_make.specs.inner.LineSection.{line_section}
use Rattle.prog_make.specs.inner.Strings.{with_zero, name_strings, section_strings}
use Rattle.prog_make.specs.inner.Symbols.{symbol_bytes, symbols_bytes, symbol_entries, entries_from}
use Rattle.prog_make.specs.inner.Tail.{headers_offset}
use Rattle.prog_make.proofs.Reading.{length-entries}
use Rattle.prog_make.proofs.Lengths.{length-unit}
use Rattle.prog_make.proofs.SegmentsRead.{All-rest}

-- ---- functions that are apart are together no longer than the addresses that they lie in

sum_below : (ℕ → ℕ) → ℕ → ℕ
sum_below f zero = 0
sum_below f (suc n) = sum_below f n + f n

sum_below-add : (f g h : ℕ → ℕ) → ((a : ℕ) → f a ≡ g a + h a) → (n : ℕ) → sum_below f n ≡ sum_below g n + sum_below h n
unfolding sum_below
sum_below-add f g h each zero = refl
sum_below-add f g h each (suc n) = let a = each n in let b = sum_below-add f g h each n in omega arith

sum_below-le : (f : ℕ → ℕ) → ((a : ℕ) → f a ≤ 1) → (n : ℕ) → sum_below f n ≤ n
unfolding sum_below
sum_below-le f few zero = omega arith
sum_below-le f few (suc n) = let a = few n in let b = sum_below-le f few n in omega arith

one_more : (low end n : ℕ) → low ≤ end → min n end - low + cond (leb low n && ltb n end) 1 0 ≡ min (suc n) end - low
one_more low end n le = grind (arith, nat_tests)

sum_below-span : (low end : ℕ) → low ≤ end → (n : ℕ)
    → sum_below (λ a. cond (leb low a && ltb a end) 1 0) n ≡ min n end - low
unfolding sum_below
sum_below-span low end le zero = omega arith
sum_below-span low end le (suc n) = ap (λ k. k + cond (leb low n && ltb n end) 1 0) (sum_below-span low end le n)
    ∙ one_more low end n le

sum_below-none : (n : ℕ) → sum_below (λ a. 0) n ≡ 0
unfolding sum_below
sum_below-none zero = refl
sum_below-none (suc n) = let a = sum_below-none n in omega arith

sizes_below : (functions : List FunctionPart) (n : ℕ) → All (λ f. f.addr + f.size ≤ n) functions
    → sum_below (λ a. count_by (lies_in a) functions) n ≡ sum_by (λ f. f.size) functions
sizes_below [] n below = sum_below-none n
sizes_below (f ∷ functions) n below =
    let here : f.addr + f.size ≤ n = below 0 f (omega arith) in
    let span = sum_below-span f.addr (f.addr + f.size) (omega arith) n in
    let rest = sizes_below functions n (All-rest (λ g. g.addr + g.size ≤ n) f functions below) in
    let both = sum_below-add (λ a. count_by (lies_in a) (f ∷ functions)) (λ a. cond (lies_in a f) 1 0)
    (λ a. count_by (lies_in a) functions) (λ a. sum_by-cons (λ g. cond (lies_in a g) 1 0) f functions) n in
    let sum = sum_by-cons (λ (g : FunctionPart). g.size) f functions in
    omega arith

-- a function lies below 0x40000000
pub in_code_below : (f : FunctionPart) (segments : List SegmentContent) → All IsPlaced segments
    → list_any (holds f) segments ≡ true → f.addr + f.size ≤ 0x4000_0000
in_code_below f [] placed found = absurd cc
in_code_below f (s ∷ segments) placed found =
    go (is_executable s) (leb s.addr f.addr) (leb (f.addr + f.size) (s.addr + length s.bytes)) refl
    (placed 0 s (omega arith)) (in_code_below f segments (All-rest IsPlaced s segments placed)) found
  where
    go : (a b c : Bool) → leb (f.addr + f.size) (s.addr + length s.bytes) ≡ c → IsPlaced s
        → (list_any (holds f) segments ≡ true → f.addr + f.size ≤ 0x4000_0000)
        → ((a && b && c) || list_any (holds f) segments) ≡ true → f.addr + f.size ≤ 0x4000_0000
    go true true true inside here rest e = let below = leb-true _ _ inside in let high = here.high in let sizes =
        here.sizes in omega arith
    go true true false inside here rest e = rest e
    go true false c inside here rest e = rest e
    go false b c inside here rest e = rest e

sizes_are_few : (parts : Parts) → AreFit parts → sum_by (λ f. f.size) parts.functions ≤ 0x4000_0000
sizes_are_few parts can =
    let below : All (λ f. f.addr + f.size ≤ 0x4000_0000) parts.functions =
    λ k d lt. in_code_below (get_or parts.functions k d) parts.segments can.segments.placed
    (can.functions.in_code k d lt) in
    let all = sizes_below parts.functions 0x4000_0000 below in
    let few = sum_below-le (λ a. count_by (lies_in a) parts.functions) can.functions.functions_apart 0x4000_0000 in
    omega arith

-- an address in a segment is below 0x40000000
pub entry_in : (entry : ℕ) (segments : List SegmentContent) → All IsPlaced segments
    → list_any (λ s. covers entry s && is_executable s) segments ≡ true → entry < 2 ^ 32
entry_in entry [] placed found = absurd cc
entry_in entry (s ∷ segments) placed found =
    go (leb s.addr entry) (ltb entry (s.addr + s.mem_len)) (is_executable s) refl (placed 0 s (omega arith))
    (entry_in entry segments (All-rest IsPlaced s segments placed)) found
  where
    go : (a b c : Bool) → ltb entry (s.addr + s.mem_len) ≡ b → IsPlaced s
        → (list_any (λ t. covers entry t && is_executable t) segments ≡ true → entry < 2 ^ 32)
        → ((a && b && c) || list_any (λ t. covers entry t && is_executable t) segments) ≡ true → entry < 2 ^ 32
    go true true true inside here rest e = let below = ltb-true _ _ inside in let high = here.high in omega arith
    go true true false inside here rest e = rest e
    go true false c inside here rest e = rest e
    go false b c inside here rest e = rest e

-- ---- the lengths of the tables

-- entries of any lengths
length-entries-sum : {X : Type 0} (f : X → List ℕ) (len : X → ℕ) → ((x : X) → length (f x) ≡ len x) → (xs : List X)
    → length (flat_map f xs) ≡ sum_by len xs
length-entries-sum f len each [] = refl
length-entries-sum f len each (x ∷ xs) =
    let here = each x in
    let rest = length-entries-sum f len each xs in
    let sum = sum_by-cons len x xs in
    omega (arith, length-append (f x) (flat_map f xs))

length-sequence : (f : FunctionPart) → length (sequence_bytes f) ≡ sequence_len f
unfolding first_row_bytes end_bytes padded_leb128
length-sequence f =
    let a = length-append (replicate (instruction_count f - 1) next_row) end_bytes in
    let b = length-replicate (instruction_count f - 1) next_row in
    omega arith

pub length-line_section : (parts : Parts) → length (line_section parts.file parts.functions) ≡ line_table_len parts
length-line_section parts =
    let sequences = length-entries-sum sequence_bytes sequence_len length-sequence (filter has_lines parts.functions) in
    let unit = length-unit parts.file (program_bytes parts.functions) in
    omega arith

length-program : (functions : List FunctionPart) → All IsWhole functions
    → 4 * length (program_bytes functions) ≤ sum_by (λ f. f.size) functions + 80 * length functions
length-program [] whole = omega arith
length-program (f ∷ functions) whole =
    let here : IsWhole f = whole 0 f (omega arith) in
    let aligned = here.size_aligned in
    let some = here.not_empty in
    let count : 4 * instruction_count f ≡ f.size = omega arith in
    let rest = length-program functions (All-rest IsWhole f functions whole) in
    let sum = sum_by-cons (λ (g : FunctionPart). g.size) f functions in
    go (has_lines f) count some rest sum
  where
    go : (b : Bool) → 4 * instruction_count f ≡ f.size → 0 < f.size
        → 4 * length (program_bytes functions) ≤ sum_by (λ g. g.size) functions + 80 * length functions
        → sum_by (λ g. g.size) (f ∷ functions) ≡ f.size + sum_by (λ g. g.size) functions
        → 4 * length (flat_map sequence_bytes (cond b (f ∷ filter has_lines functions) (filter has_lines functions))) ≤
        sum_by (λ g. g.size) (f ∷ functions) + 80 * suc (length functions)
    go true count some rest sum =
        let here = length-sequence f in
        let both = length-append (sequence_bytes f) (program_bytes functions) in
        omega arith
    go false count some rest sum = omega arith

pub length-symbol_bytes : (e : _) → length (symbol_bytes e) ≡ 16
unfolding symbol_bytes
length-symbol_bytes e = refl

pub length-entries_from : (place : ℕ) (segments : List SegmentContent) (functions : List FunctionPart)
    → length (entries_from place segments functions) ≡ length functions
length-entries_from place segments [] = refl
length-entries_from place segments (f ∷ functions) =
    ap suc (length-entries_from (place + length f.name + 1) segments functions)

pub length-symbols : (segments : List SegmentContent) (functions : List FunctionPart)
    → length (symbols_bytes (symbol_entries segments functions)) ≡ 16 * (1 + length functions)
length-symbols segments functions =
    let a = length-entries symbol_bytes 16 length-symbol_bytes (symbol_entries segments functions) in
    let b = length-entries_from 1 segments functions in
    omega arith

pub length-name_strings : (functions : List FunctionPart)
    → length (name_strings functions) ≡ 1 + sum_by (λ f. length f.name + 1) functions
length-name_strings functions =
    let names = length-entries-sum (λ (f : FunctionPart). with_zero f.name) (λ f. length f.name + 1)
    (λ f. length-append f.name (0 ∷ [])) functions in
    omega arith

-- each function has 1,024 bytes to spare
names_room : (functions : List FunctionPart)
    → sum_by (λ f. length f.name + 1) functions + 1023 * length functions
    ≡ sum_by (λ f. length f.name + 1024) functions
names_room [] = refl
names_room (f ∷ functions) =
    let a = sum_by-cons (λ (g : FunctionPart). length g.name + 1) f functions in
    let b = sum_by-cons (λ (g : FunctionPart). length g.name + 1024) f functions in
    let c = names_room functions in
    omega arith

pub length-section_strings : length section_strings ≡ 51
unfolding section_strings
length-section_strings = refl

-- each segment has 1,024 bytes to spare
segments_room : (segments : List SegmentContent)
    → content_len segments + 1024 * length segments ≡ sum_by (λ s. length s.bytes + 1024) segments
segments_room [] = refl
segments_room (s ∷ segments) =
    let a = sum_by-cons (λ (t : SegmentContent). length t.bytes) s segments in
    let b = sum_by-cons (λ (t : SegmentContent). length t.bytes + 1024) s segments in
    let c = segments_room segments in
    omega arith

-- the tables and the section headers end below 2^32
pub tables_fit : (parts : Parts) → AreFit parts → headers_offset parts + 40 * (5 + length parts.segments) < 2 ^ 32
tables_fit parts can =
    let total = can.total in
    let count = can.segments.count in
    let room = segments_room parts.segments in
    let names = length-name_strings parts.functions in
    let spare = names_room parts.functions in
    let few = sizes_are_few parts can in
    let program = length-program parts.functions can.functions.whole in
    let unit = length-unit parts.file (program_bytes parts.functions) in
    let symbols = length-symbols parts.segments parts.functions in
    omega arith
