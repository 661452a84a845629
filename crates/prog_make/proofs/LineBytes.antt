-- The parts of a line table's header and the instructions of its program, read back.
use Rattle.std.proofs.Common.{◌≡◌, ◌≢◌, ℕ, zero, suc, ◌+◌, ◌-◌, ◌*◌, ◌/◌, ◌%◌, ◌^◌, ◌<◌, ◌≤◌, false, eqb, leb, List, []}
use Rattle.std.proofs.Common.{◌∷◌, ◌++◌, length, drop, replicate, Some, refl, sym, ap, ◌∙◌, arith, append_assoc}
use Rattle.std.proofs.Common.{length-append, pos, negsuc}
use Rattle.std.specs.List.{All, position_or_len, flat_map}
use Rattle.std.proofs.lemmas.Bool.{le-ltb, lt-ltb}
use Rattle.std.proofs.lemmas.Bool.Decides.{nat_tests}
use Rattle.std.proofs.lemmas.List.{append-nil, drop_at, take_at}
use Rattle.byteorder.specs.Endian.{little_bytes}
use Rattle.byteorder.specs.Numbers.{little_number-reads_back, length-bytes_low_first}
use Rattle.dwarf_line.specs.declared.instruction.Instruction.{Instruction}
use Rattle.dwarf_line.specs.declared.instruction.Instruction.TheVariants.{Special, CopyRow, AdvancePc, AdvanceLine}
use Rattle.dwarf_line.specs.declared.instruction.Instruction.TheVariants.{SetFile, SetAddress, EndSequence}
use Rattle.dwarf_line.specs.Bytes.{number_at, bytes_at, text_at, up_to}
use Rattle.dwarf_line.specs.Leb128.{groups_at, uleb128_at, sleb128_at}
use Rattle.dwarf_line.specs.Header.{LineHeader}
use Rattle.dwarf_line.specs.Instruction.{instruction_at, begun_at, extended_at, sized_at, extended_of, standard_at}
use Rattle.dwarf_line.specs.Instruction.{instructions_within}
use Rattle.prog_make.specs.declared.function_part.FunctionPart.{FunctionPart}
use Rattle.prog_make.specs.Encoding.{word_bytes}
use Rattle.prog_make.specs.Names.{HasNoZero}
use Rattle.prog_make.specs.Functions.{instruction_count}
use Rattle.prog_make.specs.inner.LineProgram.{first_row_bytes, end_bytes, next_row, padded_leb128, sequence_bytes}
use Rattle.prog_make.proofs.SegmentsRead.{All-rest}

-- the constants of the unit
abbrev pub constants : LineHeader
constants = record {
  minimum_length = 1;
  line_base = negsuc 4;
  line_range = 14;
  opcode_base = 13;
  operand_counts = 0 ∷ 1 ∷ 1 ∷ 1 ∷ 1 ∷ 0 ∷ 0 ∷ 0 ∷ 1 ∷ 0 ∷ 0 ∷ 1 ∷ [];
}

-- ---- numbers and texts

pub number_at-here : (size n : ℕ) (rest : List ℕ) → n < 256 ^ size
    → number_at size (little_bytes size n ++ rest) ≡ Some (n, rest)
unfolding number_at
number_at-here size n rest fits =
    let len = length-bytes_low_first 0 size n in
    let enough : size ≤ length (little_bytes size n ++ rest) =
    omega (arith, length-append (little_bytes size n) rest) in
    rw (
      le-ltb (length (little_bytes size n ++ rest)) size enough,
      little_number-reads_back size n rest fits,
      drop_at
          (little_bytes size n) rest size len,
    ) refl

pub number_at-byte : (b : ℕ) (rest : List ℕ) → number_at 1 (b ∷ rest) ≡ Some (b, rest)
unfolding number_at
number_at-byte b rest =
    let enough : 1 ≤ suc (length rest) = omega arith in
    let value : b + 256 * 0 ≡ b = omega arith in
    rw (le-ltb (suc (length rest)) 1 enough, value) refl

pub bytes_at-here : (n : ℕ) (xs rest : List ℕ) → length xs ≡ n → bytes_at n (xs ++ rest) ≡ Some (xs, rest)
unfolding bytes_at
bytes_at-here n xs rest len =
    let enough : n ≤ length (xs ++ rest) = omega (arith, length-append xs rest) in
    rw (le-ltb (length (xs ++ rest)) n enough, take_at xs rest n len, drop_at xs rest n len) refl

pub bytes_at-all : (n : ℕ) (xs : List ℕ) → length xs ≡ n → bytes_at n xs ≡ Some (xs, [])
bytes_at-all n xs len = ap (bytes_at n) (sym (append-nil xs)) ∙ bytes_at-here n xs [] len

pub uleb128_at-byte : (b : ℕ) (rest : List ℕ) → b < 128 → uleb128_at (b ∷ rest) ≡ Some (b, rest)
unfolding uleb128_at groups_at
uleb128_at-byte b rest low =
    let some : 0 < suc (length rest) = omega arith in
    let value : b % 128 + 128 * 0 ≡ b = omega arith in
    let fits : b < 2 ^ 64 = omega arith in
    rw (lt-ltb b 128 low, lt-ltb 0 (suc (length rest)) some, value, lt-ltb b (2 ^ 64) fits) refl

pub zero_place : (text rest : List ℕ) → HasNoZero text → position_or_len (λ b. eqb b 0) (text ++ 0 ∷ rest) ≡ length text
zero_place [] rest none = refl
zero_place (b ∷ text) rest none =
    let here : eqb b 0 ≡ false = let h : b ≢ 0 = none 0 b (omega arith) in grind (arith, nat_tests) in
    rw here (ap (λ n. 1 + n) (zero_place text rest (All-rest (λ c. c ≢ 0) b text none))
    ∙ let e : 1 + length text ≡ suc (length text) = omega arith in e)

pub text_at-here : (text rest : List ℕ) → HasNoZero text → text_at (text ++ 0 ∷ rest) ≡ Some (text, rest)
unfolding up_to
text_at-here text rest none =
    let inside : length text < length (text ++ 0 ∷ rest) = omega (arith, length-append text (0 ∷ rest)) in
    let behind : drop (length text + 1) (text ++ 0 ∷ rest) ≡ rest =
    ap (drop (length text + 1)) (sym (append_assoc text (0 ∷ []) rest))
    ∙ drop_at (text ++ 0 ∷ []) rest (length text + 1) (length-append text (0 ∷ [])) in
    rw (
      zero_place text rest none,
      lt-ltb (length text) (length (text ++ 0 ∷ rest)) inside,
      take_at text (0 ∷ rest)
          (length text) refl,
      behind,
    ) refl

pub sleb128_at-here : (n : ℕ) (rest : List ℕ) → n < 2 ^ 32 → sleb128_at (padded_leb128 n ++ rest) ≡ Some (pos n, rest)
unfolding sleb128_at groups_at padded_leb128
sleb128_at-here n rest fits =
    let a : 128 ≤ n % 128 + 128 = omega arith in
    let b : 128 ≤ n / 128 % 128 + 128 = omega arith in
    let c : 128 ≤ n / 128 / 128 % 128 + 128 = omega arith in
    let d : 128 ≤ n / 128 / 128 / 128 % 128 + 128 = omega arith in
    let e : n / 128 / 128 / 128 / 128 < 128 = omega arith in
    let f : n / 128 / 128 / 128 / 128 < 64 = omega arith in
    let inside : 4 < suc (suc (suc (suc (suc (length rest))))) = omega arith in
    let value : (n % 128 + 128) % 128 + 128 *
    ((n / 128 % 128 + 128) % 128 + 128 *
    ((n / 128 / 128 % 128 + 128) % 128 + 128 *
    ((n / 128 / 128 / 128 % 128 + 128) % 128 + 128 * (n / 128 / 128 / 128 / 128 % 128 + 128 * 0)))) ≡ n =
    omega arith in
    let small : n < 2 ^ 63 = omega arith in
    let sign : leb 64 (n / 128 / 128 / 128 / 128) ≡ false = grind (arith, nat_tests) in
    rw (
      le-ltb (n % 128 + 128) 128 a,
      le-ltb (n / 128 % 128 + 128) 128 b,
      le-ltb (n / 128 / 128 % 128 + 128) 128 c,
      le-ltb (n / 128 / 128 / 128 % 128 + 128) 128 d,
      lt-ltb (n / 128 / 128 / 128 / 128) 128 e,
      lt-ltb 4 (suc (suc (suc (suc (suc (length rest)))))) inside,
      sign,
      value,
      lt-ltb n (2 ^ 63) small,
    ) refl

-- ---- instructions

pub set_address_read : (a : ℕ) (rest : List ℕ) → a < 2 ^ 32
    → instruction_at constants (0 ∷ 5 ∷ 2 ∷ (word_bytes a ++ rest)) ≡ Some (SetAddress a, rest)
unfolding instruction_at begun_at extended_at sized_at extended_of
set_address_read a rest fits =
    rw (
      number_at-byte 0 (5 ∷ 2 ∷ (word_bytes a ++ rest)),
      uleb128_at-byte 5 (2 ∷ (word_bytes a ++ rest))
          (omega arith),
      bytes_at-here 5 (2 ∷ word_bytes a) rest refl,
      number_at-byte 2
          (word_bytes a),
      number_at-here 4 a [] fits,
    ) refl

pub set_file_read : (rest : List ℕ) → instruction_at constants (4 ∷ 0 ∷ rest) ≡ Some (SetFile 0, rest)
unfolding instruction_at begun_at standard_at
set_file_read rest = rw (number_at-byte 4 (0 ∷ rest), uleb128_at-byte 0 rest (omega arith)) refl

pub advance_line_read : (n : ℕ) (rest : List ℕ) → n < 2 ^ 32
    → instruction_at constants (3 ∷ (padded_leb128 n ++ rest)) ≡ Some (AdvanceLine (pos n), rest)
unfolding instruction_at begun_at standard_at
advance_line_read n rest fits = rw (number_at-byte 3 (padded_leb128 n ++ rest), sleb128_at-here n rest fits) refl

pub copy_read : (rest : List ℕ) → instruction_at constants (1 ∷ rest) ≡ Some (CopyRow, rest)
unfolding instruction_at begun_at standard_at
copy_read rest = rw (number_at-byte 1 rest) refl

pub next_row_read : (rest : List ℕ) → instruction_at constants (75 ∷ rest) ≡ Some (Special 62, rest)
unfolding instruction_at begun_at
next_row_read rest = rw (number_at-byte 75 rest) refl

pub advance_pc_read : (rest : List ℕ) → instruction_at constants (2 ∷ 4 ∷ rest) ≡ Some (AdvancePc 4, rest)
unfolding instruction_at begun_at standard_at
advance_pc_read rest = rw (number_at-byte 2 (4 ∷ rest), uleb128_at-byte 4 rest (omega arith)) refl

pub end_read : (rest : List ℕ) → instruction_at constants (0 ∷ 1 ∷ 1 ∷ rest) ≡ Some (EndSequence, rest)
unfolding instruction_at begun_at extended_at sized_at extended_of
end_read rest = rw (
  number_at-byte 0 (1 ∷ 1 ∷ rest),
  uleb128_at-byte 1 (1 ∷ rest) (omega arith),
  bytes_at-here 1
      (1 ∷ []) rest refl,
  number_at-byte 1 [],
) refl

-- ---- the instructions of a program

-- the bytes begin with these instructions, behind which the rest is left
pub Reads : List Instruction → List ℕ → List ℕ → Type 0
Reads [] bytes rest = bytes ≡ rest
Reads (i ∷ is) bytes rest = (after : List ℕ) × (instruction_at constants bytes ≡ Some (i, after))
    × (length after < length bytes) × Reads is after rest

Reads-append : (is js : List Instruction) (bytes mid rest : List ℕ) → Reads is bytes mid → Reads js mid rest
    → Reads (is ++ js) bytes rest
unfolding Reads
Reads-append [] js bytes mid rest e more = rw e more
Reads-append (i ∷ is) js bytes mid rest (after, read, shorter, others) more =
    (after, read, shorter, Reads-append is js after mid rest others more)

pub within : (is : List Instruction) (bytes : List ℕ) (limit : ℕ) → Reads is bytes [] → length bytes ≤ limit
    → instructions_within constants limit bytes ≡ Some is
unfolding Reads
within [] bytes zero e le = rw e refl
within [] bytes (suc limit) e le = rw e refl
within (i ∷ is) [] limit (after, read, shorter, others) le = absurd (omega arith)
within (i ∷ is) (b ∷ bytes) zero (after, read, shorter, others) le = absurd (omega arith)
within (i ∷ is) (b ∷ bytes) (suc limit) (after, read, shorter, others) le =
    rw (read, within is after limit others (omega arith)) refl

next_rows_read : (n : ℕ) (rest : List ℕ) → Reads (replicate n (Special 62)) (replicate n next_row ++ rest) rest
unfolding Reads
next_rows_read zero rest = refl
next_rows_read (suc n) rest = (
  replicate n next_row ++ rest,
  next_row_read
      (replicate n next_row ++ rest),
  omega arith,
  next_rows_read n rest,
)

-- the instructions of a function's sequence
abbrev pub sequence_instructions : FunctionPart → List Instruction
sequence_instructions f =
    SetAddress f.addr ∷ SetFile 0 ∷ AdvanceLine (pos (f.first_line - 1)) ∷ CopyRow
    ∷ (replicate (instruction_count f - 1) (Special 62) ++ (AdvancePc 4 ∷ EndSequence ∷ []))

first_row_read : (f : FunctionPart) (rest : List ℕ) → f.addr < 2 ^ 32 → f.first_line < 2 ^ 32
    → Reads (SetAddress f.addr ∷ SetFile 0 ∷ AdvanceLine (pos (f.first_line - 1)) ∷ CopyRow ∷ [])
    (first_row_bytes f ++ rest) rest
unfolding Reads first_row_bytes
first_row_read f rest addr line =
    let n = f.first_line - 1 in
    let third : List ℕ = 3 ∷ (padded_leb128 n ++ (1 ∷ rest)) in
    let regroup : (padded_leb128 n ++ 1 ∷ []) ++ rest ≡ padded_leb128 n ++ (1 ∷ rest) =
    append_assoc (padded_leb128 n) (1 ∷ []) rest in
    rw regroup (
      4 ∷ 0 ∷ third,
      set_address_read f.addr (4 ∷ 0 ∷ third) addr,
      omega arith,
      (
        third,
        set_file_read third,
        omega arith,
        (
          1 ∷ rest,
          advance_line_read n (1 ∷ rest) (omega arith),
          omega (arith, length-append (padded_leb128 n) (1 ∷ rest)),
          (rest, copy_read rest, omega arith, refl),
        ),
      ),
    )

end_reads : (rest : List ℕ) → Reads (AdvancePc 4 ∷ EndSequence ∷ []) (end_bytes ++ rest) rest
unfolding Reads end_bytes
end_reads rest = (
  0 ∷ 1 ∷ 1 ∷ rest,
  advance_pc_read (0 ∷ 1 ∷ 1 ∷ rest),
  omega arith,
  (rest, end_read rest, omega arith, refl),
)

pub sequence_read : (f : FunctionPart) (rest : List ℕ) → f.addr < 2 ^ 32 → f.first_line < 2 ^ 32
    → Reads (sequence_instructions f) (sequence_bytes f ++ rest) rest
sequence_read f rest addr line =
    let rows = replicate (instruction_count f - 1) next_row in
    let whole : sequence_bytes f ++ rest ≡ first_row_bytes f ++ (rows ++ (end_bytes ++ rest)) =
    append_assoc (first_row_bytes f) (rows ++ end_bytes) rest
    ∙ ap (λ xs. first_row_bytes f ++ xs) (append_assoc rows end_bytes rest) in
    rw whole (
    Reads-append (SetAddress f.addr ∷ SetFile 0 ∷ AdvanceLine (pos (f.first_line - 1)) ∷ CopyRow ∷ [])
    (replicate (instruction_count f - 1) (Special 62) ++ (AdvancePc 4 ∷ EndSequence ∷ []))
    (first_row_bytes f ++ (rows ++ (end_bytes ++ rest))) (rows ++ (end_bytes ++ rest)) rest
    (first_row_read f (rows ++ (end_bytes ++ rest)) addr line)
    (Reads-append (replicate (instruction_count f - 1) (Special 62)) (AdvancePc 4 ∷ EndSequence ∷ [])
    (rows ++ (end_bytes ++ rest)) (end_bytes ++ rest) rest
    (next_rows_read (instruction_count f - 1) (end_bytes ++ rest)) (end_reads rest)))

-- an address and lines of 32 bits
pub record RowsFit (f : FunctionPart) : Type 0 where
  pub some : 0 < instruction_count f
  pub whole : 4 * instruction_count f ≡ f.size
  pub end : f.addr + f.size < 2 ^ 32
  pub first : 0 < f.first_line
  pub last : f.first_line + instruction_count f < 2 ^ 32

pub program_read : (functions : List FunctionPart) → All RowsFit functions
    → Reads (flat_map sequence_instructions functions) (flat_map sequence_bytes functions) []
unfolding Reads
program_read [] fit = refl
program_read (f ∷ functions) fit =
    let here : RowsFit f = fit 0 f (omega arith) in
    let end = here.end in
    let last = here.last in
    Reads-append (sequence_instructions f) (flat_map sequence_instructions functions)
    (sequence_bytes f ++ flat_map sequence_bytes functions) (flat_map sequence_bytes functions) []
    (sequence_read f (flat_map sequence_bytes functions) (omega arith) (omega arith))
    (program_read functions (All-rest RowsFit f functions fit))
