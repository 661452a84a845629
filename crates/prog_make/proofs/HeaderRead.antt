-- The ELF header read back.
use Rattle.std.proofs.Common.{◌≡◌, ℕ, ◌<◌, ◌^◌, Bool, true, false, cond, List, [], ◌∷◌, ◌++◌, length, drop, None, refl}
use Rattle.byteorder.specs.Numbers.{little_number-reads_back}
use Rattle.elf_read.specs.declared.header.FileHeader.{FileHeader}
use Rattle.elf_read.specs.Numbers.{word_at, half_at}
use Rattle.elf_read.specs.Checks.{first_fault}
use Rattle.elf_read.specs.Header.{header_of, magic_fault, kind_fault}
use Rattle.prog_make.specs.declared.header.Header.{Header}
use Rattle.prog_make.specs.inner.FileHeader.{header_bytes}

-- the fields fit their places
pub record HeaderFits (h : Header) : Type 0 where
  pub entry : h.entry < 2 ^ 32
  pub program_count : h.program_count < 2 ^ 16
  pub section_offset : h.section_offset < 2 ^ 32
  pub section_count : h.section_count < 2 ^ 16
  pub names_index : h.names_index < 2 ^ 16

-- the header as it is read
abbrev pub header_read : Header → FileHeader
header_read h = record {
  entry = h.entry;
  program_offset = 52;
  section_offset = h.section_offset;
  program_count = h.program_count;
  section_count = h.section_count;
  names_index = h.names_index;
}

pub length-header_bytes : (h : Header) → length (header_bytes h) ≡ 52
unfolding header_bytes
length-header_bytes h = refl

same_header : (a b c d e f a' b' c' d' e' f' : ℕ) → a ≡ a' → b ≡ b' → c ≡ c' → d ≡ d' → e ≡ e' → f ≡ f'
    → ◌≡◌ {A = FileHeader} (record
    { entry = a; program_offset = b; section_offset = c; program_count = d; section_count = e; names_index = f })
    (record {
      entry = a';
      program_offset = b';
      section_offset = c';
      program_count = d';
      section_count = e';
      names_index = f';
    })
same_header a b c d e f a' b' c' d' e' f' p q r s t u = cc

pub header_of-is : (h : Header) (rest : List ℕ) → HeaderFits h → header_of (header_bytes h ++ rest) ≡ header_read h
unfolding header_bytes word_at half_at
header_of-is h rest fits =
    same_header _ _ _ _ _ _ _ _ _ _ _ _
    (little_number-reads_back 4 h.entry (drop 28 (header_bytes h ++ rest)) fits.entry)
    refl
    (little_number-reads_back 4 h.section_offset (drop 36 (header_bytes h ++ rest)) fits.section_offset)
    (little_number-reads_back 2 h.program_count (drop 46 (header_bytes h ++ rest)) fits.program_count)
    (little_number-reads_back 2 h.section_count (drop 50 (header_bytes h ++ rest)) fits.section_count)
    (little_number-reads_back 2 h.names_index rest fits.names_index)

pub magic_fault-none : (h : Header) (rest : List ℕ) → magic_fault (header_bytes h ++ rest) ≡ None
unfolding header_bytes magic_fault
magic_fault-none h rest = refl

no_fault : (b c : Bool) → first_fault
    (None ∷ None ∷ None ∷ None ∷ None ∷ None ∷ cond b None None ∷ cond c None None ∷ []) ≡ None
no_fault true true = refl
no_fault true false = refl
no_fault false true = refl
no_fault false false = refl

pub kind_fault-none : (h : Header) (rest : List ℕ) → kind_fault (header_bytes h ++ rest) ≡ None
unfolding header_bytes kind_fault word_at half_at
kind_fault-none h rest = no_fault _ _
