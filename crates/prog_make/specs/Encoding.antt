-- Numbers as bytes, the lowest first (gABI, Data Encoding: ELFDATA2LSB; RISC-V unprivileged manual, 1.5).
use Rattle.std.specs.Prelude.{ℕ, List}
use Rattle.std.specs.List.{flat_map}
use Rattle.byteorder.specs.Endian.{little_bytes}

-- a number of 2 bytes
abbrev pub half_bytes : ℕ → List ℕ
half_bytes n = little_bytes 2 n

-- a number of 4 bytes
abbrev pub word_bytes : ℕ → List ℕ
word_bytes n = little_bytes 4 n

-- several, one after the other
abbrev pub halves_bytes : List ℕ → List ℕ
halves_bytes ns = flat_map half_bytes ns

abbrev pub words_bytes : List ℕ → List ℕ
words_bytes ns = flat_map word_bytes ns
