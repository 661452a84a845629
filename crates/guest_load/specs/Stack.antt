-- The first stack of a program (System V ABI, "Process Initialization"; the kinds of the auxiliary vector are those of
-- its table "Auxiliary Vector Types").
use Rattle.std.specs.Prelude.{◌≡◌, ℕ, ◌+◌, ◌-◌, ◌*◌, ◌/◌, ◌%◌, ◌<◌, ◌≤◌, List, [], ◌∷◌, ◌++◌, length, flat_map}
use Rattle.std.specs.Prelude.{slice_index, is_some, unwrap_or, if◌then◌else◌}
use Rattle.elf_read.specs.Image.{Image}
use Rattle.elf_read.specs.Standard.{program_header_len}
use Rattle.guest_mem.specs.Memory.{Memory, in_range, bytes_of, bytes_at}
use Rattle.guest_load.specs.Arguments.{arguments_len, arguments_bytes, arguments_start, argument_addresses}
use Rattle.guest_load.specs.Arguments.{sixteen_start, sixteen_bytes}

-- where the stack is, and its pages
abbrev pub stack_start : ℕ
stack_start = 0x7f80_0000

abbrev pub stack_pages : ℕ
stack_pages = 2048

-- the auxiliary vector: kinds, each with its value. Where no segment holds the program headers, their address and
-- their number are 0. AT_PHDR, AT_PHENT, AT_PHNUM, AT_PAGESZ, AT_ENTRY, AT_RANDOM and AT_NULL
abbrev pub auxiliary_vector : Image → List (ℕ × ℕ)
auxiliary_vector image =
    (3, unwrap_or image.headers_addr 0)
    ∷ (4, program_header_len)
    ∷ (5, if is_some image.headers_addr then image.header_count else 0)
    ∷ (6, 4096)
    ∷ (9, image.entry)
    ∷ (25, sixteen_start)
    ∷ (0, 0)
    ∷ []

-- the words from the stack pointer on: the number of arguments, their addresses, a zero, an environment without
-- variables, which is a zero, and the auxiliary vector
unfoldable pub stack_words : Image → List (List ℕ) → List ℕ
stack_words image args =
    length args ∷ (argument_addresses args ++
    (0 ∷ 0 ∷ flat_map (λ pair. pair.0 ∷ pair.1 ∷ []) (auxiliary_vector image)))

-- the greatest multiple of 16 from which these words end at or below the first byte of the arguments
unfoldable pub stack_pointer : Image → List (List ℕ) → ℕ
stack_pointer image args = (arguments_start args - 4 * length (stack_words image args)) / 16 * 16

-- words as bytes, the lowest byte first
abbrev pub little_endian : List ℕ → List ℕ
little_endian words = flat_map (bytes_of 4) words

-- what stands at an address where these bytes stand from start on, and else what was there
abbrev pub overlaid : ℕ → List ℕ → ℕ → ℕ → ℕ
overlaid start bytes a other = if in_range start (length bytes) a then slice_index bytes (a - start) else other

-- the byte at an address of the stack: of the words, of the arguments, of the sixteen bytes, or 0
unfoldable pub stack_byte : Image → List (List ℕ) → ℕ → ℕ
stack_byte image args a =
    overlaid (stack_pointer image args) (little_endian (stack_words image args)) a
    (overlaid (arguments_start args) (arguments_bytes args) a
    (overlaid sixteen_start sixteen_bytes a 0))

-- what stands on the stack lies in order: the words end at or below the arguments, as near as a multiple of 16 allows,
-- and the arguments end where the sixteen bytes begin
pub record IsInOrder (image : Image) (args : List (List ℕ)) : Type 0 where
  pub aligned : stack_pointer image args % 16 ≡ 0
  pub in_stack : stack_start ≤ stack_pointer image args
  pub words_below : stack_pointer image args + 4 * length (stack_words image args) ≤ arguments_start args
  pub greatest : arguments_start args < stack_pointer image args + 4 * length (stack_words image args) + 16
  pub arguments_end : arguments_start args + arguments_len args ≡ sixteen_start

-- memory holds the words from the stack pointer on, the arguments and the sixteen bytes
pub record HoldsStack (image : Image) (args : List (List ℕ)) (mem : Memory) : Type 0 where
  pub words : bytes_at mem (stack_pointer image args) (4 * length (stack_words image args))
      ≡ little_endian (stack_words image args)
  pub arguments : bytes_at mem (arguments_start args) (arguments_len args) ≡ arguments_bytes args
  pub sixteen : bytes_at mem sixteen_start 16 ≡ sixteen_bytes
