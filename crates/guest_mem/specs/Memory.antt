-- The guest's memory: a finite map from addresses to a byte and a permission. An address that it lacks is not mapped.
-- Numbers are little-endian, and no address needs to be aligned (RISC-V unprivileged manual, loads and stores).
--     prot_read, prot_write, prot_exec     the permissions' numbers, and page_limit the most pages
--     granted_permission p               the permission p with reading added where it has writing
--     allows_at m want a        whether a lies below 2 ^ 32 and its byte is mapped with all bits of want
--     may m want a n          whether each of the n bytes from a on is
--     byte_at m a, bytes_at m a n      the byte at a, and the n bytes from a on
--     load_at m want a n       the number that they are, where each may be used so
--     bytes_of n v, number_of bs      a number's n lowest bytes, and the number of bytes
--     write_at m a bs          the memory with the bytes bs from a on
--     store_at m a bs           the same where each of these places may be written, else m
--     zero_range m a n p          the memory after the n bytes from a on were mapped as zeros
--     unmap_at m a n          after they were taken away
--     protect_at m a n p       after they got another permission
--     page_count m            how many pages are mapped
--     pages_mapped m a n      whether each of the n pages from a on is
--     SameElsewhere m n a k   whether a load apart from the k bytes from a on gives the same in both memories
use Rattle.std.specs.Prelude.{◌≡◌, ℕ, zero, suc, ◌+◌, ◌-◌, ◌*◌, ◌/◌, ◌%◌, ◌^◌, ◌==◌, ◌&&◌, Bool, true, false}
use Rattle.std.specs.Prelude.{if◌then◌else◌, List, [], ◌∷◌, length, slice_index, Option, Some, None, is_some, ◌≤◌, ◌⊎◌}
use Rattle.std.specs.Prelude.{nat_lt, nat_le, bit_and, bit_or}
use Rattle.std.specs.Option.{option_map, option_map_or}
use Rattle.std.specs.Ordering.{nat_cmp}
use Rattle.std.specs.Coded.{Coded, code_by, coded×, coded_ℕ}
use Rattle.std.specs.FinMap as map
use Rattle.std.proofs.Common.{refl}

-- the permissions, under their names and with their numbers in POSIX's sys/mman.h
abbrev pub prot_read : ℕ
prot_read = 1

abbrev pub prot_write : ℕ
prot_write = 2

abbrev pub prot_exec : ℕ
prot_exec = 4

-- the most pages that may be mapped: 256 MiB of 4,096 bytes each
abbrev pub page_limit : ℕ
page_limit = 65536

-- one mapped byte. The permission is a sum of the numbers above
pub record Cell : Type 0 where
  pub byte : ℕ
  pub permission : ℕ

abbrev pub cell_code : Coded Cell
cell_code = code_by (ℕ × ℕ) (coded× coded_ℕ coded_ℕ) (λ c. (c.byte, c.permission))
    (λ p. record { byte = p.0; permission = p.1 }) (λ _. refl)

abbrev pub Memory : Type 0
Memory = map.FinMap nat_cmp Cell

-- what a permission gives: to write is to read as well
abbrev pub granted_permission : ℕ → ℕ
granted_permission permission = if bit_and permission prot_write == prot_write then bit_or permission prot_read else permission

-- whether a permission has all bits of the one that is wanted
abbrev pub allows : ℕ → ℕ → Bool
allows want permission = bit_and permission want == want

-- ---- memories by their cells

-- the memory of the addresses below n with a cell of f
abbrev pub entry : Option Cell → ℕ → Memory → Memory
entry None n m = m
entry (Some c) n m = map.insert m n c

unfoldable pub memory_below : (ℕ → Option Cell) → ℕ → Memory
memory_below f zero = map.empty
memory_below f (suc n) = entry (f n) n (memory_below f n)

-- the memory whose cell at each 32-bit address is that of f
unfoldable pub memory_of : (ℕ → Option Cell) → Memory
memory_of f = memory_below f (2 ^ 32)

-- whether q is one of the n addresses from a on
abbrev pub in_range : ℕ → ℕ → ℕ → Bool
in_range a n q = nat_le a q && nat_lt q (a + n)

-- the memory with f q c in place of the cell c at each q of the n addresses from a on
unfoldable pub change_at : Memory → ℕ → ℕ → (ℕ → Option Cell → Option Cell) → Memory
change_at m a n f = memory_of (λ q. if in_range a n q then f q (map.get m q) else map.get m q)

abbrev pub with_byte : ℕ → Cell → Cell
with_byte byte c = record { byte = byte; permission = c.permission }

abbrev pub with_permission : ℕ → Cell → Cell
with_permission permission c = record { byte = c.byte; permission = permission }

-- ---- what may be used

-- whether there is a cell and its permission has all bits of the one that is wanted
abbrev pub cell_allows : ℕ → Option Cell → Bool
cell_allows want cell = option_map_or (λ c. allows want c.permission) cell false

-- the byte of a cell, and 0 where there is none
abbrev pub cell_byte : Option Cell → ℕ
cell_byte cell = option_map_or (λ c. c.byte) cell 0

unfoldable pub allows_at : Memory → ℕ → ℕ → Bool
allows_at m want a = nat_lt a (2 ^ 32) && cell_allows want (map.get m a)

unfoldable pub may : Memory → ℕ → ℕ → ℕ → Bool
may m want a zero = true
may m want a (suc n) = allows_at m want a && may m want (a + 1) n

-- ---- bytes and numbers

unfoldable pub byte_at : Memory → ℕ → ℕ
byte_at m a = cell_byte (map.get m a)

unfoldable pub bytes_at : Memory → ℕ → ℕ → List ℕ
bytes_at m a zero = []
bytes_at m a (suc n) = byte_at m a ∷ bytes_at m (a + 1) n

-- the number that bytes are, the lowest first
abbrev pub number_of : List ℕ → ℕ
number_of [] = 0
number_of (b ∷ bs) = b + 256 * number_of bs

-- the n lowest bytes of a number, the lowest first
abbrev pub bytes_of : ℕ → ℕ → List ℕ
bytes_of zero v = []
bytes_of (suc n) v = v % 256 ∷ bytes_of n (v / 256)

unfoldable pub load_at : Memory → ℕ → ℕ → ℕ → Option ℕ
load_at m want a n = if may m want a n then Some (number_of (bytes_at m a n)) else None

unfoldable pub write_at : Memory → ℕ → List ℕ → Memory
write_at m a bs = change_at m a (length bs) (λ q. option_map (with_byte (slice_index bs (q - a))))

unfoldable pub store_at : Memory → ℕ → List ℕ → Memory
store_at m a bs = if may m prot_write a (length bs) then write_at m a bs else m

-- what a load gives at any place that lies apart from the n bytes from a on is the same in both memories
abbrev pub SameElsewhere : Memory → Memory → ℕ → ℕ → Type 0
SameElsewhere old new a n = (want other width : ℕ) → (other + width ≤ a) ⊎ (a + n ≤ other)
    → load_at new want other width ≡ load_at old want other width

-- ---- pages

unfoldable pub zero_range : Memory → ℕ → ℕ → ℕ → Memory
zero_range m a n permission = change_at m a n (λ _ _. Some (record { byte = 0; permission = granted_permission permission }))

unfoldable pub unmap_at : Memory → ℕ → ℕ → Memory
unmap_at m a n = change_at m a n (λ _ _. None)

unfoldable pub protect_at : Memory → ℕ → ℕ → ℕ → Memory
protect_at m a n permission = change_at m a n (λ _. option_map (with_permission (granted_permission permission)))

-- whether a page is mapped, by its first address
abbrev pub page_mapped : Memory → ℕ → Bool
page_mapped m a = is_some (map.get m a)

unfoldable pub pages_mapped : Memory → ℕ → ℕ → Bool
pages_mapped m a zero = true
pages_mapped m a (suc n) = page_mapped m a && pages_mapped m (a + 4096) n

-- how many of the numbers below n pass a test
unfoldable pub count_below : (ℕ → Bool) → ℕ → ℕ
count_below p zero = 0
count_below p (suc n) = count_below p n + (if p n then 1 else 0)

unfoldable pub page_count : Memory → ℕ
page_count m = count_below (λ p. page_mapped m (p * 4096)) (2 ^ 20)
