-- One page as its own functions see it: its permission and its 4,096 bytes.
use Rattle.std.specs.Prelude.{◌≡◌, ℕ, ◌+◌, ◌/◌, ◌%◌, ◌<◌, ◌==◌, ◌&&◌, Bool, false, if◌then◌else◌, List, length, take}
use Rattle.std.specs.Prelude.{drop, ◌++◌, IsTrue, nat_lt, slice_get, Option, replicate}
use Rattle.std.specs.Option.{option_map, option_map_or, option_and_then, ForSome}
use Rattle.guest_mem.specs.Memory.{Cell, Memory, memory_of, granted_permission, allows}

pub record PageValue : Type 0 where
  pub permission : ℕ
  pub bytes : List ℕ

-- a permission in which to write is to read
abbrev pub is_granted : ℕ → Bool
is_granted permission = nat_lt permission 8 && (granted_permission permission == permission)

pub record IsWhole (page : PageValue) : Type 0 where
  pub lawful : IsTrue (is_granted page.permission)
  pub whole : length page.bytes ≡ 4096

-- the bytes with bs in place of those from i on
abbrev pub patched : List ℕ → ℕ → List ℕ → List ℕ
patched old i bs = take i old ++ (bs ++ drop (i + length bs) old)

unfoldable pub zeros : List ℕ
zeros = replicate 4096 0

abbrev pub zero_page : ℕ → PageValue
zero_page permission = record { permission = granted_permission permission; bytes = zeros }

-- the page with bs from i on, where its permission has all bits that are wanted
abbrev pub written_where : ℕ → ℕ → List ℕ → PageValue → PageValue
written_where want i bs page = if allows want page.permission then record {
  permission = page.permission;
  bytes = patched page.bytes i bs;
} else page

abbrev pub protected_page : ℕ → PageValue → PageValue
protected_page permission page = record { permission = granted_permission permission; bytes = page.bytes }

-- whether there is a page and its permission has all bits that are wanted
abbrev pub page_allows : ℕ → Option PageValue → Bool
page_allows want page = option_map_or (λ p. allows want p.permission) page false

-- the cell of the byte at i of a page
abbrev pub cell_in : ℕ → PageValue → Option Cell
cell_in i page = option_map (λ b. record { byte = b; permission = page.permission }) (slice_get page.bytes i)

-- the cells of pages that are given by their numbers
abbrev pub cells : (ℕ → Option PageValue) → ℕ → Option Cell
cells pages a = option_and_then (cell_in (a % 4096)) (pages (a / 4096))

-- the memory of pages that are given by their numbers
unfoldable pub memory_of_pages : (ℕ → Option PageValue) → Memory
memory_of_pages pages = memory_of (cells pages)

-- pages are given whole
abbrev pub AreWhole : (ℕ → Option PageValue) → Type 0
AreWhole pages = (p : ℕ) → ForSome (pages p) IsWhole

-- whether each of the n pages from first on is there and allows what is wanted
abbrev pub EachAllows : (ℕ → Option PageValue) → ℕ → ℕ → ℕ → Type 0
EachAllows pages want first n = (k : ℕ) → k < n → IsTrue (page_allows want (pages (first + k)))
