-- The break, and the mapping of pages of 4,096 bytes.
use Rattle.std.specs.Prelude.{ℕ, zero, suc, ◌+◌, ◌-◌, ◌*◌, ◌/◌, ◌%◌, ◌^◌, ◌==◌, ◌&&◌, Bool, true, not, nat_lt, nat_le}
use Rattle.std.specs.Prelude.{bit_and, if◌then◌else◌, Option, Some, None}
use Rattle.guest_mem.specs.Memory.{Memory, zero_range, unmap_at, protect_at, page_limit, page_mapped, pages_mapped}
use Rattle.guest_mem.specs.Memory.{page_count}
use Rattle.guest_load.specs.Guest.{Guest}
use Rattle.guest_sys.specs.Common.{argument, answers, refuses, enomem, einval, needs}
use Rattle.guest_sys.specs.declared.caller.Caller.{Caller}
use Rattle.guest_sys.specs.declared.effect.Effect.{Effect}

-- how many pages so many bytes touch, from the start of a page on
abbrev pub pages_for : ℕ → ℕ
pages_for n = (n + 4095) / 4096

-- an address rounded up to a page
abbrev pub page_end : ℕ → ℕ
page_end a = pages_for a * 4096

-- a guest has at most so many pages
abbrev pub too_many : Memory → Bool
too_many m = nat_lt page_limit (page_count m)

abbrev pub with_memory : Guest → Memory → Guest
with_memory g mem = record g { mem = mem }

-- ---- the break

abbrev pub with_break : Guest → Memory → ℕ → Guest
with_break g mem a = record g { mem = mem; now_break = a }

-- the pages from the old break's to the new one's, as zeros that may be read and written
abbrev pub grown_memory : Guest → ℕ → Memory
grown_memory g a = zero_range g.mem (page_end g.now_break) (page_end a - page_end g.now_break) 3

-- a break that shrinks takes the pages from the new one's to the old one's
abbrev pub break_moved : Guest → Caller → ℕ → Option (Effect × Guest)
break_moved g c a =
    if nat_lt (page_end g.now_break) (page_end a)
    then (if too_many (grown_memory g a) then answers g c g.now_break else answers (with_break g (grown_memory g a) a) c a)
    else answers (with_break g (unmap_at g.mem (page_end a) (page_end g.now_break - page_end a)) a) c a

-- brk(a): the break is a, where a is in bounds and there are pages for it; the break is answered
unfoldable pub brk : Guest → Caller → Option (Effect × Guest)
brk g c =
    if nat_le g.first_break (argument 0 c) && nat_le (argument 0 c) 0x4000_0000
    then break_moved g c (argument 0 c)
    else answers g c g.now_break

-- ---- mappings

-- a range begins at a page and ends at most at 2 ^ 32
abbrev pub is_range : ℕ → ℕ → Bool
is_range a n = (a % 4096 == 0) && nat_le (a + n) (2 ^ 32)

-- munmap(a, n): the pages that the range touches are unmapped
unfoldable pub munmap : Guest → Caller → Option (Effect × Guest)
munmap g c =
    needs (is_range (argument 0 c) (argument 1 c) && not (argument 1 c == 0)) einval g c
    (answers (with_memory g (unmap_at g.mem (argument 0 c) (page_end (argument 1 c)))) c 0)

-- mprotect(a, n, prot): the pages that the range touches, all of them mapped, get the permission
unfoldable pub mprotect : Guest → Caller → Option (Effect × Guest)
mprotect g c =
    needs (is_range (argument 0 c) (argument 1 c)) einval g c
    (needs (pages_mapped g.mem (argument 0 c) (pages_for (argument 1 c))) enomem g c
    (answers (with_memory g (protect_at g.mem (argument 0 c) (page_end (argument 1 c)) (argument 2 c % 8))) c 0))

-- ---- new mappings

-- the least of the n numbers from start on that passes a test
unfoldable pub least : (ℕ → Bool) → ℕ → ℕ → Option ℕ
least test start zero = None
least test start (suc n) = if test start then Some start else least test (start + 1) n

-- whether none of the n pages from this one on is mapped, pages by their numbers
unfoldable pub is_free : Memory → ℕ → ℕ → Bool
is_free m page zero = true
is_free m page (suc n) = not (page_mapped m (page * 4096)) && is_free m (page + 1) n

-- the lowest page from 0x40000000 on where n pages are free that end at most at 0x7f000000
unfoldable pub lowest_free : Memory → ℕ → Option ℕ
lowest_free m n = least (λ page. nat_le (page + n) 0x7f000 && is_free m page n) 0x40000 0x3f000

abbrev pub mapped_at : Guest → Caller → ℕ → Memory
mapped_at g c page = zero_range g.mem (page * 4096) (page_end (argument 1 c)) (argument 2 c % 8)

abbrev pub maps : Guest → Caller → Option ℕ → Option (Effect × Guest)
maps g c None = refuses g c enomem
maps g c (Some page) =
    if too_many (mapped_at g c page) then refuses g c enomem
    else answers (with_memory g (mapped_at g c page)) c (page * 4096)

-- mmap(a, n, prot, flags, fd, off): the lowest free range of whole pages is mapped as zeros, where the flags are private
-- (0x02) and anonymous (0x20), and neither shared (0x01) nor fixed (0x10)
unfoldable pub mmap : Guest → Caller → Option (Effect × Guest)
mmap g c =
    if bit_and (argument 3 c) 0x33 == 0x22
    then (if argument 1 c == 0 then refuses g c einval else maps g c (lowest_free g.mem (pages_for (argument 1 c))))
    else None
