-- readv and writev: a list of iovecs in memory, each an address and a length, names the ranges of bytes that a call
-- moves.
use Rattle.std.specs.Prelude.{ℕ, zero, suc, ◌+◌, ◌*◌, ◌%◌, ◌^◌, ◌==◌, nat_lt, min, List, [], ◌∷◌, ◌++◌, flat_map, map}
use Rattle.std.specs.Prelude.{take, if◌then◌else◌, Option}
use Rattle.std.specs.List.{list_all}
use Rattle.guest_mem.specs.Memory.{Memory, allows_at, may, byte_at, bytes_at, number_of, write_at, count_below}
use Rattle.guest_load.specs.Guest.{Guest}
use Rattle.guest_sys.specs.Common.{argument, does, answers, refuses, ebadf, efault, einval, needs}
use Rattle.guest_sys.specs.Streams.{input_left, input_left_len, consume_input, is_output, write_limit}
use Rattle.guest_sys.specs.declared.caller.Caller.{Caller}
use Rattle.guest_sys.specs.declared.effect.Act.TheVariants as act
use Rattle.guest_sys.specs.declared.effect.Effect.{Effect}
use Rattle.guest_sys.specs.declared.vectors.Iovec.{Iovec}

-- the iovec at an address: two words
abbrev pub iovec_at : Memory → ℕ → Iovec
iovec_at m a = record { addr = number_of (bytes_at m a 4); len = number_of (bytes_at m (a + 4) 4) }

-- the first n iovecs from iov on
unfoldable pub iovecs : Memory → ℕ → ℕ → List Iovec
iovecs m iov zero = []
iovecs m iov (suc n) = iovecs m iov n ++ iovec_at m (iov + 8 * n) ∷ []

-- the sum of their lengths
abbrev pub total : List Iovec → ℕ
total [] = 0
total (s ∷ ss) = s.len + total ss

-- the n numbers from a on
unfoldable pub addresses_from : ℕ → ℕ → List ℕ
addresses_from a zero = []
addresses_from a (suc n) = a ∷ addresses_from (a + 1) n

-- how many iovecs are read, of count: each where the lengths before it don't sum up to the limit yet
unfoldable pub iovecs_read : ℕ → Memory → ℕ → ℕ → ℕ
iovecs_read limit m iov count = count_below (λ i. nat_lt (total (iovecs m iov i)) limit) count

-- the memory once each byte is at its address; where an address comes twice, the later byte stays
abbrev pub put_each : Memory → List ℕ → List ℕ → Memory
put_each m (a ∷ addrs) (b ∷ bytes) = put_each (write_at m a (b ∷ [])) addrs bytes
put_each m _ _ = m

-- The iovecs of a call that moves at most so many bytes, how many bytes it moves, and from or to where.

abbrev pub iovec_count : ℕ → Guest → Caller → ℕ
iovec_count limit g c = iovecs_read limit g.mem (argument 1 c) (argument 2 c)

abbrev pub call_iovecs : ℕ → Guest → Caller → List Iovec
call_iovecs limit g c = iovecs g.mem (argument 1 c) (iovec_count limit g c)

abbrev pub moved_count : ℕ → Guest → Caller → ℕ
moved_count limit g c = min (total (call_iovecs limit g c)) limit

abbrev pub moved_addresses : ℕ → Guest → Caller → List ℕ
moved_addresses limit g c =
    take (moved_count limit g c) (flat_map (λ s. addresses_from s.addr s.len) (call_iovecs limit g c))

-- the row once its descriptor is right: there are at most 1024 iovecs, those that are read are readable, and each of the
-- bytes that move may be used so
abbrev pub vector_effect : ℕ → ℕ → Guest → Caller → Option (Effect × Guest) → Option (Effect × Guest)
vector_effect limit want g c row =
    if nat_lt 1024 (argument 2 c) then refuses g c einval
    else needs (may g.mem 1 (argument 1 c) (8 * iovec_count limit g c)) efault g c
    (needs (list_all (allows_at g.mem want) (moved_addresses limit g c)) efault g c row)

-- readv(fd, iov, count): the next bytes of the input go to the ranges. A register holds the answer modulo 2 ^ 32
unfoldable pub readv : Guest → Caller → Option (Effect × Guest)
readv g c =
    needs (argument 0 c == 0) ebadf g c (vector_effect (input_left_len g) 2 g c
    (answers
    (consume_input g (moved_count (input_left_len g) g c)
    (put_each g.mem (moved_addresses (input_left_len g) g c) (take (moved_count (input_left_len g) g c) (input_left g)))) c
    (moved_count (input_left_len g) g c % 2 ^ 32)))

-- writev(fd, iov, count): the bytes of the ranges are output
unfoldable pub writev : Guest → Caller → Option (Effect × Guest)
writev g c =
    needs (is_output (argument 0 c)) ebadf g c (vector_effect write_limit 1 g c
    (does g c (act.Output (argument 0 c) (map (byte_at g.mem) (moved_addresses write_limit g c)))
    (moved_count write_limit g c)))
