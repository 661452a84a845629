-- What the body of a row gives, and what its parts find.
use Rattle.std.specs.Prelude.{◌≡◌, ℕ, ◌*◌, Bool, true, false, min, List, flat_map, map, Option, Some, None, Result, Ok, Err}
use Rattle.std.specs.List.{list_all}
use Rattle.guest_mem.specs.Memory.{Memory, allows_at, may, byte_at}
use Rattle.guest_sys.specs.Vectors.{addresses_from, iovecs_read, iovecs, total}
use Rattle.guest_sys.specs.declared.effect.Effect.{Effect}
use Rattle.guest_sys.specs.declared.effect.SysEnd.{SysEnd}
use Rattle.guest_sys.specs.declared.effect.SysEnd.TheVariants.{Unsupported, OutOfMemory}
use Rattle.guest_sys.specs.declared.vectors.Iovec.{Iovec}
use Rattle.guest_sys.specs.declared.vectors.IovecList.{IovecList}

-- What a body answers and leaves is the row's; or it found no memory where the row takes some, and all is as before.
abbrev pub Gives : {S : Type 0} → Type 0 → Option (Effect × S) → ℕ → S → Result Effect SysEnd → S → Type 0
Gives takes row n old (Ok effect) new = row ≡ Some (effect, new)
Gives takes row n old (Err (Unsupported m)) new = (row ≡ None) × (m ≡ n) × (new ≡ old)
Gives takes row n old (Err (OutOfMemory _)) new = takes × (new ≡ old)

-- the pairs that are read, and how many bytes they move; or one of them isn't readable
abbrev pub IsIovecList : ℕ → Memory → ℕ → ℕ → Option IovecList → Type 0
IsIovecList limit m iov count None = may m 1 iov (8 * iovecs_read limit m iov count) ≡ false
IsIovecList limit m iov count (Some listed) =
    (may m 1 iov (8 * iovecs_read limit m iov count) ≡ true)
    × (listed.iovecs.items ≡ iovecs m iov (iovecs_read limit m iov count))
    × (listed.count ≡ min (total (iovecs m iov (iovecs_read limit m iov count))) limit)

-- the addresses of all ranges, one range after another
abbrev pub addresses_of : List Iovec → List ℕ
addresses_of ss = flat_map (λ s. addresses_from s.addr s.len) ss

-- whether each of these addresses may be used so
abbrev pub each_allowed : Memory → ℕ → List ℕ → Bool
each_allowed m want addrs = list_all (allows_at m want) addrs

-- the bytes at these addresses; or one of them isn't readable
abbrev pub Gathers : Memory → List ℕ → Option (List ℕ) → Type 0
Gathers m addrs None = each_allowed m 1 addrs ≡ false
Gathers m addrs (Some text) = (each_allowed m 1 addrs ≡ true) × (text ≡ map (byte_at m) addrs)
