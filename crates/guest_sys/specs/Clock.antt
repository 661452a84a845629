-- The clock, which counts steps as nanoseconds, and the random bytes, which are the same for every run.
use Rattle.std.specs.Prelude.{ℕ, ◌/◌, ◌%◌, ◌^◌, ◌++◌, List, min, Option}
use Rattle.guest_mem.specs.Memory.{may, store_at, bytes_of}
use Rattle.guest_load.specs.Guest.{Guest}
use Rattle.guest_sys.specs.Common.{argument, answers, efault, needs}
use Rattle.guest_sys.specs.Pages.{with_memory}
use Rattle.guest_sys.specs.Vectors.{addresses_from}
use Rattle.guest_sys.specs.declared.caller.Caller.{Caller}
use Rattle.guest_sys.specs.declared.effect.Effect.{Effect}

-- seconds and nanoseconds, 64 bits each
abbrev pub time_of : ℕ → List ℕ
time_of steps = bytes_of 8 (steps / 10 ^ 9) ++ bytes_of 8 (steps % 10 ^ 9)

-- clock_gettime64(id, p): the time goes to p
unfoldable pub clock_gettime : Guest → Caller → Option (Effect × Guest)
clock_gettime g c =
    needs (may g.mem 2 (argument 1 c) 16) efault g c
    (answers (with_memory g (store_at g.mem (argument 1 c) (time_of g.steps))) c 0)

abbrev pub random_count : Caller → ℕ
random_count c = min (argument 1 c) 256

-- getrandom(buf, n, flags): the bytes 0, 1, 2 and so on, at most 256, go to buf
unfoldable pub getrandom : Guest → Caller → Option (Effect × Guest)
getrandom g c =
    needs (may g.mem 2 (argument 0 c) (random_count c)) efault g c
    (answers (with_memory g (store_at g.mem (argument 0 c) (addresses_from 0 (random_count c)))) c (random_count c))
