-- read and write: the input is descriptor 0, the output 1 and 2.
use Rattle.std.specs.Prelude.{ℕ, ◌+◌, ◌-◌, ◌==◌, ◌||◌, Bool, min, List, length, take, drop, Option}
use Rattle.guest_mem.specs.Memory.{Memory, may, bytes_at, store_at}
use Rattle.guest_load.specs.Guest.{Guest}
use Rattle.guest_sys.specs.Common.{argument, does, answers, ebadf, efault, needs}
use Rattle.guest_sys.specs.declared.caller.Caller.{Caller}
use Rattle.guest_sys.specs.declared.effect.Act.TheVariants as act
use Rattle.guest_sys.specs.declared.effect.Effect.{Effect}

-- the input that is left
abbrev pub input_left : Guest → List ℕ
input_left g = drop g.place g.input

abbrev pub input_left_len : Guest → ℕ
input_left_len g = length g.input - g.place

-- the guest once k bytes of its input are in memory
abbrev pub consume_input : Guest → ℕ → Memory → Guest
consume_input g k mem = record g { mem = mem; place = g.place + k }

abbrev pub read_count : Guest → Caller → ℕ
read_count g c = min (argument 2 c) (input_left_len g)

-- read(fd, buf, n): the next bytes of the input, at most n, go to buf
unfoldable pub read : Guest → Caller → Option (Effect × Guest)
read g c =
    needs (argument 0 c == 0) ebadf g c (needs (may g.mem 2 (argument 1 c) (read_count g c)) efault g c
    (answers (consume_input g (read_count g c) (store_at g.mem (argument 1 c) (take (read_count g c) (input_left g)))) c
    (read_count g c)))

abbrev pub is_output : ℕ → Bool
is_output fd = (fd == 1) || (fd == 2)

-- one call writes at most so many bytes
abbrev pub write_limit : ℕ
write_limit = 1048576

abbrev pub write_count : Caller → ℕ
write_count c = min (argument 2 c) write_limit

-- write(fd, buf, n): the bytes from buf on, at most n, are output
unfoldable pub write : Guest → Caller → Option (Effect × Guest)
write g c =
    needs (is_output (argument 0 c)) ebadf g c (needs (may g.mem 1 (argument 1 c) (write_count c)) efault g c
    (does g c (act.Output (argument 0 c) (bytes_at g.mem (argument 1 c) (write_count c))) (write_count c)))
