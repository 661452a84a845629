-- The numbers of the system calls, after Linux's for 32-bit RISC-V, each with its row.
use Rattle.std.specs.Prelude.{ℕ, ◌==◌, List, [], ◌∷◌, Option, find}
use Rattle.std.specs.Option.{option_map}
use Rattle.guest_sys.specs.declared.table.Row.{Row}
use Rattle.guest_sys.specs.declared.table.Row.TheVariants as row

abbrev pub call_table : List (ℕ × Row)
call_table =
    (29, row.Ioctl) ∷ (56, row.Absent) ∷ (291, row.Absent) ∷ (57, row.Close) ∷ (62, row.Llseek)
    ∷ (63, row.Read) ∷ (64, row.Write) ∷ (65, row.Readv) ∷ (66, row.Writev)
    ∷ (93, row.Exit) ∷ (94, row.ExitGroup) ∷ (96, row.SetTidAddress) ∷ (98, row.Futex) ∷ (422, row.Futex)
    ∷ (99, row.Accepted) ∷ (134, row.Accepted) ∷ (135, row.Accepted) ∷ (233, row.Accepted)
    ∷ (124, row.SchedYield) ∷ (129, row.Kill) ∷ (130, row.Tkill) ∷ (131, row.Tgkill) ∷ (172, row.Process)
    ∷ (174, row.Accepted) ∷ (175, row.Accepted) ∷ (176, row.Accepted) ∷ (177, row.Accepted) ∷ (178, row.ThreadNumber)
    ∷ (214, row.Brk) ∷ (215, row.Munmap) ∷ (216, row.Mremap) ∷ (220, row.Clone) ∷ (222, row.Mmap) ∷ (226, row.Mprotect)
    ∷ (278, row.Getrandom) ∷ (403, row.ClockGettime) ∷ (435, row.Clone3) ∷ []

-- the row of a number, where the table has it
unfoldable pub row_at : ℕ → Option Row
row_at number = option_map (λ p. p.1) (find (λ p. p.0 == number) call_table)
