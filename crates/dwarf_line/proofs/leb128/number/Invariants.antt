use Rattle.std.proofs.Common.{◌≡◌, ◌<◌, ◌^◌, drop}
use Rattle.dwarf_line.specs.Leb128.{number_of}
use Rattle.dwarf_line.proofs.leb128.number.Given as goal

abbrev pub invariant-digits : goal.invariant-digits
invariant-digits l = record { so_far : l.number ≡ number_of l.flipped (drop l.i l.groups); fits : l.number < 2 ^ 64 }
