-- The line that tells the user how a command ended.
use Rattle.std.specs.Prelude.{ℕ, ◌++◌, Bool, true, false, ◌==◌, List, [], ◌∷◌}
use Rattle.std.specs.Prelude.{codes, decimal, map}
use Rattle.byte_text.specs.Names.{clean_name}
use Rattle.elf_read.specs.declared.error.ElfError.{ElfError}
use Rattle.elf_read.specs.declared.error.ElfError.TheVariants as elf
use Rattle.elf_read.specs.declared.error.Field.{Field}
use Rattle.elf_read.specs.declared.error.Field.TheVariants as field
use Rattle.cg_read.specs.declared.error.FormatError.{FormatError}
use Rattle.cg_read.specs.declared.error.FormatError.TheVariants as format
use Rattle.event_costs.specs.declared.outcome.End.TheVariants as end
use Rattle.command_status.specs.Ends.{end_text, line_unless}
use Rattle.command_status.specs.declared.status.Status.{Status}
use Rattle.command_status.specs.declared.status.Status.TheVariants.{Done, Exited, Usage, ElfRefused, LoadFault}
use Rattle.command_status.specs.declared.status.Status.TheVariants.{PutFault, OutFault, TooLong, FormatRefused}
use Rattle.command_status.specs.declared.status.Status.TheVariants.{SumLimit, EventsDiffer, Killed, UnsupportedInstr}
use Rattle.command_status.specs.declared.status.Status.TheVariants.{UnsupportedCall, Budget, Frames, AllWaiting}
use Rattle.command_status.specs.declared.status.Status.TheVariants.{GuestFull, ArgsTooLong, OutOfMemory}

-- ---- why a program's file is refused

unfoldable pub field_name : Field → List ℕ
field_name field.Class = codes "class"
field_name field.ByteOrder = codes "byte order"
field_name field.IdentVersion = codes "ident version"
field_name field.Kind = codes "kind"
field_name field.Machine = codes "machine"
field_name field.Version = codes "version"
field_name field.PhSize = codes "program header size"
field_name field.ShSize = codes "section header size"

unfoldable pub elf_text : ElfError → List ℕ
elf_text (elf.Short len) = codes "short, " ++ decimal len ++ codes " bytes needed"
elf_text elf.NotElf = codes "not elf"
elf_text (elf.NotThisKind field value) = field_name field ++ codes " is " ++ decimal value
elf_text elf.Interp = codes "interpreter"
elf_text (elf.BadSegment index) = codes "bad segment " ++ decimal index
elf_text (elf.Overlap low high) = codes "segments " ++ decimal low ++ codes " and " ++ decimal high ++ codes " overlap"
elf_text elf.NoEntry = codes "no entry"
elf_text (elf.Compressed index) = codes "compressed section " ++ decimal index
elf_text (elf.OutOfMemory _) = codes "out of memory"

-- ---- why a profile is refused

-- the number of a line and what is wrong with it, after the name of the file
unfoldable pub at_line : ℕ → List ℕ → List ℕ
at_line line fault = codes " line " ++ decimal line ++ codes ": " ++ fault

unfoldable pub format_text : FormatError → List ℕ
format_text (format.BadLine line) = at_line line (codes "bad line")
format_text format.NoEvents = codes ": no events"
format_text (format.Jumps line) = at_line line (codes "jumps")
format_text (format.UnknownId line) = at_line line (codes "unknown id")
format_text (format.BadNumber line) = at_line line (codes "bad number")
format_text (format.Instr line) = at_line line (codes "instr positions")
format_text (format.OutOfMemory _) = codes ": out of memory"

-- ---- the line

unfoldable pub usage : List ℕ
usage = codes "usage: run or report [OPTIONS] PROG [ARGS], annotate [OPTIONS] FILES, demo N"

unfoldable pub text_of : Status → List ℕ
text_of Done = []
text_of (Exited code) = end_text (end.Exited code)
text_of Usage = usage
text_of (ElfRefused error) = codes "elf refused: " ++ elf_text error
text_of (LoadFault name) = codes "cannot load " ++ clean_name name
text_of (PutFault name) = codes "cannot write " ++ clean_name name
text_of OutFault = []
text_of (TooLong name len) = codes "too long: " ++ clean_name name ++ codes ", " ++ decimal len ++ codes " bytes"
text_of (FormatRefused name error) = clean_name name ++ format_text error
text_of (SumLimit event) = codes "sum limit: event " ++ decimal event
text_of (EventsDiffer name) = clean_name name ++ codes ": other events"
text_of (Killed signal pc) = end_text (end.Killed signal pc)
text_of (UnsupportedInstr pc word) = end_text (end.UnsupportedInstr pc word)
text_of (UnsupportedCall pc number) = end_text (end.UnsupportedCall pc number)
text_of (Budget steps) = end_text (end.Budget steps)
text_of Frames = end_text end.Frames
text_of AllWaiting = end_text end.AllWaiting
text_of GuestFull = codes "guest memory full"
text_of (ArgsTooLong len) = codes "arguments too long: " ++ decimal len ++ codes " bytes"
text_of (OutOfMemory _) = codes "out of memory"

-- Nothing is said of what went well, nor of output that can't be written.
abbrev pub is_silent : Status → Bool
is_silent Done = true
is_silent (Exited code) = code == 0
is_silent OutFault = true
is_silent _ = false

unfoldable pub message_of : Status → List ℕ
message_of status = line_unless (is_silent status) (text_of status)
