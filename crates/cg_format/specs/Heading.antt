-- The lines that a part begins with (Valgrind manual, Callgrind Format Specification, version 1: header lines).
use Rattle.std.specs.Prelude.{ℕ, ◌++◌, List, [], ◌∷◌, codes, decimal}
use Rattle.cache_lru.specs.Shape.{Shape}
use Rattle.event_costs.specs.Costs.{event_names, events_shown}
use Rattle.byte_text.specs.Names.{clean_name}
use Rattle.cg_format.specs.declared.trigger.Trigger.{Trigger}
use Rattle.cg_format.specs.declared.trigger.Trigger.TheVariants.{Every, Before, After, Termination}
use Rattle.cg_format.specs.Marks.{cost_text, words_text}
use Rattle.cg_format.specs.declared.head.PartHead.{PartHead}

-- a cache's size, line length and associativity
abbrev pub cache_text : List ℕ → Shape → List ℕ
cache_text name shape =
    name ++ codes " cache: " ++ decimal shape.size ++ codes " B, " ++ decimal shape.line ++ codes " B, "
    ++ decimal shape.assoc ++ codes "-way associative"

-- why the part ends
abbrev pub trigger_text : Trigger → List ℕ
trigger_text (Every steps) = codes "--dump-every=" ++ decimal steps
trigger_text (Before name) = codes "--dump-before=" ++ clean_name name
trigger_text (After name) = codes "--dump-after=" ++ clean_name name
trigger_text Termination = codes "Program termination"

-- the format, the part and the command
abbrev pub identity_lines : PartHead → List (List ℕ)
identity_lines head =
    codes "# callgrind format"
    ∷ codes "version: 1"
    ∷ codes "creator: cgprof-1"
    ∷ codes "pid: 1"
    ∷ (codes "thread: " ++ decimal head.thread.0)
    ∷ (codes "part: " ++ decimal head.part)
    ∷ (codes "cmd: " ++ clean_name head.cmd)
    ∷ []

-- the caches, and why the part ends
abbrev pub description_lines : PartHead → List (List ℕ)
description_lines head =
    (codes "desc: " ++ cache_text (codes "I1") head.i1)
    ∷ (codes "desc: " ++ cache_text (codes "D1") head.d1)
    ∷ (codes "desc: " ++ cache_text (codes "LL") head.ll)
    ∷ (codes "desc: Trigger: " ++ trigger_text head.trigger)
    ∷ []

-- the events shown, and the sum of the line rows
abbrev pub summary_lines : PartHead → List ℕ → List (List ℕ)
summary_lines head sum =
    (codes "events:" ++ words_text (events_shown head.branch event_names))
    ∷ (codes "summary:" ++ cost_text (events_shown head.branch sum))
    ∷ []

-- the lines before the first function, where the line rows have this sum
abbrev pub heading : PartHead → List ℕ → List (List ℕ)
heading head sum = identity_lines head ++ description_lines head ++ codes "positions: line" ∷ summary_lines head sum

-- the object, the program's name
abbrev pub object_line : PartHead → List ℕ
object_line head = codes "ob=(1) " ++ clean_name head.object

-- the last line
abbrev pub totals : PartHead → List ℕ → List ℕ
totals head sum = codes "totals:" ++ cost_text (events_shown head.branch sum)
