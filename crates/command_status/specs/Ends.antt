-- The status of a run that came to its end, and the line on it.
use Rattle.std.specs.Prelude.{ℕ, ◌++◌, Bool, false, if◌then◌else◌, ◌==◌, List, [], ◌∷◌, codes, decimal}
use Rattle.byte_text.specs.Hex.{hex}
use Rattle.event_costs.specs.declared.outcome.End.{End}
use Rattle.event_costs.specs.declared.outcome.End.TheVariants as end
use Rattle.command_status.specs.declared.status.Status.{Status}
use Rattle.command_status.specs.declared.status.Status.TheVariants.{Exited, Killed, UnsupportedInstr, UnsupportedCall}
use Rattle.command_status.specs.declared.status.Status.TheVariants.{Budget, Frames, AllWaiting}

abbrev pub end_status : End → Status
end_status (end.Exited code) = Exited code
end_status (end.Killed signal pc) = Killed signal pc
end_status (end.UnsupportedInstr pc word) = UnsupportedInstr pc word
end_status (end.UnsupportedCall pc number) = UnsupportedCall pc number
end_status (end.Budget steps) = Budget steps
end_status end.Frames = Frames
end_status end.AllWaiting = AllWaiting

-- what is told of it
abbrev pub end_text : End → List ℕ
end_text (end.Exited code) = codes "exited with " ++ decimal code
end_text (end.Killed signal pc) = codes "killed by signal " ++ decimal signal ++ codes " at " ++ hex pc
end_text (end.UnsupportedInstr pc word) = codes "unsupported instruction " ++ hex word ++ codes " at " ++ hex pc
end_text (end.UnsupportedCall pc number) = codes "unsupported call " ++ decimal number ++ codes " at " ++ hex pc
end_text (end.Budget steps) = codes "budget of " ++ decimal steps ++ codes " steps spent"
end_text end.Frames = codes "4194304 frames are live"
end_text end.AllWaiting = codes "all threads wait"

-- nothing is told of an exit with 0
abbrev pub is_silent_end : End → Bool
is_silent_end (end.Exited code) = code == 0
is_silent_end _ = false

-- the program's name, the text and a line feed; or nothing
abbrev pub line_unless : Bool → List ℕ → List ℕ
line_unless silent text = if silent then [] else codes "cgprof: " ++ text ++ codes "\n"

unfoldable pub end_line : End → List ℕ
end_line stop = line_unless (is_silent_end stop) (end_text stop)
