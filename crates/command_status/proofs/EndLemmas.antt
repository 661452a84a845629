-- What is told of the status of an end is what is told of the end.
use Rattle.std.proofs.Common.{◌≡◌, refl}
use Rattle.event_costs.specs.declared.outcome.End.{End}
use Rattle.event_costs.specs.declared.outcome.End.TheVariants as end
use Rattle.command_status.specs.Ends.{end_line, end_status}
use Rattle.command_status.specs.Lines.{message_of, text_of}

pub message_of-end : (e : End) → message_of (end_status e) ≡ end_line e
unfolding message_of text_of end_line
message_of-end (end.Exited code) = refl
message_of-end (end.Killed signal pc) = refl
message_of-end (end.UnsupportedInstr pc word) = refl
message_of-end (end.UnsupportedCall pc number) = refl
message_of-end (end.Budget steps) = refl
message_of-end end.Frames = refl
message_of-end end.AllWaiting = refl
