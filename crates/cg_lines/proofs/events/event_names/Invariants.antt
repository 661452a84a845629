use Rattle.std.proofs.Common.{◌≡◌, ◌≤◌, ◌++◌, vec_len}
use Rattle.cg_lines.specs.Lines.{words}
use Rattle.cg_lines.specs.Names.{most_events}
use Rattle.cg_lines.proofs.events.event_names.Given as goal

abbrev pub invariant-words : goal.invariant-words
invariant-words l = record {
  can : (goal.iterator-words).can_next l.word-iterator;
  ends : (goal.iterator-words).is_finite l.word-iterator;
  seen : words l.text ≡ l.names.items ++ l.word-iterator;
  few : vec_len l.names ≤ most_events;
}
