use Rattle.std.proofs.Common.{◌≡◌, codes}
use Rattle.cg_lines.specs.Lines.{words}
use Rattle.cg_lines.specs.Names.{has_text}
use Rattle.cg_lines.proofs.positions.names_instr.Given as goal

abbrev pub invariant-words : goal.invariant-words
invariant-words l = record {
  can : (goal.iterator-words).can_next l.word-iterator;
  ends : (goal.iterator-words).is_finite l.word-iterator;
  rest : has_text (words l.text) (codes "instr") ≡ has_text l.word-iterator (codes "instr");
}
