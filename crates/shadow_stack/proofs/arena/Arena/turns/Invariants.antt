use Rattle.shadow_stack.proofs.TurnLemmas.{IsAt}
use Rattle.shadow_stack.proofs.arena.Arena.turns.Given as goal

-- the turns of the levels so far, and the highest frame that agrees at them
abbrev pub invariant-levels : goal.invariant-levels
invariant-levels l = IsAt l.self.slots l.func.0 l.level l.fn.head l.at l.turns
