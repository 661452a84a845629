use Rattle.std.proofs.Common.{◌≡◌, ◌+◌, suc, subst, refl, arith, slice_set}
use Rattle.shadow_stack.specs.declared.frame.Kind.TheVariants.{Jump}
use Rattle.shadow_stack.proofs.TurnLemmas.{all_turns, at_head, IsAt, next_level}
use Rattle.shadow_stack.proofs.arena.Arena.turns.Goals as goal

pub levels-init : goal.levels-init
levels-init c = at_head c.args.self.now.slots c.args.func.0 c.args.head _ c.requires.lies c.requires.some refl

pub levels-preserved : goal.levels-preserved
levels-preserved c =
    let more : suc c.levels.level ≡ c.levels.level + 1 = omega arith in
    subst
    (λ n. IsAt c.args.self.now.slots c.args.func.0 n c.args.head c.step-step.result.next
    (slice_set c.levels.turns c.levels.level c.step-step.result.turn))
    more
    (next_level c.args.self.now.slots c.args.func.0 c.levels.level c.args.head c.levels.at c.levels.turns
    c.step-step.result.turn c.step-step.result.next c.requires.lies c.requires.some c.levels-test.true
    c.levels.invariant c.step-step.ensures)

pub returns : goal.returns
returns c =
    let all : c.levels.level ≡ 8 = omega (arith, c.levels-test.false, c.levels.auto.level-end) in
    all_turns c.args.self.now.slots Jump c.args.func.0 c.args.head c.levels.at c.levels.turns refl
    (subst (λ n. IsAt c.args.self.now.slots c.args.func.0 n c.args.head c.levels.at c.levels.turns) all
    c.levels.invariant)
