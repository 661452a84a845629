use Rattle.std.proofs.Common.{◌≡◌, ℕ, ◌≤◌, ◌+◌, List, [], ◌∷◌, get_or, set, subst, arith}
use Rattle.std.specs.List.{AllZip}
use Rattle.shadow_stack.proofs.FrameLemmas.{covers_itself}
use Rattle.cases_counting.proofs.walk.raise.Goals as goal

covers_raised : (ns : List ℕ) (y : ℕ) → get_or ns 0 0 ≤ y → AllZip (λ t s. s ≤ t) (set ns 0 y) ns
covers_raised [] y more = tt
covers_raised (n ∷ ns) y more = (more, covers_itself ns)

pub returns-then-instructions : goal.returns-then-instructions
returns-then-instructions c = covers_itself c.args.total.now

pub returns : goal.returns
returns c =
    subst (λ (total : List ℕ). AllZip (λ t s. s ≤ t)
    (set c.more.inside.n 0 (get_or c.more.inside.n 0 0 + 1)) total) c.more.view_is
    (covers_raised c.more.inside.n (get_or c.more.inside.n 0 0 + 1) (omega arith))
