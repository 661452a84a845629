use mathlib.Core.Bool.{beq}
use Rattle.std.proofs.Common.{◌≡◌, Bool, true, false, refl}
use Rattle.shadow_stack.specs.Arenas.{bit, same}
use Rattle.shadow_stack.proofs.arena.same_bit.Goals as goal

alike : (x y : Bool) → beq x y ≡ same x y
alike true true = refl
alike true false = refl
alike false true = refl
alike false false = refl

pub returns : goal.returns
returns c = alike (bit c.args.level c.args.a.0) (bit c.args.level c.args.b.0)
