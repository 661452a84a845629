use Rattle.std.proofs.Common.{◌≡◌, sym, ap, ◌∙◌, cond, Some, None}
use Rattle.shadow_stack.specs.declared.frame.Kind.{Kind}
use Rattle.shadow_stack.specs.declared.frame.Kind.TheVariants.{Root, Call, Jump}
use Rattle.shadow_stack.specs.Kinds.{is_jump}
use Rattle.std.proofs.Common.{ℕ, List, true, refl}
use Rattle.shadow_stack.specs.Arenas.{base_beneath, base_in, Link, links, turns_of}
use Rattle.shadow_stack.specs.Entries.{lead_of}
use Rattle.shadow_stack.proofs.arena.Arena.lead_of.Goals as goal

pub returns-then-not-is_jump : goal.returns-then-not-is_jump
returns-then-not-is_jump c =
    let ls = links c.args.self.now.slots c.args.head in
    sym (ap (λ b. cond b
    (Some (record { base = base_beneath c.args.kind ls; turns = turns_of c.args.kind c.args.func.0 ls })) None)
    (sym c.is_jump.ensures ∙ c.if-not-is_jump.true))

of_jump : (kind : Kind) (func : ℕ) (ls : List Link) → is_jump kind ≡ true
    → Some (record { base = (base_in ls).top; turns = turns_of Jump func ls }) ≡ lead_of kind func ls
of_jump Root func ls jumps = absurd (cc (jumps))
of_jump (Call ret sp) func ls jumps = absurd (cc (jumps))
of_jump Jump func ls jumps = refl

pub returns : goal.returns
returns c =
    let ls = links c.args.self.now.slots c.args.head in
    (λ i. Some (record { base = (c.base.ensures i).top; turns = c.turns.ensures i }))
    ∙ of_jump c.args.kind c.args.func.0 ls (sym c.is_jump.ensures ∙ c.if-not-is_jump.false)
