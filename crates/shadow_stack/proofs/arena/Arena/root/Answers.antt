use Rattle.std.proofs.Common.{◌∷◌, None, refl, ap, ◌∙◌, List}
use Rattle.shadow_stack.specs.declared.frame.Frame.{Frame}
use Rattle.shadow_stack.specs.declared.frame.Kind.TheVariants.{Root}
use Rattle.shadow_stack.specs.Arenas.{Link, frames_in, is_in, is_in_chain, keys_in}
use Rattle.shadow_stack.proofs.ChainLemmas.{lies_empty, links-none, rooted-alone, leaves_others, true_false}
use Rattle.shadow_stack.proofs.arena.Arena.root.Goals as goal

pub push-requires-clause-lies : goal.push-requires-clause-lies
push-requires-clause-lies c = lies_empty c.args.self.now.slots 0

pub push-requires-clause-rooted : goal.push-requires-clause-rooted
push-requires-clause-rooted c =
    rooted-alone c.args.self.now.slots 0
    (record { func = c.args.func; from = None; kind = Root; start = c.args.total.now }) refl

pub returns-clause-frames : goal.returns-clause-frames
returns-clause-frames c =
    let frame : Frame = record { func = c.args.func; from = None; kind = Root; start = c.args.total.now } in
    c.push.ensures.frames
    ∙ ap (λ (l : List Link). frame ∷ frames_in l)
    (links-none c.args.self.now.slots (record { top = 0; depth = 0 }) refl)

pub returns-clause-apart : goal.returns-clause-apart
returns-clause-apart c = λ other lies.
    leaves_others c.args.self.now.slots c.push.new.self.slots
    (record { top = 0; depth = 0 }) c.push.result c.push.ensures.chain other lies
    (λ key on. absurd (true_false (is_in_chain c.args.self.now.slots (record { top = 0; depth = 0 }) key) on
    (ap (λ (l : List Link). is_in key (keys_in l))
    (links-none c.args.self.now.slots (record { top = 0; depth = 0 }) refl))))
