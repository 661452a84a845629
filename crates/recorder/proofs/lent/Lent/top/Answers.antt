use Rattle.std.proofs.Common.{◌≡◌, List, [], ◌∷◌, Some, None, Option, IsNone, ap, sym, ◌∙◌, refl}
use Rattle.shadow_stack.specs.Frames.{stack}
use Rattle.shadow_stack.specs.Stacks.{top_of}
use Rattle.shadow_stack.specs.declared.frame.Frame.{Frame}
use Rattle.event_costs.specs.declared.numbers.FuncId.{FuncId}
use Rattle.recorder.specs.Accounts.{account, Ledger}
use Rattle.recorder.specs.Lending.{recording, thread_of}
use Rattle.recorder.proofs.RecordingLemmas as recordings
use Rattle.recorder.proofs.lent.Lent.top.Goals as goal

pub returns-clause-top : goal.returns-clause-top
returns-clause-top c =
    let r = c.args.self.now.recorder.now in
    let here = recordings.ledger_there r c.args.self.now.thread c.args.self.now.place c.args.self.now.at in
    c.top_at.ensures ∙ ap (λ (k : Ledger). top_of (stack k.account.frames)) (sym here)

empty_top : (fs : List Frame) → top_of (stack fs) ≡ None → fs ≡ []
empty_top [] none = refl
empty_top (f ∷ fs) none = absurd (cc)

is_none : (o : Option FuncId) → IsNone o → o ≡ None
is_none None none = refl
is_none (Some func) none = absurd (cc)

none_is : (o : Option FuncId) → o ≡ None → IsNone o
none_is None none = refl
none_is (Some func) none = absurd (cc)

pub returns-clause-none : goal.returns-clause-none
returns-clause-none c = (
  (λ none. empty_top (account (recording c.args.self.now) (thread_of c.args.self.now)).frames
      (sym (returns-clause-top c) ∙ is_none c.top_at.result none)),
  (λ none. none_is c.top_at.result (returns-clause-top c ∙ ap (λ (fs : List Frame). top_of (stack fs)) none)),
)
