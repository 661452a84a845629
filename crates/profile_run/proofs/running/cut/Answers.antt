use Rattle.std.proofs.Common.{sym, ◌∙◌, inl, inr}
use Rattle.std.proofs.Common.{arith}
use Rattle.profile_run.proofs.CutStepLemmas as step
use Rattle.profile_run.proofs.running.cut.Goals as goal
use Rattle.profile_run.proofs.Others.{none_of}

pub returns-then-begun-gt-MOST_CUTS-clause-cuts : goal.returns-then-begun-gt-MOST_CUTS-clause-cuts
returns-then-begun-gt-MOST_CUTS-clause-cuts g c = λ guest first past last old symbols options rule uncut put.
    let m = g.W.Watch.meaning in
    step.goes_on m uncut (step.put_as m uncut options put) (inr (step.full m uncut c.if-begun-gt-MOST_CUTS.true))

pub returns-then-not-due-clause-cuts : goal.returns-then-not-due-clause-cuts
returns-then-not-due-clause-cuts g c = λ guest first past last old symbols options rule uncut put.
    let m = g.W.Watch.meaning in
    let due = c.due.ensures.cut _ _ last.step.on_stack rule (step.noted_is m uncut symbols) in
    let none = none_of _ (sym due ∙ c.if-not-due.true) in
    step.goes_on m uncut (step.put_as m uncut options put)
    (inl (step.cut_is m uncut symbols options c.steps-steps.result c.steps-steps.ensures ∙ none))

pub cut_shell-requires-clause-few : goal.cut_shell-requires-clause-few
cut_shell-requires-clause-few g c = omega (arith, c.if-begun-gt-MOST_CUTS.false)

pub cut_shell-requires-clause-made : goal.cut_shell-requires-clause-made
cut_shell-requires-clause-made g c = c.steps-steps.ensures

pub cut_shell-requires-clause-due : goal.cut_shell-requires-clause-due
cut_shell-requires-clause-due g c = sym c.due.ensures.due ∙ c.if-not-due.false

pub cut_shell-requires-clause-cut : goal.cut_shell-requires-clause-cut
cut_shell-requires-clause-cut g c = λ syms asked x rule noted.
    sym (c.due.ensures.cut syms asked x rule noted) ∙ c.if-not-due.false

pub returns-clause-cuts : goal.returns-clause-cuts
returns-clause-cuts g c = c.cut_shell.ensures.cuts
