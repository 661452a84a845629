use Rattle.std.proofs.Common.{OnOk, sym, subst, refl, ◌∙◌}
use Rattle.recorder.specs.Accounts.{Recording}
use Rattle.recorder.specs.Notes.{first_account}
use Rattle.profile_run.proofs.Others.{if_one}
use Rattle.profile_run.specs.inner.Standing.{Prepares}
use Rattle.profile_run.proofs.BeginLemmas.{prepares_new}
use Rattle.profile_run.proofs.counting.prepare_cold.Goals as goal

pub returns : goal.returns
returns c =
    let old = c.in_ok-start.ensures in
    let new = c.ready-2.ensures in
    subst (λ (r : Recording). OnOk c.ready-2.result
    (Prepares c.args.syms.now c.args.thread c.args.pc r c.ready-2.new.self)) c.remember.ensures.same
    (if_one c.ready-2.result new.ready
    (λ ready. prepares_new c.args.syms.now c.args.thread c.args.pc c.remember.new.self c.start.new.self
    c.ready-2.new.self (sym c.knows.ensures ∙ c.if-knows.false)
    (record { account = first_account c.args.syms.now c.args.thread c.args.pc; line_room = 1; arc_room = 1 }) refl
    old.threads old.account old.others old.known new.accounts new.known new.live ready))
