use Rattle.std.proofs.Common.{◌++◌, get_or, ap, ◌∙◌, arith}
use Rattle.wait_report.specs.Texts.{waker_text}
use Rattle.wait_report.specs.declared.rows.Waker.{Waker}
use Rattle.wait_report.proofs.TextLemmas.{flat_more}
use Rattle.wait_report.proofs.writing.push_wakers.Goals as goal

abbrev nobody : Waker
nobody = record { thread = record { 0 = 0 }; times = 0 }

pub wakers-preserved : goal.wakers-preserved
wakers-preserved c =
    let wakers = c.args.wakers.now in
    let i = c.wakers.waker-index in
    c.in_ok-push_waker.ensures ∙ ap (λ t. t ++ waker_text (get_or wakers i nobody)) c.wakers.invariant
    ∙ flat_more waker_text c.args.text.now wakers i nobody (omega arith)
