use Rattle.std.proofs.Common.{◌++◌, codes, decimal, ap, sym, ◌∙◌}
use Rattle.byte_text.specs.Hex.{hex}
use Rattle.command_status.specs.Lines.{text_of}
use Rattle.command_status.proofs.PushLemmas.{pushed, pushed_two, pushed_three, pushed_four}
use Rattle.command_status.proofs.status.Status.push_text.Goals as goal

pub returns-in-Exited : goal.returns-in-Exited
unfolding text_of
returns-in-Exited c =
    pushed_two _ _ _ _ _ _
    (ap (λ n. codes "exited with " ++ decimal n) c.from.ensures ∙ sym (ap text_of c.in-Exited.is))
    c.push_after.ensures

pub returns-in-LoadFault : goal.returns-in-LoadFault
unfolding text_of
returns-in-LoadFault c = pushed_two _ _ _ _ _ _ (sym (ap text_of c.in-LoadFault.is)) c.push_named.ensures

pub returns-in-Killed : goal.returns-in-Killed
unfolding text_of
returns-in-Killed c =
    pushed_four _ _ _ _ _ _ _ _
    (ap (λ n. codes "killed by signal " ++ decimal n ++ codes " at " ++ hex c.in-Killed.pc) c.from-in-Killed.ensures
    ∙ sym (ap text_of c.in-Killed.is))
    c.push_at.ensures

pub returns-in-UnsupportedCall : goal.returns-in-UnsupportedCall
unfolding text_of
returns-in-UnsupportedCall c =
    pushed_four _ _ _ _ _ _ _ _
    (ap (λ n. codes "unsupported call " ++ decimal n ++ codes " at " ++ hex c.in-UnsupportedCall.pc)
    c.from-in-UnsupportedCall.ensures
    ∙ sym (ap text_of c.in-UnsupportedCall.is))
    c.push_at-in-UnsupportedCall.ensures

pub returns-in-Budget : goal.returns-in-Budget
unfolding text_of
returns-in-Budget c = pushed_three _ _ _ _ _ _ _ (sym (ap text_of c.in-Budget.is)) c.push_between.ensures

pub returns-in-Frames : goal.returns-in-Frames
unfolding text_of
returns-in-Frames c = pushed _ _ _ _ _ (sym (ap text_of c.in-Frames.is)) c.push-in-Frames.ensures.ok

pub returns-in-AllWaiting : goal.returns-in-AllWaiting
unfolding text_of
returns-in-AllWaiting c = pushed _ _ _ _ _ (sym (ap text_of c.in-AllWaiting.is)) c.push-in-AllWaiting.ensures.ok

pub returns-in-GuestFull : goal.returns-in-GuestFull
unfolding text_of
returns-in-GuestFull c = pushed _ _ _ _ _ (sym (ap text_of c.in-GuestFull.is)) c.push-in-GuestFull.ensures.ok
