use Rattle.cg_read.proofs.NumberLemmas.{draft_call}
use Rattle.cg_read.proofs.draft.Draft.call_row.Goals as goal

pub returns : goal.returns
returns c = λ texts n selfs others caller callee file was width is_caller is_callee there.
    draft_call texts n _ c.number.new.self _ _ _ _ _ _ _ _ c.args.caller c.args.callee c.args.file caller callee file _
    c.in_ok-caller.ensures.keys c.in_ok-caller.ensures.number c.in_ok-callee.ensures.keys c.in_ok-callee.ensures.number
    c.in_ok-file.ensures.keys c.in_ok-file.ensures.number c.in_ok-push.ensures.items was width is_caller is_callee there
