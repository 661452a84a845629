use Rattle.cg_read.proofs.NumberLemmas.{draft_self}
use Rattle.cg_read.proofs.draft.Draft.self_row.Goals as goal

pub returns : goal.returns
returns c = λ texts n selfs calls function file was width is there.
    draft_self texts n _ _ _ _ _ _ _ _ _ c.args.function c.args.file function file _ c.in_ok-func.ensures.keys
    c.in_ok-func.ensures.number c.in_ok-file.ensures.keys c.in_ok-file.ensures.number c.in_ok-push.ensures.items was
    width is there
