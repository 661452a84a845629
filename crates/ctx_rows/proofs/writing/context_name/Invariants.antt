use Rattle.std.proofs.Common.{◌≡◌, take}
use Rattle.ctx_rows.specs.Texts.{context_name}
use Rattle.ctx_rows.proofs.writing.context_name.Given as goal

abbrev pub invariant-functions : goal.invariant-functions
invariant-functions l = l.text ≡ context_name l.syms (take l.place l.func-items)
