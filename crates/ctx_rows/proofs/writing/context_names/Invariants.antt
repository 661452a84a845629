use Rattle.std.proofs.Common.{◌≡◌, map, take}
use Rattle.ctx_rows.specs.Texts.{context_name}
use Rattle.ctx_rows.proofs.writing.context_names.Given as goal

abbrev pub invariant-contexts : goal.invariant-contexts
invariant-contexts l = l.names.items ≡ map (context_name l.syms) (take l.context-index l.contexts)
