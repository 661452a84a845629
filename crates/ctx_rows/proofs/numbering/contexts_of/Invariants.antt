use Rattle.std.proofs.Common.{◌≡◌, map, take}
use Rattle.ctx_rows.proofs.numbering.contexts_of.Given as goal

abbrev pub invariant-lists : goal.invariant-lists
invariant-lists l = l.contexts.items ≡ map (λ list. list.items) (take l.list-index l.lists)
