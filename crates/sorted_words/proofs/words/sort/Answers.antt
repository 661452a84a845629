use Rattle.std.proofs.Common.{◌∙◌}
use Rattle.sorted_words.proofs.SortLemmas.{gave_up, took}
use Rattle.sorted_words.proofs.words.sort.Goals as goal

pub returns-in-Ok : goal.returns-in-Ok
returns-in-Ok c =
    rw c.behind_command.ensures
    (took c.args.commands.now c.args.words.now _ _ c.requires c.in_ok-program.ensures c.in-Ok.ensures.kinds
    (λ simple. (c.in-Ok.ensures.matches simple).1))

pub returns : goal.returns
returns c =
    gave_up c.args.commands.now c.args.words.now _ c.in-Err.error c.requires c.in_ok-program.ensures
    c.in-Err.ensures.kinds
    (λ memory. c.in_default.not-OutOfMemory (c.kind.ensures ∙ memory))
