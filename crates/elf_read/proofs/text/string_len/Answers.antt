use Rattle.std.proofs.Common.{length, ap, ◌∙◌}
use Rattle.std.specs.Option.{unwrap_or}
use Rattle.elf_read.proofs.StringLemmas.{first_zero-is}
use Rattle.elf_read.proofs.text.string_len.Goals as goal

pub returns-clause-length : goal.returns-clause-length
returns-clause-length c =
    c.unwrap_or.ensures ∙ ap (λ o. unwrap_or o (length c.args.bytes.now)) c.first_zero.ensures
    ∙ first_zero-is c.args.bytes.now
