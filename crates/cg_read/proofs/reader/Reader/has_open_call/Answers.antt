use Rattle.std.proofs.Common.{◌∙◌, sym}
use Rattle.cg_read.specs.Meaning.{open_call}
use Rattle.cg_read.proofs.TextLemmas.{opens_some}
use Rattle.cg_read.proofs.reader.Reader.has_open_call.Goals as goal

pub returns : goal.returns
returns c = λ before k.
    c.is_some.ensures ∙ sym (opens_some c.args.self.now.texts c.args.self.now.open_call (open_call before) k.open_call)
