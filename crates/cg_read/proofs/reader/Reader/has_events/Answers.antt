use Rattle.std.proofs.Common.{◌∙◌, sym, ap, is_some}
use Rattle.cg_read.proofs.KnowingLemmas.{is_some-map}
use Rattle.cg_read.proofs.reader.Reader.has_events.Goals as goal

pub returns : goal.returns
returns c = λ before k. c.is_some.ensures ∙ sym (is_some-map _ _) ∙ ap is_some k.rows.names
