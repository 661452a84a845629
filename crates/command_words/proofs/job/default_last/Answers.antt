use Rattle.std.proofs.lemmas.Bool.{false≢true}
use Rattle.command_words.proofs.GeometryLemmas.{default_last-IsGeometry}
use Rattle.command_words.proofs.job.default_last.Goals as goal

pub unreachable-requires : goal.unreachable-requires
unreachable-requires c = false≢true (c.in-None.ensures.accepted.1 default_last-IsGeometry)
