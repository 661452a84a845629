use Rattle.std.proofs.lemmas.Bool.{false≢true}
use Rattle.command_words.proofs.GeometryLemmas.{default_first-IsGeometry}
use Rattle.command_words.proofs.job.default_first.Goals as goal

pub unreachable-requires : goal.unreachable-requires
unreachable-requires c = false≢true (c.in-None.ensures.accepted.1 default_first-IsGeometry)
