use Rattle.std.proofs.Common.{◌≡◌, ◌≤◌, ℕ, List, length, take, drop}
use Rattle.outside.specs.Journal.{TellsMore, Wrote}
use Rattle.outside.specs.Write.{taken_more}
use Rattle.outside.proofs.JournalLemmas.{AreTaken}
use Rattle.outside.proofs.sink.write_all.Given as goal

abbrev pub invariant-pieces : goal.invariant-pieces
invariant-pieces g l = record {
  place : (count : ℕ) × (count ≤ length l.bytes) × (l.rest ≡ drop count l.bytes)
      × (g.S.Sink.taken l.sink ≡ taken_more (g.S.Sink.taken l.fn.sink) (take count l.bytes));
  same : g.S.Sink.faults l.sink ≡ g.S.Sink.faults l.fn.sink;
  told : (writes : List Wrote) × AreTaken l.bytes writes l.rest
      × TellsMore (g.S.Sink.writes l.fn.sink) writes (g.S.Sink.writes l.sink);
}

abbrev pub decreases-pieces : goal.decreases-pieces
decreases-pieces g l = length l.rest
