use Rattle.once_each.proofs.SegmentLemmas.{all_pieces, last_piece}
use Rattle.once_each.proofs.segments.pieces_have_the_events_of_their_threads.Goals as goal

pub returns-clause-segments : goal.returns-clause-segments
returns-clause-segments c = all_pieces

pub returns-clause-last : goal.returns-clause-last
returns-clause-last c = last_piece
