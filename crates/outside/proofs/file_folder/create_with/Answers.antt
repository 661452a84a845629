use Rattle.std.proofs.Common.{◌+◌}
use Rattle.outside.proofs.PutLemmas.{written_more, written_refused}
use Rattle.outside.proofs.WriteLemmas.{count_within, rest_of_rest}
use Rattle.outside.proofs.file_folder.create_with.Goals as goal

pub returns-in_err-count-clause-written : goal.returns-in_err-count-clause-written
returns-in_err-count-clause-written g c =
    let place = c.pieces.invariant in
    written_refused (g.C.FileCalls.disk c.args.calls.now) (g.C.FileCalls.disk c.pieces.calls)
    (g.C.FileCalls.disk c.write.new.self) c.args.name.now c.args.bytes.now _ c.pieces.rest.now
    (g.C.FileCalls.open_file c.pieces.file) (g.C.FileCalls.open_file c.write.new.file) c.in_err-count.field-0.0
    c.from_residual-in_err-count.result c.from_residual-in_err-count.ensures.1 place.3 c.in_err-count.ensures.writes

pub pieces-preserved : goal.pieces-preserved
pieces-preserved g c =
    let place = c.pieces.invariant in
    let bytes = c.args.bytes.now in
    let rest = c.pieces.rest.now in
    let count = c.in_ok-count.count in (
      place.0 + count,
      count_within bytes rest place.0 count place.1 place.2 c.in_ok-count.ensures.within,
      rest_of_rest bytes rest place.0 count place.2,
      written_more (g.C.FileCalls.disk c.args.calls.now) (g.C.FileCalls.disk c.pieces.calls)
          (g.C.FileCalls.disk c.write.new.self) c.args.name.now bytes rest place.0 count
          (g.C.FileCalls.open_file c.pieces.file) (g.C.FileCalls.open_file c.write.new.file) place.2 place.3
          c.in_ok-count.ensures.writes c.write.ensures.goes_on,
    )
