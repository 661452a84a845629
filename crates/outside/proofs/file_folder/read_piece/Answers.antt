use Rattle.outside.proofs.FrontLemmas.{piece_goes_on, piece_memory, piece_refused}
use Rattle.outside.proofs.file_folder.read_piece.Goals as goal

pub returns-in_err-count-clause-piece : goal.returns-in_err-count-clause-piece
returns-in_err-count-clause-piece g c =
    piece_refused (g.C.FileCalls.disk c.args.calls.now) (g.C.FileCalls.disk c.read.new.self) c.args.bytes.now.items
    c.args.bytes.now.items c.read.new.room (g.C.FileCalls.open_file c.args.file.now) (g.C.FileCalls.open_file c.read.new.file)
    c.from_residual.result c.in_err-count.field-0.0 c.from_residual.ensures.1
    c.in_err-count.ensures.reads

pub returns-in_err-extend_from_slice-clause-piece : goal.returns-in_err-extend_from_slice-clause-piece
returns-in_err-extend_from_slice-clause-piece g c =
    piece_memory (g.C.FileCalls.disk c.args.calls.now) (g.C.FileCalls.disk c.read.new.self) c.args.bytes.now.items
    c.extend_from_slice.new.self.items (g.C.FileCalls.open_file c.args.file.now) (g.C.FileCalls.open_file c.read.new.file)
    c.from_residual-in_err-extend_from_slice.result c.from_residual-in_err-extend_from_slice.ensures.1
    c.read.ensures.stays

pub returns-clause-piece : goal.returns-clause-piece
returns-clause-piece g c =
    piece_goes_on (g.C.FileCalls.disk c.args.calls.now) (g.C.FileCalls.disk c.read.new.self) c.args.bytes.now.items
    c.extend_from_slice.new.self.items c.read.new.room (g.C.FileCalls.open_file c.args.file.now)
    (g.C.FileCalls.open_file c.read.new.file) c.in_ok-count.count c.in_ok-extend_from_slice.ensures.items
    c.in_ok-count.ensures.reads
