use Rattle.std.proofs.Common.{◌≡◌, ◌≤◌, ◌+◌, ◌-◌, ◌^◌, length, take, arith}
use Rattle.std.specs.Prelude.{min}
use Rattle.std.proofs.lemmas.List.{length-take}
use Rattle.outside.proofs.FrontLemmas.{front_ends, front_full, front_refused, nothing_read, read_more, read_on}
use Rattle.outside.proofs.FrontLemmas.{read_stays, room_stays}
use Rattle.outside.proofs.file_folder.read_front.Goals as goal

pub pieces-init : goal.pieces-init
pieces-init g c = record {
  room = omega (arith, c.in_ok-room.ensures.len);
  within = omega (arith, c.new-bytes.ensures.len);
  read = nothing_read (g.C.FileCalls.disk c.args.calls.now) c.new-bytes.result.items
      (g.C.FileCalls.open_file c.args.file.now) c.new-bytes.ensures.items;
}

pub returns-in_err-count-clause-front : goal.returns-in_err-count-clause-front
returns-in_err-count-clause-front g c =
    front_refused (g.C.FileCalls.disk c.args.calls.now) (g.C.FileCalls.disk c.pieces.calls)
    (g.C.FileCalls.disk c.read_piece.new.calls) (g.C.FileCalls.open_file c.args.file.now).rest c.pieces.bytes.items
    c.read_piece.new.bytes.items (g.C.FileCalls.open_file c.pieces.file) (g.C.FileCalls.open_file c.read_piece.new.file)
    c.args.limit c.in_err-count.field-0.0 c.from_residual-in_err-count.result c.from_residual-in_err-count.ensures.1
    c.pieces.invariant.read c.in_err-count.ensures.piece

pub returns-in_err-count-clause-stays : goal.returns-in_err-count-clause-stays
returns-in_err-count-clause-stays g c =
    read_on (g.C.FileCalls.disk c.args.calls.now) (g.C.FileCalls.disk c.pieces.calls)
    (g.C.FileCalls.disk c.read_piece.new.calls) (g.C.FileCalls.open_file c.args.file.now).rest c.pieces.bytes.items
    (g.C.FileCalls.open_file c.pieces.file) c.pieces.invariant.read c.read_piece.ensures.stays

pub returns-then-count-eq0-clause-front : goal.returns-then-count-eq0-clause-front
returns-then-count-eq0-clause-front g c =
    front_ends (g.C.FileCalls.disk c.args.calls.now) (g.C.FileCalls.disk c.pieces.calls)
    (g.C.FileCalls.disk c.read_piece.new.calls) (g.C.FileCalls.open_file c.args.file.now).rest c.pieces.bytes.items
    c.read_piece.new.bytes (g.C.FileCalls.open_file c.pieces.file) (g.C.FileCalls.open_file c.read_piece.new.file) c.args.limit
    c.in_ok-count.count (omega (arith, c.if-count-eq0.true))
    (omega (arith, c.if-count-eq0.true, c.in_ok-count.ensures.longer, c.pieces.invariant.within))
    c.pieces.invariant.read c.in_ok-count.ensures.piece

pub returns-then-count-eq0-clause-stays : goal.returns-then-count-eq0-clause-stays
returns-then-count-eq0-clause-stays g c =
    read_on (g.C.FileCalls.disk c.args.calls.now) (g.C.FileCalls.disk c.pieces.calls)
    (g.C.FileCalls.disk c.read_piece.new.calls) (g.C.FileCalls.open_file c.args.file.now).rest c.pieces.bytes.items
    (g.C.FileCalls.open_file c.pieces.file) c.pieces.invariant.read c.read_piece.ensures.stays

pub pieces-preserved : goal.pieces-preserved
pieces-preserved g c =
    let in_room : c.in_ok-count.count ≤ length (take c.min-wanted.result c.deref_mut.result.now) =
    c.in_ok-count.ensures.within in
    let wanted : c.min-wanted.result ≡ min c.saturating_add-more.result c.len-in-pieces-2.result = c.min-wanted.ensures in
    let more : c.saturating_add-more.result ≡ min (c.args.limit - c.len-in-pieces.result + 1) (2 ^ 64 - 1) =
    c.saturating_add-more.ensures in
    record {
      room = room_stays c.pieces.room.len _ c.pieces.room.items (omega arith) c.pieces.invariant.room;
      within = omega (
        arith,
        c.in_ok-count.ensures.longer,
        in_room,
        length-take c.min-wanted.result c.deref_mut.result.now,
        wanted,
        more,
        c.len.ensures,
        c.len-in-pieces.ensures,
        c.pieces-test.true,
      );
      read = read_more (g.C.FileCalls.disk c.args.calls.now) (g.C.FileCalls.disk c.pieces.calls)
          (g.C.FileCalls.disk c.read_piece.new.calls) (g.C.FileCalls.open_file c.args.file.now).rest c.pieces.bytes.items
          c.read_piece.new.bytes.items (g.C.FileCalls.open_file c.pieces.file)
          (g.C.FileCalls.open_file c.read_piece.new.file) c.in_ok-count.count c.pieces.invariant.read
          c.in_ok-count.ensures.piece c.read_piece.ensures.stays;
    }

pub returns-clause-front : goal.returns-clause-front
returns-clause-front g c =
    front_full (g.C.FileCalls.disk c.args.calls.now) (g.C.FileCalls.disk c.pieces.calls)
    (g.C.FileCalls.open_file c.args.file.now).rest c.pieces.bytes (g.C.FileCalls.open_file c.pieces.file) c.args.limit
    (omega (arith, c.pieces.invariant.within, c.pieces-test.false)) c.pieces.invariant.read

pub returns-clause-stays : goal.returns-clause-stays
returns-clause-stays g c =
    read_stays (g.C.FileCalls.disk c.args.calls.now) (g.C.FileCalls.disk c.pieces.calls)
    (g.C.FileCalls.open_file c.args.file.now).rest c.pieces.bytes.items (g.C.FileCalls.open_file c.pieces.file)
    c.pieces.invariant.read
