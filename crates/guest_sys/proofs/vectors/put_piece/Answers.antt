use Rattle.std.proofs.Common.{sym, ◌∙◌}
use Rattle.guest_sys.proofs.VectorLemmas.{put_nothing, put_piece_is, some_bytes}
use Rattle.guest_sys.proofs.vectors.put_piece.Goals as goal

pub returns-then-is_empty : goal.returns-then-is_empty
returns-then-is_empty c =
    put_nothing c.args.mem.now c.args.addr c.args.piece.now (sym c.if-is_empty.true ∙ c.is_empty.ensures)

pub returns : goal.returns
returns c =
    c.copy_in-stored.ensures.after
    ∙ put_piece_is c.args.mem.now c.args.addr c.args.piece.now c.requires
    (some_bytes _ (sym c.if-is_empty.false ∙ c.is_empty.ensures))
