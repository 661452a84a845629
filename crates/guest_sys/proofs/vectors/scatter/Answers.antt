use Rattle.std.proofs.Common.{◌∙◌, length, take, drop, get_or, ap}
use Rattle.guest_mem.specs.Memory.{may}
use Rattle.guest_sys.specs.declared.vectors.Iovec.{Iovec}
use Rattle.guest_sys.proofs.VectorLemmas.{scattered, allowed_next, allowed_here}
use Rattle.guest_sys.proofs.vectors.scatter.Goals as goal

abbrev nothing : Iovec
nothing = record { addr = 0; len = 0 }

pub put_piece-requires : goal.put_piece-requires
put_piece-requires c =
    ap (may c.iovecs.mem 2 (get_or c.args.iovecs.now c.iovecs.iovec-index nothing).addr)
    (c.split_at.ensures.front_len ∙ c.min.ensures)
    ∙ allowed_here c.iovecs.mem 2 c.args.iovecs.now c.iovecs.iovec-index
    (length c.iovecs.rest.now) nothing c.iovecs-test.true c.iovecs.invariant.allowed

pub iovecs-preserved : goal.iovecs-preserved
iovecs-preserved c =
    let piece_is = c.split_at.ensures.front ∙ ap (λ k. take k c.iovecs.rest.now) c.min.ensures in
    let after_is = c.split_at.ensures.back ∙ ap (λ k. drop k c.iovecs.rest.now) c.min.ensures in
    record {
      allowed =
          allowed_next c.iovecs.mem c.put_piece.new.mem c.args.iovecs.now c.iovecs.iovec-index nothing c.iovecs.rest.now
          c.split_at.result.0.now c.split_at.result.1.now
          c.iovecs-test.true after_is c.put_piece.ensures c.iovecs.invariant.allowed;
      bytes = c.iovecs.invariant.bytes
          ∙ scattered c.iovecs.mem c.put_piece.new.mem c.args.iovecs.now c.iovecs.iovec-index nothing c.iovecs.rest.now
          c.split_at.result.0.now c.split_at.result.1.now
          c.iovecs-test.true piece_is after_is c.put_piece.ensures;
    }
