use Rattle.std.proofs.Common.{◌+◌, ◌-◌, ◌≤◌, ◌++◌, ◌∙◌, List, ℕ, length, min, map, take, drop, get_or, ap, sym}
use Rattle.std.proofs.Common.{append_assoc, arith}
use Rattle.guest_mem.specs.Memory.{may, byte_at, bytes_at}
use Rattle.guest_sys.specs.declared.vectors.Iovec.{Iovec}
use Rattle.guest_sys.proofs.VectorLemmas.{allowed_at, bytes_of_places, false_and, on_err, true_and}
use Rattle.guest_sys.proofs.vectors.gather.Goals as goal
use Rattle.guest_sys.specs.inner.Bodies.{addresses_of, each_allowed}

abbrev nothing : Iovec
nothing = record { addr = 0; len = 0 }

pub returns-then-not-readable-clause-found : goal.returns-then-not-readable-clause-found
returns-then-not-readable-clause-found c =
    let len = c.min-len.ensures ∙ ap (min c.iovecs.left) c.from.ensures in
    c.iovecs.invariant.allowed
    ∙ allowed_at c.args.mem.now 1 c.args.iovecs.now c.iovecs.iovec-index c.iovecs.left nothing c.iovecs-test.true
    ∙ false_and _ _ (ap (may c.args.mem.now 1 (get_or c.args.iovecs.now c.iovecs.iovec-index nothing).addr) (sym len)
    ∙ sym c.in_ok-readable.ensures.readable ∙ c.if-not-readable.true)

pub returns-in_err-readable-clause-memory : goal.returns-in_err-readable-clause-memory
returns-in_err-readable-clause-memory c =
    let some : 1 ≤ length c.args.iovecs.now = omega (arith, c.iovecs-test.true) in
    on_err c.from_residual.result some

pub iovecs-preserved : goal.iovecs-preserved
iovecs-preserved c =
    let len = c.min-len.ensures ∙ ap (min c.iovecs.left) c.from.ensures in
    record {
      allowed = c.iovecs.invariant.allowed
          ∙ allowed_at c.args.mem.now 1 c.args.iovecs.now c.iovecs.iovec-index c.iovecs.left nothing c.iovecs-test.true
          ∙ true_and _ _ (ap (may c.args.mem.now 1 (get_or c.args.iovecs.now c.iovecs.iovec-index nothing).addr) (sym len)
          ∙ sym c.in_ok-readable.ensures.readable ∙ c.if-not-readable.false)
          ∙ ap (λ k. each_allowed c.args.mem.now 1
          (take (c.iovecs.left - k) (addresses_of (drop (c.iovecs.iovec-index + 1) c.args.iovecs.now)))) (sym len);
      bytes = c.iovecs.invariant.bytes
          ∙ ap (λ (bs : List ℕ). c.iovecs.text ++ bs)
          (bytes_of_places c.args.mem.now c.args.iovecs.now c.iovecs.iovec-index c.iovecs.left nothing
          c.iovecs-test.true)
          ∙ ap (λ k. c.iovecs.text
          ++ (bytes_at c.args.mem.now (get_or c.args.iovecs.now c.iovecs.iovec-index nothing).addr k
          ++ map (byte_at c.args.mem.now)
          (take (c.iovecs.left - k) (addresses_of (drop (c.iovecs.iovec-index + 1) c.args.iovecs.now))))) (sym len)
          ∙ sym (append_assoc c.iovecs.text
          (bytes_at c.args.mem.now (get_or c.args.iovecs.now c.iovecs.iovec-index nothing).addr c.min-len.result)
          (map (byte_at c.args.mem.now)
          (take (c.iovecs.left - c.min-len.result) (addresses_of (drop (c.iovecs.iovec-index + 1) c.args.iovecs.now)))))
          ∙ ap (λ (bs : List ℕ). bs ++ map (byte_at c.args.mem.now)
          (take (c.iovecs.left - c.min-len.result) (addresses_of (drop (c.iovecs.iovec-index + 1) c.args.iovecs.now))))
          (sym (c.in_ok-readable.ensures.added c.if-not-readable.false));
    }
