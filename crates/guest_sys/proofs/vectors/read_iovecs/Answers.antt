use Rattle.std.proofs.Common.{◌≡◌, ◌+◌, ◌*◌, ◌≤◌, ◌++◌, ◌∷◌, [], ◌∙◌, List, ap, sym, arith, refl}
use Rattle.guest_mem.specs.Memory.{may}
use Rattle.guest_mem.proofs.Spans.{may_ends}
use Rattle.guest_sys.specs.declared.vectors.Iovec.{Iovec}
use Rattle.guest_sys.specs.Vectors.{iovecs, total, iovecs_read}
use Rattle.guest_sys.proofs.VectorLemmas.{may_not, may_part, on_err, read_to_end, read_to_limit, read_at_least}
use Rattle.guest_sys.proofs.VectorLemmas.{read_more, iovecs_more, total_more}
use Rattle.guest_sys.proofs.vectors.read_iovecs.Goals as goal

pub pairs-init : goal.pairs-init
unfolding iovecs may
pairs-init c = record {
  readable = refl;
  items = c.new-iovecs.ensures.items;
  sum = refl;
  wanted = λ j h. absurd (omega arith);
  small = omega arith;
}

pub returns-then-total-limit-clause-found : goal.returns-then-total-limit-clause-found
returns-then-total-limit-clause-found c =
    let read = read_to_limit c.args.limit c.args.mem.now c.args.list c.args.count c.pairs.index
    (omega arith) c.pairs.invariant.wanted (omega (arith, c.if-total-limit.true, c.pairs.invariant.sum)) in (
      ap (λ n. may c.args.mem.now 1 c.args.list (8 * n)) read ∙ c.pairs.invariant.readable,
      c.pairs.invariant.items ∙ ap (iovecs c.args.mem.now c.args.list) (sym read),
      omega (
        arith,
        c.if-total-limit.true,
        c.pairs.invariant.sum,
        ap (λ n. total (iovecs c.args.mem.now c.args.list n)) read,
      ),
    )

pub returns-then-not-may-clause-found : goal.returns-then-not-may-clause-found
returns-then-not-may-clause-found c =
    let wanted = read_more c.args.limit c.args.mem.now c.args.list c.pairs.index c.pairs.invariant.wanted
    (omega (arith, c.if-total-limit.false, c.pairs.invariant.sum)) in
    let least = read_at_least c.args.limit c.args.mem.now c.args.list c.args.count (c.pairs.index + 1)
    (omega arith) wanted in
    may_not c.args.mem.now 1 c.args.list
    (8 * iovecs_read c.args.limit c.args.mem.now c.args.list c.args.count) c.args.list (8 * (c.pairs.index + 1))
    (sym c.may.ensures.value ∙ c.if-not-may.true) (omega arith) (omega (arith, least))

pub overflow_add-list : goal.overflow_add-list
overflow_add-list c =
    omega (
      arith,
      may_ends c.args.mem.now 1 c.args.list (8 * (c.pairs.index + 1))
          (sym c.may.ensures.value ∙ c.if-not-may.false) (omega arith),
    )

pub iovec_at-iovec-requires : goal.iovec_at-iovec-requires
iovec_at-iovec-requires c =
    may_part c.args.mem.now 1 c.args.list (8 * (c.pairs.index + 1)) (c.args.list + 8 * c.pairs.index) 8
    (sym c.may.ensures.value ∙ c.if-not-may.false) (omega arith) (omega arith)

pub returns-in_err-push-clause-memory : goal.returns-in_err-push-clause-memory
returns-in_err-push-clause-memory c =
    let wanted = read_more c.args.limit c.args.mem.now c.args.list c.pairs.index c.pairs.invariant.wanted
    (omega (arith, c.if-total-limit.false, c.pairs.invariant.sum)) in
    let least = read_at_least c.args.limit c.args.mem.now c.args.list c.args.count (c.pairs.index + 1)
    (omega arith) wanted in
    let some : 1 ≤ iovecs_read c.args.limit c.args.mem.now c.args.list c.args.count = omega (arith, least) in
    let first = may_part c.args.mem.now 1 c.args.list (8 * (c.pairs.index + 1)) c.args.list 8
    (sym c.may.ensures.value ∙ c.if-not-may.false) (omega arith) (omega arith) in
    on_err c.from_residual.result (some, first)

pub pairs-preserved : goal.pairs-preserved
pairs-preserved c = record {
  readable = sym c.may.ensures.value ∙ c.if-not-may.false;
  items = c.in_ok-push.ensures.items ∙ ap (λ (ss : List Iovec). ss ++ c.iovec_at-iovec.result ∷ []) c.pairs.invariant.items
      ∙ ap (λ (s : Iovec). iovecs c.args.mem.now c.args.list c.pairs.index ++ s ∷ []) c.iovec_at-iovec.ensures
      ∙ sym (iovecs_more c.args.mem.now c.args.list c.pairs.index);
  sum = omega (
    arith,
    c.pairs.invariant.sum,
    total_more c.args.mem.now c.args.list c.pairs.index,
    c.from-total.ensures,
    ap (λ (s : Iovec). s.len) c.iovec_at-iovec.ensures,
  );
  wanted = read_more c.args.limit c.args.mem.now c.args.list c.pairs.index c.pairs.invariant.wanted
      (omega (arith, c.if-total-limit.false, c.pairs.invariant.sum));
  small = omega (arith, c.pairs.invariant.small, c.from-total.ensures);
}

pub returns-clause-found : goal.returns-clause-found
returns-clause-found c =
    let read = read_to_end c.args.limit c.args.mem.now c.args.list c.args.count
    (λ j h. c.pairs.invariant.wanted j (omega arith)) in
    let all : iovecs_read c.args.limit c.args.mem.now c.args.list c.args.count ≡ c.pairs.index = omega (arith, read) in (
      ap (λ n. may c.args.mem.now 1 c.args.list (8 * n)) all ∙ c.pairs.invariant.readable,
      c.pairs.invariant.items ∙ ap (iovecs c.args.mem.now c.args.list) (sym all),
      omega (arith, c.min.ensures, c.pairs.invariant.sum, ap (λ n. total (iovecs c.args.mem.now c.args.list n)) all),
    )
