use Rattle.std.proofs.Common.{◌≡◌, ℕ, ◌+◌, ◌-◌, ◌%◌, ap, sym, refl, ◌∙◌, arith, take, drop, append-nil}
use Rattle.guest_mem.specs.Memory.{bytes_at}
use Rattle.guest_mem.specs.inner.Page.{page_allows}
use Rattle.guest_mem.specs.inner.Directory.{page_at}
use Rattle.guest_mem.proofs.Ranges.{may_at}
use Rattle.guest_mem.proofs.Spans.{may_ends, whole_pages}
use Rattle.guest_mem.proofs.Pieces.{append_more, page_there}
use Rattle.guest_mem.proofs.directory.Directory.append_bytes.Goals as goal

pub loop-done-init : goal.loop-done-init
unfolding bytes_at
loop-done-init c = record { so_far = sym (append-nil c.args.out.now.items); within = omega arith }

pub overflow_add-from : goal.overflow_add-from
overflow_add-from c =
    let ends = may_ends _ 0 c.args.at c.args.len c.requires (omega arith) in
    omega (arith, ends)

pub overflow_add-done : goal.overflow_add-done
overflow_add-done c =
    let ends = may_ends _ 0 c.args.at c.args.len c.requires (omega arith) in
    omega (arith, ends)

pub unreachable-requires : goal.unreachable-requires
unreachable-requires c =
    let there = page_there (page_at c.args.self.now) _ 0 (c.args.at + c.loop-done.done)
    (whole_pages c.args.self.now) refl
    (may_at _ 0 c.args.at c.args.len c.requires c.loop-done.done c.loop-done-test.true) in
    let none = ap (page_allows 0) c.in-None.ensures in
    cc

pub loop-done-preserved : goal.loop-done-preserved
loop-done-preserved c =
    let place : ℕ = (c.args.at + c.loop-done.done) % 4096 in
    let length : place + (c.min-end.result - c.loop-done.done) - place ≡ c.min-end.result - c.loop-done.done
    = omega arith in
    record {
      so_far =
          append_more
          (page_at c.args.self.now) c.args.at c.args.len c.loop-done.done c.min-end.result c.args.out.now.items
          c.loop-done.out.items _ _ c.in-Some.page.now (whole_pages c.args.self.now) (omega arith) (omega arith)
          (omega arith) (omega arith)
          c.requires (sym c.in-Some.ensures)
          (c.bytes.ensures
          ∙ ap (λ n. take n (drop ((c.args.at + c.loop-done.done) % 4096) c.in-Some.page.now.bytes)) length)
          c.loop-done.invariant.so_far c.in_ok-extend_from_slice-in-Some.ensures.items;
      within = omega arith;
    }
