use Rattle.std.proofs.Common.{◌+◌, ◌-◌, ◌/◌, ◌%◌, sym, refl, ◌∙◌, arith, take, drop, length}
use Rattle.guest_mem.specs.inner.Page.{memory_of_pages, cells}
use Rattle.guest_mem.specs.inner.Directory.{page_at}
use Rattle.guest_mem.proofs.Ranges.{written_nothing}
use Rattle.guest_mem.proofs.Spans.{may_ends, whole_pages}
use Rattle.guest_mem.proofs.Pieces.{put_more, same_pages}
use Rattle.guest_mem.proofs.directory.Directory.put_bytes.Goals as goal

pub loop-done-init : goal.loop-done-init
unfolding memory_of_pages
loop-done-init c = record {
  after = sym (written_nothing (cells (page_at c.args.self.now)) c.args.at);
  pages = λ p. refl;
  within = omega arith;
}

pub overflow_add-from : goal.overflow_add-from
overflow_add-from c =
    let ends = may_ends _ 0 c.args.at (length c.args.bytes.now) c.requires (omega arith) in
    omega (arith, ends)

pub loop-done-preserved : goal.loop-done-preserved
loop-done-preserved c = record {
  after =
      put_more (page_at c.args.self.now) (page_at c.loop-done.self)
      (page_at c.write.new.self) c.args.at c.args.bytes.now
      (take (c.min-end.result - c.loop-done.done) (drop c.loop-done.done c.args.bytes.now)) c.loop-done.done
      c.min-end.result
      (whole_pages c.loop-done.self) (omega arith) (omega arith) (omega arith)
      (omega arith) refl c.requires c.loop-done.invariant.after c.write.ensures.after;
  pages =
      λ p. same_pages (page_at c.loop-done.self) (page_at c.write.new.self) ((c.args.at + c.loop-done.done) / 4096) 0
      ((c.args.at + c.loop-done.done) % 4096)
      (take (c.min-end.result - c.loop-done.done) (drop c.loop-done.done c.args.bytes.now)) c.write.ensures.after p
      ∙ c.loop-done.invariant.pages p;
  within = omega arith;
}
