use Rattle.std.proofs.Common.{◌+◌, ◌-◌, ◌/◌, ap, sym, refl, arith}
use Rattle.guest_mem.specs.Memory.{may}
use Rattle.guest_mem.specs.inner.Page.{memory_of_pages}
use Rattle.guest_mem.specs.inner.Directory.{page_at}
use Rattle.guest_mem.proofs.Spans.{may-pages, may_past, whole_pages}
use Rattle.guest_mem.proofs.directory.Directory.may.Goals as goal

pub returns-then-len-eq0 : goal.returns-then-len-eq0
unfolding may
returns-then-len-eq0 c =
    sym (ap (may (memory_of_pages (page_at c.args.self.now)) c.args.want c.args.at) c.if-len-eq0.true)

pub returns-then-len-at : goal.returns-then-len-at
returns-then-len-at c = sym (may_past _ c.args.want c.args.at c.args.len (omega arith) (omega arith))

pub returns : goal.returns
returns c =
    may-pages (page_at c.args.self.now) c.args.want c.args.at c.args.len
    ((c.args.at + c.args.len - 1) / 4096 - c.args.at / 4096 + 1) c.pages_allow.result (whole_pages c.args.self.now)
    (omega arith) (omega arith) refl c.pages_allow.ensures
