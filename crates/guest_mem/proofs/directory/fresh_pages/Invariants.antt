use Rattle.std.proofs.Common.{◌≡◌, ◌-◌, ◌≤◌, vec_len}
use Rattle.std.specs.Prelude.{All}
use Rattle.guest_mem.specs.inner.Page.{zero_page}
use Rattle.guest_mem.proofs.directory.fresh_pages.Given as goal

abbrev pub invariant-loop-alloc : goal.invariant-loop-alloc
invariant-loop-alloc l = record {
  len : vec_len l.pages ≤ l.count;
  zeros : All (λ page. page ≡ zero_page l.permission) l.pages.items;
}

abbrev pub decreases-loop-alloc : goal.decreases-loop-alloc
decreases-loop-alloc l = l.count - vec_len l.pages
