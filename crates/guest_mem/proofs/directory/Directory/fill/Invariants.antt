use Rattle.std.proofs.Common.{◌≡◌, ℕ, ◌+◌, ◌-◌, ◌<◌, ◌≤◌, vec_len}
use Rattle.std.specs.Prelude.{All, IsTrue, Some}
use Rattle.guest_mem.specs.inner.Page.{zero_page}
use Rattle.guest_mem.specs.inner.Table.{AltersRange}
use Rattle.guest_mem.specs.inner.Directory.{page_at, has_place}
use Rattle.guest_mem.proofs.directory.Directory.fill.Given as goal

abbrev pub invariant-loop-page : goal.invariant-loop-page
invariant-loop-page l = record {
  shorter : vec_len l.fresh ≤ vec_len l.initial.fresh;
  after : AltersRange (page_at l.initial.self) (page_at l.self) (l.first + vec_len l.fresh)
      (vec_len l.initial.fresh - vec_len l.fresh) (λ _. Some (zero_page l.permission));
  places : (k : ℕ) → k < vec_len l.fresh → IsTrue (has_place l.self (l.first + k));
  fresh : All (λ page. page ≡ zero_page l.permission) l.fresh.items;
}

abbrev pub decreases-loop-page : goal.decreases-loop-page
decreases-loop-page l = goal.left-loop-page l
