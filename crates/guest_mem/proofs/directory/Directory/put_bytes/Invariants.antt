use Rattle.std.proofs.Common.{◌≡◌, ℕ, ◌-◌, ◌≤◌, length, take}
use Rattle.std.specs.Prelude.{is_some}
use Rattle.guest_mem.specs.Memory.{write_at}
use Rattle.guest_mem.specs.inner.Page.{memory_of_pages}
use Rattle.guest_mem.specs.inner.Directory.{page_at}
use Rattle.guest_mem.proofs.directory.Directory.put_bytes.Given as goal

abbrev pub invariant-loop-done : goal.invariant-loop-done
invariant-loop-done l = record {
  after : memory_of_pages (page_at l.self)
      ≡ write_at (memory_of_pages (page_at l.initial.self)) l.at (take l.done l.bytes);
  pages : (p : ℕ) → is_some (page_at l.self p) ≡ is_some (page_at l.initial.self p);
  within : l.done ≤ length l.bytes;
}

abbrev pub decreases-loop-done : goal.decreases-loop-done
decreases-loop-done l = length l.bytes - l.done
