use Rattle.std.proofs.Common.{◌≡◌, ◌*◌, ◌^◌, ◌≤◌, true}
use Rattle.guest_mem.specs.Memory.{may}
use Rattle.guest_sys.specs.Vectors.{iovecs, total}
use Rattle.guest_sys.proofs.VectorLemmas.{EachRead}
use Rattle.guest_sys.proofs.vectors.read_iovecs.Given as goal

abbrev pub invariant-pairs : goal.invariant-pairs
invariant-pairs l = record {
  readable : may l.mem 1 l.list (8 * l.index) ≡ true;
  items : l.iovecs.items ≡ iovecs l.mem l.list l.index;
  sum : l.total ≡ total (iovecs l.mem l.list l.index);
  wanted : EachRead l.limit l.mem l.list l.index;
  small : l.total ≤ l.index * 2 ^ 32;
}
