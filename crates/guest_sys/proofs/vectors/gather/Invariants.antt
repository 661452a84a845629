use Rattle.std.proofs.Common.{◌≡◌, ◌++◌, map, take, drop}
use Rattle.guest_mem.specs.Memory.{byte_at}
use Rattle.guest_sys.proofs.vectors.gather.Given as goal
use Rattle.guest_sys.specs.inner.Bodies.{addresses_of, each_allowed}

abbrev pub invariant-iovecs : goal.invariant-iovecs
invariant-iovecs l = record {
  allowed : each_allowed l.mem 1 (take l.count (addresses_of l.iovecs))
      ≡ each_allowed l.mem 1 (take l.left (addresses_of (drop l.iovec-index l.iovecs)));
  bytes : map (byte_at l.mem) (take l.count (addresses_of l.iovecs))
      ≡ l.text ++ map (byte_at l.mem) (take l.left (addresses_of (drop l.iovec-index l.iovecs)));
}
