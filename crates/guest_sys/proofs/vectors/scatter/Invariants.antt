use Rattle.std.proofs.Common.{◌≡◌, true, length, take, drop}
use Rattle.guest_sys.specs.Vectors.{put_each}
use Rattle.guest_sys.proofs.vectors.scatter.Given as goal
use Rattle.guest_sys.specs.inner.Bodies.{addresses_of, each_allowed}

abbrev pub invariant-iovecs : goal.invariant-iovecs
invariant-iovecs l = record {
  allowed : each_allowed l.mem 2 (take (length l.rest) (addresses_of (drop l.iovec-index l.iovecs))) ≡ true;
  bytes : put_each l.fn.mem (take (length l.bytes) (addresses_of l.iovecs)) l.bytes
      ≡ put_each l.mem (take (length l.rest) (addresses_of (drop l.iovec-index l.iovecs))) l.rest;
}
