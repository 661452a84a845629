use Rattle.std.proofs.Common.{◌≡◌, take, drop}
use Rattle.guest_sys.proofs.vectors.may_use.Given as goal
use Rattle.guest_sys.specs.inner.Bodies.{addresses_of, each_allowed}

abbrev pub invariant-iovecs : goal.invariant-iovecs
invariant-iovecs l =
    each_allowed l.mem l.want (take l.count (addresses_of l.iovecs))
    ≡ each_allowed l.mem l.want (take l.left (addresses_of (drop l.iovec-index l.iovecs)))
