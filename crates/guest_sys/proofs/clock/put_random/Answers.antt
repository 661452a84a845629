use Rattle.std.proofs.Common.{◌≡◌, ◌≤◌, List, ℕ, length, take, ap, ◌∙◌}
use Rattle.guest_mem.specs.Memory.{may, store_at}
use Rattle.guest_sys.specs.Vectors.{addresses_from}
use Rattle.guest_sys.proofs.RowLemmas.{take-counting, length-counting}
use Rattle.guest_sys.proofs.clock.put_random.Goals as goal

front : (bytes : List ℕ) (n : ℕ) → bytes ≡ addresses_from 0 256 → n ≤ 256 → take n bytes ≡ addresses_from 0 n
front bytes n is h = ap (take n) is ∙ take-counting 0 256 n h

pub returns-clause-allowed : goal.returns-clause-allowed
returns-clause-allowed c =
    c.copy_in.ensures.allowed
    ∙ ap (λ bs. may c.args.mem.now 2 c.args.addr (length bs)) (front _ _ c.random_bytes-bytes.ensures c.requires)
    ∙ ap (may c.args.mem.now 2 c.args.addr) (length-counting 0 c.args.count)

pub returns-clause-after : goal.returns-clause-after
returns-clause-after c = c.copy_in.ensures.after
    ∙ ap (store_at c.args.mem.now c.args.addr) (front _ _ c.random_bytes-bytes.ensures c.requires)
