-- Hits and misses by recency, as Cachegrind simulates them (Valgrind manual, Cachegrind, "Cache Simulation Specifics"):
-- a set keeps the blocks that were referred to last, a write that misses brings its block in, and a reference over two
-- blocks counts one miss at most. A history is the list of all blocks that were referred to, oldest first.
use Rattle.std.specs.Prelude.{ℕ, ◌+◌, ◌-◌, ◌==◌, Bool, false, not, ◌||◌, List, [], ◌∷◌, ◌++◌, take, filter, reverse}
use Rattle.std.specs.List.{list_any, flat_map, range_with_len}
use Rattle.cache_lru.specs.Shape.{Shape, block_of, set_of}

-- a reference to so many bytes from an address on
pub record Access : Type 0 where
  pub addr : ℕ
  pub len : ℕ

-- the blocks that an access touches, the lower first: from that of its first byte to that of its last
abbrev pub blocks_of : Shape → Access → List ℕ
blocks_of shape access =
    let first = block_of shape access.addr in
    let last = block_of shape (access.addr + access.len - 1) in
    range_with_len first (last - first + 1)

abbrev pub all_but : ℕ → List ℕ → List ℕ
all_but block blocks = filter (λ other. not (other == block)) blocks

-- each block once, where it stands first
abbrev pub distinct : List ℕ → List ℕ
distinct [] = []
distinct (block ∷ blocks) = block ∷ all_but block (distinct blocks)

-- the distinct blocks of a set, counted back from the newest
abbrev pub newest_first : Shape → ℕ → List ℕ → List ℕ
newest_first shape set history = distinct (reverse (filter (λ block. set_of shape block == set) history))

-- a block hits where it is among the first `assoc` of these
abbrev pub hits : Shape → List ℕ → ℕ → Bool
hits shape history block =
    list_any (λ kept. kept == block) (take shape.assoc (newest_first shape (set_of shape block) history))

-- one of the blocks misses, each judged after the ones before it were added
abbrev pub misses : Shape → List ℕ → List ℕ → Bool
misses shape history [] = false
misses shape history (block ∷ blocks) = not (hits shape history block) || misses shape (history ++ block ∷ []) blocks

-- the history that accesses leave, in their order
abbrev pub history_of : Shape → List Access → List ℕ
history_of shape accesses = flat_map (blocks_of shape) accesses

-- an access misses after these
abbrev pub access_misses : Shape → List Access → Access → Bool
access_misses shape earlier access = misses shape (history_of shape earlier) (blocks_of shape access)
