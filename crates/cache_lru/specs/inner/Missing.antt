-- Where accesses miss.
use Rattle.std.specs.Prelude.{Bool, true, false}
use Rattle.cache_lru.specs.Costs.{EventMisses}
use Rattle.cache_lru.specs.declared.caches.Missed.{Missed}
use Rattle.cache_lru.specs.declared.caches.Misses.{Misses}
use Rattle.cache_lru.specs.declared.caches.Misses.TheVariants.{Both, First, Nowhere}

abbrev pub in_first : Misses → Bool
in_first Nowhere = false
in_first First = true
in_first Both = true

abbrev pub in_last : Misses → Bool
in_last Nowhere = false
in_last First = false
in_last Both = true

-- what an event misses, as it is kept
abbrev pub misses_of : Missed → EventMisses
misses_of missed = record {
  fetch = in_first missed.fetch;
  reference = in_first missed.reference;
  fetch_in_last = in_last missed.fetch;
  reference_in_last = in_last missed.reference;
}

-- nothing misses
abbrev pub no_miss : Missed
no_miss = record { fetch = Nowhere; reference = Nowhere }
