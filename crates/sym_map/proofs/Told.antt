-- What a map tells of an address.
use Rattle.std.proofs.Common.{◌≡◌, ℕ, ◌<◌, ◌^◌, false, List, get_or, Option, refl, sym, ap, ◌∙◌, arith}
use Rattle.std.proofs.lemmas.Bool.Decides.{nat_tests}
use Rattle.std.proofs.lemmas.List.FromFn.{fill_by_all, get_or-map-range_with_len, length-map-range_with_len}
use Rattle.event_costs.specs.Keys.{Place}
use Rattle.sym_map.specs.declared.function.Function.{Function}
use Rattle.sym_map.specs.declared.symbol_map.SymMap.TheInside.{Inside}
use Rattle.sym_map.specs.AddressMap.{address_line, address_map, no_file, told}
use Rattle.sym_map.specs.inner.Ranges.{AddressRanges, begins_at, here_at, lines_by_address, map_of, place_in}
use Rattle.sym_map.specs.SymbolMap.{SymbolMap, is_entry_at, place_of}

told_at : {A : Type 0} (count : ℕ) (say : ℕ → A) (a : ℕ) (d : A) → a < count → get_or (told count say) a d ≡ say a
unfolding told
told_at count say a d small = get_or-map-range_with_len say 0 count a a d small (omega arith)

told_same : {A : Type 0} (count : ℕ) (say : ℕ → A) (other : ℕ → A) (d : A) → ((a : ℕ) → a < count → say a ≡ other a)
    → told count say ≡ told count other
unfolding told
told_same count say other d same =
    fill_by_all other (told count say) count d (length-map-range_with_len say 0 count)
    (λ a small. told_at count say a d small ∙ same a small)

-- the last address stands for those past it
least : (a : ℕ) → address_line a < 2 ^ 32
least a = grind (arith, nat_tests)

itself : (a : ℕ) → a < 2 ^ 32 → address_line a ≡ a
itself a small = grind (arith, nat_tests)

pub place_past : (m : SymbolMap) (a : ℕ) → place_of m (address_line a) ≡ place_of m a
unfolding place_of
place_past m a = ap (λ n. get_or m.places n m.unknown) (itself (address_line a) (least a))

-- ---- a map of ranges

module _ (functions : List Function) (files : List (List ℕ)) (entries : List (Option ℕ)) (ranges : AddressRanges)
    (unknown : Place) where
  abbrev m : SymbolMap
  m = map_of functions files entries ranges unknown

  pub place_told : (a : ℕ) → place_of m a ≡ place_in unknown (here_at ranges (address_line a))
  unfolding place_of
  place_told a =
      told_at (2 ^ 32) (λ (n : ℕ). place_in unknown (here_at ranges n)) (address_line a) unknown (least a)

  pub place_is : (a : ℕ) → a < 2 ^ 32 → place_of m a ≡ place_in unknown (here_at ranges a)
  place_is a small = place_told a ∙ ap (λ n. place_in unknown (here_at ranges n)) (itself a small)

  pub entry_is : (a : ℕ) → a < 2 ^ 32 → is_entry_at m a ≡ begins_at a (here_at ranges a)
  unfolding is_entry_at
  entry_is a small =
      told_at (2 ^ 32) (λ (n : ℕ). begins_at n (here_at ranges n)) (address_line a) false (least a)
      ∙ ap (λ n. begins_at n (here_at ranges n)) (itself a small)

  -- the map that tells code by its addresses is of the same ranges
  pub address_map_is : map_of functions files entries (lines_by_address ranges) unknown ≡ address_map m
  unfolding address_map
  address_map_is =
      ap (λ (places : List Place). record m { places = places })
      (told_same (2 ^ 32) (λ (n : ℕ). place_in unknown (here_at (lines_by_address ranges) n))
      (λ (n : ℕ). record { func = (place_of m n).func; file = no_file; line = n }) unknown
      (λ a small. by a (itself a small) (place_is a small)))
    where
      by : (a : ℕ) → address_line a ≡ a → place_of m a ≡ place_in unknown (here_at ranges a)
          → place_in unknown (here_at (lines_by_address ranges) a)
          ≡ record { func = (place_of m a).func; file = no_file; line = a }
      by a line place = λ i. record { func = (sym place i).func; file = no_file; line = line i }

-- ---- a map as it is kept

module _ (m : Inside) (now : SymbolMap)
    (is : map_of m.functions m.files.items m.entries.items m.ranges m.unknown ≡ now) where
  pub kept_place : (a : ℕ) → a < 2 ^ 32 → place_in m.unknown (here_at m.ranges a) ≡ place_of now a
  kept_place a small =
      sym (place_is m.functions m.files.items m.entries.items m.ranges m.unknown a small)
      ∙ ap (λ (k : SymbolMap). place_of k a) is

  pub kept_entry : (a : ℕ) → a < 2 ^ 32 → begins_at a (here_at m.ranges a) ≡ is_entry_at now a
  kept_entry a small =
      sym (entry_is m.functions m.files.items m.entries.items m.ranges m.unknown a small)
      ∙ ap (λ (k : SymbolMap). is_entry_at k a) is

  pub kept_by_address : map_of m.functions m.files.items m.entries.items (lines_by_address m.ranges) m.unknown
      ≡ address_map now
  kept_by_address =
      address_map_is m.functions m.files.items m.entries.items m.ranges m.unknown ∙ ap address_map is

-- ---- the map that tells code by its addresses

pub address_place : (m : SymbolMap) (a : ℕ)
    → place_of (address_map m) a ≡ record { func = (place_of m a).func; file = no_file; line = address_line a }
unfolding address_map place_of
address_place m a =
    told_at (2 ^ 32) (λ (n : ℕ). record { func = (place_of m n).func; file = no_file; line = n }) (address_line a)
    m.unknown (least a)
    ∙ ap (λ (p : Place). record { func = p.func; file = no_file; line = address_line a }) (place_past m a)

pub address_entry : (m : SymbolMap) (a : ℕ) → is_entry_at (address_map m) a ≡ is_entry_at m a
unfolding address_map is_entry_at
address_entry m a = refl
