-- What the map that tells code by its addresses says of them.
use Rattle.std.proofs.Common.{◌≡◌, ℕ, ◌<◌, List, length, refl, ap, sym, subst, ◌∙◌, arith}
use Rattle.event_costs.specs.declared.numbers.FuncId.{FuncId}
use Rattle.event_costs.specs.Keys.{Place}
use Rattle.sym_map.specs.AddressMap.{address_line, address_map, no_file}
use Rattle.sym_map.specs.SymbolMap.{IsFile, IsFunc, IsSound, SymbolMap, place_of}
pub use Rattle.sym_map.proofs.Told.{address_entry, address_place}
use Rattle.part_dump.specs.Cuts.{has_name}
use Rattle.recorder.specs.inner.Known.{KnowsPlaces}
use Rattle.addr_rows.proofs.AlikeLemmas.{SameCode}

pub address_code : (m : SymbolMap) → SameCode m (address_map m)
address_code m = record {
  funcs = λ pc. ap (λ (p : Place). p.func) (sym (address_place m pc));
  entries = λ pc. sym (address_entry m pc);
}

-- the place of an address, in itself
pub itself_place : (m : SymbolMap) (a : ℕ) → place_of (address_map m) a
    ≡ record { func = (place_of (address_map m) a).func; file = no_file; line = address_line a }
itself_place m a =
    address_place m a
    ∙ ap (λ (p : Place). record { func = p.func; file = no_file; line = address_line a }) (sym (address_place m a))

-- its functions have the same names
pub address_names : (m : SymbolMap) (name : List ℕ) (func : FuncId)
    → has_name m name func ≡ has_name (address_map m) name func
unfolding address_map
address_names m name func = refl

-- its functions are those of the other map
pub same_func : (m : SymbolMap) (f : FuncId) → IsFunc (address_map m) f → IsFunc m f
unfolding address_map
same_func m f is = is

-- the functions and files of its places are its own
pub address_knows : (m : SymbolMap) → IsSound m → KnowsPlaces (address_map m)
unfolding address_map
address_knows m sound pc =
    subst (λ (p : Place). IsFunc (address_map m) p.func × IsFile (address_map m) p.file) (sym (address_place m pc))
    (sound.place_functions pc, some (sound.place_files 0))
  where
    some : {i : ℕ} → i < length m.files → 0 < length m.files
    some below_ = omega (arith, below_)
