-- Lists with the same members.
pub use Rattle.name_numbers.proofs.Members.{Alike, Alike-again, Alike-append, Alike-cons, Alike-map, Alike-permutation, Alike-refl, Alike-trans, All-alike, Contains-cons, Contains-first, Contains-from_map, Contains-map, first_or_rest}
