-- Numbers of keys, and lists of what is made of elements.
pub use Rattle.name_numbers.proofs.NameRanks.{all_there}
pub use Rattle.name_numbers.proofs.NumberOrder.{nested, number_order, numbers_mapped, rest_numbered, sorted_map}
