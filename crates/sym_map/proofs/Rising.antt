-- Keys in strictly rising order.
pub use Rattle.name_numbers.proofs.Rising.{adjacent, far}
