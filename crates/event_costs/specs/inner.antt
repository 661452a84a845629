-- Words of inner contracts. No public clause rests on them.
pub mod Bits
pub mod KeyOrder
