pub mod Symbols
pub mod Places
pub mod FunctionOrder
pub mod SymbolMap
pub mod AddressMap
pub mod inner
