mod Others
pub mod KnownLemmas
pub mod RefLemmas
pub mod TextLemmas
pub mod AddressMapLemmas
pub mod AlikeLemmas
pub mod KnownRowLemmas
pub mod HoldsLemmas
pub mod LastLemmas
pub mod PutLemmas
pub mod RestackLemmas
pub mod RecallLemmas
pub mod SingleLemmas
pub mod TranslatedLemmas
pub mod FoldLemmas
