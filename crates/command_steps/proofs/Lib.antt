pub mod AnswerLemmas
pub mod CompleteReportLemmas
mod KeptLemmas
mod LookupLemmas
mod NamedLemmas
pub mod OutsideLemmas
pub mod ReportLemmas
mod SayLemmas
pub mod StageLemmas
mod SummaryLemmas
pub mod TellLemmas
