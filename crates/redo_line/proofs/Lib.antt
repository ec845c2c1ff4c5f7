pub mod CutLemmas
mod CutRows
mod DecimalRows
pub mod DigitLemmas
pub mod EntriesLemmas
mod EntriesRows
mod EntryLemmas
mod EntryListLemmas
pub mod FaultLemmas
mod FieldLemmas
mod FirstByteLemmas
mod FirstPlace
mod FrontRows
mod LeastFaultLemmas
pub mod LineLemmas
mod LineRows
pub mod LogLemmas
mod LogRows
mod NearLemmas
mod Numbers
pub mod PartLemmas
mod PartRows
pub mod PlaceLemmas
mod ReadingLemmas
mod RecordLemmas
mod RecordRows
mod ScanEnds
mod ScanLemmas
mod ScanRows
mod ScanSteps
pub mod SourceLemmas
mod SourceRows
mod StatusLemmas
mod Stripping
mod TextLemmas
