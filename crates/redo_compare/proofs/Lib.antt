mod BaselineLemmas
mod BaselineRows
mod ChangeRows
pub mod DiagnosticLemmas
pub mod FindingLemmas
mod FindingRows
pub mod KindLemmas
mod LogChangeLemmas
mod LogChangeRows
mod LogLemmas
mod OutcomeRows
pub mod PartLemmas
pub mod PickedLemmas
pub mod RoundLemmas
mod RoundRows
mod SkippingRows
pub mod SourceLemmas
mod SourceRows
pub mod StepLemmas
