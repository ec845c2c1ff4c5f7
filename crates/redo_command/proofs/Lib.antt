mod AlarmRows
mod ArgumentRows
pub mod BaselineLemmas
mod BaselineRows
mod ExplanationRows
pub mod FactLemmas
mod FileLemmas
pub mod LogLemmas
mod ProcessRows
pub mod Results
mod SuggestionLemmas
