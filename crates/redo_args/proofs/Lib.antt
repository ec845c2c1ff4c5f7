pub mod CommandLemmas
pub mod ErrorLemmas
pub mod Getters
pub mod OneKind
pub mod ParseLemmas
mod HtmlGetters
mod HtmlRejectionRows
mod HtmlSound
mod HtmlWordsRows
mod JsonRejectionRows
mod JsonSound
mod JsonWordsRows
mod NewRejectionRows
mod NewSound
mod NewWordsRows
mod RejectionLemmas
mod RejectionRows
mod Sound
mod TargetsRows
mod WordsRows
