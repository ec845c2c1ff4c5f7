mod FormLemmas
mod LawLemmas
mod LineLemmas
mod NewsRows
mod SameLemmas
mod SectionLemmas
