mod DirectoryLemmas
mod NameLaws
mod NameLemmas
mod NameRows
mod PathLemmas
mod SegmentLemmas
