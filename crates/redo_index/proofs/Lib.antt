mod Adding
mod FirstLine
mod IndexEntries
mod IndexLaws
mod IndexLines
mod IndexRows
mod LineForm
mod LineParts
