mod DateLemmas
mod DateRows
mod DurationLemmas
mod TickLemmas
mod TickRows
mod UnitRows
mod WordLemmas
