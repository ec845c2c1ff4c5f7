-- Times, sorted.
use Rattle.std.specs.Prelude.{ℕ, max, List, map}
use Rattle.std.specs.List.Sorted.{IsNonDecreasing, IsPermutation}
use Rattle.redo_timeline.specs.declared.span.Span.{Span}

-- Whether these are the same times, and none is less than the one before.
abbrev pub AreSortedTimes : List ℕ → List ℕ → Type 0
AreSortedTimes times sorted = IsPermutation times sorted × IsNonDecreasing sorted

-- When a span ended, or when it began if that is later.
abbrev pub end_of : Span → ℕ
end_of span = max span.began span.ended

abbrev pub begins_of : List Span → List ℕ
begins_of spans = map (λ (span : Span). span.began) spans

abbrev pub ends_of_spans : List Span → List ℕ
ends_of_spans spans = map end_of spans
