-- The order in which spans take lanes.
use Rattle.std.specs.Prelude.{List, [], ◌∷◌, if◌then◌else◌}
use Rattle.std.specs.declared.cmp.Ordering.{Ordering}
use Rattle.std.specs.Ordering.{bool_cmp, is_gt, nat_cmp, ordering_then}
use Rattle.redo_timeline.specs.declared.span.Span.{Span}

-- Spans are ordered by when they began, then by position. If two spans have the same position too, the one that ended first is first, and a
-- span that failed is last. Only equal spans compare as equal.
abbrev pub span_cmp : Span → Span → Ordering
span_cmp a b =
    ordering_then (nat_cmp a.began b.began)
    (ordering_then (nat_cmp a.position b.position) (ordering_then (nat_cmp a.ended b.ended) (bool_cmp a.failed b.failed)))

module _ {K : Type 0} (cmp : K → K → Ordering) where
  -- Sorted items, with one more.
  abbrev pub insert_sorted : K → List K → List K
  insert_sorted item [] = item ∷ []
  insert_sorted item (first ∷ rest) =
      if is_gt (cmp item first) then first ∷ insert_sorted item rest else item ∷ first ∷ rest

  -- The items, sorted.
  abbrev pub sort : List K → List K
  sort [] = []
  sort (item ∷ rest) = insert_sorted item (sort rest)

-- The spans in order.
abbrev pub in_order : List Span → List Span
in_order = sort span_cmp
