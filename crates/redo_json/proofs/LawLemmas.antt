-- The laws about builds.
use Rattle.std.proofs.Common.{◌≡◌, ℕ, List, [], ◌∷◌, ◌++◌, IsUtf8, map, refl, ap, ◌∙◌}
use Rattle.std.specs.List.{AllByRecursion, flat_map}
use Rattle.redo_line.specs.Lines.{ended, line_feed, rest, with_line_feed}
use Rattle.redo_line.proofs.LineLemmas.{ended-free, ended-line, rest-free, rest-line}
use Rattle.std.proofs.lemmas.List.{append_assoc}
use Rattle.redo_json.specs.Build.{object_text}
use Rattle.redo_json.specs.Laws.{AreReadBack, HasExactNumbers, IsReadBack}
use Rattle.redo_json.specs.Object.{LogValues, object_of}
use Rattle.std.proofs.lemmas.Str.{IsUtf8-append, IsUtf8-nil}
use Rattle.json.proofs.Printed.Utf8.{IsUtf8-are_ascii}
use Rattle.redo_json.proofs.OneLineLemmas.{json_free}
use Rattle.redo_json.proofs.ReadingLemmas.{has_numbers, read_back}
use Rattle.redo_json.proofs.Utf8Lemmas.{object_utf8}

abbrev json_of : List LogValues → List ℕ
json_of all = flat_map (λ (values : LogValues). with_line_feed (object_text values)) all

first_line : (values : LogValues) (others : List ℕ) → with_line_feed (object_text values) ++ others ≡ object_text values
    ++ line_feed ∷ others
first_line values others = append_assoc (object_text values) (line_feed ∷ []) others

lines_are : (all : List LogValues) → AllByRecursion HasExactNumbers all → ended (json_of all) ≡ map object_text all
lines_are [] exact = ended-free [] tt
lines_are (values ∷ others) exact =
    ap ended (first_line values (json_of others))
    ∙ ended-line (object_text values) (json_of others) (json_free (object_of values) (has_numbers values exact.0))
    ∙ ap (λ (l : List (List ℕ)). object_text values ∷ l) (lines_are others exact.1)

rest_is : (all : List LogValues) → AllByRecursion HasExactNumbers all → rest (json_of all) ≡ []
rest_is [] exact = rest-free [] tt
rest_is (values ∷ others) exact =
    ap rest (first_line values (json_of others))
    ∙ rest-line (object_text values) (json_of others) (json_free (object_of values) (has_numbers values exact.0))
    ∙ rest_is others exact.1

each_read : (all : List LogValues) → AllByRecursion HasExactNumbers all
    → AllByRecursion (λ (values : LogValues). IsReadBack (object_of values)) all
each_read [] exact = tt
each_read (values ∷ others) exact = (read_back values exact.0, each_read others exact.1)

pub all_read : (all : List LogValues) → AllByRecursion HasExactNumbers all
    → AreReadBack (flat_map (λ (values : LogValues). with_line_feed (object_text values)) all) all
all_read all exact = record { lines = lines_are all exact; whole = rest_is all exact; each = each_read all exact }

pub all_utf8 : (all : List LogValues) → IsUtf8 (flat_map (λ (values : LogValues). with_line_feed (object_text values)) all)
all_utf8 [] = IsUtf8-nil
all_utf8 (values ∷ others) =
    IsUtf8-append (with_line_feed (object_text values)) (json_of others)
    (IsUtf8-append (object_text values) (line_feed ∷ []) (object_utf8 values) (IsUtf8-are_ascii (line_feed ∷ []) refl)) (all_utf8 others)
