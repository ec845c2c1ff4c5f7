-- Reading the parts of a page.
use Rattle.std.proofs.Common.{◌≡◌, List, [], sym, ◌∙◌, ap}
use Rattle.std.specs.List.{flat_map}
use Rattle.std.proofs.lemmas.List.{append-nil}
use Rattle.redo_html.specs.Html.{read, text_of}
use Rattle.redo_html.specs.Laws.{ReadsAs}
use Rattle.redo_html.specs.Parts.{Part, part_html, part_text, part_tokens}

-- The tokens of parts, if nothing follows them.
pub parts_alone : (parts : List Part) → ReadsAs (flat_map part_html parts) (flat_map part_tokens parts)
    → read (flat_map part_html parts) ≡ flat_map part_tokens parts
parts_alone parts reads = sym (ap read (append-nil (flat_map part_html parts))) ∙ reads [] ∙ append-nil (flat_map part_tokens parts)

pub parts_text : (parts : List Part) → ReadsAs (flat_map part_html parts) (flat_map part_tokens parts)
    → text_of (flat_map part_tokens parts) ≡ flat_map part_text parts → text_of (read (flat_map part_html parts)) ≡ flat_map part_text parts
parts_text parts reads shows = ap text_of (parts_alone parts reads) ∙ shows
