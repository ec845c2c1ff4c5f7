-- Lines of a log of some kind.
use Rattle.std.proofs.Common.{ℕ, List, [], ◌∷◌, ◌++◌}
use Rattle.redo_json.specs.declared.kind.Kind.{Kind}
use Rattle.redo_json.specs.Private.LogLines.{AreOfKind, ArePlainLines, AreSimple, AreUtf8}

pub kind_parts : (kind : Kind) (lines more : List (List ℕ)) → AreOfKind kind (lines ++ more)
    → AreOfKind kind lines × AreOfKind kind more
kind_parts kind [] more all = (tt, all)
kind_parts kind (line ∷ lines) more all = let parts = kind_parts kind lines more all.1 in ((all.0, parts.0), parts.1)

pub simple_text : (lines : List (List ℕ)) → AreSimple lines → AreUtf8 lines
simple_text [] all = tt
simple_text (line ∷ lines) all = (all.0.utf8, simple_text lines all.1)

pub simple_plain : (lines : List (List ℕ)) → AreSimple lines → ArePlainLines lines
simple_plain [] all = tt
simple_plain (line ∷ lines) all = (all.0.plain, simple_plain lines all.1)
