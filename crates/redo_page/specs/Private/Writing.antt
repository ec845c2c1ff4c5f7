-- The postconditions of writers of parts.
use Rattle.std.specs.Prelude.{◌≡◌, Bool, true, false, List, ◌++◌, Option, Result, Ok, Err}
use Rattle.std.specs.List.{flat_map}
use Rattle.redo_device.specs.declared.feed.Broken.{Broken}
use Rattle.redo_device.specs.Sink.{Output, Writes}
use Rattle.redo_html.specs.Parts.{Part, part_html}
use Rattle.redo_page.specs.declared.writer.PageWriter.{PageWriter}

abbrev pub done_if : Bool → Result (Unit {0}) Broken
done_if true = Err (record {})
done_if false = Ok tt

-- Parts were written, or a write failed; unless one had failed before.
abbrev pub WroteUnless : Bool → Option Output → Option Output → List Part → Bool → Type 0
WroteUnless true before after parts failed = (after ≡ before) × (failed ≡ true)
WroteUnless false before after parts failed = Writes before after (flat_map part_html parts) (done_if failed)

module _ {W : Type 0} (written : W → Option Output) where
  pub record WroteParts (before now : PageWriter W) (parts : List Part) : Type 0 where
    pub out : now.out.ghost_name ≡ before.out.ghost_name
    pub wrote : WroteUnless before.failed (written before.out.now) (written now.out.now) parts now.failed

  -- Everything of these parts except `left` was written, or a write failed.
  pub record WrotePartsUpTo (before now : PageWriter W) (parts left : List Part) : Type 0 where
    pub first : List Part
    pub wrote : WroteParts before now first
    pub whole : parts ≡ first ++ left
