-- Parts that are written one after the other in a loop.
use Rattle.std.proofs.Common.{◌≡◌, ℕ, Bool, true, false, List, [], ◌∷◌, ◌++◌, Option, refl, sym, ◌∙◌, ap, subst}
use Rattle.std.proofs.lemmas.Bool.{true≢false}
use Rattle.std.proofs.lemmas.List.{append_assoc, append-nil}
use Rattle.redo_device.specs.Sink.{Output}
use Rattle.redo_device.proofs.WritesLemmas.{append_nothing}
use Rattle.redo_html.specs.declared.style.Style.{Style}
use Rattle.redo_html.specs.Lines.{line_parts, style_after, style_after_lines}
use Rattle.redo_html.specs.Parts.{Part}
use Rattle.redo_html.specs.Parts.Part.{LogPart}
use Rattle.redo_line.specs.Lines.{ended, with_line_feed}
use Rattle.redo_outline.specs.TextLines.{IsWholeLine}
use Rattle.redo_outline.proofs.FirstLines.{whole_ended}
use Rattle.redo_page.specs.declared.writer.PageWriter.{PageWriter}
use Rattle.redo_page.specs.Article.{output_line_parts}
use Rattle.redo_page.specs.Errors.{is_error}
use Rattle.redo_page.specs.Excerpt.{emphasized_if}
use Rattle.redo_page.specs.Private.Writing.{WroteParts, WroteUnless, WrotePartsUpTo}
use Rattle.redo_page.specs.Targets.{parts_if}
use Rattle.redo_page.proofs.WriterLemmas.{wrote_then}

unless_nothing : (failed : Bool) (output : Option Output) → WroteUnless failed output output [] failed
unless_nothing true output = (refl, refl)
unless_nothing false output = append_nothing output

module _ {W : Type 0} (written : W → Option Output) where
  pub wrote_nothing : (page : PageWriter W) → WroteParts written page page []
  wrote_nothing page = record { out = refl; wrote = unless_nothing page.failed (written page.out.now) }

  pub upto_start : (page : PageWriter W) (parts left : List Part) → parts ≡ left → WrotePartsUpTo written page page parts left
  upto_start page parts left whole = record { first = []; wrote = wrote_nothing page; whole = whole }

  pub upto_next : (before middle after : PageWriter W) (parts left next rest : List Part)
      → WrotePartsUpTo written before middle parts left → WroteParts written middle after next → left ≡ next ++ rest
      → WrotePartsUpTo written before after parts rest
  upto_next before middle after parts left next rest so_far wrote splits = record {
    first = so_far.first ++ next;
    wrote = wrote_then so_far.wrote wrote;
    whole = so_far.whole ∙ ap (λ (others : List Part). so_far.first ++ others) splits ∙ sym (append_assoc so_far.first next rest);
  }

  pub upto_last : (before middle after : PageWriter W) (parts left : List Part) → WrotePartsUpTo written before middle parts left
      → WroteParts written middle after left → WroteParts written before after parts
  upto_last before middle after parts left so_far wrote =
      subst (WroteParts written before after) (sym so_far.whole) (wrote_then so_far.wrote wrote)

  pub upto_end : (before now : PageWriter W) (parts : List Part) → WrotePartsUpTo written before now parts []
      → WroteParts written before now parts
  upto_end before now parts so_far = upto_last before now now parts [] so_far (wrote_nothing now)

  -- Parts that depend on a condition which holds.
  pub wrote_if : (before now : PageWriter W) (condition : Bool) (parts : List Part) → condition ≡ true → WroteParts written before now parts
      → WroteParts written before now (parts_if condition parts)
  wrote_if before now condition parts is wrote = subst (λ (b : Bool). WroteParts written before now (parts_if b parts)) (sym is) wrote

  pub wrote_unless : (page : PageWriter W) (condition : Bool) (parts : List Part) → condition ≡ false
      → WroteParts written page page (parts_if condition parts)
  wrote_unless page condition parts is = subst (λ (b : Bool). WroteParts written page page (parts_if b parts)) (sym is) (wrote_nothing page)

  pub wrote_as : (before now : PageWriter W) (parts others : List Part) → parts ≡ others → WroteParts written before now parts
      → WroteParts written before now others
  wrote_as before now parts others same wrote = subst (WroteParts written before now) same wrote

  -- ---- lines

  unless_styled : (failed : Bool) (before after : Option Output) (style right : Style) (lines : List (List ℕ)) (now_failed : Bool)
      → (failed ≡ false → style ≡ right)
      → WroteUnless failed before after (output_line_parts style lines) now_failed
      → WroteUnless failed before after (output_line_parts right lines) now_failed
  unless_styled true before after style right lines now_failed is wrote = wrote
  unless_styled false before after style right lines now_failed is wrote =
      subst (λ (s : Style). WroteUnless false before after (output_line_parts s lines) now_failed) (is refl) wrote

  -- A write that failed is not undone.
  pub still_good : (failed : Bool) (before after : Option Output) (parts : List Part) (now_failed : Bool)
      → WroteUnless failed before after parts now_failed → now_failed ≡ false → failed ≡ false
  still_good true before after parts now_failed wrote good = absurd (true≢false (sym wrote.1 ∙ good))
  still_good false before after parts now_failed wrote good = refl

  lines_split : (style : Style) (lines more : List (List ℕ))
      → output_line_parts style (lines ++ more) ≡ output_line_parts style lines ++ output_line_parts (style_after_lines style lines) more
  lines_split style [] more = refl
  lines_split style (line ∷ lines) more =
      let first = emphasized_if (is_error line) (LogPart style (with_line_feed line) ∷ []) in
      let next = style_after style (with_line_feed line) in
      ap (λ (parts : List Part). first ++ parts) (lines_split next lines more)
      ∙ sym (append_assoc first (output_line_parts next lines) (output_line_parts (style_after_lines next lines) more))

  -- A line with its line feed.
  pub wrote_line : (before now : PageWriter W) (style : Style) (bytes : List ℕ) (is : IsWholeLine bytes) (reports : Bool)
      → is_error is.line ≡ reports → WroteParts written before now (emphasized_if reports (line_parts style (ended bytes)))
      → WroteParts written before now (output_line_parts style (ended bytes))
  wrote_line before now style bytes is reports reports_is wrote =
      let one = whole_ended bytes is in
      let first : List Part = LogPart style (with_line_feed is.line) ∷ [] in
      wrote_as before now (emphasized_if reports (line_parts style (ended bytes))) (output_line_parts style (ended bytes))
      (ap (λ (lines : List (List ℕ)). emphasized_if reports (line_parts style lines)) one
      ∙ ap (λ (b : Bool). emphasized_if b first) (sym reports_is)
      ∙ sym (append-nil (emphasized_if (is_error is.line) first)) ∙ ap (output_line_parts style) (sym one)) wrote

  -- Everything of these parts except these lines was written, or a write failed. Unless it did, `style` is the style of the first of them.
  pub record LinesLeft (before now : PageWriter W) (parts : List Part) (style : Style) (lines : List (List ℕ)) : Type 0 where
    pub right : Style
    pub style_is : now.failed ≡ false → style ≡ right
    pub wrote : WrotePartsUpTo written before now parts (output_line_parts right lines)

  pub lines_start : (page : PageWriter W) (style : Style) (lines left : List (List ℕ)) → left ≡ lines
      → LinesLeft page page (output_line_parts style lines) style left
  lines_start page style lines left same = record {
    right = style;
    style_is = λ good. refl;
    wrote = upto_start page (output_line_parts style lines) (output_line_parts style left) (ap (output_line_parts style) (sym same));
  }

  pub lines_next : (before middle after : PageWriter W) (parts : List Part) (style next : Style) (left lines more : List (List ℕ))
      → LinesLeft before middle parts style left → left ≡ lines ++ more → WroteParts written middle after (output_line_parts style lines)
      → (after.failed ≡ false → next ≡ style_after_lines style lines) → LinesLeft before after parts next more
  lines_next before middle after parts style next left lines more so_far splits wrote next_is = record {
    right = style_after_lines so_far.right lines;
    style_is = λ good.
        next_is good
        ∙ ap (λ (s : Style). style_after_lines s lines)
        (so_far.style_is (still_good middle.failed (written middle.out.now) (written after.out.now)
        (output_line_parts style lines) after.failed wrote.wrote good));
    wrote = upto_next before middle after parts (output_line_parts so_far.right left) (output_line_parts so_far.right lines)
        (output_line_parts (style_after_lines so_far.right lines) more) so_far.wrote
        (record {
          out = wrote.out;
          wrote = unless_styled middle.failed (written middle.out.now)
              (written after.out.now) style so_far.right lines after.failed so_far.style_is wrote.wrote;
        })
        (ap (output_line_parts so_far.right) splits ∙ lines_split so_far.right lines more);
  }

  pub lines_end : (before now : PageWriter W) (parts : List Part) (style : Style) (left : List (List ℕ))
      → LinesLeft before now parts style left → left ≡ [] → WroteParts written before now parts
  lines_end before now parts style left so_far none =
      upto_end before now parts (subst (WrotePartsUpTo written before now parts) (ap (output_line_parts so_far.right) none) so_far.wrote)
