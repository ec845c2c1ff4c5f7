-- Text lines, one by one and many at once.
use Rattle.std.proofs.Common.{◌≡◌, ℕ, ◌+◌, ◌<◌, Bool, true, List, [], ◌∷◌, ◌++◌, Option, None, Some, Result, Ok, Err, length, take, drop, refl, sym, ◌∙◌, ap, subst, arith}
use Rattle.std.specs.Prelude.{◌||◌, nat_le, if◌then◌else◌}
use Rattle.std.specs.List.{flat_map}
use Rattle.std.proofs.lemmas.Bool.{le-leb, leb-true}
use Rattle.std.proofs.lemmas.List.{append_assoc, append-nil, length-append, length-take, map-append, take-append-drop}
use Rattle.std.proofs.lemmas.List.Sums.{sum_by-cons}
use Rattle.memchr.specs.Find.{Passes, Nowhere, NoneBefore, is_byte}
use Rattle.redo_device.specs.Sink.{Output, append_output}
use Rattle.redo_line.specs.declared.entry.Entry.TheVariants.{Text}
use Rattle.redo_line.specs.Lines.{ended, rest, with_line_feed}
use Rattle.redo_line.proofs.CutLemmas.{free_before, holds_none, upto_feed}
use Rattle.redo_line.proofs.LineLemmas.{ended-append, rest-append, ended-free, ended-line, rest-free, rest-line, are_lines}
use Rattle.redo_view.specs.Event.{Event}
use Rattle.redo_view.specs.Event.Event.{EntryShown}
use Rattle.redo_view.specs.Form.{FormWrites, bytes_of, state_after, text_events}
use Rattle.redo_view.specs.declared.form.FormFault.{FormFault}
use Rattle.redo_outline.specs.Facts.{saturated, text_size}
use Rattle.redo_trim.specs.declared.limit.Gauge.{Gauge}
use Rattle.redo_trim.specs.declared.limit.Limit.{Limit}
use Rattle.redo_trim.specs.declared.limit.Showing.{Showing}
use Rattle.redo_trim.specs.declared.limit.Showing.TheVariants as showing
use Rattle.redo_trim.specs.declared.trimmed.Trimmed.{Trimmed}
use Rattle.redo_trim.specs.Trim.{innermost, kept, line_shown, line_size, showing_in, trimmed, with_text}
use Rattle.redo_trim.specs.TrimmedForm.{form_after, form_bytes}
use Rattle.redo_trim.specs.Private.Writing.{IsFirstLine, IsOneLine, TailFits, WroteUpTo, keeps_all, lines_shown}
use Rattle.redo_trim.proofs.FormLemmas.{bytes-append, form_stops, form_then, state-append, trimmed_bytes}

-- ---- the first line

pub first_found : (bytes : List ℕ) (at : ℕ) → NoneBefore (Passes (is_byte 10) bytes) 0 (length bytes) at × Passes (is_byte 10) bytes at
    → IsFirstLine bytes (at + 1)
first_found bytes at found =
    let below = found.0.high in
    let free = free_before bytes at found.0.before in
    let is = upto_feed bytes at found.0.high found.1 in
    let size = length-take at bytes in
    let whole = length-take (at + 1) bytes in
    record {
      within = omega (arith, below);
      is_line = record {
        complete = ap rest is ∙ rest-line (take at bytes) [] free ∙ rest-free [] tt;
        line = take at bytes;
        is = ap ended is ∙ ended-line (take at bytes) [] free ∙ ap (λ (ls : List (List ℕ)). take at bytes ∷ ls) (ended-free [] tt);
        size_is = omega (arith, below, size, whole);
      };
      size_is = omega (arith, below, whole);
    }

-- Complete lines have a line feed.
pub line_found : (bytes : List ℕ) → Nowhere (Passes (is_byte 10) bytes) 0 (length bytes) → rest bytes ≡ [] → 0 < length bytes → ⊥
line_found bytes nowhere complete some = let none = ap length (sym (rest-free bytes (holds_none bytes nowhere)) ∙ complete) in
    omega (arith, none, some)

-- ---- lines and those after them

-- The bytes after complete lines.
pub complete_after : (bytes : List ℕ) (len : ℕ) → rest (take len bytes) ≡ [] → rest bytes ≡ [] → rest (drop len bytes) ≡ []
complete_after bytes len first complete =
    sym (ap (λ (r : List ℕ). rest (r ++ drop len bytes)) first) ∙ sym (rest-append (take len bytes) (drop len bytes))
    ∙ ap rest (take-append-drop len bytes) ∙ complete

split_ended : (bytes : List ℕ) (len : ℕ) → rest (take len bytes) ≡ [] → ended bytes ≡ ended (take len bytes) ++ ended (drop len bytes)
split_ended bytes len first =
    ap ended (sym (take-append-drop len bytes)) ∙ ended-append (take len bytes) (drop len bytes)
    ∙ ap (λ (r : List ℕ). ended (take len bytes) ++ ended (r ++ drop len bytes)) first

split_texts : (depth : ℕ) (bytes : List ℕ) (len : ℕ) → rest (take len bytes) ≡ []
    → text_events depth (ended bytes) ≡ text_events depth (ended (take len bytes)) ++ text_events depth (ended (drop len bytes))
split_texts depth bytes len first =
    ap (text_events depth) (split_ended bytes len first)
    ∙ map-append (λ (text : List ℕ). EntryShown depth (Text text)) (ended (take len bytes)) (ended (drop len bytes))

module _ {F : Type 0} (bytes : F → Event → List ℕ) (after : F → Event → F) (depth : ℕ) (form : F) (text : List ℕ) (len : ℕ)
    (first : rest (take len text) ≡ []) where
  pub next_bytes : bytes_of bytes after form (text_events depth (ended text))
      ≡ bytes_of bytes after form (text_events depth (ended (take len text)))
      ++ bytes_of bytes after (state_after after form (text_events depth (ended (take len text))))
      (text_events depth (ended (drop len text)))
  next_bytes =
      ap (bytes_of bytes after form) (split_texts depth text len first)
      ∙ bytes-append bytes after form (text_events depth (ended (take len text))) (text_events depth (ended (drop len text)))

  next_state : state_after after form (text_events depth (ended text))
      ≡ state_after after (state_after after form (text_events depth (ended (take len text)))) (text_events depth (ended (drop len text)))
  next_state =
      ap (state_after after form) (split_texts depth text len first)
      ∙ state-append bytes after form (text_events depth (ended (take len text))) (text_events depth (ended (drop len text)))

  pub state_next : (now : F) (left : List ℕ) → drop len text ≡ left
      → now ≡ state_after after form (text_events depth (ended (take len text)))
      → state_after after now (text_events depth (ended left)) ≡ state_after after form (text_events depth (ended text))
  state_next now left past same =
      ap (λ l. state_after after now (text_events depth (ended l))) (sym past)
      ∙ ap (λ f. state_after after f (text_events depth (ended (drop len text)))) same ∙ sym next_state

lines_length : (lines : List (List ℕ)) → length (flat_map with_line_feed lines) ≡ text_size lines
lines_length [] = refl
lines_length (line ∷ lines) =
    let two = length-append (with_line_feed line) (flat_map with_line_feed lines) in
    let one = length-append line (10 ∷ []) in
    let others = lines_length lines in
    let both = sum_by-cons (λ (text : List ℕ). length text + 1) line lines in
    omega (arith, two, one, others, both)

complete_length : (bytes : List ℕ) → rest bytes ≡ [] → length bytes ≡ text_size (ended bytes)
complete_length bytes complete =
    ap length ((are_lines bytes).whole ∙ ap (λ (r : List ℕ). flat_map with_line_feed (ended bytes) ++ r) complete
    ∙ append-nil (flat_map with_line_feed (ended bytes))) ∙ lines_length (ended bytes)

-- ---- gauges

pub with_texts : (first others : ℕ) (gauges : List Gauge) → with_text others (with_text first gauges) ≡ with_text (first + others) gauges
with_texts first others [] = refl
with_texts first others (gauge ∷ outer) = ap (λ (n : ℕ). record { limit = gauge.limit; seen = n } ∷ outer) (omega arith)

keeps_still : (size : ℕ) (gauges : List Gauge) → TailFits gauges → keeps_all gauges ≡ true → keeps_all (with_text size gauges) ≡ true
keeps_still size [] fits keeps = refl
keeps_still size (gauge ∷ outer) fits keeps =
    let below = leb-true gauge.limit.tail gauge.seen keeps in
    le-leb gauge.limit.tail (saturated (gauge.seen + size)) (omega (arith, below, fits))

fits_still : (size : ℕ) (gauges : List Gauge) → TailFits gauges → TailFits (with_text size gauges)
fits_still size [] fits = fits
fits_still size (gauge ∷ outer) fits = fits

pub keeps_whole : (gauges : List Gauge) (size : ℕ) → keeps_all gauges ≡ true → showing_in (innermost gauges) size ≡ showing.Whole
keeps_whole [] size keeps = refl
keeps_whole (gauge ∷ outer) size keeps =
    ap (λ (b : Bool). if b || nat_le (gauge.seen + size) gauge.limit.head then showing.Whole
    else if nat_le gauge.seen gauge.limit.head then showing.Marker else showing.Nothing) keeps

-- ---- many lines, if none is left out

module _ {F : Type 0} (bytes : F → Event → List ℕ) (after : F → Event → F) (depth : ℕ) where
  pub kept_all : (lines : List (List ℕ)) (limits : List Limit) (gauges : List Gauge) → TailFits gauges → keeps_all gauges ≡ true
      → trimmed limits gauges (text_events depth lines) ≡ text_events depth lines
  kept_all [] limits gauges fits keeps = refl
  kept_all (line ∷ lines) limits gauges fits keeps =
      let next = with_text (line_size line) gauges in
      ap (λ (s : Showing). line_shown s depth line ++ trimmed limits next (text_events depth lines))
      (keeps_whole gauges (line_size line) keeps)
      ∙ ap (λ es. EntryShown depth (Text line) ∷ es)
      (kept_all lines limits next (fits_still (line_size line) gauges fits) (keeps_still (line_size line) gauges fits keeps))

  pub bytes_kept : (form : Trimmed F) (lines : List (List ℕ)) → TailFits form.gauges → keeps_all form.gauges ≡ true
      → bytes_of (form_bytes bytes after) (form_after after) form (text_events depth lines)
      ≡ bytes_of bytes after form.form (text_events depth lines)
  bytes_kept form lines fits keeps = trimmed_bytes bytes after form (text_events depth lines)
      ∙ ap (bytes_of bytes after form.form) (kept_all lines form.limits.now form.gauges fits keeps)

  -- The adapter after text lines.
  abbrev after_texts : Trimmed F → F → ℕ → Trimmed F
  after_texts form now size = record { form = now; gauges = with_text size form.gauges; limits = form.limits }

  state_from : (form : Trimmed F) (lines : List (List ℕ)) (now : F) (size : ℕ) → TailFits form.gauges → keeps_all form.gauges ≡ true
      → state_after (form_after after) (after_texts form now size) (text_events depth lines)
      ≡ after_texts form (state_after after now (text_events depth lines)) (size + text_size lines)
  state_from form [] now size fits keeps = ap (after_texts form now) (omega arith)
  state_from form (line ∷ lines) now size fits keeps =
      let more = text_events depth lines in
      let both = sum_by-cons (λ (text : List ℕ). length text + 1) line lines in
      let gauges = with_text size form.gauges in
      ap (λ (s : Showing). state_after (form_after after)
      (record {
        form = state_after after now (line_shown s depth line);
        gauges = with_text (line_size line) gauges;
        limits = form.limits;
      }) more)
      (keeps_whole gauges (line_size line) (keeps_still size form.gauges fits keeps))
      ∙ ap (λ (gs : List Gauge). state_after (form_after after)
      (record { form = after now (EntryShown depth (Text line)); gauges = gs; limits = form.limits }) more)
      (with_texts size (line_size line) form.gauges)
      ∙ state_from form lines (after now (EntryShown depth (Text line))) (size + line_size line) fits keeps
      ∙ ap (after_texts form (state_after after now (text_events depth (line ∷ lines)))) (omega (arith, both))

  state_lines : (form : Trimmed F) (lines : List (List ℕ)) → 0 < length lines → TailFits form.gauges → keeps_all form.gauges ≡ true
      → state_after (form_after after) form (text_events depth lines)
      ≡ after_texts form (state_after after form.form (text_events depth lines)) (text_size lines)
  state_lines form [] some fits keeps = absurd (omega (arith, some))
  state_lines form (line ∷ lines) some fits keeps =
      let both = sum_by-cons (λ (text : List ℕ). length text + 1) line lines in
      ap (λ (s : Showing). state_after (form_after after)
      (record {
        form = state_after after form.form (line_shown s depth line);
        gauges = with_text (line_size line) form.gauges;
        limits = form.limits;
      }) (text_events depth lines))
      (keeps_whole form.gauges (line_size line) keeps)
      ∙ state_from form lines (after form.form (EntryShown depth (Text line))) (line_size line) fits keeps
      ∙ ap (after_texts form (state_after after form.form (text_events depth (line ∷ lines)))) (omega (arith, both))

  some_line : (text : List ℕ) (lines : List (List ℕ)) → length text ≡ text_size lines → 0 < length text → 0 < length lines
  some_line text [] size some = absurd (omega (arith, size, some))
  some_line text (line ∷ lines) size some = omega arith

  pub state_kept : (form : Trimmed F) (text : List ℕ) → rest text ≡ [] → 0 < length text → TailFits form.gauges
      → keeps_all form.gauges ≡ true
      → state_after (form_after after) form (text_events depth (ended text))
      ≡ after_texts form (state_after after form.form (text_events depth (ended text))) (length text)
  state_kept form text complete some fits keeps =
      let size = complete_length text complete in
      state_lines form (ended text) (some_line text (ended text) size some) fits keeps
      ∙ ap (after_texts form (state_after after form.form (text_events depth (ended text)))) (sym size)

  -- ---- one line

  same_shown : (s : Showing) (line : List ℕ) → line_shown s depth line ≡ lines_shown s depth (line ∷ [])
  same_shown showing.Whole line = refl
  same_shown showing.Marker line = refl
  same_shown showing.Nothing line = refl

  module _ (form : Trimmed F) (text : List ℕ) (one : IsOneLine text) where
    one_shown : kept form.gauges (EntryShown depth (Text one.line))
        ≡ lines_shown (showing_in (innermost form.gauges) (length text)) depth (ended text)
    one_shown =
        same_shown (showing_in (innermost form.gauges) (line_size one.line)) one.line
        ∙ ap (λ (n : ℕ). lines_shown (showing_in (innermost form.gauges) n) depth (one.line ∷ [])) one.size_is
        ∙ ap (lines_shown (showing_in (innermost form.gauges) (length text)) depth) (sym one.is)

    pub one_bytes : bytes_of (form_bytes bytes after) (form_after after) form (text_events depth (ended text))
        ≡ bytes_of bytes after form.form (lines_shown (showing_in (innermost form.gauges) (length text)) depth (ended text))
    one_bytes =
        ap (λ ls. bytes_of (form_bytes bytes after) (form_after after) form (text_events depth ls)) one.is
        ∙ append-nil (bytes_of bytes after form.form (kept form.gauges (EntryShown depth (Text one.line))))
        ∙ ap (bytes_of bytes after form.form) one_shown

    pub one_state : state_after (form_after after) form (text_events depth (ended text))
        ≡ after_texts form (state_after after form.form (lines_shown (showing_in (innermost form.gauges) (length text)) depth (ended text)))
        (length text)
    one_state =
        ap (λ ls. state_after (form_after after) form (text_events depth ls)) one.is
        ∙ ap (λ es. after_texts form (state_after after form.form es) (line_size one.line)) one_shown
        ∙ ap (after_texts form (state_after after form.form
        (lines_shown (showing_in (innermost form.gauges) (length text)) depth (ended text)))) one.size_is

-- ---- texts that are written in parts

pub nothing_written : (output : Option Output) → output ≡ append_output output [] 0
nothing_written None = refl
nothing_written (Some taken) =
    ap (λ (b : List ℕ). Some (record { bytes = b; failures = taken.failures })) (sym (append-nil taken.bytes))
    ∙ ap (λ (n : ℕ). Some (record { bytes = taken.bytes ++ []; failures = n })) (omega arith)

pub wrote_none : (before : Option Output) (text : List ℕ) → WroteUpTo before before text text
wrote_none before text = record { prefix = []; wrote = nothing_written before; splits = refl }

module _ (before middle after : Option Output) (text part left : List ℕ) (so_far : WroteUpTo before middle text (part ++ left)) where
  pub wrote_more : after ≡ append_output middle part 0 → WroteUpTo before after text left
  wrote_more wrote = record {
    prefix = so_far.prefix ++ part;
    wrote = form_then before middle after so_far.prefix part (Ok tt) so_far.wrote wrote;
    splits = append_assoc so_far.prefix part left ∙ so_far.splits;
  }

  pub failed_part : (fault : FormFault) → FormWrites middle after part (Err fault) → FormWrites before after text (Err fault)
  failed_part fault wrote =
      subst (λ t. FormWrites before after t (Err fault)) (append_assoc so_far.prefix part left ∙ so_far.splits)
      (form_stops before after (so_far.prefix ++ part) left fault
      (form_then before middle after so_far.prefix part (Err fault) so_far.wrote wrote))

pub last_part : (before middle after : Option Output) (text part : List ℕ) (done : Result (Unit {0}) FormFault)
    → WroteUpTo before middle text part → FormWrites middle after part done → FormWrites before after text done
last_part before middle after text part done so_far wrote =
    subst (λ t. FormWrites before after t done) so_far.splits (form_then before middle after so_far.prefix part done so_far.wrote wrote)

pub wrote_all : (before after : Option Output) (text : List ℕ) → WroteUpTo before after text [] → after ≡ append_output before text 0
wrote_all before after text so_far =
    so_far.wrote ∙ ap (λ (t : List ℕ). append_output before t 0) (sym (append-nil so_far.prefix) ∙ so_far.splits)
