-- Lines of which none has a word.
use Rattle.std.proofs.Common.{◌≡◌, ℕ, ◌+◌, ◌==◌, Bool, true, false, cond, ◌&&◌, refl, suc, List, [], ◌∷◌, ◌++◌, Option, None, Some, length, take, drop, take-append-drop, get_or, ap₂, sym, ◌∙◌, ap, subst, arith, zero-le}
use Rattle.std.specs.Prelude.{codes, is_some, option_and_then, option_map, slice_index}
use Rattle.std.specs.Char.{is_ascii_alphanumeric}
use Rattle.std.specs.List.{AllByRecursion, flat_map, list_all}
use Rattle.std.specs.Str.{bytes_eq}
use Rattle.std.proofs.lemmas.Bool.{and_parts, false_from_ne_true, le-leb}
use Rattle.std.proofs.lemmas.List.{append-nil, append_assoc, get_or-append-add, get_or-drop, get_or_append_left, length-append}
use Rattle.memchr.specs.Find.{FindsNeedle, IsFirstByte, OccursAt, is_byte}
use Rattle.memchr.proofs.lemmas.MatchLemmas.{OccursAt-true}
use Rattle.redo_line.proofs.LineLemmas.{are_lines}
use Rattle.redo_line.proofs.PartLemmas.{HasNo, are_parts, free_parts, parted_free}
use Rattle.redo_line.specs.Lines.{ended, line_feed, rest, with_line_feed}
use Rattle.redo_line.specs.Parts.{split_once}
use Rattle.redo_line.specs.Record.{colon, period}
use Rattle.redo_diagnostics.specs.declared.severity.Severity.{Severity}
use Rattle.redo_diagnostics.specs.declared.severity.Severity.TheVariants.{Warning, Error, FatalError}
use Rattle.redo_name.specs.Names.{slash}
use Rattle.redo_diagnostics.specs.Diagnostic.{HasNoTemporary, begins_temporary, masked, masked_after, origin_from, origin_of, diagnostic_from, diagnostic_of, is_word_at, parts_at, parts_in, word_of, word_place}
use Rattle.redo_diagnostics.specs.Plain.{plain_line}
use Rattle.redo_diagnostics.proofs.ApartLemmas.{temporary-long}
use Rattle.redo_diagnostics.proofs.FlagLemmas.{byte_nowhere}
use Rattle.redo_diagnostics.proofs.PlainLemmas.{escape, plain-line_has_no, plain-rest}
use Rattle.redo_diagnostics.proofs.ReadLemmas.{of_plain}
use Rattle.redo_diagnostics.proofs.WordLemmas.{no_colon_no_word, no_severity, place_nowhere, word_occurs}

-- ---- the lines of some bytes

module _ (P : List ℕ → Type 0) where
  of_lines : (front last : List ℕ) (lines : List (List ℕ))
      → ((before line after : List ℕ) → front ++ (flat_map with_line_feed lines ++ last) ≡ before ++ (line ++ after) → P line)
      → AllByRecursion P lines
  of_lines front last [] part = tt
  of_lines front last (line ∷ lines) part =
      let others : List ℕ = flat_map with_line_feed lines ++ last in
      let split : (with_line_feed line ++ flat_map with_line_feed lines) ++ last ≡ with_line_feed line ++ others =
      append_assoc (with_line_feed line) (flat_map with_line_feed lines) last in (
        part front line (line_feed ∷ others) (ap (λ (bs : List ℕ). front ++ bs) (split ∙ append_assoc line (line_feed ∷ []) others)),
        of_lines (front ++ with_line_feed line) last lines (λ before one after same. part before one after
            (ap (λ (bs : List ℕ). front ++ bs) split ∙ sym (append_assoc front (with_line_feed line) others) ∙ same)),
      )

  -- What holds of each part of some bytes holds of their lines.
  of_ended : (bytes : List ℕ) → ((before line after : List ℕ) → bytes ≡ before ++ (line ++ after) → P line) → AllByRecursion P (ended bytes)
  of_ended bytes part =
      of_lines [] (rest bytes) (ended bytes) (λ before line after same. part before line after ((are_lines bytes).whole ∙ same))

-- ---- words

pub occurs_in : (before line after needle : List ℕ) (k : ℕ) → OccursAt line needle k
    → OccursAt (before ++ (line ++ after)) needle (length before + k)
occurs_in before line after needle k occurs = record {
  fits = let fits = occurs.fits in
      let all = length-append before (line ++ after) in
      let size = length-append line after in omega (arith, all, size, fits);
  reads = λ j below. let fits = occurs.fits in
      let same : length before + k + j ≡ length before + (k + j) = omega arith in
      ap (λ (n : ℕ). get_or (before ++ (line ++ after)) n 0) same ∙ get_or-append-add before (line ++ after) (k + j) 0
      ∙ get_or_append_left line after 0 (k + j) (omega (arith, fits, below)) ∙ occurs.reads j below;
}

-- What occurs nowhere occurs in no part.
nowhere_in : (before line after needle : List ℕ) → FindsNeedle (before ++ (line ++ after)) needle 0 None → (k : ℕ)
    → ¬ OccursAt line needle k
nowhere_in before line after needle nowhere k occurs =
    let inside = occurs_in before line after needle k occurs in
    let fits = inside.fits in
    nowhere (length before + k) zero-le (omega (arith, fits)) inside

-- `fatal error:` ends with `error:`.
error_in_fatal : (line : List ℕ) (k : ℕ) → OccursAt line (word_of FatalError) k → OccursAt line (word_of Error) (k + 6)
error_in_fatal line k occurs = record {
  fits = let fits = occurs.fits in omega (arith, fits);
  reads = λ j below. let same : k + 6 + j ≡ k + (6 + j) = omega arith in
      ap (slice_index line) same ∙ occurs.reads (6 + j) (omega (arith, below)) ∙ sym (get_or-drop 6 (word_of FatalError) j 0);
}

module _ (line : List ℕ) (no_warning : (k : ℕ) → ¬ OccursAt line (word_of Warning) k)
    (no_error : (k : ℕ) → ¬ OccursAt line (word_of Error) k) where
  no_word : (severity : Severity) (k : ℕ) → ¬ OccursAt line (word_of severity) k
  no_word Warning k occurs = no_warning k occurs
  no_word Error k occurs = no_error k occurs
  no_word FatalError k occurs = no_error (k + 6) (error_in_fatal line k occurs)

  no_place : word_place line ≡ None
  no_place = place_nowhere line (λ place. no_severity line place (Warning ∷ Error ∷ FatalError ∷ []) (λ severity.
      false_from_ne_true (is_word_at line severity place) (λ is. no_word severity place (word_occurs line severity place is))))

  says_nothing : HasNo escape line → diagnostic_of line ≡ None
  says_nothing free =
      sym (of_plain line)
      ∙ ap (λ (bytes : List ℕ). option_map diagnostic_from (parts_in bytes)) (plain-rest line (parted_free escape line free))
      ∙ ap (λ (place : Option ℕ). option_map diagnostic_from (option_and_then (λ (n : ℕ). parts_at line n) place)) no_place

found_nowhere : (bytes needle : List ℕ) (found : Option ℕ) → FindsNeedle bytes needle 0 found → is_some found ≡ false
    → FindsNeedle bytes needle 0 None
found_nowhere bytes needle None nowhere is = nowhere
found_nowhere bytes needle (Some k) first is = absurd (cc)

-- ---- lines

no_colon_nothing : (line : List ℕ) → HasNo colon line → diagnostic_of line ≡ None
unfolding diagnostic_of
no_colon_nothing line free =
    ap (λ (place : Option ℕ). option_map diagnostic_from (option_and_then (λ (n : ℕ). parts_at (plain_line line) n) place))
    (no_colon_no_word (plain_line line) (plain-line_has_no colon line free))

pub without_colons : (lines : List ℕ) (found : Option ℕ) → IsFirstByte (is_byte colon) lines found → is_some found ≡ false
    → AllByRecursion (λ line. diagnostic_of line ≡ None) (ended lines)
without_colons lines found first none =
    of_ended (λ line. diagnostic_of line ≡ None) lines (λ before line after same. no_colon_nothing line
    (free_parts colon line after (free_parts colon before (line ++ after)
    (subst (HasNo colon) same (byte_nowhere colon lines found first none))).1).0)

module _ (lines : List ℕ) (escaped warned failed : Option ℕ) (no_escape : IsFirstByte (is_byte escape) lines escaped)
    (no_warning : FindsNeedle lines (word_of Warning) 0 warned) (no_error : FindsNeedle lines (word_of Error) 0 failed) where
  pub no_diagnostics : is_some escaped ≡ false → is_some warned ≡ false → is_some failed ≡ false
      → AllByRecursion (λ line. diagnostic_of line ≡ None) (ended lines)
  no_diagnostics none_escaped none_warned none_failed =
      of_ended (λ line. diagnostic_of line ≡ None) lines (λ before line after same. says_nothing line
      (nowhere_in before line after (word_of Warning)
      (subst (λ bytes. FindsNeedle bytes (word_of Warning) 0 None) same
      (found_nowhere lines (word_of Warning) warned no_warning none_warned)))
      (nowhere_in before line after (word_of Error)
      (subst (λ bytes. FindsNeedle bytes (word_of Error) 0 None) same (found_nowhere lines (word_of Error) failed no_error none_failed)))
      (free_parts escape line after (free_parts escape before (line ++ after)
      (subst (HasNo escape) same (byte_nowhere escape lines escaped no_escape none_escaped))).1).0)

-- ---- names of temporary files

pub without_temporaries : (lines : List ℕ) (found : Option ℕ) → FindsNeedle lines (codes "/cc") 0 found → is_some found ≡ false
    → AllByRecursion HasNoTemporary (ended lines)
without_temporaries lines found nowhere none =
    of_ended HasNoTemporary lines (λ before line after same. nowhere_in before line after (codes "/cc")
    (subst (λ bytes. FindsNeedle bytes (codes "/cc") 0 None) same (found_nowhere lines (codes "/cc") found nowhere none)))

-- A part of such a text is one, too.
pub none_in : (before part after text : List ℕ) → text ≡ before ++ (part ++ after) → HasNoTemporary text → HasNoTemporary part
none_in before part after text same none place occurs =
    none (length before + place)
    (subst (λ bytes. OccursAt bytes (codes "/cc") (length before + place)) (sym same)
    (occurs_in before part after (codes "/cc") place occurs))

name_occurs : (byte : ℕ) (behind : List ℕ) → byte == slash ≡ true → begins_temporary behind ≡ true
    → OccursAt (byte ∷ behind) (codes "/cc") 0
name_occurs byte behind is temporary =
    let long = temporary-long behind temporary in
    let letters = and_parts (bytes_eq (take 2 behind) (codes "cc")) (list_all is_ascii_alphanumeric (take 6 (drop 2 behind)))
    (and_parts (bytes_eq (take 2 behind) (codes "cc") && list_all is_ascii_alphanumeric (take 6 (drop 2 behind)))
    (get_or behind 8 0 == period) temporary).0 in
    OccursAt-true (byte ∷ behind) (codes "/cc") 0
    (ap₂ (λ (a b : Bool). a && b) (le-leb 3 (suc (length behind)) (omega (arith, long))) (ap₂ (λ (a b : Bool). a && b) is letters.0))

-- Nothing is replaced in it.
pub kept : (text : List ℕ) → HasNoTemporary text → masked text ≡ text
unfolding masked_after
kept [] none = refl
kept (byte ∷ text) none =
    by (byte == slash) (begins_temporary text) refl refl (kept text
    (none_in (byte ∷ []) text [] (byte ∷ text) (ap (λ (l : List ℕ). byte ∷ l) (sym (append-nil text))) none))
  where
    by : (first is : Bool) → byte == slash ≡ first → begins_temporary text ≡ is → masked_after 0 text ≡ text
        → cond (first && is) (codes "/cc*" ++ masked_after 8 text) (byte ∷ masked_after 0 text) ≡ byte ∷ text
    by true true first is same = absurd (none 0 (name_occurs byte text first is))
    by true false first is same = ap (λ (l : List ℕ). byte ∷ l) same
    by false is first name same = ap (λ (l : List ℕ). byte ∷ l) same

none_in_origin : (head : List ℕ) → HasNoTemporary head → HasNoTemporary (origin_of head)
none_in_origin head none = by (split_once colon head) refl
  where
    by : (found : Option (List ℕ × List ℕ)) → split_once colon head ≡ found → HasNoTemporary (origin_from found)
    by None is = λ place occurs. let fits = occurs.fits in absurd (omega (arith, fits))
    by (Some parts) is = none_in [] parts.0 (colon ∷ parts.1) head (are_parts colon head parts is).whole none

module _ (line : List ℕ) (at : ℕ) (none : HasNoTemporary line) where
  pub origin_kept : masked (origin_of (take at line)) ≡ origin_of (take at line)
  origin_kept =
      kept (origin_of (take at line)) (none_in_origin (take at line)
      (none_in [] (take at line) (drop at line) line (sym (take-append-drop at line)) none))

  pub tail_kept : masked (drop at line) ≡ drop at line
  tail_kept =
      kept (drop at line) (none_in (take at line) (drop at line) [] line
      (sym (take-append-drop at line) ∙ ap (λ (l : List ℕ). take at line ++ l) (sym (append-nil (drop at line)))) none)
