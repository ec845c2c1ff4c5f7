-- Facts of a log, from the facts of its first entries and of the rest.
use Rattle.std.proofs.Common.{◌≡◌, ℕ, ◌+◌, ◌<◌, ◌≤◌, Bool, true, false, List, [], ◌∷◌, ◌++◌, Option, None, Some, length, drop, map, refl, sym, ap, ◌∙◌, arith, length-append}
use Rattle.std.specs.Prelude.{if◌then◌else◌}
use Rattle.std.specs.List.{cons_option, flat_map}
use Rattle.std.specs.Option.{option_or}
use Rattle.std.proofs.lemmas.List.{append-nil, length-map}
use Rattle.std.proofs.lemmas.List.Sums.{sum_by-append, sum_by-cons}
use Rattle.redo_line.specs.declared.entry.Entry.{Entry}
use Rattle.redo_line.specs.declared.entry.Entry.TheVariants as entry
use Rattle.redo_line.specs.Lines.{ended, rest, with_line_feed}
use Rattle.redo_line.proofs.LineLemmas.{only_lines}
use Rattle.redo_logs.specs.Logs.{Log, entry_at}
use Rattle.redo_logs.specs.Numbering.{AreLinesAt, HasText}
use Rattle.redo_outline.proofs.LogEntries.{no_entry, one_entry, text_entries}
use Rattle.redo_outline.specs.declared.facts.LogFacts.{LogFacts}
use Rattle.redo_outline.specs.Facts.{closing_status, entries_at, is_warning, saturated, status_in_log, text_of, text_size, texts_of}
use Rattle.redo_outline.specs.Private.LogFacts.{facts_of, warnings_if}

-- ---- facts of texts and of other entries

texts-append : (texts : List (List ℕ)) (more : List Entry) → texts_of (map entry.Text texts ++ more) ≡ texts ++ texts_of more
texts-append [] more = refl
texts-append (text ∷ texts) more = ap (λ ts. text ∷ ts) (texts-append texts more)

status-texts : (texts : List (List ℕ)) (more : List Entry) → status_in_log (map entry.Text texts ++ more) ≡ status_in_log more
status-texts [] more = refl
status-texts (text ∷ texts) more = status-texts texts more

size-is : (texts : List (List ℕ)) → text_size texts ≡ length (flat_map with_line_feed texts)
size-is [] = refl
size-is (text ∷ texts) =
    let later = size-is texts in
    sum_by-cons (λ t. length t + 1) text texts
    ∙ omega (arith, later, length-append text (10 ∷ []), length-append (with_line_feed text) (flat_map with_line_feed texts))

warnings-append : (counted : Bool) (texts more : List (List ℕ))
    → warnings_if counted (texts ++ more) ≡ warnings_if counted texts + warnings_if counted more
warnings-append true texts more = sum_by-append (λ t. if is_warning t then 1 else 0) texts more
warnings-append false texts more = refl

no_warnings : (counted : Bool) → warnings_if counted [] ≡ 0
no_warnings true = refl
no_warnings false = refl

-- Whether an entry is no text line.
abbrev IsNoText : Entry → Type 0
IsNoText entry = text_of entry ≡ None

texts-other : (entry : Entry) (more : List Entry) → IsNoText entry → texts_of (entry ∷ more) ≡ texts_of more
texts-other entry more none = ap (λ text. cons_option text (texts_of more)) none

status-cons : (entry : Entry) (more : List Entry) → status_in_log (entry ∷ more) ≡ option_or (closing_status entry) (status_in_log more)
status-cons (entry.Text line) more = refl
status-cons (entry.Mention pid how name) more = refl
status-cons (entry.Done pid status name) more = refl
status-cons (entry.Closing pid status) more = refl
status-cons (entry.Note pid kind text) more = refl

or_assoc : {A : Type 0} (a b c : Option A) → option_or (option_or a b) c ≡ option_or a (option_or b c)
or_assoc None b c = refl
or_assoc (Some a) b c = refl

or_none : {A : Type 0} (a : Option A) → option_or a None ≡ a
or_none None = refl
or_none (Some a) = refl

is_no_text : (one : Entry) → ((text : List ℕ) → one ≡ entry.Text text → ⊥) → IsNoText one
is_no_text (entry.Text line) other = absurd (other line refl)
is_no_text (entry.Mention pid how name) other = refl
is_no_text (entry.Done pid status name) other = refl
is_no_text (entry.Closing pid status) other = refl
is_no_text (entry.Note pid kind text) other = refl

-- ---- a loop over the entries

abbrev entries : List Log → ℕ → List Entry
entries logs number = entries_at number logs

abbrev max_count : ℕ
max_count = 0xFFFFFFFFFFFFFFFF

-- Facts of the entries before entry `k`.
pub record Gathered (counted : Bool) (all : List Entry) (k : ℕ) (facts : LogFacts) : Type 0 where
  pub lines : saturated (facts.lines + length (texts_of (drop k all))) ≡ saturated (length (texts_of all))
  pub bytes : saturated (facts.bytes + text_size (texts_of (drop k all))) ≡ saturated (text_size (texts_of all))
  pub warnings : saturated (facts.warnings + warnings_if counted (texts_of (drop k all))) ≡ saturated (warnings_if counted (texts_of all))
  pub status : option_or facts.status (status_in_log (drop k all)) ≡ status_in_log all
  pub lines_fit : facts.lines ≤ max_count
  pub bytes_fit : facts.bytes ≤ max_count
  pub warnings_fit : facts.warnings ≤ max_count

pub gathered_none : (counted : Bool) (all : List Entry)
    → Gathered counted all 0 (record { lines = 0; bytes = 0; warnings = 0; status = None })
gathered_none counted all = record {
  lines = ap saturated (omega arith);
  bytes = ap saturated (omega arith);
  warnings = ap saturated (omega arith);
  status = refl;
  lines_fit = omega arith;
  bytes_fit = omega arith;
  warnings_fit = omega arith;
}

-- Counts that are added one after the other.
added : (old more rest after all : ℕ) → old ≤ max_count → after ≡ more + rest → saturated (old + after) ≡ saturated all
    → saturated (saturated (old + more) + rest) ≡ saturated all
added old more rest after all fits is so_far = omega (arith, is, so_far, fits)

module _ {counted : Bool} (logs : List Log) (number k : ℕ) (facts : LogFacts)
    (so_far : Gathered counted (entries_at number logs) k facts) where
  module _ (bytes : List ℕ) (count : ℕ) (lines : AreLinesAt logs number k bytes count) where
    lines_are : (lines.texts ≡ ended bytes) × ([] ≡ rest bytes)
    lines_are = only_lines bytes lines.texts []
        (record {
          whole = lines.bytes_are ∙ sym (append-nil (flat_map with_line_feed lines.texts));
          lines_hold_none = lines.no_line_feeds;
          rest_holds_none = tt;
        })

    pub no_rest : rest bytes ≡ []
    no_rest = sym lines_are.1

    next_entries : drop k (entries logs number) ≡ map entry.Text lines.texts ++ drop (k + count) (entries logs number)
    next_entries = text_entries logs number k lines.texts lines.are
        ∙ ap (λ (n : ℕ). map entry.Text lines.texts ++ drop (k + n) (entries logs number)) lines.count_is

    next_texts : texts_of (drop k (entries logs number)) ≡ lines.texts ++ texts_of (drop (k + count) (entries logs number))
    next_texts = ap texts_of next_entries ∙ texts-append lines.texts (drop (k + count) (entries logs number))

    pub gathered_lines : Gathered counted (entries_at number logs) (k + count) (record {
      lines = saturated (facts.lines + count);
      bytes = saturated (facts.bytes + length bytes);
      warnings = saturated (facts.warnings + warnings_if counted (ended bytes));
      status = facts.status;
    })
    gathered_lines =
        let later = texts_of (drop (k + count) (entries logs number)) in
        record {
          lines = added facts.lines count (length later) _ _ so_far.lines_fit
              (ap length next_texts ∙ length-append lines.texts later ∙ ap (λ (n : ℕ). n + length later) lines.count_is) so_far.lines;
          bytes = added facts.bytes (length bytes) (text_size later) _ _ so_far.bytes_fit
              (ap text_size next_texts ∙ sum_by-append (λ t. length t + 1) lines.texts later
              ∙ ap (λ (n : ℕ). n + text_size later) (size-is lines.texts ∙ ap length (sym lines.bytes_are))) so_far.bytes;
          warnings = added facts.warnings (warnings_if counted (ended bytes)) (warnings_if counted later) _ _ so_far.warnings_fit
              (ap (warnings_if counted) next_texts ∙ warnings-append counted lines.texts later
              ∙ ap (λ ts. warnings_if counted ts + warnings_if counted later) lines_are.0) so_far.warnings;
          status = ap (option_or facts.status)
              (sym (ap status_in_log next_entries ∙ status-texts lines.texts (drop (k + count) (entries logs number)))) ∙ so_far.status;
          lines_fit = omega arith;
          bytes_fit = omega arith;
          warnings_fit = omega arith;
        }

    pub lines_smaller : 0 < count → length (drop (k + count) (entries_at number logs)) < length (drop k (entries_at number logs))
    lines_smaller some =
        let whole = ap length next_entries in
        omega (
          arith,
          some,
          whole,
          length-append (map entry.Text lines.texts) (drop (k + count) (entries logs number)),
          length-map lines.texts entry.Text,
          lines.count_is,
        )

  module _ (count : ℕ) (nonempty : HasText logs number k → 0 < count) (none : count ≤ 0) (entry : Entry)
      (at : entry_at number k logs ≡ Some entry) where
    no_text : IsNoText entry
    no_text = is_no_text entry (λ text is. let some = nonempty (text, at ∙ ap Some is) in omega (arith, some, none))

    next_one : drop k (entries logs number) ≡ entry ∷ drop (k + 1) (entries logs number)
    next_one = one_entry logs number k entry at

    same_texts : texts_of (drop k (entries logs number)) ≡ texts_of (drop (k + 1) (entries logs number))
    same_texts = ap texts_of next_one ∙ texts-other entry (drop (k + 1) (entries logs number)) no_text

    pub gathered_entry : Gathered counted (entries_at number logs) (k + 1)
        (record {
          lines = facts.lines;
          bytes = facts.bytes;
          warnings = facts.warnings;
          status = option_or facts.status (closing_status entry);
        })
    gathered_entry = record {
      lines = ap (λ ts. saturated (facts.lines + length ts)) (sym same_texts) ∙ so_far.lines;
      bytes = ap (λ ts. saturated (facts.bytes + text_size ts)) (sym same_texts) ∙ so_far.bytes;
      warnings = ap (λ ts. saturated (facts.warnings + warnings_if counted ts)) (sym same_texts) ∙ so_far.warnings;
      status = or_assoc facts.status (closing_status entry) (status_in_log (drop (k + 1) (entries logs number)))
          ∙ ap (option_or facts.status) (sym (ap status_in_log next_one ∙ status-cons entry (drop (k + 1) (entries logs number))))
          ∙ so_far.status;
      lines_fit = so_far.lines_fit;
      bytes_fit = so_far.bytes_fit;
      warnings_fit = so_far.warnings_fit;
    }

    pub entry_smaller : length (drop (k + 1) (entries_at number logs)) < length (drop k (entries_at number logs))
    entry_smaller = let whole = ap length next_one in omega (arith, whole)

  pub gathered_all : entry_at number k logs ≡ None → facts ≡ facts_of counted (entries_at number logs)
  gathered_all none =
      let last = no_entry logs number k none in
      let lines : facts.lines ≡ saturated (length (texts_of (entries_at number logs))) = let so =
      ap (λ es. saturated (facts.lines + length (texts_of es))) (sym last) ∙ so_far.lines in omega (arith, so, so_far.lines_fit) in
      let bytes : facts.bytes ≡ saturated (text_size (texts_of (entries_at number logs))) = let so =
      ap (λ es. saturated (facts.bytes + text_size (texts_of es))) (sym last) ∙ so_far.bytes in omega (arith, so, so_far.bytes_fit) in
      let warnings : facts.warnings ≡ saturated (warnings_if counted (texts_of (entries_at number logs))) =
      let so = ap (λ (n : ℕ). saturated (facts.warnings + n)) (sym (no_warnings counted))
      ∙ ap (λ es. saturated (facts.warnings + warnings_if counted (texts_of es))) (sym last) ∙ so_far.warnings in
      omega (arith, so, so_far.warnings_fit) in
      let status : facts.status ≡ status_in_log (entries_at number logs) =
      sym (or_none facts.status) ∙ ap (λ es. option_or facts.status (status_in_log es)) (sym last) ∙ so_far.status in
      (λ i. record { lines = lines i; bytes = bytes i; warnings = warnings i; status = status i })
