-- The entry with a given number in a log, and the text lines there.
use Rattle.std.proofs.Common.{◌≡◌, ℕ, zero, suc, ◌+◌, ◌≤◌, ◌<◌, List, [], ◌∷◌, ◌++◌, Option, None, Some, length, map, drop, get_or, slice_get, slice_range, ◌-◌, refl, sym, ap, ◌∙◌, subst, arith}
use Rattle.std.specs.Prelude.{option_and_then}
use Rattle.std.specs.List.{AllByRecursion, flat_map}
use Rattle.std.specs.Option.{option_map}
use Rattle.std.proofs.lemmas.Grind.{flat_map-append}
use Rattle.std.proofs.lemmas.List.{append_assoc, append-nil, drop-append-le, length-append, length-drop, length-map}
use Rattle.std.proofs.lemmas.Option.{none-some, same_Some, slice_get-map, slice_get_within}
use Rattle.redo_line.proofs.LineLemmas.{are_lines}
use Rattle.redo_line.specs.Lines.{ended, rest, with_line_feed}
use Rattle.redo_line.specs.declared.entry.Entry.{Entry}
use Rattle.redo_line.specs.declared.entry.Entry.TheVariants as entry
use Rattle.redo_line.specs.declared.entry.How.{How}
use Rattle.redo_logs.specs.declared.store.NoteSpan.{NoteSpan}
use Rattle.redo_logs.specs.declared.store.PackedEntries.{PackedEntries}
use Rattle.redo_logs.specs.declared.store.PackedEntries.TheVariants.{Closing, Done, Mention, Note, Texts}
use Rattle.redo_logs.specs.declared.log_table.Log.{Log as Stored}
use Rattle.redo_logs.specs.Logs.{Log, entry_at}
use Rattle.redo_logs.specs.Numbering.{AreLinesAt, AreTexts, HasText, HasNoMention}
use Rattle.redo_logs.specs.Private.Store.{AreLinesOf, IsPrefix, IsNoteWithin, IsTexts, Parts, Within, block_of, count_in, note_value, denotes}
use Rattle.redo_logs.specs.Private.PackedLog.{IsLocated, count_of}
use Rattle.redo_logs.specs.Private.Stored.{log_of, logs_of}
use Rattle.redo_logs.proofs.Keeping.{get_front}
use Rattle.redo_logs.proofs.Shifting.{drop_twice, get_shifted}

-- Dropping a prefix leaves the rest.
drop_front : {A : Type 0} (xs ys : List A) → drop (length xs) (xs ++ ys) ≡ ys
drop_front [] ys = refl
drop_front (x ∷ xs) ys = drop_front xs ys

-- The element at a position is the first element from there on.
get_first : {A : Type 0} (xs : List A) (k : ℕ) → slice_get xs k ≡ slice_get (drop k xs) 0
get_first xs k = let same : k ≡ k + 0 = omega arith in ap (slice_get xs) same ∙ get_shifted k xs 0

module _ (parts : Parts) where
  count_seen : (one : PackedEntries) → Within parts one → length (denotes parts one) ≡ count_in one
  count_seen (Texts lines block start end) within = length-map _ entry.Text ∙ within.3.count_is
  count_seen (Mention pid how name) within = refl
  count_seen (Done pid status name) within = refl
  count_seen (Closing pid status) within = refl
  count_seen (Note note) within = refl

  counts_seen : (records : List PackedEntries) → AllByRecursion (Within parts) records
      → length (flat_map (denotes parts) records) ≡ count_of records
  counts_seen [] within = refl
  counts_seen (one ∷ records) within =
      length-append (denotes parts one) (flat_map (denotes parts) records)
      ∙ (λ i. count_seen one within.0 i + counts_seen records within.1 i)

  front_within : (first others : List PackedEntries) → AllByRecursion (Within parts) (first ++ others)
      → AllByRecursion (Within parts) first × AllByRecursion (Within parts) others
  front_within [] others within = (tt, within)
  front_within (one ∷ first) others within = let parts = front_within first others within.1 in ((within.0, parts.0), parts.1)

  module _ (records : List PackedEntries) (number : ℕ) (one : PackedEntries) (place : ℕ) (within : AllByRecursion (Within parts) records)
      (found : IsLocated records number one place) where
    pub found_within : Within parts one
    found_within = (front_within found.before (one ∷ found.behind) (subst (AllByRecursion (Within parts)) found.are within)).1.0

    -- The entries that are left begin with the entries of the `PackedEntries` that are left.
    left : drop number (flat_map (denotes parts) records) ≡ drop place (denotes parts one) ++ flat_map (denotes parts) found.behind
    left =
        let own = denotes parts one in
        let first = flat_map (denotes parts) found.before in
        let behind = flat_map (denotes parts) found.behind in
        let before_there = (front_within found.before (one ∷ found.behind) (subst (AllByRecursion (Within parts)) found.are within)).0 in
        let size : length first ≡ count_of found.before = counts_seen found.before before_there in
        let number_is : number ≡ length first + place = found.number_is ∙ ap (λ n. n + place) (sym size) in
        let low : place ≤ length own = let count = count_seen one found_within in let below = found.place_within in
        omega (arith, count, below) in
        (λ i. drop (number_is i) ((ap (flat_map (denotes parts)) found.are
        ∙ flat_map-append (denotes parts) found.before (one ∷ found.behind)) i))
        ∙ drop_twice (length first) (first ++ (own ++ behind)) place ∙ ap (drop place) (drop_front first (own ++ behind))
        ∙ drop-append-le place own behind low

    pub get_found : slice_get (flat_map (denotes parts) records) number ≡ slice_get (denotes parts one) place
    get_found =
        let own = denotes parts one in
        let some : 0 < length (drop place own) = let count = count_seen one found_within in let below = found.place_within in let size =
        length-drop place own in omega (arith, count, below, size) in
        get_first (flat_map (denotes parts) records) number ∙ ap (λ es. slice_get es 0) left
        ∙ get_front (drop place own) (flat_map (denotes parts) found.behind) 0 some
        ∙ sym (get_first own place)

    front_found : (texts : List (List ℕ)) → IsPrefix (map entry.Text texts) (drop place (denotes parts one))
        → IsPrefix (map entry.Text texts) (drop number (flat_map (denotes parts) records))
    front_found texts front = record {
      more = front.more ++ flat_map (denotes parts) found.behind;
      is = left ∙ ap (λ es. es ++ flat_map (denotes parts) found.behind) front.is
          ∙ append_assoc (map entry.Text texts) front.more (flat_map (denotes parts) found.behind);
    }

  -- A `PackedEntries` that denotes a text holds lines.
  texts_record : (one : PackedEntries) (place : ℕ) (text : List ℕ) → slice_get (denotes parts one) place ≡ Some (entry.Text text)
      → IsTexts one
  texts_record (Texts lines block start end) place text is = tt
  texts_record (Mention pid how name) zero text is = absurd (cc)
  texts_record (Mention pid how name) (suc place) text is = absurd (cc)
  texts_record (Done pid status name) zero text is = absurd (cc)
  texts_record (Done pid status name) (suc place) text is = absurd (cc)
  texts_record (Closing pid status) zero text is = absurd (cc)
  texts_record (Closing pid status) (suc place) text is = absurd (cc)
  texts_record (Note note) (suc place) text is = absurd (cc)
  texts_record (Note note) zero text is = absurd (no_text (slice_get parts.notes note) (same_Some _ _ is))
    where
      no_text : (at : Option NoteSpan) → note_value parts at ≡ entry.Text text → ⊥
      no_text None is = cc
      no_text (Some at) is = cc

  -- ---- the entries of a log

  module _ (logs : List Stored) (i k : ℕ) (log : Stored) (at : slice_get logs i ≡ Some log) where
    pub entry_of : entry_at i k (logs_of parts logs) ≡ slice_get (flat_map (denotes parts) log.records) k
    entry_of = ap (option_and_then (λ (l : Log). slice_get l.entries k))
        (slice_get-map (log_of parts) logs i ∙ ap (option_map (log_of parts)) at)

    -- No entry has a number past the last one.
    pub none_of : AllByRecursion (Within parts) log.records → count_of log.records ≤ k → entry_at i k (logs_of parts logs) ≡ None
    none_of within past = entry_of ∙ by (slice_get (flat_map (denotes parts) log.records) k) refl
      where
        by : (found : Option Entry) → slice_get (flat_map (denotes parts) log.records) k ≡ found → found ≡ None
        by None is = refl
        by (Some e) is = absurd (let below = slice_get_within (flat_map (denotes parts) log.records) k e is in
            let count = counts_seen log.records within in omega (arith, below, count, past))

    module _ (one : PackedEntries) (place : ℕ) (within : AllByRecursion (Within parts) log.records)
        (found : IsLocated log.records k one place) where
      pub entry_found : entry_at i k (logs_of parts logs) ≡ slice_get (denotes parts one) place
      entry_found = entry_of ∙ get_found log.records k one place within found

      pub text_found : HasText (logs_of parts logs) i k → IsTexts one
      text_found text = texts_record one place text.0 (sym entry_found ∙ text.1)

  texts_at : (logs : List Stored) (i k : ℕ) (log : Stored) (texts : List (List ℕ)) → slice_get logs i ≡ Some log
      → IsPrefix (map entry.Text texts) (drop k (flat_map (denotes parts) log.records))
      → AreTexts (logs_of parts logs) i k texts
  texts_at logs i k log [] at front = tt
  texts_at logs i k log (text ∷ texts) at front =
      let entries = flat_map (denotes parts) log.records in (
        entry_of logs i k log at ∙ get_first entries k ∙ ap (λ es. slice_get es 0) front.is,
        texts_at logs i (k + 1) log texts at (record { more = front.more; is = drop_twice k entries 1 ∙ ap (drop 1) front.is }),
      )

  pub lines_found : (logs : List Stored) (i k : ℕ) (log : Stored) (one : PackedEntries) (place : ℕ) (bytes : List ℕ) (count : ℕ)
      → slice_get logs i ≡ Some log → AllByRecursion (Within parts) log.records
      → IsLocated log.records k one place → AreLinesOf parts one place bytes count → AreLinesAt (logs_of parts logs) i k bytes count
  lines_found logs i k log one place bytes count at within found lines = record {
    texts = lines.texts;
    are = texts_at logs i k log lines.texts at (front_found log.records k one place within found lines.texts lines.are);
    count_is = lines.count_is;
    no_line_feeds = lines.no_line_feeds;
    bytes_are = lines.bytes_are;
  }

-- The parts that are stored for a log exist.
pub stored_at : {A : Type 0} (P : A → Type 0) (xs : List A) (number : ℕ) (x : A) → AllByRecursion P xs → slice_get xs number ≡ Some x → P x
stored_at P [] number x all at = absurd (none-some x at)
stored_at P (y ∷ xs) zero x all at = subst P (same_Some y x at) all.0
stored_at P (y ∷ xs) (suc number) x all at = stored_at P xs number x all.1 at

-- ---- one `PackedEntries`

-- The only element.
pub one_there : {A : Type 0} (x : A) (place : ℕ) → place < 1 → slice_get (x ∷ []) place ≡ Some x
one_there x zero below = refl
one_there x (suc place) below = absurd (omega (arith, below))

drop_map : {A B : Type 0} (f : A → B) (n : ℕ) (xs : List A) → drop n (map f xs) ≡ map f (drop n xs)
drop_map f zero xs = refl
drop_map f (suc n) [] = refl
drop_map f (suc n) (x ∷ xs) = drop_map f n xs

-- A range of a block, and the bytes after some lines in it.
module _ (parts : Parts) (lines block start end place : ℕ) (range left : List ℕ) (within : Within parts (Texts lines block start end))
    (range_is : range ≡ slice_range (block_of parts block) start end)
    (left_lines : ended left ≡ drop place (ended range)) where
  pub text_shown : (line : List ℕ) → slice_get (ended left) 0 ≡ Some line
      → slice_get (denotes parts (Texts lines block start end)) place ≡ Some (entry.Text line)
  text_shown line first =
      ap (λ bytes. slice_get (map entry.Text (ended bytes)) place) (sym range_is) ∙ slice_get-map entry.Text (ended range) place
      ∙ ap (option_map entry.Text) (get_first (ended range) place ∙ ap (λ ls. slice_get ls 0) (sym left_lines) ∙ first)

  pub lines_shown : rest left ≡ rest range → AreLinesOf parts (Texts lines block start end) place left (lines - place)
  lines_shown last = record {
    texts = ended left;
    are = record {
      more = [];
      is =
          ap (λ bytes. drop place (map entry.Text (ended bytes))) (sym range_is) ∙ drop_map entry.Text place (ended range)
          ∙ ap (map entry.Text) (sym left_lines)
          ∙ sym (append-nil (map entry.Text (ended left)));
    };
    count_is =
        ap length left_lines ∙ length-drop place (ended range)
        ∙ ap (λ n. n - place) (ap (λ bytes. length (ended bytes)) range_is ∙ within.3.count_is);
    no_line_feeds = (are_lines left).lines_hold_none;
    bytes_are =
        (are_lines left).whole ∙ ap (λ r. flat_map with_line_feed (ended left) ++ r) (last ∙ ap rest range_is ∙ within.3.no_rest)
        ∙ append-nil (flat_map with_line_feed (ended left));
  }

-- A `PackedEntries` that isn't a mention denotes no mention.
pub no_mention : (parts : Parts) (one : PackedEntries) (place : ℕ) (e : Entry)
    → ((pid : ℕ) (how : How) (name : ℕ) → one ≡ Mention pid how name → ⊥) → slice_get (denotes parts one) place ≡ Some e → HasNoMention e
no_mention parts (Texts lines block start end) place e other is =
    by (slice_get (ended (slice_range (block_of parts block) start end)) place) refl
  where
    by : (text : Option (List ℕ)) → slice_get (ended (slice_range (block_of parts block) start end)) place ≡ text → HasNoMention e
    by None none = absurd (none-some e (sym
        (slice_get-map entry.Text (ended (slice_range (block_of parts block) start end)) place ∙ ap (option_map entry.Text) none) ∙ is))
    by (Some text) some =
        subst HasNoMention (same_Some (entry.Text text) e
        (sym (slice_get-map entry.Text (ended (slice_range (block_of parts block) start end)) place ∙ ap (option_map entry.Text) some)
        ∙ is)) tt
no_mention parts (Mention pid how name) place e other is = absurd (other pid how name refl)
no_mention parts (Done pid status name) zero e other is = subst HasNoMention (same_Some _ e is) tt
no_mention parts (Done pid status name) (suc place) e other is = absurd (none-some e is)
no_mention parts (Closing pid status) zero e other is = subst HasNoMention (same_Some _ e is) tt
no_mention parts (Closing pid status) (suc place) e other is = absurd (none-some e is)
no_mention parts (Note note) (suc place) e other is = absurd (none-some e is)
no_mention parts (Note note) zero e other is = subst HasNoMention (same_Some _ e is) (no_name (slice_get parts.notes note))
  where
    no_name : (at : Option NoteSpan) → HasNoMention (note_value parts at)
    no_name None = tt
    no_name (Some at) = tt

-- A note that exists is at its position.
pub note_there : (parts : Parts) (notes : List NoteSpan) (note : ℕ) (at : NoteSpan) → IsNoteWithin parts (slice_get notes note)
    → at ≡ get_or notes note at → slice_get notes note ≡ Some at
note_there parts [] note at within is = absurd within
note_there parts (first ∷ notes) zero at within is = ap Some (sym is)
note_there parts (first ∷ notes) (suc note) at within is = note_there parts notes note at within is
