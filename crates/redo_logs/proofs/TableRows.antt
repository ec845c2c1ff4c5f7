-- Examples of tables, computed: two logs are added; one gets an entry and ends, the other fails.
use Rattle.std.proofs.Common.{◌≡◌, ℕ, true, false, List, [], ◌∷◌, ◌++◌, Option, None, Some, length, Bor, pos, arith, refl, sym, ap}
use Rattle.std.specs.Prelude.{codes}
use Rattle.std.specs.List.{AllByRecursion, IsDistinct, flat_map, list_all}
use Rattle.redo_line.specs.Lines.{HasNoLineFeed, with_line_feed}
use Rattle.redo_line.specs.declared.entry.Entry.{Entry}
use Rattle.redo_line.specs.declared.entry.Entry.TheVariants.{Text, Mention, Done, Closing, Note}
use Rattle.redo_line.specs.declared.entry.How.TheVariants.{Made, Waiting, Locked, Unlocked, Unchanged}
use Rattle.redo_line.specs.declared.stream_fault.StreamFault.TheVariants.{Read, TooLong}
use Rattle.redo_logs.specs.declared.entry_ref.EntryRef.TheVariants as shown
use Rattle.redo_logs.specs.declared.log_state.LogState.TheVariants.{Running, Ended, Failed}
use Rattle.redo_logs.specs.declared.numbered.NumberedEntry.TheVariants as numbered
use Rattle.redo_logs.specs.EntryRef.{entry_value}
use Rattle.redo_logs.specs.Logs.{Log, IsTable, new_log, with_entry, with_entries, with_state, update_log, log_number, entry_at, has_ended, lowest_fault, first_failed, max_logs}
use Rattle.redo_logs.specs.Numbering.{AreLinesAt, AreTexts, HasText, IsNumbered, numbered_value}

abbrev two : List Log
two = ([] ++ new_log (codes "a") ∷ []) ++ new_log (codes "b") ∷ []

abbrev filled : List Log
filled = update_log 1 (with_state (Failed TooLong)) (update_log 0 (with_state Ended) (update_log 0 (with_entry (Text (codes "x"))) two))

contents :
    (two ≡ record { target = codes "a"; entries = []; state = Running } ∷ record { target = codes "b"; entries = []; state = Running } ∷ [])
    × (filled ≡ record { target = codes "a"; entries = Text (codes "x") ∷ []; state = Ended }
    ∷ record { target = codes "b"; entries = []; state = Failed TooLong } ∷ [])
    × (update_log 0 (with_entries (Text (codes "y") ∷ Text (codes "z") ∷ [])) filled
    ≡ record { target = codes "a"; entries = Text (codes "x") ∷ Text (codes "y") ∷ Text (codes "z") ∷ []; state = Ended }
    ∷ record { target = codes "b"; entries = []; state = Failed TooLong } ∷ [])
    × (update_log 2 (with_state Ended) two ≡ two)
contents = (refl, refl, refl, refl)

-- An entry is added after the last one.
added : with_entry (Text (codes "y")) (with_entry (Text (codes "x")) (new_log (codes "a")))
    ≡ record { target = codes "a"; entries = Text (codes "x") ∷ Text (codes "y") ∷ []; state = Running }
added = refl

-- A log that ends or fails keeps its entries.
entries_kept :
    (with_state (Failed Read) (with_entry (Text (codes "x")) (new_log (codes "a")))
    ≡ record { target = codes "a"; entries = Text (codes "x") ∷ []; state = Failed Read })
    × (with_state Ended (with_entry (Text (codes "x")) (new_log (codes "a")))
    ≡ record { target = codes "a"; entries = Text (codes "x") ∷ []; state = Ended })
entries_kept = (refl, refl)

places : (log_number (codes "a") two ≡ Some 0) × (log_number (codes "b") two ≡ Some 1) × (log_number (codes "c") two ≡ None)
places = (refl, refl, refl)

entries : (entry_at 0 0 filled ≡ Some (Text (codes "x"))) × (entry_at 0 1 filled ≡ None) × (entry_at 2 0 filled ≡ None)
entries = (refl, refl, refl)

states : (first_failed filled ≡ Some (1, TooLong)) × (first_failed two ≡ None) × (list_all has_ended filled ≡ false)
states = (refl, refl, refl)

-- Which logs have ended, and the first of two faults.
ended :
    (list_all has_ended (with_state Ended (new_log (codes "a")) ∷ []) ≡ true) × (list_all has_ended two ≡ false)
    × (list_all has_ended (with_state (Failed Read) (new_log (codes "a")) ∷ []) ≡ false)
    × (lowest_fault (None ∷ None ∷ Some Read ∷ Some TooLong ∷ []) ≡ Some (2, Read))
ended = (refl, refl, refl, refl)

how_many : max_logs ≡ 1048575
how_many = refl

-- Two different targets form a table; a target that occurs twice doesn't.
tables : IsTable two × (IsTable (new_log (codes "a") ∷ new_log (codes "b") ∷ new_log (codes "a") ∷ []) → ⊥)
unfolding IsDistinct
tables = (record { size = omega arith; targets_differ = ((refl, tt), (tt, tt)) }, (λ is. let same = is.targets_differ.0.1.0 in cc))

-- ---- the models of entries, and names with numbers

abbrev names : List (List ℕ)
names = codes "a" ∷ codes "b" ∷ []

abbrev at : List ℕ → Bor (List ℕ)
at bytes = record { ref_ptr = (0, 0); now = bytes }

-- One entry of each kind.
seen :
    (entry_value (shown.Text (at (codes "x"))) ≡ Text (codes "x"))
    × (entry_value (shown.Mention 7 Made (at (codes "a"))) ≡ Mention 7 Made (codes "a"))
    × (entry_value (shown.Done 7 (pos 1) (at (codes "a"))) ≡ Done 7 (pos 1) (codes "a"))
    × (entry_value (shown.Closing 7 (pos 1)) ≡ Closing 7 (pos 1))
    × (entry_value (shown.Note 7 (at (codes "k")) (at (codes "t"))) ≡ Note 7 (codes "k") (codes "t"))
    × (numbered_value names (numbered.Mention 7 Made 1) ≡ Mention 7 Made (codes "b"))
    × (numbered_value names (numbered.Other (shown.Closing 7 (pos 1))) ≡ Closing 7 (pos 1))
seen = (refl, refl, refl, refl, refl, refl, refl)

-- A mention keeps its kind.
kinds_seen :
    (numbered_value names (numbered.Mention 7 Waiting 1) ≡ Mention 7 Waiting (codes "b"))
    × (numbered_value names (numbered.Mention 7 Locked 0) ≡ Mention 7 Locked (codes "a"))
    × (numbered_value names (numbered.Mention 7 Unlocked 1) ≡ Mention 7 Unlocked (codes "b"))
    × (numbered_value names (numbered.Mention 7 Unchanged 0) ≡ Mention 7 Unchanged (codes "a"))
    × (entry_value (shown.Mention 7 Unchanged (at (codes "a"))) ≡ Mention 7 Unchanged (codes "a"))
kinds_seen = (refl, refl, refl, refl, refl)

-- A mention has the number of a name, and any other entry is no mention.
are_numbered :
    IsNumbered names (numbered.Mention 7 Made 1) × (IsNumbered names (numbered.Mention 7 Made 2) → ⊥)
    × IsNumbered names (numbered.Other (shown.Text (at (codes "x"))))
    × IsNumbered names (numbered.Other (shown.Done 7 (pos 1) (at (codes "a"))))
    × IsNumbered names (numbered.Other (shown.Closing 7 (pos 1)))
    × IsNumbered names (numbered.Other (shown.Note 7 (at (codes "k")) (at (codes "t"))))
    × (IsNumbered names (numbered.Other (shown.Mention 7 Made (at (codes "a")))) → ⊥)
are_numbered = (omega arith, (λ is. omega (arith, is)), tt, tt, tt, tt, (λ is. is))

-- Consecutive texts, with their lines.
abbrev texts : List Log
texts = record { target = codes "a"; entries = Mention 7 Made (codes "b") ∷ Text (codes "x") ∷ Text [] ∷ []; state = Ended } ∷ []

are_texts : AreTexts texts 0 1 (codes "x" ∷ [] ∷ []) × AreTexts texts 0 2 ([] ∷ []) × AreTexts texts 0 0 []
are_texts = ((refl, (refl, tt)), (refl, tt), tt)

no_texts : (AreTexts texts 0 1 ([] ∷ []) → ⊥) × (AreTexts texts 0 1 (codes "x" ∷ codes "x" ∷ []) → ⊥)
    × (AreTexts texts 0 0 (codes "x" ∷ []) → ⊥)
no_texts = ((λ is. let same = is.0 in cc), (λ is. let same = is.1.0 in cc), (λ is. let same = is.0 in cc))

have_text : HasText texts 0 1 × HasText texts 0 2 × (HasText texts 0 0 → ⊥) × (HasText texts 0 3 → ⊥)
have_text = ((codes "x", refl), ([], refl), (λ is. let same = is.1 in cc), (λ is. let same = is.1 in cc))

are_lines : AreLinesAt texts 0 1 (120 ∷ 10 ∷ 10 ∷ []) 2 × AreLinesAt texts 0 1 (120 ∷ 10 ∷ []) 1
are_lines = (
  record {
    texts = codes "x" ∷ [] ∷ [];
    are = (refl, (refl, tt));
    count_is = refl;
    no_line_feeds = (((λ is. omega (arith, is)), tt), (tt, tt));
    bytes_are = refl;
  },
  record {
    texts = codes "x" ∷ [];
    are = (refl, tt);
    count_is = refl;
    no_line_feeds = (((λ is. omega (arith, is)), tt), tt);
    bytes_are = refl;
  },
)

-- An empty text is one line, a line feed. No text is no line, and a mention is no line.
empty_has_line : (texts : List (List ℕ)) → length texts ≡ 1 → [] ≡ flat_map with_line_feed texts → ⊥
empty_has_line [] count bytes = cc
empty_has_line ([] ∷ texts) count bytes = cc
empty_has_line ((byte ∷ text) ∷ texts) count bytes = cc

none_has_none : (texts : List (List ℕ)) → length texts ≡ 0 → 10 ∷ [] ≡ flat_map with_line_feed texts → ⊥
none_has_none [] count bytes = cc
none_has_none (text ∷ texts) count bytes = cc

mention_has_none : (lines : List (List ℕ)) → AreTexts texts 0 0 lines → length lines ≡ 1 → ⊥
mention_has_none [] are count = cc
mention_has_none (line ∷ lines) are count = let same = are.0 in cc

-- A text with a line feed is no line.
abbrev two_lines : List Log
two_lines = record { target = codes "a"; entries = Text (10 ∷ []) ∷ []; state = Ended } ∷ []

abbrev first_byte : Option Entry → ℕ
first_byte (Some (Text (byte ∷ text))) = byte
first_byte other = 0

no_line : AreLinesAt two_lines 0 0 (10 ∷ 10 ∷ []) 1 → ⊥
no_line is = by is.texts is.are is.count_is is.no_line_feeds
  where
    by : (texts : List (List ℕ)) → AreTexts two_lines 0 0 texts → length texts ≡ 1 → AllByRecursion HasNoLineFeed texts → ⊥
    by [] are count free = cc
    by ([] ∷ texts) are count free = let same = are.0 in cc
    by ((byte ∷ text) ∷ texts) are count free = free.0.0 (sym (ap first_byte are.0))

no_lines : (AreLinesAt texts 0 2 [] 1 → ⊥) × (AreLinesAt texts 0 2 (10 ∷ []) 0 → ⊥) × (AreLinesAt texts 0 0 (10 ∷ []) 1 → ⊥)
no_lines = (
  (λ is. empty_has_line is.texts is.count_is is.bytes_are),
  (λ is. none_has_none is.texts is.count_is is.bytes_are),
  (λ is. mention_has_none is.texts is.are is.count_is),
)
