-- The first bytes of a stream, and how they determine its fault and the entries before the fault.
use Rattle.std.proofs.Common.{◌≡◌, ◌≢◌, ◌⊎◌, inl, inr, ℕ, zero, suc, ◌+◌, ◌-◌, ◌<◌, ◌≤◌, Bool, true, false, cond, ltb, List, [], ◌∷◌, ◌++◌, Option, None, Some, option_to_list, length, take, map, refl, sym, ◌∙◌, ap, arith}
use Rattle.std.specs.List.{filter_map, flat_map}
use Rattle.std.proofs.lemmas.Bool.{ltb-true, ltb-false, lt-ltb, le-ltb}
use Rattle.std.proofs.lemmas.List.{append_assoc, map-append, length-append, length-map, take_all, take-append-le}
use Rattle.redo_line.specs.declared.entry.Entry.{Entry}
use Rattle.redo_line.specs.declared.stream_fault.StreamFault.{StreamFault}
use Rattle.redo_line.specs.declared.stream_fault.StreamFault.TheVariants.{BadRecord, AfterClose, TooLong, Read, OutOfMemory, NotClosed}
use Rattle.redo_line.specs.Entry.{entry_of}
use Rattle.redo_line.specs.Laws.{IsEarlyFault}
use Rattle.redo_line.specs.Fault.{end_fault}
use Rattle.redo_device.specs.Feed.{Stream}
use Rattle.redo_line.specs.Lines.{with_line_feed, ended, rest, unended}
use Rattle.redo_line.specs.Log.{stream_of, line_entries, entries_of, first_fault, line_fault, or_else, fault_of, lines_before, entries_before_fault, unless_fault, log_of}
use Rattle.redo_line.specs.Private.Progress.{closed_by}
use Rattle.redo_line.proofs.EntryListLemmas.{first_fault-append-none, first_fault-append-some, IsFaultAt, fault_within, each_some}
use Rattle.redo_line.proofs.LineLemmas.{ended-append, rest-append, are_lines}

-- The entry of the unended line, if there is one.
abbrev pub rest_entries : List ℕ → List ℕ → List (Option Entry)
rest_entries target last = map (λ line. entry_of target line false) (option_to_list (unended last))

-- The entries of bytes and more bytes: the entries of the lines that ended before, and the entries of the remainder with the more
-- bytes.
pub entries_of-append : (target bytes more : List ℕ)
    → entries_of target (bytes ++ more) ≡ line_entries target (ended bytes) ++ entries_of target (rest bytes ++ more)
entries_of-append target bytes more =
    let behind = rest bytes ++ more in
    ap (λ lines. line_entries target lines ++ rest_entries target (rest (bytes ++ more))) (ended-append bytes more)
    ∙ ap (λ last. line_entries target (ended bytes ++ ended behind) ++ rest_entries target last) (rest-append bytes more)
    ∙ ap (λ es. es ++ rest_entries target (rest behind)) (map-append (λ line. entry_of target line true) (ended bytes) (ended behind))
    ∙ append_assoc (line_entries target (ended bytes)) (line_entries target (ended behind)) (rest_entries target (rest behind))

-- Any byte after the line that closes the log has a fault.
late : (target : List ℕ) (line byte : ℕ) (bytes : List ℕ) (lines : List (List ℕ)) (last : List ℕ)
    → byte ∷ bytes ≡ flat_map with_line_feed lines ++ last
    → first_fault true line (line_entries target lines ++ rest_entries target last) ≡ Some (AfterClose line)
unfolding first_fault
late target line byte bytes [] [] whole = absurd (cc)
late target line byte bytes [] (first ∷ last) whole = refl
late target line byte bytes (first ∷ lines) last whole = refl

pub late_byte : (target : List ℕ) (line byte : ℕ) (bytes : List ℕ)
    → first_fault true line (entries_of target (byte ∷ bytes)) ≡ Some (AfterClose line)
late_byte target line byte bytes = late target line byte bytes (ended (byte ∷ bytes)) (rest (byte ∷ bytes)) (are_lines (byte ∷ bytes)).whole

-- The fault of an unended line stays with any bytes after it.
pub rest_fault-append : (target : List ℕ) (closed : Bool) (line : ℕ) (last more : List ℕ) (fault : StreamFault)
    → first_fault closed line (rest_entries target last) ≡ Some fault
    → first_fault closed line (entries_of target (last ++ more)) ≡ Some fault
unfolding first_fault entry_of
rest_fault-append target closed line [] more fault some = absurd (cc)
rest_fault-append target true line (byte ∷ last) more fault some = late_byte target line byte (last ++ more) ∙ some
rest_fault-append target false line (byte ∷ last) more fault some = absurd (cc)

-- The fault of a line stays with any bytes after it.
pub line_fault-append : (target bytes more : List ℕ) (fault : StreamFault) → line_fault target bytes ≡ Some fault
    → line_fault target (bytes ++ more) ≡ Some fault
line_fault-append target bytes more fault some =
    ap (first_fault false 1) (entries_of-append target bytes more) ∙ by (first_fault false 1 (line_entries target (ended bytes))) refl
  where
    by : (among : Option StreamFault) → first_fault false 1 (line_entries target (ended bytes)) ≡ among
        → first_fault false 1 (line_entries target (ended bytes) ++ entries_of target (rest bytes ++ more)) ≡ Some fault
    by (Some other) is =
        let before = line_entries target (ended bytes) in
        first_fault-append-some false 1 before (entries_of target (rest bytes ++ more)) other is
        ∙ sym (first_fault-append-some false 1 before (rest_entries target (rest bytes)) other is) ∙ some
    by None is =
        let before = line_entries target (ended bytes) in
        first_fault-append-none false 1 before (entries_of target (rest bytes ++ more)) is
        ∙ rest_fault-append target (closed_by false before) (1 + length before) (rest bytes) more fault
        (sym (first_fault-append-none false 1 before (rest_entries target (rest bytes)) is) ∙ some)

-- The first n bytes of `bytes` are a prefix of the first n bytes of `bytes ++ more`.
front-more : (n : ℕ) (bytes more : List ℕ) → (behind : List ℕ) × (take n (bytes ++ more) ≡ take n bytes ++ behind)
front-more zero bytes more = ([], refl)
front-more (suc n) [] more = (take (suc n) more, refl)
front-more (suc n) (byte ∷ bytes) more = let front = front-more n bytes more in (front.0, ap (λ bs. byte ∷ bs) front.1)

-- A fault that is known early is the fault of a line, or the stream is too long.
abbrev Early : List ℕ → ℕ → List ℕ → StreamFault → Type 0
Early target max_bytes bytes fault =
    (line_fault target (take max_bytes bytes) ≡ Some fault)
    ⊎ ((line_fault target (take max_bytes bytes) ≡ None) × (max_bytes < length bytes) × (fault ≡ TooLong))

ending_early : (over failed : Bool) (fault : StreamFault) → fault ≢ Read
    → cond over (Some TooLong) (cond failed (Some Read) None) ≡ Some fault → (over ≡ true) × (fault ≡ TooLong)
ending_early true failed fault other is = let same : fault ≡ TooLong = cc in (refl, same)
ending_early false true fault other is = let same : fault ≡ Read = cc in absurd (other same)
ending_early false false fault other is = absurd (cc)

early : (target : List ℕ) (max_bytes : ℕ) (bytes : List ℕ) (failed : Bool) (fault : StreamFault) → fault ≢ Read
    → fault_of target max_bytes (stream_of bytes failed) ≡ Some fault
    → Early target max_bytes bytes fault
early target max_bytes bytes failed fault other is = by (line_fault target (take max_bytes bytes)) refl
  where
    by : (among : Option StreamFault) → line_fault target (take max_bytes bytes) ≡ among → Early target max_bytes bytes fault
    by (Some first) among = inl (among ∙ sym (ap (λ o. or_else o (end_fault max_bytes (stream_of bytes failed))) among) ∙ is)
    by None among =
        let ending = ending_early (ltb max_bytes (length bytes)) failed fault other
        (sym (ap (λ o. or_else o (end_fault max_bytes (stream_of bytes failed))) among) ∙ is) in
        inr (among, ltb-true max_bytes (length bytes) ending.0, ending.1)

-- A fault that is known early is the fault of the whole stream, with the same entries before it.
pub early_fault : (target : List ℕ) (max_bytes : ℕ) (bytes more : List ℕ) (failed fails : Bool) (fault : StreamFault) → fault ≢ Read
    → fault_of target max_bytes (stream_of bytes failed) ≡ Some fault
    → fault_of target max_bytes (stream_of (bytes ++ more) fails) ≡ Some fault
early_fault target max_bytes bytes more failed fails fault other is = by (early target max_bytes bytes failed fault other is)
  where
    by : Early target max_bytes bytes fault → fault_of target max_bytes (stream_of (bytes ++ more) fails) ≡ Some fault
    by (inl line) =
        let front = front-more max_bytes bytes more in
        ap (λ o. or_else o (end_fault max_bytes (stream_of (bytes ++ more) fails)))
        (ap (line_fault target) front.1 ∙ line_fault-append target (take max_bytes bytes) front.0 fault line)
    by (inr long) =
        let same : take max_bytes (bytes ++ more) ≡ take max_bytes bytes = take-append-le max_bytes bytes more (omega arith) in
        let over : max_bytes < length (bytes ++ more) = omega (arith, length-append bytes more) in
        ap (λ o. or_else o (end_fault max_bytes (stream_of (bytes ++ more) fails))) (ap (line_fault target) same ∙ long.0)
        ∙ ap (λ b. cond b (Some TooLong) (cond fails (Some Read) None)) (lt-ltb max_bytes (length (bytes ++ more)) over)
        ∙ ap Some (sym long.2)

pub not_a_read : (fault : StreamFault) → IsEarlyFault fault → fault ≢ Read
not_a_read (BadRecord line) met is = absurd (cc)
not_a_read (AfterClose line) met is = absurd (cc)
not_a_read TooLong met is = absurd (cc)
not_a_read Read met is = absurd met
not_a_read OutOfMemory met is = absurd met
not_a_read NotClosed met is = absurd met

-- Lines after the invalid line are not before it.
pub lines_before-append : (place : ℕ) (fault : StreamFault) (lines more : List (List ℕ)) → IsFaultAt 1 place fault → place ≤ length lines
    → lines_before (Some fault) (lines ++ more) ≡ lines_before (Some fault) lines
lines_before-append place fault lines more (inl is) within =
    ap (λ f. lines_before (Some f) (lines ++ more)) is ∙ take-append-le (1 + place - 1) lines more (omega arith)
    ∙ ap (λ f. lines_before (Some f) lines) (sym is)
lines_before-append place fault lines more (inr is) within =
    ap (λ f. lines_before (Some f) (lines ++ more)) is ∙ take-append-le (1 + place - 1) lines more (omega arith)
    ∙ ap (λ f. lines_before (Some f) lines) (sym is)

-- A remainder is at most one line.
rest_entries-few : (target last : List ℕ) → length (rest_entries target last) ≤ 1
rest_entries-few target [] = omega arith
rest_entries-few target (byte ∷ last) = omega arith

-- The invalid line is an ended line, or directly follows the ended lines.
pub fault_line : (target bytes : List ℕ) (fault : StreamFault) → line_fault target bytes ≡ Some fault
    → (place : ℕ) × (place ≤ length (ended bytes)) × IsFaultAt 1 place fault
fault_line target bytes fault some =
    let within = fault_within false 1 (entries_of target bytes) fault some in
    let inside = within.1 in
    let each = length-append (line_entries target (ended bytes)) (rest_entries target (rest bytes)) in
    let few = rest_entries-few target (rest bytes) in
    let count = length-map (ended bytes) (λ line. entry_of target line true) in
    (within.0, omega arith, within.2)

early_lines : (target : List ℕ) (max_bytes : ℕ) (bytes more : List ℕ) (fault : StreamFault) → Early target max_bytes bytes fault
    → lines_before (Some fault) (ended (take max_bytes (bytes ++ more))) ≡ lines_before (Some fault) (ended (take max_bytes bytes))
early_lines target max_bytes bytes more fault (inl line) =
    let front = front-more max_bytes bytes more in
    let at = fault_line target (take max_bytes bytes) fault line in
    ap (lines_before (Some fault)) (ap ended front.1 ∙ ended-append (take max_bytes bytes) front.0)
    ∙ lines_before-append at.0 fault (ended (take max_bytes bytes)) (ended (rest (take max_bytes bytes) ++ front.0)) at.2 at.1
early_lines target max_bytes bytes more fault (inr long) =
    let same : take max_bytes (bytes ++ more) ≡ take max_bytes bytes = take-append-le max_bytes bytes more (omega arith) in
    ap (λ front. lines_before (Some fault) (ended front)) same

pub early_part : (target : List ℕ) (max_bytes : ℕ) (bytes more : List ℕ) (failed fails : Bool) (fault : StreamFault) → fault ≢ Read
    → fault_of target max_bytes (stream_of bytes failed) ≡ Some fault
    → entries_before_fault target max_bytes (stream_of (bytes ++ more) fails)
    ≡ entries_before_fault target max_bytes (stream_of bytes failed)
early_part target max_bytes bytes more failed fails fault other is =
    let entries = filter_map (λ line. entry_of target line true) in
    ap (λ o. entries (lines_before o (ended (take max_bytes (bytes ++ more)))))
    (early_fault target max_bytes bytes more failed fails fault other is)
    ∙ ap entries (early_lines target max_bytes bytes more fault (early target max_bytes bytes failed fault other is))
    ∙ sym (ap (λ o. entries (lines_before o (ended (take max_bytes bytes)))) is)

-- A stream without a fault is read to its end, is within the limit, and has no invalid line.
or_else-none : (first other : Option StreamFault) → or_else first other ≡ None → (first ≡ None) × (other ≡ None)
or_else-none (Some fault) other none = absurd (cc)
or_else-none None other none = (refl, none)

ending-none : (over fails : Bool) → cond over (Some TooLong) (cond fails (Some Read) None) ≡ None → (over ≡ false) × (fails ≡ false)
ending-none true fails none = absurd (cc)
ending-none false true none = absurd (cc)
ending-none false false none = (refl, refl)

pub no_fault : (target : List ℕ) (max_bytes : ℕ) (stream : Stream) → fault_of target max_bytes stream ≡ None
    → (line_fault target stream.bytes ≡ None) × (length stream.bytes ≤ max_bytes) × (stream.fails ≡ false)
no_fault target max_bytes stream none =
    let parts = or_else-none (line_fault target (take max_bytes stream.bytes)) (end_fault max_bytes stream) none in
    let ending = ending-none (ltb max_bytes (length stream.bytes)) stream.fails parts.1 in
    let within = ltb-false max_bytes (length stream.bytes) ending.0 in
    (ap (line_fault target) (sym (take_all max_bytes stream.bytes within)) ∙ parts.0, within, ending.1)

-- A log has an entry for each line.
pub an_entry_for_each_line : (target : List ℕ) (max_bytes : ℕ) (stream : Stream) (entries : List Entry)
    → log_of target max_bytes stream ≡ Some entries
    → map Some entries ≡ entries_of target stream.bytes
an_entry_for_each_line target max_bytes stream entries is = by (fault_of target max_bytes stream) refl is
  where
    by : (fault : Option StreamFault) → fault_of target max_bytes stream ≡ fault
        → unless_fault fault (filter_map (λ entry. entry) (entries_of target stream.bytes)) ≡ Some entries
        → map Some entries ≡ entries_of target stream.bytes
    by (Some fault) fault_is log = absurd (cc)
    by None fault_is log =
        let same : filter_map (λ entry. entry) (entries_of target stream.bytes) ≡ entries = cc in
        ap (map Some) (sym same) ∙ each_some false 1 (entries_of target stream.bytes) (no_fault target max_bytes stream fault_is).0

-- If a read fails after bytes without a fault, that is their fault, with the same entries before it.
pub failed_read : (target : List ℕ) (max_bytes : ℕ) (bytes : List ℕ) → fault_of target max_bytes (stream_of bytes false) ≡ None
    → fault_of target max_bytes (stream_of bytes true) ≡ Some Read
failed_read target max_bytes bytes none =
    let parts = or_else-none (line_fault target (take max_bytes bytes)) (end_fault max_bytes (stream_of bytes false)) none in
    let within = (no_fault target max_bytes (stream_of bytes false) none).1 in
    ap (λ o. or_else o (end_fault max_bytes (stream_of bytes true))) parts.0
    ∙ ap (λ b. cond b (Some TooLong) (Some Read)) (le-ltb max_bytes (length bytes) within)

pub failed_part : (target : List ℕ) (max_bytes : ℕ) (bytes : List ℕ) → fault_of target max_bytes (stream_of bytes false) ≡ None
    → entries_before_fault target max_bytes (stream_of bytes true) ≡ entries_before_fault target max_bytes (stream_of bytes false)
failed_part target max_bytes bytes none =
    let before = λ (o : Option StreamFault).
    filter_map (λ line. entry_of target line true) (lines_before o (ended (take max_bytes bytes))) in
    ap before (failed_read target max_bytes bytes none) ∙ sym (ap before none)
