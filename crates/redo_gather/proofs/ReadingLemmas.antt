-- A stream, as a loop over its reads knows it.
use Rattle.std.proofs.Common.{◌≡◌, ◌≢◌, inl, inr, ℕ, ◌+◌, ◌-◌, ◌<◌, ◌≤◌, Bool, true, false, List, [], ◌++◌, Option, None, Some, IfSome, IfNone, Ok, Err, length, take, drop, option_to_list, filter_map, refl, sym, ap, ◌∙◌, subst, arith}
use Rattle.std.specs.List.{slice_range}
use Rattle.std.proofs.lemmas.List.{append_assoc, append-nil, take-append-drop}
use Rattle.std.proofs.Math.Seq.{take-add}
use Rattle.redo_line.specs.declared.entry.Entry.{Entry}
use Rattle.redo_device.specs.declared.feed.Broken.{Broken}
use Rattle.redo_line.specs.declared.stream_fault.StreamFault.{StreamFault}
use Rattle.redo_line.specs.declared.stream_fault.StreamFault.TheVariants.{Read, OutOfMemory}
use Rattle.redo_device.specs.Feed.{Stream, Pulls, SomeStream}
use Rattle.redo_line.specs.Laws.{IsPrefix}
use Rattle.redo_line.specs.Log.{stream_of, entries_of, entries_before_fault, unless_fault}
use Rattle.redo_line.specs.Source.{Source, source_fault, source_log, source}
use Rattle.redo_line.specs.Scan.{Scanned, FindsEntries, IsFaultFree, MayFailWith, ConsumesAll, entries_in, entries_so_far, fault_so_far, so_far, source_in, consume}
use Rattle.redo_line.proofs.FaultLemmas.{early_fault, early_part, failed_read, failed_part, no_fault}
use Rattle.redo_device.proofs.GaveLemmas.{Gave, Gave-none, Gave-more, Gave-end, Gave-failed, weaker}
use Rattle.redo_line.proofs.LogLemmas.{entries_lead_part, entries_lead_log}
use Rattle.redo_line.proofs.SourceLemmas.{fault_met, of_log}
use Rattle.redo_gather.specs.Expected.{IsExpected, IsExpectedFor, log_or_part, reported_entries}
use Rattle.redo_gather.specs.Private.Reading.{IsRead, IsReadToEnd, IsCutIn, IsRefused}

-- A scan for the log of a target, with this limit and this must-close flag.
pub record IsFor (target : List ℕ) (max_bytes : ℕ) (must_close : Bool) (scan : Scanned) : Type 0 where
  pub target_is : scan.target ≡ target
  pub limit_is : scan.max_bytes ≡ max_bytes
  pub flag_is : scan.must_close ≡ must_close

-- The bytes that a reader gave were consumed, and these are their entries.
pub record Reading (known now : Option Stream) (scan : Scanned) (entries : List Entry) : Type 0 where
  pub gave : Gave known scan.bytes now
  pub read : IsRead scan entries

pub none_read : (known : Option Stream) (scan : Scanned) (entries : List Entry) → scan.bytes ≡ [] → IsRead scan entries
    → Reading known known scan entries
none_read known scan entries no_byte read = record { gave = subst (λ b. Gave known b known) (sym no_byte) (Gave-none known); read = read }

-- ---- one chunk

-- If nothing was found.
pub if_none : {A : Type 0} (found : Option A) (P : Type 0) → ((x : A) → found ≡ Some x → ⊥) → IfNone found P → P
if_none (Some x) P none more = absurd (none x refl)
if_none None P none more = more

fine_then : (old new : Scanned) (bytes : List ℕ) → new ≡ consume bytes old
    → fault_so_far old.target old.max_bytes (old.bytes ++ bytes) ≡ None → IsFaultFree new
fine_then old new bytes is fine = subst IsFaultFree (sym is) (record { not_failed = refl; no_fault = fine })

-- Further lines, or bytes that end no line.
pub lines_read : (old new : Scanned) (bytes : List ℕ) (most : ℕ) (first all entries after : List Entry)
    (found : FindsEntries old new bytes most first all) → IsRead old entries → after ≡ entries ++ found.more → IsRead new after
lines_read old new bytes most first all entries after found read after_is = record {
  fault_free = fine_then old new bytes found.taken found.ends.no_fault;
  entries_are = after_is ∙ ap (λ es. es ++ found.more) read.entries_are ∙ sym (ap entries_in found.taken ∙ found.ends.entries);
}

pub no_line : (old new : Scanned) (bytes : List ℕ) (entries : List Entry) → ConsumesAll old new bytes → IsRead old entries
    → IsRead new entries
no_line old new bytes entries takes read = record {
  fault_free = fine_then old new bytes takes.0 takes.1.no_fault;
  entries_are = read.entries_are ∙ sym (ap entries_in takes.0 ∙ takes.1.entries);
}

-- The bytes that were consumed of a chunk.
module _ (scan : Scanned) (chunk : List ℕ) where
  pub took_nothing : scan.failed_with ≡ None → scan ≡ consume [] scan
  took_nothing none = λ i. record {
    target = scan.target;
    max_bytes = scan.max_bytes;
    must_close = scan.must_close;
    bytes = sym (append-nil scan.bytes) i;
    failed_with = none i;
  }

  took_both : (prefix suffix whole : List ℕ) → prefix ++ suffix ≡ whole → consume suffix (consume prefix scan) ≡ consume whole scan
  took_both prefix suffix whole is =
      ap (λ (b : List ℕ). record {
        target = scan.target;
        max_bytes = scan.max_bytes;
        must_close = scan.must_close;
        bytes = b;
        failed_with = None;
      })
      (append_assoc scan.bytes prefix suffix ∙ ap (λ (b : List ℕ). scan.bytes ++ b) is)

  module _ (now : Scanned) (from : ℕ) (now_is : now ≡ consume (take from chunk) scan) where
    pub took_to : (new : Scanned) (end_offset : ℕ) → from ≤ end_offset → new ≡ consume (slice_range chunk from end_offset) now
        → new ≡ consume (take end_offset chunk) scan
    took_to new end_offset forward new_is =
        let reach : from + (end_offset - from) ≡ end_offset = omega arith in
        new_is ∙ ap (consume (slice_range chunk from end_offset)) now_is
        ∙ took_both (take from chunk) (slice_range chunk from end_offset) (take end_offset chunk)
        (sym (take-add from (end_offset - from) chunk) ∙ ap (λ n. take n chunk) reach)

    pub took_rest : (new : Scanned) → new ≡ consume (drop from chunk) now → new ≡ consume chunk scan
    took_rest new new_is = new_is ∙ ap (consume (drop from chunk)) now_is
        ∙ took_both (take from chunk) (drop from chunk) chunk (take-append-drop from chunk)

    whole : now.bytes ++ drop from chunk ≡ scan.bytes ++ chunk
    whole =
        ap (λ (s : Scanned). s.bytes ++ drop from chunk) now_is ∙ append_assoc scan.bytes (take from chunk) (drop from chunk)
        ∙ ap (λ (b : List ℕ). scan.bytes ++ b) (take-append-drop from chunk)

    module _ (entries : List Entry) (read : IsRead now entries) where
      pub cut_in : IsCutIn scan chunk entries
      cut_in = record {
        bytes = now.bytes;
        suffix = drop from chunk;
        bytes_are = sym whole;
        no_fault = sym (ap (λ (s : Scanned). fault_so_far s.target s.max_bytes now.bytes) now_is) ∙ read.fault_free.no_fault;
        is_prefix = (
          [],
          sym (ap (λ (s : Scanned). entries_so_far s.target s.max_bytes now.bytes) now_is) ∙ sym read.entries_are
              ∙ sym (append-nil entries),
        );
      }

      pub refused_after : (fault : StreamFault) → MayFailWith now (drop from chunk) fault → IsRefused scan chunk entries fault
      refused_after fault (inl memory) = inr (cut_in, memory)
      refused_after fault (inr at_fault) = inl (record {
        fault_is =
            ap (fault_so_far scan.target scan.max_bytes) (sym whole)
            ∙ ap (λ (s : Scanned). fault_so_far s.target s.max_bytes (now.bytes ++ drop from chunk)) (sym now_is) ∙ at_fault.fault_is;
        entries_are =
            read.entries_are ∙ sym at_fault.entries
            ∙ ap (λ (s : Scanned). entries_so_far s.target s.max_bytes (now.bytes ++ drop from chunk)) now_is
            ∙ ap (entries_so_far scan.target scan.max_bytes) whole;
      })

-- ---- the whole stream

same_stream : (stream : Stream) (bytes : List ℕ) (fails : Bool) → stream.bytes ≡ bytes → stream.fails ≡ fails
    → stream_of bytes fails ≡ stream
same_stream stream bytes fails bytes_are fails_is = λ i. record { bytes = sym bytes_are i; fails = sym fails_is i }

-- A prefix of both lists is a prefix of the one that holds the stream's entries.
of_either : (entries part : List Entry) (log : Option (List Entry)) → IfSome log (IsPrefix entries) → IsPrefix entries part
    → IsPrefix entries (log_or_part log part)
of_either entries part (Some log) of_log of_part = of_log
of_either entries part None of_log of_part = of_part

prefix_of_prefix : (first second all : List Entry) → IsPrefix first second → IsPrefix second all → IsPrefix first all
prefix_of_prefix first second all one two = (one.0 ++ two.0, two.1 ∙ ap (λ es. es ++ two.0) one.1 ∙ append_assoc first one.0 two.0)

module _ (target : List ℕ) (max_bytes : ℕ) (must_close : Bool) where
  known_part : (stream : Stream) (fault : StreamFault) → source_fault max_bytes (source target must_close stream) ≡ Some fault
      → reported_entries max_bytes (source target must_close stream) ≡ entries_before_fault target max_bytes stream
  known_part stream fault is = ap (λ f.
      log_or_part (unless_fault f (filter_map (λ entry. entry) (entries_of target stream.bytes)))
      (entries_before_fault target max_bytes stream)) is

  -- Bytes that have a fault, with any bytes after them.
  stopped : (known after : Option Stream) (bytes : List ℕ) (fault : StreamFault) (entries : List Entry) → Gave known bytes after
      → fault ≢ Read → fault_so_far target max_bytes bytes ≡ Some fault
      → entries ≡ entries_so_far target max_bytes bytes → IsExpectedFor max_bytes (source target must_close known) entries (Some fault)
  stopped None after bytes fault entries gave other is are =
      let fault_is = fault_met max_bytes (source target must_close (so_far bytes)) fault is in
      (so_far bytes, inl (are ∙ sym (known_part (so_far bytes) fault fault_is), sym fault_is))
  stopped (Some stream) after bytes fault entries gave other is are =
      let all = same_stream stream (bytes ++ gave.0.bytes) stream.fails gave.2 refl in
      let fault_is = fault_met max_bytes (source target must_close (stream_of (bytes ++ gave.0.bytes) stream.fails)) fault
      (early_fault target max_bytes bytes gave.0.bytes false stream.fails fault other is) in
      subst (λ (s : Stream). IsExpected max_bytes (source target must_close s) entries (Some fault)) all
      (inl (
        are ∙ sym (early_part target max_bytes bytes gave.0.bytes false stream.fails fault other is)
            ∙ sym (known_part _ fault fault_is),
        sym fault_is,
      ))

  prefix_known : (bytes : List ℕ) (entries : List Entry) → fault_so_far target max_bytes bytes ≡ None
      → IsPrefix entries (entries_so_far target max_bytes bytes)
      → (more : List ℕ) (fails : Bool) → IsPrefix entries
      (reported_entries max_bytes (source target must_close (stream_of (bytes ++ more) fails)))
  prefix_known bytes entries fine prefix more fails =
      prefix_of_prefix entries (entries_so_far target max_bytes bytes) _ prefix
      (of_either (entries_so_far target max_bytes bytes) _ _
      (of_log max_bytes (source target must_close (stream_of (bytes ++ more) fails)) (IsPrefix (entries_so_far target max_bytes bytes))
      (entries_lead_log target max_bytes bytes more fails fine)) (entries_lead_part target max_bytes bytes more fails fine))

  -- Bytes that have no fault, with some of their first entries.
  cut : (known after : Option Stream) (bytes suffix : List ℕ) (entries : List Entry) → Gave known (bytes ++ suffix) after
      → fault_so_far target max_bytes bytes ≡ None
      → IsPrefix entries (entries_so_far target max_bytes bytes)
      → IsExpectedFor max_bytes (source target must_close known) entries (Some OutOfMemory)
  cut known after bytes suffix entries gave fine prefix = by known gave
    where
      by : (known : Option Stream) → Gave known (bytes ++ suffix) after
          → IsExpectedFor max_bytes (source target must_close known) entries (Some OutOfMemory)
      by None gave = (stream_of (bytes ++ suffix) false, inr (prefix_known bytes entries fine prefix suffix false, refl))
      by (Some stream) gave =
          subst (λ (s : Stream). IsExpected max_bytes (source target must_close s) entries (Some OutOfMemory))
          (same_stream stream (bytes ++ (suffix ++ gave.0.bytes)) stream.fails (gave.2 ∙ append_assoc bytes suffix gave.0.bytes) refl)
          (inr (prefix_known bytes entries fine prefix (suffix ++ gave.0.bytes) stream.fails, refl))

  module _ (known now after : Option Stream) (scan : Scanned) (entries : List Entry) (reading : Reading known now scan entries)
      (own : IsFor target max_bytes must_close scan) where
    own_fault : (bytes : List ℕ) → fault_so_far scan.target scan.max_bytes bytes ≡ fault_so_far target max_bytes bytes
    own_fault bytes = ap (λ t. fault_so_far t scan.max_bytes bytes) own.target_is ∙ ap (λ n. fault_so_far target n bytes) own.limit_is

    own_entries : (bytes : List ℕ) → entries_so_far scan.target scan.max_bytes bytes ≡ entries_so_far target max_bytes bytes
    own_entries bytes = ap (λ t. entries_so_far t scan.max_bytes bytes) own.target_is ∙ ap (λ n. entries_so_far target n bytes) own.limit_is

    fine : fault_so_far target max_bytes scan.bytes ≡ None
    fine = sym (own_fault scan.bytes) ∙ reading.read.fault_free.no_fault

    are_so_far : entries ≡ entries_so_far target max_bytes scan.bytes
    are_so_far = reading.read.entries_are ∙ own_entries scan.bytes

    -- The bytes so far are within the limit.
    pub within : length scan.bytes ≤ max_bytes
    within = (no_fault target max_bytes (so_far scan.bytes) fine).1

    pub at_failure : (broken : Broken) (buffer : List ℕ) → Pulls now after (Err broken) buffer
        → IsExpectedFor max_bytes (source target must_close known) entries (Some Read)
    at_failure broken buffer pulls =
        weaker known (λ stream. (stream.bytes ≡ scan.bytes) × (stream.fails ≡ true))
        (λ stream. IsExpected max_bytes (source target must_close stream) entries (Some Read))
        (λ stream is.
        let fault_is = fault_met max_bytes (source target must_close (stream_of scan.bytes true)) Read
        (failed_read target max_bytes scan.bytes fine) in
        subst (λ (s : Stream). IsExpected max_bytes (source target must_close s) entries (Some Read))
        (same_stream stream scan.bytes true is.0 is.1)
        (inl (
          are_so_far ∙ sym (failed_part target max_bytes scan.bytes fine)
              ∙ sym (known_part (stream_of scan.bytes true) Read fault_is),
          sym fault_is,
        )))
        (Gave-failed known now after scan.bytes broken buffer reading.gave pulls)

    -- At the end of input, all bytes of the stream were consumed.
    pub all_taken : (buffer : List ℕ) → Pulls now after (Ok 0) buffer
        → SomeStream known (λ stream. (stream.bytes ≡ scan.bytes) × (stream.fails ≡ false))
    all_taken buffer pulls = Gave-end known now after scan.bytes buffer reading.gave pulls

    pub no_memory_left : IsExpectedFor max_bytes (source target must_close known) entries (Some OutOfMemory)
    no_memory_left =
        cut known now scan.bytes [] entries (subst (λ b. Gave known b now) (sym (append-nil scan.bytes)) reading.gave) fine
        ([], sym are_so_far ∙ sym (append-nil entries))

    -- One more chunk.
    module _ (n : ℕ) (buffer : List ℕ) (some : 0 < n) (pulls : Pulls now after (Ok n) buffer) where
      more : Gave known (scan.bytes ++ take n buffer) after
      more = Gave-more known now after scan.bytes n buffer some reading.gave pulls

      pub at_refusal : (left : List Entry) (fault : StreamFault) → fault ≢ Read → IsRefused scan (take n buffer) left fault
          → IsExpectedFor max_bytes (source target must_close known) left (Some fault)
      at_refusal left fault other (inl stop) =
          stopped known after (scan.bytes ++ take n buffer) fault left more other (sym (own_fault _) ∙ stop.fault_is)
          (stop.entries_are ∙ own_entries _)
      at_refusal left fault other (inr (cut_there, memory)) =
          subst (λ (f : StreamFault). IsExpectedFor max_bytes (source target must_close known) left (Some f)) (sym memory)
          (cut known after cut_there.bytes cut_there.suffix left (subst (λ b. Gave known b after) cut_there.bytes_are more)
          (sym (own_fault cut_there.bytes) ∙ cut_there.no_fault)
          (subst (IsPrefix left) (own_entries cut_there.bytes) cut_there.is_prefix))

      pub one_chunk : (new : Scanned) (all : List Entry) → new ≡ consume (take n buffer) scan → IsRead new all → Reading known after new all
      one_chunk new all new_is read = record { gave = subst (λ (s : Scanned). Gave known s.bytes after) (sym new_is) more; read = read }

-- All of a stream was read.
module _ (known : Option Stream) (old new : Scanned) (entries : List Entry) (ended : IsReadToEnd known old new entries) where
  fine_to_end : fault_so_far old.target old.max_bytes new.bytes ≡ None
  fine_to_end =
      sym (ap (λ t. fault_so_far t new.max_bytes new.bytes) ended.target_is ∙ ap (λ n. fault_so_far old.target n new.bytes) ended.limit_is)
      ∙ ended.read.fault_free.no_fault

  are_to_end : entries ≡ entries_so_far old.target old.max_bytes new.bytes
  are_to_end =
      ended.read.entries_are ∙ (ap (λ t. entries_so_far t new.max_bytes new.bytes) ended.target_is
      ∙ ap (λ n. entries_so_far old.target n new.bytes) ended.limit_is)

  -- The source that the log is made from.
  abbrev made_from : Source Stream
  made_from = source old.target old.must_close (so_far new.bytes)

  own_source : source_in new ≡ made_from
  own_source = λ i. record { target = ended.target_is i; must_close = ended.flag_is i; stream = so_far new.bytes }

  -- Entries and a fault that are as expected for it are as expected for the reader's stream.
  expected_to_end : (all : List Entry) (fault : Option StreamFault) → IsExpected old.max_bytes made_from all fault
      → IsExpectedFor old.max_bytes (source old.target old.must_close known) all fault
  expected_to_end all fault expected =
      weaker known (λ stream. (stream.bytes ≡ new.bytes) × (stream.fails ≡ false))
      (λ stream. IsExpected old.max_bytes (source old.target old.must_close stream) all fault)
      (λ stream is. subst (λ (s : Stream). IsExpected old.max_bytes (source old.target old.must_close s) all fault)
      (same_stream stream new.bytes false is.0 is.1) expected)
      ended.all

  pub at_end : (last : Option Entry) (all : List Entry)
      → source_log new.max_bytes (source_in new) ≡ Some (entries_in new ++ option_to_list last) → all ≡ entries ++ option_to_list last
      → IsExpectedFor old.max_bytes (source old.target old.must_close known) all None
  at_end last all log_is all_are =
      expected_to_end all None
      (inl (
        all_are ∙ ap (λ es. es ++ option_to_list last) ended.read.entries_are
            ∙ sym (ap (λ l. log_or_part l (entries_before_fault old.target old.max_bytes (so_far new.bytes))) own_log),
        sym (none_of_log (source_fault old.max_bytes made_from) _ own_log),
      ))
    where
      own_log : source_log old.max_bytes made_from ≡ Some (entries_in new ++ option_to_list last)
      own_log = (λ i. source_log (sym ended.limit_is i) (sym own_source i)) ∙ log_is

      none_of_log : (fault : Option StreamFault) (es : List Entry)
          → unless_fault fault (filter_map (λ entry. entry) (entries_of old.target new.bytes)) ≡ Some es → fault ≡ None
      none_of_log (Some fault) es is = absurd (cc)
      none_of_log None es is = refl

  -- The log must be closed, and isn't.
  pub open_at_end : (fault : StreamFault) → source_fault new.max_bytes (source_in new) ≡ Some fault
      → IsExpectedFor old.max_bytes (source old.target old.must_close known) entries (Some fault)
  open_at_end fault is =
      expected_to_end entries (Some fault)
      (inl (are_to_end ∙ sym (known_part old.target old.max_bytes old.must_close (so_far new.bytes) fault own_fault), sym own_fault))
    where
      own_fault : source_fault old.max_bytes made_from ≡ Some fault
      own_fault = (λ i. source_fault (sym ended.limit_is i) (sym own_source i)) ∙ is

  pub cut_at_end : IsExpectedFor old.max_bytes (source old.target old.must_close known) entries (Some OutOfMemory)
  cut_at_end =
      weaker known (λ stream. (stream.bytes ≡ new.bytes) × (stream.fails ≡ false))
      (λ stream. IsExpected old.max_bytes (source old.target old.must_close stream) entries (Some OutOfMemory))
      (λ stream is.
      subst (λ (s : Stream). IsExpected old.max_bytes (source old.target old.must_close s) entries (Some OutOfMemory))
      (same_stream stream (new.bytes ++ []) false (is.0 ∙ sym (append-nil new.bytes)) is.1)
      (inr (
        prefix_known old.target old.max_bytes old.must_close new.bytes entries fine_to_end
            ([], sym are_to_end ∙ sym (append-nil entries)) [] false,
        refl,
      )))
      ended.all
