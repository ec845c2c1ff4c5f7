-- Consequences for a stream of entries and a fault that are as expected for it.
use Rattle.std.proofs.Common.{◌≡◌, ◌≢◌, inl, inr, ℕ, List, Option, None, Some, filter_map, refl, sym, ap, ◌∙◌}
use Rattle.redo_line.specs.declared.entry.Entry.{Entry}
use Rattle.redo_line.specs.declared.stream_fault.StreamFault.{StreamFault}
use Rattle.redo_line.specs.declared.stream_fault.StreamFault.TheVariants.{OutOfMemory}
use Rattle.redo_device.specs.Feed.{Stream, SomeStream}
use Rattle.redo_line.specs.Log.{entries_of, unless_fault}
use Rattle.redo_line.specs.Source.{Source, source_fault, source_log, source_entries_before_fault, with_stream}
use Rattle.redo_device.proofs.GaveLemmas.{weaker}
use Rattle.redo_gather.specs.Expected.{KnownSource, IsExpected, IsExpectedFor, IsComplete, log_or_part, reported_entries}

-- The entries of a stream without a fault are its log.
pub log_known : (max_bytes : ℕ) (source : Source Stream) → source_fault max_bytes source ≡ None
    → source_log max_bytes source ≡ Some (reported_entries max_bytes source)
log_known max_bytes source none =
    let all = filter_map (λ entry. entry) (entries_of source.target source.stream.bytes) in
    ap (λ fault. unless_fault fault all) none
    ∙ ap Some (sym (ap (λ fault. log_or_part (unless_fault fault all) (source_entries_before_fault max_bytes source)) none))

module _ (max_bytes : ℕ) (given : KnownSource) (entries : List Entry) (fault : Option StreamFault)
    (expected : IsExpectedFor max_bytes given entries fault) where
  -- If memory didn't run out, all entries of the stream are there, with its fault if it has one.
  pub is_whole : fault ≢ Some OutOfMemory
      → SomeStream given.stream (λ stream. IsComplete max_bytes (with_stream stream given) entries fault)
  is_whole had_memory =
      weaker given.stream (λ stream. IsExpected max_bytes (with_stream stream given) entries fault)
      (λ stream. IsComplete max_bytes (with_stream stream given) entries fault)
      (λ stream is. elim is [
        | inl whole ↦ whole
        | inr short ↦ absurd (had_memory short.1)
      ])
      expected

  pub is_log : fault ≡ None → SomeStream given.stream (λ stream. source_log max_bytes (with_stream stream given) ≡ Some entries)
  is_log none =
      weaker given.stream (λ stream. IsComplete max_bytes (with_stream stream given) entries fault)
      (λ stream. source_log max_bytes (with_stream stream given) ≡ Some entries)
      (λ stream whole. log_known max_bytes (with_stream stream given) (sym whole.1 ∙ none) ∙ ap Some (sym whole.0))
      (is_whole (λ some. let e = sym none ∙ some in absurd (cc)))

  pub is_fault : (known : StreamFault) → fault ≡ Some known → known ≢ OutOfMemory
      → SomeStream given.stream (λ stream. source_fault max_bytes (with_stream stream given) ≡ Some known)
  is_fault known some other =
      weaker given.stream (λ stream. IsComplete max_bytes (with_stream stream given) entries fault)
      (λ stream. source_fault max_bytes (with_stream stream given) ≡ Some known)
      (λ stream whole. sym whole.1 ∙ some) (is_whole (λ memory. let same : Some known ≡ Some OutOfMemory = sym some ∙ memory in other (cc)))

pub no_fault_left : (fault : Option StreamFault) → ((known : StreamFault) → fault ≡ Some known → ⊥) → fault ≡ None
no_fault_left None none = refl
no_fault_left (Some known) none = absurd (none known refl)
