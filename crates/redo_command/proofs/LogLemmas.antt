-- Readers that give the streams of logs.
use Rattle.std.proofs.Common.{◌≡◌, ◌∙◌, ℕ, ◌+◌, List, [], ◌∷◌, ◌++◌, Option, None, Some, length, map, slice_get, take, sym, ap, subst}
use Rattle.std.proofs.lemmas.List.{take_more, map-append, length-map}
use Rattle.std.proofs.lemmas.Option.{get_or_from_slice_get, slice_get_within, slice_get-map}
use Rattle.std.specs.Option.{option_map}
use Rattle.redo_device.specs.Feed.{Stream}
use Rattle.redo_line.specs.Source.{StreamInput}
use Rattle.redo_gather.specs.Streams.{MatchKnown, MatchesContents, known_inputs}
use Rattle.redo_index.specs.declared.index_entry.IndexEntry.{IndexEntry}
use Rattle.redo_index.specs.Index.{must_close_flags, numbers_of}
use Rattle.redo_command.specs.Logs.{AllGive, Gives, known_logs}

-- A stream that a reader may give is one that its log may have.
matches_known : (known contents : Option Stream) (stream : Stream) → Gives known contents → MatchesContents contents stream
    → MatchesContents known stream
matches_known None contents stream gives matches = tt
matches_known (Some first) contents stream gives matches = subst (λ c. MatchesContents c stream) gives matches

-- Streams that match what is known of readers match what is known of the logs that they give.
pub match_known : {A : Type 0} (contents : A → Option Stream) (known : ℕ → Option Stream) (index : List IndexEntry) (readers : List A)
    (streams : List (StreamInput Stream))
    → AllGive (known_logs known index) (map contents readers) → MatchKnown (known_inputs contents (must_close_flags index) readers) streams
    → MatchKnown (map (λ (entry : IndexEntry). record { must_close = entry.must_close; stream = known entry.number }) index) streams
match_known contents known [] [] [] give matches = tt
match_known contents known [] [] (stream ∷ streams) give matches = matches
match_known contents known [] (reader ∷ readers) streams give matches = absurd give
match_known contents known (entry ∷ index) [] streams give matches = absurd give
match_known contents known (entry ∷ index) (reader ∷ readers) [] give matches = matches
match_known contents known (entry ∷ index) (reader ∷ readers) (stream ∷ streams) give matches = (
  (matches.0.0, matches_known (known entry.number) (contents reader) stream.stream give.0 matches.0.1),
  match_known contents known index readers streams give.1 matches.1,
)

-- One more reader gives one more log.
one_more : (logs readers : List (Option Stream)) (known contents : Option Stream) → AllGive logs readers → Gives known contents
    → AllGive (logs ++ known ∷ []) (readers ++ contents ∷ [])
one_more [] [] known contents give gives = (gives, tt)
one_more [] (reader ∷ readers) known contents give gives = absurd give
one_more (log ∷ logs) [] known contents give gives = absurd give
one_more (log ∷ logs) (reader ∷ readers) known contents give gives = (give.0, one_more logs readers known contents give.1 gives)

take-next : {A : Type 0} (xs : List A) (i : ℕ) (x : A) → slice_get xs i ≡ Some x → take (i + 1) xs ≡ take i xs ++ x ∷ []
take-next xs i x there = take_more xs i x (slice_get_within xs i x there)
    ∙ ap (λ last. take i xs ++ last ∷ []) (get_or_from_slice_get xs i x x there)

-- The reader of the log at the next position of an index gives its stream, too.
pub give_next : {A : Type 0} (contents : A → Option Stream) (known : ℕ → Option Stream) (index : List IndexEntry) (i number : ℕ)
    (readers : List A) (reader : A)
    → slice_get (numbers_of index) i ≡ Some number → AllGive (take i (known_logs known index)) (map contents readers)
    → Gives (known number) (contents reader)
    → AllGive (take (i + 1) (known_logs known index)) (map contents (readers ++ reader ∷ []))
give_next contents known index i number readers reader there give gives =
    let logs = known_logs known index in
    let log_there : slice_get logs i ≡ Some (known number) = slice_get-map known (numbers_of index) i ∙ ap (option_map known) there in
    subst (λ given. AllGive (take (i + 1) logs) given) (sym (map-append contents readers (reader ∷ [])))
    (subst (λ known_so_far. AllGive known_so_far (map contents readers ++ contents reader ∷ []))
    (sym (take-next logs i (known number) log_there))
    (one_more (take i logs) (map contents readers) (known number) (contents reader) give gives))

pub known_logs-length : (known : ℕ → Option Stream) (index : List IndexEntry) → length (known_logs known index) ≡ length index
known_logs-length known index = length-map (numbers_of index) known ∙ length-map index (λ (entry : IndexEntry). entry.number)
