-- The tallies after the bytes that a reader gave.
use Rattle.std.proofs.Common.{◌≡◌, ℕ, ◌+◌, ◌≤◌, List, [], false, Option, None, Some, Ok, Err, length, take, refl, sym, ap, ◌∙◌, subst, arith}
use Rattle.std.proofs.Math.Seq.{take-append_seam}
use Rattle.std.proofs.lemmas.List.{take_all}
use Rattle.redo_device.specs.declared.feed.Broken.{Broken}
use Rattle.redo_device.specs.Feed.{Pulls, SomeStream, Stream}
use Rattle.redo_device.proofs.GaveLemmas.{Gave, Gave-end, Gave-failed, Gave-none, weaker}
use Rattle.redo_line.specs.Lines.{rest}
use Rattle.redo_line.proofs.LineLemmas.{rest-free}
use Rattle.redo_times.specs.declared.report.Report.{Report}
use Rattle.redo_times.specs.Private.Tally.{AreTallies, AreTalliesAfter, AreTalliesOfStream, TallyValue}
use Rattle.redo_times.proofs.LineLemmas.{none_after}

-- The bytes that a reader gave so far. `left` more count.
pub record Reading (targets : List (List ℕ)) (log : List ℕ) (max_bytes left : ℕ) (known now : Option Stream) (partial : List ℕ)
    (first tallies : List TallyValue) : Type 0 where
  pub taken : List ℕ
  pub size : length taken + left ≡ max_bytes
  pub gave : Gave known taken now
  pub kept : partial ≡ rest taken
  pub are : (reports : List Report) → AreTallies targets reports first → AreTalliesAfter targets log reports taken tallies

module _ (targets : List (List ℕ)) (log : List ℕ) (max_bytes : ℕ) (known : Option Stream) (first : List TallyValue) where
  pub none_read : Reading targets log max_bytes max_bytes known known [] first first
  none_read = record {
    taken = [];
    size = omega arith;
    gave = Gave-none known;
    kept = sym (rest-free [] tt);
    are = λ reports are. none_after targets log reports first are;
  }

  module _ (left : ℕ) (now : Option Stream) (partial : List ℕ) (tallies : List TallyValue)
      (so_far : Reading targets log max_bytes left known now partial first tallies) where
    -- The bytes that count are the bytes that were taken.
    abbrev AreTaken : Stream → Type 0
    AreTaken stream = take max_bytes stream.bytes ≡ so_far.taken

    by_taken : SomeStream known AreTaken → (reports : List Report) → AreTallies targets reports first
        → SomeStream known (λ stream. AreTalliesOfStream targets log reports max_bytes stream tallies)
    by_taken taken reports are =
        weaker known AreTaken (λ stream. AreTalliesOfStream targets log reports max_bytes stream tallies)
        (λ stream is. subst (λ (bytes : List ℕ). AreTalliesAfter targets log reports bytes tallies) (sym is) (so_far.are reports are)) taken

    fits_in : length so_far.taken ≤ max_bytes
    fits_in = let size = so_far.size in omega (arith, size)

    all_of : (stream : Stream) → stream.bytes ≡ so_far.taken → AreTaken stream
    all_of stream is = ap (take max_bytes) is ∙ take_all max_bytes so_far.taken fits_in

    -- The stream ended, or a read failed.
    pub at_end : (after : Option Stream) (buffer : List ℕ) → Pulls now after (Ok 0) buffer → (reports : List Report)
        → AreTallies targets reports first
        → SomeStream known (λ stream. AreTalliesOfStream targets log reports max_bytes stream tallies)
    at_end after buffer pulls =
        by_taken (weaker known _ AreTaken (λ stream is. all_of stream is.0)
        (Gave-end known now after so_far.taken buffer so_far.gave pulls))

    pub at_failure : (after : Option Stream) (buffer : List ℕ) (broken : Broken) → Pulls now after (Err broken) buffer
        → (reports : List Report) → AreTallies targets reports first
        → SomeStream known (λ stream. AreTalliesOfStream targets log reports max_bytes stream tallies)
    at_failure after buffer broken pulls =
        by_taken (weaker known _ AreTaken (λ stream is. all_of stream is.0)
        (Gave-failed known now after so_far.taken broken buffer so_far.gave pulls))

    -- All bytes that count were read.
    prefix : (known : Option Stream) → Gave known so_far.taken now → left ≡ 0 → SomeStream known AreTaken
    prefix None gave none = (record { bytes = so_far.taken; fails = false }, all_of (record { bytes = so_far.taken; fails = false }) refl)
    prefix (Some stream) gave none =
        let size = so_far.size in
        let all : max_bytes ≡ length so_far.taken = omega (arith, size, none) in
        (λ i. take (all i) (gave.2 i)) ∙ take-append_seam so_far.taken gave.0.bytes

    pub at_limit : left ≡ 0 → (reports : List Report) → AreTallies targets reports first
        → SomeStream known (λ stream. AreTalliesOfStream targets log reports max_bytes stream tallies)
    at_limit none = by_taken (prefix known so_far.gave none)
