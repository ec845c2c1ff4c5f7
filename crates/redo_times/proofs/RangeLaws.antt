-- All times are in range.
use Rattle.std.proofs.Common.{◌≡◌, ℕ, inl, inr, List, [], ◌∷◌, Option, None, Some, map, sym, subst}
use Rattle.std.specs.List.{AllByRecursion}
use Rattle.std.proofs.lemmas.Option.{IfSome_then}
use Rattle.redo_device.specs.Feed.{Stream}
use Rattle.redo_times.specs.declared.times.Times.{Times}
use Rattle.redo_times.specs.Readers.{AreTimesOfReaders, SomeStreams, logs_of, times_of_all}
use Rattle.redo_times.specs.Report.{TimedLog}
use Rattle.redo_times.specs.Times.{AreInRange, times_of}
use Rattle.redo_times.proofs.RangeLemmas.{line-in-range}
use Rattle.redo_times.proofs.ReaderLemmas.{weaker_all}
use Rattle.redo_times.proofs.TimesLaws.{beginning-first, end-last}

-- A property that doesn't depend on the streams.
in_any_case : (known : List (Option Stream)) (P : Type 0) → SomeStreams known (λ streams. P) → P
in_any_case [] P holds = holds
in_any_case (None ∷ known) P holds = in_any_case known P holds.1
in_any_case (Some stream ∷ known) P holds = in_any_case known P holds

module _ (max_bytes : ℕ) (logs : List TimedLog) where
  times-in-range : (target : List ℕ) → AreInRange (times_of max_bytes logs target)
  times-in-range target = (
    IfSome_then (times_of max_bytes logs target).began (beginning-first max_bytes logs target) (λ time first. elim first [
      | inl own ↦ line-in-range own.is.line time own.is.at
      | inr other ↦ line-in-range other.1.is.line time other.1.is.at
    ]),
    IfSome_then (times_of max_bytes logs target).ended (end-last max_bytes logs target) (λ time last. elim last [
      | inl own ↦ line-in-range own.is.line time own.is.at
      | inr other ↦ line-in-range other.2.is.line time other.2.is.at
    ]),
  )

  each-in-range : (targets : List (List ℕ)) → AllByRecursion AreInRange (map (times_of max_bytes logs) targets)
  each-in-range [] = tt
  each-in-range (target ∷ targets) = (times-in-range target, each-in-range targets)

pub all-in-range : (max_bytes : ℕ) (targets : List (List ℕ)) (known : List (Option Stream)) (times : List Times)
    → AreTimesOfReaders max_bytes targets known times → AllByRecursion AreInRange times
all-in-range max_bytes targets known times are =
    in_any_case known (AllByRecursion AreInRange times)
    (weaker_all known (λ streams. times ≡ times_of_all max_bytes targets streams) (λ streams. AllByRecursion AreInRange times)
    (λ streams size is. subst (AllByRecursion AreInRange) (sym is) (each-in-range max_bytes (logs_of targets streams) targets)) are)
