-- Which targets are reached from the requested targets.
use Rattle.std.specs.Prelude.{◌≡◌, ℕ, Bool, true, false, ◌&&◌, ◌||◌, ◌⊎◌, List, [], ◌∷◌, nat_eq}
use Rattle.std.specs.Cmp.Lexicographic.{pointwise}
use Rattle.redo_line.specs.declared.entry.Entry.{Entry}
use Rattle.redo_line.specs.declared.entry.Entry.TheVariants.{Text, Mention, Done, Closing, Note}
use Rattle.redo_logs.specs.Logs.{Log, targets_of}
use Rattle.redo_options.specs.declared.options.Options.{Options}
use Rattle.redo_view.specs.Expansion.{is_among, entries_of_target, is_mention}

abbrev pub mentions_target : Options → List ℕ → Entry → Bool
mentions_target options target (Text line) = false
mentions_target options target (Mention pid how name) = is_mention options how && pointwise nat_eq target name
mentions_target options target (Done pid status name) = false
mentions_target options target (Closing pid status) = false
mentions_target options target (Note pid kind text) = false

-- Whether one of these entries mentions `target`.
abbrev pub mentioned_in : Options → List ℕ → List Entry → Bool
mentioned_in options target [] = false
mentioned_in options target (entry ∷ entries) = mentions_target options target entry || mentioned_in options target entries

module _ (logs : List Log) (options : Options) where
  -- Whether a chain of mentions leads from one target to another: each next target has a log, and is mentioned in the log of
  -- the target before it.
  abbrev pub IsMentionChain : List ℕ → List (List ℕ) → List ℕ → Type 0
  IsMentionChain from [] to = from ≡ to
  IsMentionChain from (next ∷ others) to =
      (is_among next (targets_of logs) ≡ true) × (mentioned_in options next (entries_of_target from logs) ≡ true) × IsMentionChain next others to

  -- Whether a chain of mentions leads to `target` from a requested target.
  abbrev pub IsMentionedFrom : List (List ℕ) → List ℕ → Type 0
  IsMentionedFrom requested target = (from : List ℕ) × (chain : List (List ℕ)) × (is_among from requested ≡ true) × IsMentionChain from chain target

  -- Whether `target` is requested or, with `recursive`, a chain of mentions leads to it.
  abbrev pub IsReachable : List (List ℕ) → List ℕ → Type 0
  IsReachable requested target = (is_among target requested ≡ true) ⊎ ((options.recursive ≡ true) × IsMentionedFrom requested target)
