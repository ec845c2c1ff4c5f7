-- The nodes that a collector makes of events are their outline.
use Rattle.std.proofs.Common.{◌≡◌, ℕ, Bool, List, [], Option, None, ℤ, false, map, ap, ◌∙◌, subst}
use Rattle.std.specs.Prelude.{reverse}
use Rattle.std.specs.Option.{option_or}
use Rattle.redo_logs.specs.Logs.{Log}
use Rattle.redo_view.specs.Event.{Event}
use Rattle.redo_view.specs.Form.{state_after}
use Rattle.redo_outline.specs.Contents.{Contents, contents_of}
use Rattle.redo_outline.specs.Facts.{entries_at, status_in_log, target_status}
use Rattle.redo_outline.specs.Laws.{events_of}
use Rattle.redo_outline.specs.Outline.{nodes_of, outline_of}
use Rattle.redo_outline.specs.Private.Collecting.{Collected, initial}
use Rattle.redo_outline.specs.Private.Sweeping.{Swept, brackets_added, collected_nodes, status_of, sweep_begun, without_warnings_unless}
use Rattle.redo_outline.proofs.CollectingLemmas.{after}
use Rattle.redo_outline.proofs.StatusLemmas.{done_statuses}
use Rattle.redo_outline.proofs.SummaryLemmas.{after_contents, nodes_if, reversed_twice}
use Rattle.redo_outline.proofs.TreeLemmas.{Grows, are_right, grows, opened_in}

module _ (logs : List Log) (events : List Event) where
  abbrev contents : Contents
  contents = contents_of events

  abbrev now : Collected
  now = state_after after (initial logs) events

  same_status : (number : ℕ) → status_of logs now.statuses number ≡ target_status logs events number
  same_status number = ap (option_or (status_in_log (entries_at number logs))) (done_statuses logs number events)

  module _ (counted : Bool) (all : events_of 0 contents ≡ events) where
    grown : Grows contents (initial logs) now
    grown = subst (λ es. Grows contents (initial logs) (state_after after (initial logs) es)) all
        (grows contents 0 (initial logs) (are_right events))

    nodes_reversed : (brackets_added now.brackets (sweep_begun now.logs now.statuses now.opened now.after_others counted)).nodes
        ≡ reverse (nodes_if logs now.statuses counted None 0 contents)
    nodes_reversed =
        ap (λ ls. (brackets_added now.brackets (sweep_begun ls now.statuses now.opened now.after_others counted)).nodes) grown.logs
        ∙ ap (λ os. (brackets_added now.brackets (sweep_begun logs now.statuses os now.after_others counted)).nodes) grown.opened
        ∙ ap (λ (swept : Swept). swept.nodes)
        (grown.brackets (sweep_begun logs now.statuses (opened_in None 0 contents) false counted)
        ∙ after_contents logs now.statuses counted contents None 0 [] [] [])

    pub outline_is : collected_nodes counted now ≡ map (without_warnings_unless counted) (outline_of logs events)
    outline_is =
        ap reverse nodes_reversed ∙ reversed_twice (nodes_if logs now.statuses counted None 0 contents)
        ∙ ap (λ (status : ℕ → Option ℤ). map (without_warnings_unless counted) (nodes_of logs status None 0 contents))
        (λ i number. same_status number i)
