-- The summaries of a sweep after the contents of a log, and the nodes of the logs in them.
use Rattle.std.proofs.Common.{◌≡◌, ℕ, suc, ◌+◌, Bool, true, false, ℤ, List, [], ◌∷◌, ◌++◌, Option, Some, map, refl, sym, ap, ◌∙◌, arith, add-one, append_assoc}
use Rattle.std.specs.Prelude.{◌&&◌, ◌||◌, not, reverse, if◌then◌else◌}
use Rattle.std.proofs.lemmas.List.{append-nil, map-append, reverse-append}
use Rattle.redo_logs.specs.Logs.{Log}
use Rattle.redo_view.specs.Event.{Event}
use Rattle.redo_outline.specs.declared.collector.OpenedLog.{OpenedLog}
use Rattle.redo_outline.specs.declared.node.Node.{Node}
use Rattle.redo_outline.specs.declared.sweep.Summary.{Summary}
use Rattle.redo_outline.specs.Contents.{Contents}
use Rattle.redo_outline.specs.Contents.Contents.{Nothing, Shown, Opened}
use Rattle.redo_outline.specs.Outline.{child_count, has_failed, has_failures, has_others, is_silent, is_visible, log_count, node_of, nodes_of, silent_count, warnings_in, without_warnings}
use Rattle.redo_outline.specs.Private.Collecting.{opened_log}
use Rattle.redo_outline.specs.Private.Sweeping.{Swept, end_added, is_silent_log, last_or_nothing, node_at, nothing_left, opening_added, opening_added_at, others_added, others_of, status_of, with_log, with_others_if, without_warnings_unless}
use Rattle.redo_outline.proofs.SweepLemmas.{split_last-append, swept_of}
use Rattle.redo_outline.proofs.TreeLemmas.{contents_added, opened_in}

module _ (logs : List Log) (statuses : List (Option ℤ)) where
  abbrev status : ℕ → Option ℤ
  status number = status_of logs statuses number

  -- The summary of a log that has these contents.
  abbrev summary_of : Bool → Contents → Summary
  summary_of counted contents = record {
    below = log_count contents;
    children = child_count contents;
    others = has_others contents;
    warnings = (if counted then warnings_in logs status contents else 0);
    fails = has_failures logs status contents;
    silent = is_silent logs status contents;
    silent_logs = silent_count logs status contents;
  }

  abbrev swept_with : Bool → List OpenedLog → Summary → List Summary → List Node → Swept
  swept_with counted opened inner outer nodes = swept_of counted logs statuses opened inner outer nodes

  -- The nodes of the logs in some contents.
  abbrev pub nodes_if : Bool → Option ℕ → ℕ → Contents → List Node
  nodes_if counted parent position contents = map (without_warnings_unless counted) (nodes_of logs status parent position contents)

  -- ---- no event, one event, one log

  nothing_summary : (counted : Bool) → nothing_left ≡ summary_of counted Nothing
  nothing_summary true = refl
  nothing_summary false = refl

  shown_summary : (counted : Bool) (event : Event) (rest : Contents)
      → with_others_if (is_visible event) (summary_of counted rest) ≡ summary_of counted (Shown event rest)
  shown_summary counted event rest = by (is_visible event)
    where
      by : (visible : Bool) → with_others_if visible (summary_of counted rest) ≡ record {
        below = log_count rest;
        children = child_count rest;
        others = visible || has_others rest;
        warnings = (if counted then warnings_in logs status rest else 0);
        fails = has_failures logs status rest;
        silent = not visible && is_silent logs status rest;
        silent_logs = (if visible then 0 else silent_count logs status rest);
      }
      by true = refl
      by false = refl

  one_more : (silent : Bool) (count : ℕ) → (if silent then count + 1 else 0) ≡ (if silent then suc count else 0)
  one_more silent count = ap (λ (n : ℕ). if silent then n else 0) (add-one count)

  node_is : (counted : Bool) (parent : Option ℕ) (number : ℕ) (inside rest : Contents)
      → node_at logs statuses counted (opened_log number parent) (summary_of counted inside) (summary_of counted rest)
      ≡ without_warnings_unless counted (node_of logs status parent number inside rest)
  node_is true parent number inside rest =
      ap (λ (silent : ℕ). record (node_of logs status parent number inside rest) { silent = silent })
      (one_more (is_silent_log (status number) (summary_of true inside)) (silent_count logs status rest))
  node_is false parent number inside rest =
      ap (λ (silent : ℕ). record (without_warnings (node_of logs status parent number inside rest)) { silent = silent })
      (one_more (is_silent_log (status number) (summary_of false inside)) (silent_count logs status rest))

  and_assoc : (a b c : Bool) → ((a && b) && c) ≡ (a && (b && c))
  and_assoc true b c = refl
  and_assoc false b c = refl

  below_is : (inside rest : Contents) → log_count inside + log_count rest + 1 ≡ suc (log_count inside + log_count rest)
  below_is inside rest = omega arith

  silent_is : (counted : Bool) (event : Event) (number : ℕ) (inside rest : Contents)
      → (is_silent_log (status number) (summary_of counted inside) && is_silent logs status rest)
      ≡ is_silent logs status (Opened event number inside rest)
  silent_is counted event number inside rest =
      and_assoc (not (has_failed logs status number)) (is_silent logs status inside) (is_silent logs status rest)

  opened_summary : (counted : Bool) (event : Event) (parent : Option ℕ) (number : ℕ) (inside rest : Contents)
      → with_log (without_warnings_unless counted (node_of logs status parent number inside rest)) (summary_of counted inside)
      (summary_of counted rest)
      ≡ summary_of counted (Opened event number inside rest)
  opened_summary true event parent number inside rest = λ i. record (summary_of true (Opened event number inside rest)) {
    below = below_is inside rest i;
    children = add-one (child_count rest) i;
    silent = silent_is true event number inside rest i;
  }
  opened_summary false event parent number inside rest = λ i. record (summary_of false (Opened event number inside rest)) {
    below = below_is inside rest i;
    children = add-one (child_count rest) i;
    silent = silent_is false event number inside rest i;
  }

  reversed : (nodes : List Node) (node : Node) (inside rest : List Node)
      → ((nodes ++ reverse rest) ++ reverse inside) ++ node ∷ [] ≡ nodes ++ reverse (node ∷ (inside ++ rest))
  reversed nodes node inside rest =
      append_assoc (nodes ++ reverse rest) (reverse inside) (node ∷ []) ∙ append_assoc nodes (reverse rest) (reverse inside ++ node ∷ [])
      ∙ ap (λ ns. nodes ++ ns) (sym (append_assoc (reverse rest) (reverse inside) (node ∷ []))
      ∙ ap (λ ns. ns ++ node ∷ []) (sym (reverse-append inside rest)) ∙ sym (reverse-append (node ∷ []) (inside ++ rest)))

  -- ---- contents

  -- The state of a sweep before contents, if it had `nodes` after them.
  abbrev After : Bool → Contents → Type 0
  After counted contents =
      (parent : Option ℕ) (position : ℕ) (opened : List OpenedLog) (outer : List Summary) (nodes : List Node)
      → contents_added contents (swept_with counted (opened ++ opened_in parent position contents) nothing_left outer nodes)
      ≡ swept_with counted opened (summary_of counted contents) outer (nodes ++ reverse (nodes_if counted parent position contents))

  after_nothing : (counted : Bool) → After counted Nothing
  after_nothing counted parent position opened outer nodes =
      ap (λ os. swept_with counted os nothing_left outer nodes) (append-nil opened)
      ∙ ap (λ inner. swept_with counted opened inner outer nodes) (nothing_summary counted)
      ∙ ap (swept_with counted opened (summary_of counted Nothing) outer) (sym (append-nil nodes))

  after_shown : (counted : Bool) (event : Event) (rest : Contents) → After counted rest → After counted (Shown event rest)
  after_shown counted event rest later parent position opened outer nodes =
      ap (others_added (is_visible event)) (later parent position opened outer nodes)
      ∙ ap (λ inner. swept_with counted opened inner outer (nodes ++ reverse (nodes_if counted parent position rest)))
      (shown_summary counted event rest)

  opening_then : (counted : Bool) (log : OpenedLog) (opened : List OpenedLog) (inside rest : Summary) (outer : List Summary)
      (nodes : List Node)
      → opening_added (swept_with counted (opened ++ log ∷ []) inside (outer ++ rest ∷ []) nodes)
      ≡ swept_with counted opened (with_log (node_at logs statuses counted log inside rest) inside rest) outer
      (nodes ++ node_at logs statuses counted log inside rest ∷ [])
  opening_then counted log opened inside rest outer nodes =
      ap (λ split. opening_added_at split (swept_with counted (opened ++ log ∷ []) inside (outer ++ rest ∷ []) nodes))
      (split_last-append opened log)
      ∙ ap (λ split. swept_with counted opened
      (with_log (node_at logs statuses counted log inside (last_or_nothing split)) inside (last_or_nothing split))
      (others_of split) (nodes ++ node_at logs statuses counted log inside (last_or_nothing split) ∷ []))
      (split_last-append outer rest)

  after_opened : (counted : Bool) (event : Event) (number : ℕ) (inside rest : Contents) → After counted inside → After counted rest
      → After counted (Opened event number inside rest)
  after_opened counted event number inside rest first second parent position opened outer nodes =
      ap (λ os. opening_added (contents_added inside (end_added (contents_added rest (swept_with counted os nothing_left outer nodes)))))
      (sym (append_assoc opened (log ∷ opened_inside) opened_rest))
      ∙ ap (λ swept. opening_added (contents_added inside (end_added swept)))
      (second parent (suc position + log_count inside) (opened ++ log ∷ opened_inside) outer nodes)
      ∙ ap (λ os. opening_added (contents_added inside
      (swept_with counted os nothing_left (outer ++ summary_of counted rest ∷ []) (nodes ++ reverse nodes_rest))))
      (sym (append_assoc opened (log ∷ []) opened_inside))
      ∙ ap opening_added (first (Some position) (suc position) (opened ++ log ∷ []) (outer ++ summary_of counted rest ∷ [])
      (nodes ++ reverse nodes_rest))
      ∙ opening_then counted log opened (summary_of counted inside) (summary_of counted rest) outer
      ((nodes ++ reverse nodes_rest) ++ reverse nodes_inside)
      ∙ ap (λ node. swept_with counted opened (with_log node (summary_of counted inside) (summary_of counted rest)) outer
      (((nodes ++ reverse nodes_rest) ++ reverse nodes_inside) ++ node ∷ [])) (node_is counted parent number inside rest)
      ∙ ap (λ inner. swept_with counted opened inner outer (((nodes ++ reverse nodes_rest) ++ reverse nodes_inside) ++ node ∷ []))
      (opened_summary counted event parent number inside rest)
      ∙ ap (swept_with counted opened (summary_of counted (Opened event number inside rest)) outer)
      (reversed nodes node nodes_inside nodes_rest
      ∙ ap (λ ns. nodes ++ reverse (node ∷ ns)) (sym (map-append (without_warnings_unless counted)
      (nodes_of logs status (Some position) (suc position) inside)
      (nodes_of logs status parent (suc position + log_count inside) rest))))
    where
      log : OpenedLog
      log = opened_log number parent

      node : Node
      node = without_warnings_unless counted (node_of logs status parent number inside rest)

      opened_inside : List OpenedLog
      opened_inside = opened_in (Some position) (suc position) inside

      opened_rest : List OpenedLog
      opened_rest = opened_in parent (suc position + log_count inside) rest

      nodes_inside : List Node
      nodes_inside = nodes_if counted (Some position) (suc position) inside

      nodes_rest : List Node
      nodes_rest = nodes_if counted parent (suc position + log_count inside) rest

  pub after_contents : (counted : Bool) (contents : Contents) → After counted contents
  after_contents counted Nothing = after_nothing counted
  after_contents counted (Shown event rest) = after_shown counted event rest (after_contents counted rest)
  after_contents counted (Opened event number inside rest) =
      after_opened counted event number inside rest (after_contents counted inside) (after_contents counted rest)

-- ---- in the order in which they are opened

pub reversed_twice : (nodes : List Node) → reverse (reverse nodes) ≡ nodes
reversed_twice [] = refl
reversed_twice (node ∷ nodes) = ap reverse (reverse-append (node ∷ []) nodes) ∙ reverse-append (reverse nodes) (node ∷ [])
    ∙ ap (λ ns. node ∷ ns) (reversed_twice nodes)
