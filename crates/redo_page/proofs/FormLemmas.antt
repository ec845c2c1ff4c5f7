-- The bytes that the form of a tree writes.
use Rattle.std.proofs.Common.{◌≡◌, ℕ, ◌+◌, ◌<◌, ◌≤◌, min, ⊎_elim, Bool, true, false, List, [], ◌∷◌, ◌++◌, Option, Result, Ok, Err, length, take, refl, sym, ◌∙◌, ap, arith}
use Rattle.std.specs.Prelude.{if◌then◌else◌}
use Rattle.std.specs.List.{flat_map}
use Rattle.std.proofs.lemmas.Bool.{cases_lt}
use Rattle.std.proofs.lemmas.List.{append_assoc, take-append-le, take_all}
use Rattle.std.proofs.lemmas.List.Concat.{flat_map-append}
use Rattle.std.proofs.Math.Seq.{take-append-add}
use Rattle.redo_device.specs.Sink.{Output, append_output}
use Rattle.redo_device.proofs.WritesLemmas.{append_output-append_output, stops, then}
use Rattle.redo_html.specs.Parts.{Part, part_html}
use Rattle.redo_line.specs.declared.entry.Entry.TheVariants.{Text}
use Rattle.redo_view.specs.Event.{Event}
use Rattle.redo_view.specs.Event.Event.{EntryShown}
use Rattle.redo_view.specs.declared.form.FormFault.{FormFault}
use Rattle.redo_view.specs.declared.form.FormFault.TheVariants.{Write, OutOfMemory}
use Rattle.redo_view.specs.Form.{FormWrites, bytes_of, state_after, text_events}
use Rattle.redo_view.specs.Written.{WroteAll, WrotePrefix}
use Rattle.redo_page.specs.declared.block.Pending.{Pending}
use Rattle.redo_logs.specs.Logs.{Log}
use Rattle.redo_options.specs.declared.options.Options.{Options}
use Rattle.redo_outline.specs.declared.node.Node.{Node}
use Rattle.redo_outline.specs.Contents.{Contents, contents_of}
use Rattle.redo_outline.specs.Laws.{events_of}
use Rattle.redo_outline.specs.Outline.{log_count}
use Rattle.redo_trim.specs.declared.limit.Limit.{Limit}
use Rattle.redo_trim.specs.Laws.{AreInTree, KeepsLogs, StayInTree, TreeIsTrimmed}
use Rattle.redo_trim.specs.Trim.{trim, trimmed}
use Rattle.redo_page.specs.declared.block.Pending.TheVariants as pending
use Rattle.redo_page.specs.Tree.{Build, articles, is_moved_if, section_end, section_start, top_level}
use Rattle.redo_page.specs.Private.Streaming.{after_line, contents_parts, end_parts, line_parts, streamed_tree}
use Rattle.redo_page.specs.Private.Texts.{after_lines, lines_parts}
use Rattle.redo_page.specs.Private.Walking.{Walk, after_event, after_texts, level_in, start_of, texts_parts, tree_bytes, tree_text}
use Rattle.redo_page.proofs.WalkLemmas.{parts_contents, pending_after, proper, state_contents, walked_html, walked_parts}

-- All of a text is a prefix of it.
pub all_is_prefix : (before after : Option Output) (text : List ℕ) → WroteAll before after text → WrotePrefix before after text
all_is_prefix before after text wrote =
    (length text, wrote ∙ ap (λ (t : List ℕ). append_output before t 0) (sym (take_all (length text) text (omega arith))))

-- ---- text lines

module _ (depth : ℕ) where
  texts_by : (moved : Bool) (walk : Walk) → is_moved_if walk.build (level_in walk.logs).position ≡ moved → (lines : List (List ℕ))
      → (bytes_of tree_bytes after_event walk (text_events depth lines)
      ≡ flat_map part_html (if moved then [] else lines_parts walk.before lines))
      × (state_after after_event walk (text_events depth lines)
      ≡ record walk { before = if moved then walk.before else after_lines walk.before lines })
  texts_by true walk is [] = (refl, refl)
  texts_by false walk is [] = (refl, refl)
  texts_by true walk is (line ∷ lines) =
      let next = texts_by true walk is lines in
      let parts = ap (λ (m : Bool). if m then [] else line_parts walk.before line) is in
      let after = ap (λ (m : Bool). record walk { before = if m then walk.before else after_line walk.before line }) is in (
        ap (λ (ps : List Part). flat_map part_html ps
            ++ bytes_of tree_bytes after_event (after_event walk (EntryShown depth (Text line))) (text_events depth lines)) parts
            ∙ ap (λ (w : Walk). bytes_of tree_bytes after_event w (text_events depth lines)) after ∙ next.0,
        ap (λ (w : Walk). state_after after_event w (text_events depth lines)) after ∙ next.1,
      )
  texts_by false walk is (line ∷ lines) =
      let walk' = record walk { before = after_line walk.before line } in
      let next = texts_by false walk' is lines in
      let parts = ap (λ (m : Bool). if m then [] else line_parts walk.before line) is in
      let after = ap (λ (m : Bool). record walk { before = if m then walk.before else after_line walk.before line }) is in (
        ap (λ (ps : List Part). flat_map part_html ps
            ++ bytes_of tree_bytes after_event (after_event walk (EntryShown depth (Text line))) (text_events depth lines)) parts
            ∙ ap (λ (w : Walk). flat_map part_html (line_parts walk.before line)
            ++ bytes_of tree_bytes after_event w (text_events depth lines)) after
            ∙ ap (λ (t : List ℕ). flat_map part_html (line_parts walk.before line) ++ t) next.0
            ∙ sym (flat_map-append part_html (line_parts walk.before line) (lines_parts (after_line walk.before line) lines)),
        ap (λ (w : Walk). state_after after_event w (text_events depth lines)) after ∙ next.1,
      )

  pub texts_html : (walk : Walk) (lines : List (List ℕ))
      → bytes_of tree_bytes after_event walk (text_events depth lines) ≡ flat_map part_html (texts_parts walk lines)
  texts_html walk lines = (texts_by (is_moved_if walk.build (level_in walk.logs).position) walk refl lines).0

  pub texts_state : (walk : Walk) (lines : List (List ℕ)) → state_after after_event walk (text_events depth lines) ≡ after_texts walk lines
  texts_state walk lines = (texts_by (is_moved_if walk.build (level_in walk.logs).position) walk refl lines).1

-- ---- parts of a text, one after the other

module _ (before middle after : Option Output) (front part : List ℕ) where
  pub form_then : (done : Result (Unit {0}) FormFault) → middle ≡ append_output before front 0 → FormWrites middle after part done
      → FormWrites before after (front ++ part) done
  form_then (Ok u) is wrote = (then) before middle after front part (Ok tt) is wrote
  form_then (Err Write) is wrote = (then) before middle after front part (Err (record {})) is wrote
  form_then (Err OutOfMemory) is wrote = (
    length front + wrote.0,
    wrote.1 ∙ ap (λ t. append_output t (take wrote.0 part) 0) is
        ∙ append_output-append_output before front (take wrote.0 part) 0 0
        ∙ ap (λ b. append_output before b 0) (sym (take-append-add front part wrote.0)),
  )

take_within : (n : ℕ) (bytes : List ℕ) → take n bytes ≡ take (min n (length bytes)) bytes
take_within n bytes =
    ⊎_elim (λ (below : n < length bytes). ap (λ (k : ℕ). take k bytes) (let b = below in omega arith))
    (λ (above : length bytes ≤ n). take_all n bytes above ∙ sym (take_all (min n (length bytes)) bytes (omega arith)))
    (cases_lt n (length bytes))

pub form_stops : (before after : Option Output) (front part : List ℕ) (fault : FormFault) → FormWrites before after front (Err fault)
    → FormWrites before after (front ++ part) (Err fault)
form_stops before after front part Write wrote = stops before after front part (record {}) (Err (record {})) refl wrote
form_stops before after front part OutOfMemory wrote = (
  min wrote.0 (length front),
  wrote.1 ∙ ap (λ b. append_output before b 0)
      (take_within wrote.0 front ∙ sym (take-append-le (min wrote.0 (length front)) front part (omega arith))),
)

-- ---- the whole tree

module _ (build : Build) (events : List Event) (same : events_of 0 (contents_of events) ≡ events)
    (within : log_count (contents_of events) ≤ length build.nodes) where
  last : (state_after after_event (start_of build) events).before ≡ pending_after build top_level 0 pending.Nothing (contents_of events)
  last = ap (λ (es : List Event). (state_after after_event (start_of build) es).before) (sym same)
      ∙ ap (λ (w : Walk). w.before) (state_contents build (contents_of events) (proper events) 0 [] 0 pending.Nothing
      (omega (arith, within)))

  pub walked_tree : bytes_of tree_bytes after_event (start_of build) events
      ++ flat_map part_html (end_parts (state_after after_event (start_of build) events).before ++ section_end)
      ≡ flat_map part_html (contents_parts build top_level 0 pending.Nothing (contents_of events) ++ section_end)
  walked_tree =
      let inner = walked_parts (start_of build) events in
      ap (λ (t : List ℕ). t ++ flat_map part_html (end_parts (state_after after_event (start_of build) events).before ++ section_end))
      (walked_html (start_of build) events)
      ∙ ap (λ (p : Pending). flat_map part_html inner ++ flat_map part_html (end_parts p ++ section_end)) last
      ∙ sym (flat_map-append part_html inner
      (end_parts (pending_after build top_level 0 pending.Nothing (contents_of events)) ++ section_end))
      ∙ ap (flat_map part_html) (sym (append_assoc inner
      (end_parts (pending_after build top_level 0 pending.Nothing (contents_of events))) section_end)
      ∙ ap (λ (es : List Event). (walked_parts (start_of build) es
      ++ end_parts (pending_after build top_level 0 pending.Nothing (contents_of events))) ++ section_end) (sym same)
      ∙ ap (λ (ps : List Part). ps ++ section_end)
      (parts_contents build (contents_of events) (proper events) 0 [] 0 pending.Nothing (omega (arith, within))))

module _ (logs : List Log) (options : Options) (nodes : List Node) (positions : List ℕ) (events : List Event)
    (same : events_of 0 (contents_of events) ≡ events) (outline : length nodes ≡ log_count (contents_of events))
    (are : positions ≡ articles nodes) where
  within_outline : log_count (contents_of events) ≤ length nodes
  within_outline = omega (arith, outline)

  pub whole_tree : flat_map part_html section_start
      ++ tree_text (record { logs = logs; options = options; nodes = nodes; articles = positions }) events
      ≡ flat_map part_html (streamed_tree logs options nodes (contents_of events))
  whole_tree =
      ap (λ (these : List ℕ). flat_map part_html section_start
      ++ tree_text (record { logs = logs; options = options; nodes = nodes; articles = these }) events) are
      ∙ ap (λ (t : List ℕ). flat_map part_html section_start ++ t)
      (walked_tree (record { logs = logs; options = options; nodes = nodes; articles = articles nodes }) events same within_outline)
      ∙ sym (flat_map-append part_html section_start
      (contents_parts (record { logs = logs; options = options; nodes = nodes; articles = articles nodes }) top_level 0 pending.Nothing
      (contents_of events) ++ section_end))

-- A tree without the middle of long logs.
module _ (logs : List Log) (options : Options) (nodes : List Node) (positions : List ℕ)
    (stay : (limits : List Limit) (events : List Event) → StayInTree limits events)
    (are : (limits : List Limit) (events : List Event) → TreeIsTrimmed limits events)
    (keep : (limits : List Limit) (contents : Contents) → KeepsLogs limits contents) (limits : List Limit) (events : List Event) where
  pub cut_tree : AreInTree events → length nodes ≡ log_count (contents_of events) → positions ≡ articles nodes
      → flat_map part_html section_start
      ++ tree_text (record { logs = logs; options = options; nodes = nodes; articles = positions }) (trimmed limits [] events)
      ≡ flat_map part_html (streamed_tree logs options nodes (trim limits [] (contents_of events)))
  cut_tree same outline positions_are =
      let tree_is = are limits events same in
      let count_is = outline ∙ sym (keep limits (contents_of events)) ∙ ap log_count (sym tree_is) in
      whole_tree logs options nodes positions (trimmed limits [] events) (stay limits events same) count_is positions_are
      ∙ ap (λ (contents : Contents). flat_map part_html (streamed_tree logs options nodes contents)) tree_is
