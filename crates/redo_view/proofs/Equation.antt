-- There is only one opening: the effect of a log's entries depends only on the openings of logs that were not opened before.
use Rattle.std.proofs.Common.{◌≡◌, ℕ, zero, suc, ◌+◌, ◌<◌, ◌≤◌, Bool, true, false, List, [], ◌∷◌, ◌++◌, length, refl, sym, ap, ◌∙◌, arith}
use Rattle.std.specs.Prelude.{nat_eq}
use Rattle.std.specs.Cmp.Lexicographic.{pointwise}
use Rattle.std.proofs.lemmas.Bool.{or_left, or_right, and_from, not-true}
use Rattle.std.proofs.lemmas.Cmp.{nat_list_eq_equiv}
use Rattle.redo_line.specs.declared.entry.Entry.{Entry}
use Rattle.redo_line.specs.declared.entry.Entry.TheVariants.{Text, Mention, Done, Closing, Note}
use Rattle.redo_logs.specs.Logs.{Log}
use Rattle.redo_options.specs.declared.options.Options.{Options}
use Rattle.redo_view.specs.Expansion.{ShowLog, ViewState, is_among, entries_of_target, is_mention, mention_opening, show_mention_line, begin_log, end_log, show_entry, show_entries, show_log_within, show_log}
use Rattle.redo_view.specs.Private.Branches.{show_log_if, show_mention_if}
use Rattle.redo_view.specs.Laws.{SatisfiesEquation}
use Rattle.redo_view.specs.Reachable.{mentions_target, mentioned_in}
use Rattle.redo_view.proofs.Growing.{Names, Keeps, more-keeps, left-le, left-lt, left-all, Growth, Grown, grown-none, grown-both, Kept, kept}
use Rattle.redo_view.proofs.Openings.{should_open, should_open-parts}
use Rattle.redo_view.proofs.Unopened.{left}

-- Whether everything that was opened before stays opened when a log is opened.
abbrev pub Keeping : ShowLog → Type 0
Keeping inner = (name : List ℕ) (depth : ℕ) (state : ViewState) → Keeps state.opened (inner name depth state).opened

module _ (logs : List Log) (options : Options) where
  -- The number of logs that are left after this one is opened.
  abbrev pub left_after : List ℕ → ViewState → ℕ
  left_after name state = left logs (state.opened ++ name ∷ [])

  -- If a log is opened, fewer logs are left.
  pub should_open-left : (name : List ℕ) (state : ViewState) → should_open logs options name state ≡ true
      → left_after name state < left logs state.opened
  should_open-left name state is =
      let parts = should_open-parts logs options name state is in
      left-lt logs name state.opened parts.1 (not-true (is_among name state.opened) parts.2)

  -- ---- the effect of entries on the opened names

  module _ (Q : Names → Names → Type 0) (growth : Growth Q) (inner : ShowLog) (bound : ℕ) where
    -- The effect of opening a mentioned log on the opened names. The log wasn't opened before, and fewer than `bound` logs are left
    -- after it.
    abbrev Does : (List ℕ → Bool) → Type 0
    Does mentioned =
        (name : List ℕ) (depth : ℕ) (state : ViewState) → mentioned name ≡ true → should_open logs options name state ≡ true
        → left_after name state < bound
        → Grown Q state.opened (inner name depth state).opened

    -- The log that a mention opens, or doesn't.
    inner_grows : (mentioned : List ℕ → Bool) → Does mentioned → (name : List ℕ) (depth : ℕ) (state : ViewState) → mentioned name ≡ true
        → left logs state.opened ≤ bound → (opening : Bool) → should_open logs options name state ≡ opening
        → Grown Q state.opened (show_log_if logs options opening inner name depth state).opened
    inner_grows mentioned does name depth state shows fits true is =
        let less = should_open-left name state is in does name depth state shows is (omega (arith, less, fits))
    inner_grows mentioned does name depth state shows fits false is = grown-none Q growth state.opened

    entry_grows : (entry : Entry) → Does (λ name. mentions_target options name entry) → (depth : ℕ) (state : ViewState)
        → left logs state.opened ≤ bound → Grown Q state.opened (show_entry logs options inner depth entry state).opened
    entry_grows (Text line) does depth state fits = grown-none Q growth state.opened
    entry_grows (Mention pid how name) does depth state fits = by (is_mention options how) refl
      where
        by : (counts : Bool) → is_mention options how ≡ counts
            → Grown Q state.opened (show_mention_if logs options counts inner depth pid how name state).opened
        by true counts =
            let named = show_mention_line options depth pid how name (mention_opening logs options name state) state in
            let mentioned = and_from (is_mention options how) (pointwise nat_eq name name) counts (nat_list_eq_equiv.refl name) in
            inner_grows (λ n. mentions_target options n (Mention pid how name)) does name (depth + 1) named mentioned fits
            (should_open logs options name named) refl
        by false counts = grown-none Q growth state.opened
    entry_grows (Done pid status name) does depth state fits = grown-none Q growth state.opened
    entry_grows (Closing pid status) does depth state fits = grown-none Q growth state.opened
    entry_grows (Note pid kind text) does depth state fits = grown-none Q growth state.opened

    -- Entries in order.
    pub entries_grow : (entries : List Entry) → Does (λ name. mentioned_in options name entries) → (depth : ℕ) (state : ViewState)
        → left logs state.opened ≤ bound → Grown Q state.opened (show_entries logs options inner depth entries state).opened
    entries_grow [] does depth state fits = grown-none Q growth state.opened
    entries_grow (entry ∷ entries) does depth state fits =
        let after = show_entry logs options inner depth entry state in
        let first : Grown Q state.opened after.opened =
        entry_grows entry (λ name d s is. does name d s
        (or_left (mentions_target options name entry) (mentioned_in options name entries) is)) depth state fits in
        let second : Grown Q after.opened (show_entries logs options inner depth entries after).opened =
        entries_grow entries (λ name d s is.
        does name d s (or_right (mentions_target options name entry) (mentioned_in options name entries) is)) depth after
        (omega (arith, left-le logs state.opened after.opened first.0, fits)) in
        grown-both Q growth state.opened after.opened (show_entries logs options inner depth entries after).opened first second

  -- Opened logs stay opened.
  module _ (inner : ShowLog) (keeps : Keeping inner) where
    pub entry_keeps : (entry : Entry) (depth : ℕ) (state : ViewState)
        → Keeps state.opened (show_entry logs options inner depth entry state).opened
    entry_keeps entry depth state =
        (entry_grows Kept kept inner (left logs state.opened) entry (λ name d s mentioned is less. (keeps name d s, tt)) depth state
        (omega arith)).0

    pub entries_keep : (entries : List Entry) (depth : ℕ) (state : ViewState)
        → Keeps state.opened (show_entries logs options inner depth entries state).opened
    entries_keep entries depth state =
        (entries_grow Kept kept inner (left logs state.opened) entries (λ name d s mentioned is less. (keeps name d s, tt)) depth state
        (omega arith)).0

  -- ---- two openings that agree on logs that were not opened, if fewer than `bound` logs are left after them

  module _ (one other : ShowLog) (keeps : Keeping other) (bound : ℕ)
      (same : (name : List ℕ) (depth : ℕ) (state : ViewState) → should_open logs options name state ≡ true → left_after name state < bound
      → one name depth state ≡ other name depth state)
    where
      -- The log that a mention opens, or doesn't.
      inner_agrees : (name : List ℕ) (depth : ℕ) (state : ViewState) → left logs state.opened ≤ bound → (opening : Bool)
          → should_open logs options name state ≡ opening
          → show_log_if logs options opening one name depth state ≡ show_log_if logs options opening other name depth state
      inner_agrees name depth state fits true is = let less = should_open-left name state is in
          same name depth state is (omega (arith, less, fits))
      inner_agrees name depth state fits false is = refl

      -- They agree on one entry.
      entry_agrees : (entry : Entry) (depth : ℕ) (state : ViewState) → left logs state.opened ≤ bound
          → show_entry logs options one depth entry state ≡ show_entry logs options other depth entry state
      entry_agrees (Text line) depth state fits = refl
      entry_agrees (Mention pid how name) depth state fits = by (is_mention options how)
        where
          by : (counts : Bool) → show_mention_if logs options counts one depth pid how name state
              ≡ show_mention_if logs options counts other depth pid how name state
          by true = let named = show_mention_line options depth pid how name (mention_opening logs options name state) state in
              inner_agrees name (depth + 1) named fits (should_open logs options name named) refl
          by false = refl
      entry_agrees (Done pid status name) depth state fits = refl
      entry_agrees (Closing pid status) depth state fits = refl
      entry_agrees (Note pid kind text) depth state fits = refl

      -- They agree on entries in order.
      entries_agree : (entries : List Entry) (depth : ℕ) (state : ViewState) → left logs state.opened ≤ bound
          → show_entries logs options one depth entries state ≡ show_entries logs options other depth entries state
      entries_agree [] depth state fits = refl
      entries_agree (entry ∷ entries) depth state fits =
          let after = show_entry logs options other depth entry state in
          ap (λ s. show_entries logs options one depth entries s) (entry_agrees entry depth state fits)
          ∙ entries_agree entries depth after
          (omega (arith, left-le logs state.opened after.opened (entry_keeps other keeps entry depth state), fits))

  -- ---- the definition, by the number of nested logs

  within-more : (levels : ℕ) (target : List ℕ) (depth : ℕ) (state : ViewState)
      → show_log_within logs options (suc levels) target depth state
      ≡ end_log depth (show_entries logs options (show_log_within logs options levels) depth (entries_of_target target logs)
      (begin_log target state))
  unfolding show_log_within
  within-more levels target depth state = refl

  -- One level more than there are logs.
  within-all : (target : List ℕ) (depth : ℕ) (state : ViewState)
      → show_log logs options target depth state ≡ show_log_within logs options (suc (length logs)) target depth state
  unfolding show_log
  within-all target depth state = ap (λ (n : ℕ). show_log_within logs options n target depth state) (omega arith)

  -- Opened logs stay opened, at any number of levels.
  within_keeps : (levels : ℕ) → Keeping (show_log_within logs options levels)
  unfolding show_log_within
  within_keeps zero target depth state name among = among
  within_keeps (suc levels) target depth state name among =
      entries_keep (show_log_within logs options levels) (within_keeps levels) (entries_of_target target logs) depth
      (begin_log target state) name (more-keeps target state.opened name among)

  -- Opened logs stay opened with `show_log`.
  pub log_keeps : Keeping (show_log logs options)
  log_keeps target depth state name among =
      ap (λ (s : ViewState). is_among name s.opened) (within-all target depth state)
      ∙ within_keeps (suc (length logs)) target depth state name among

  -- If fewer logs are left than there are levels, one more level changes nothing.
  enough : (levels : ℕ) (target : List ℕ) (depth : ℕ) (state : ViewState) → left_after target state < levels
      → show_log_within logs options levels target depth state ≡ show_log_within logs options (suc levels) target depth state
  enough zero target depth state fits = absurd (omega (arith, fits))
  enough (suc levels) target depth state fits =
      within-more levels target depth state
      ∙ ap (end_log depth) (entries_agree (show_log_within logs options levels) (show_log_within logs options (suc levels))
      (within_keeps (suc levels)) levels (λ name d s is less. enough levels name d s less)
      (entries_of_target target logs) depth (begin_log target state) (omega (arith, fits)))
      ∙ sym (within-more (suc levels) target depth state)

  -- There are enough levels.
  pub show_log_equation : SatisfiesEquation logs options (show_log logs options)
  show_log_equation target depth state =
      within-all target depth state ∙ within-more (length logs) target depth state
      ∙ ap (end_log depth) (entries_agree (show_log_within logs options (length logs)) (show_log logs options) log_keeps (length logs)
      (λ name d s is less. enough (length logs) name d s less ∙ sym (within-all name d s))
      (entries_of_target target logs) depth (begin_log target state) (left-all logs (state.opened ++ target ∷ [])))

  -- Every opening that satisfies `SatisfiesEquation` is this one, by induction on the number of logs that are left.
  module _ (other : ShowLog) (goes_over : SatisfiesEquation logs options other) where
    -- For a log after which fewer than `bound` logs are left.
    same_below : (bound : ℕ) (target : List ℕ) (depth : ℕ) (state : ViewState) → left_after target state < bound
        → other target depth state ≡ show_log logs options target depth state
    same_below zero target depth state fits = absurd (omega (arith, fits))
    same_below (suc bound) target depth state fits =
        goes_over target depth state
        ∙ ap (end_log depth) (entries_agree other (show_log logs options) log_keeps bound
        (λ name d s is less. same_below bound name d s less) (entries_of_target target logs) depth (begin_log target state)
        (omega (arith, fits)))
        ∙ sym (show_log_equation target depth state)

    -- For any log.
    pub unique_solution : (target : List ℕ) (depth : ℕ) (state : ViewState)
        → other target depth state ≡ show_log logs options target depth state
    unique_solution target depth state = same_below (suc (left_after target state)) target depth state (omega arith)
