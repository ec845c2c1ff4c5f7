-- Which logs are opened, and that none is opened twice.
use Rattle.std.proofs.Common.{◌≡◌, ℕ, zero, suc, ◌+◌, ◌<◌, Bool, true, false, inl, inr, List, [], ◌∷◌, ◌++◌, refl, sym, ap, ◌∙◌, subst, arith}
use Rattle.std.specs.Prelude.{◌&&◌, not, nat_eq}
use Rattle.std.specs.List.{IsDistinct}
use Rattle.std.specs.Cmp.Lexicographic.{pointwise, same_text}
use Rattle.std.proofs.lemmas.Bool.{and_parts, and_cases, and_from, or_cases, or_left, or_right, not-false, not-true, both_ways}
use Rattle.std.proofs.lemmas.Cmp.{nat_list_eq_equiv}
use Rattle.redo_line.specs.declared.entry.Entry.{Entry}
use Rattle.redo_line.specs.declared.entry.Entry.TheVariants.{Text, Mention, Done, Closing, Note}
use Rattle.redo_logs.specs.Logs.{Log, targets_of}
use Rattle.redo_options.specs.declared.options.Options.{Options}
use Rattle.redo_view.specs.Expansion.{ViewState, is_among, append_event, request_event, entries_of_target, is_mention, mention_opening, show_mention_line, begin_log, show_entry, show_entries, show_log, show_targets, expand}
use Rattle.redo_view.specs.Private.Branches.{show_log_if, show_mention_if, show_target_unless}
use Rattle.redo_view.specs.Reachable.{mentions_target, mentioned_in, IsMentionChain, IsReachable}
use Rattle.redo_view.proofs.Growing.{Names, Keeps, more-has, more-only, more-distinct, Growth, Grown, grown-none, grown-both, Kept, kept}
use Rattle.redo_view.proofs.Openings.{should_open, should_open-is, should_open-parts}
use Rattle.redo_view.proofs.Equation.{left_after, entries_grow, entries_keep, log_keeps, show_log_equation}

-- The state at the start.
abbrev initial_state : ViewState
initial_state = record { named = []; opened = []; events = [] }

module _ (logs : List Log) (options : Options) where
  -- The opened names after a log, and after requested targets.
  abbrev opened_after_log : List ℕ → ℕ → ViewState → Names
  opened_after_log target depth state = (show_log logs options target depth state).opened

  abbrev opened_after_targets : Names → ViewState → Names
  opened_after_targets requested state = (show_targets logs options requested state).opened

  -- Whether the log of one target mentions another target that has a log.
  abbrev Mentions : List ℕ → List ℕ → Type 0
  Mentions from name = (is_among name (targets_of logs) ≡ true) × (mentioned_in options name (entries_of_target from logs) ≡ true)

  -- ---- the effect of opening logs on the opened names

  -- With `recursive`, a property of a target holds for the targets that its log mentions. A relation that holds for the entries of
  -- such a target's log holds for opening it.
  module _ (Q : Names → Names → Type 0) (growth : Growth Q) (Good : List ℕ → Type 0)
      (next : (from name : List ℕ) → Good from → options.recursive ≡ true → Mentions from name → Good name)
      (ends : (target : List ℕ) (depth : ℕ) (state : ViewState) → Good target → is_among target state.opened ≡ false
      → Q (state.opened ++ target ∷ []) (opened_after_log target depth state) → Q state.opened (opened_after_log target depth state))
    where
      -- This holds for logs after which fewer than `bound` logs are left.
      abbrev Below : ℕ → Type 0
      Below bound = (target : List ℕ) (depth : ℕ) (state : ViewState) → left_after logs options target state < bound → Good target
          → is_among target state.opened ≡ false → Grown Q state.opened (opened_after_log target depth state)

      -- It holds for a log if it holds for the logs that its entries open.
      log_grows : (bound : ℕ) → Below bound → Below (suc bound)
      log_grows bound below target depth state fits good new = (
        log_keeps logs options target depth state,
        ends target depth state good new
            (subst (λ (s : ViewState). Q (state.opened ++ target ∷ []) s.opened)
            (sym (show_log_equation logs options target depth state)) entries.1),
      )
        where
          entries : Grown Q (state.opened ++ target ∷ [])
              (show_entries logs options (show_log logs options) depth (entries_of_target target logs) (begin_log target state)).opened
          entries =
              entries_grow logs options Q growth (show_log logs options) bound (entries_of_target target logs)
              (λ name d s mentioned is less. let parts = should_open-parts logs options name s is in
              below name d s less (next target name good parts.0 (parts.1, mentioned)) (not-true (is_among name s.opened) parts.2)) depth
              (begin_log target state) (omega (arith, fits))

      -- It holds for every log.
      grows_below : (bound : ℕ) → Below bound
      grows_below zero = λ target depth state fits good new. absurd (omega (arith, fits))
      grows_below (suc bound) = log_grows bound (grows_below bound)

      -- The log of a requested target, unless it was opened before.
      target_grows : (target : List ℕ) (state : ViewState) → Good target → (known : Bool) → is_among target state.opened ≡ known
          → Grown Q state.opened (show_target_unless logs options known target state).opened
      target_grows target state good true is = grown-none Q growth state.opened
      target_grows target state good false is =
          grows_below (suc (left_after logs options target state)) target 1 (append_event (request_event logs target) state)
          (omega arith) good is

      -- Requested targets in order.
      targets_grow : (requested : Names) → ((target : List ℕ) → is_among target requested ≡ true → Good target) → (state : ViewState)
          → Grown Q state.opened (opened_after_targets requested state)
      targets_grow [] good state = grown-none Q growth state.opened
      targets_grow (target ∷ targets) good state =
          let after = show_target_unless logs options (is_among target state.opened) target state in
          let first = good target (or_left (pointwise nat_eq target target) (is_among target targets) (nat_list_eq_equiv.refl target)) in
          grown-both Q growth state.opened after.opened (opened_after_targets targets after)
          (target_grows target state first (is_among target state.opened) refl)
          (targets_grow targets (λ t among. good t (or_right (pointwise nat_eq t target) (is_among t targets) among)) after)

  -- Opened logs stay opened.
  targets_keep : (requested : Names) (state : ViewState) → Keeps state.opened (opened_after_targets requested state)
  targets_keep requested state =
      (targets_grow Kept kept (λ name. Unit {0}) (λ from name good recursive mentioned. tt) (λ target depth s good new rest. tt) requested
      (λ target among. tt) state).0

  -- ---- no log is opened twice

  -- Distinct names stay distinct.
  abbrev StaysDistinct : Names → Names → Type 0
  StaysDistinct before after = IsDistinct (pointwise nat_eq) before → IsDistinct (pointwise nat_eq) after

  -- It is such a relation.
  distinct : Growth StaysDistinct
  distinct = record { none = λ names is. is; both = λ before between after first keeps second is. second (first is) }

  -- The names of the opened logs are distinct.
  pub opened_once : (requested : Names) → IsDistinct (pointwise nat_eq) (expand logs options requested).opened
  unfolding IsDistinct
  opened_once requested =
      (targets_grow StaysDistinct distinct (λ name. Unit {0}) (λ from name good recursive mentioned. tt)
      (λ target depth state good new rest is. rest (more-distinct target state.opened new is)) requested
      (λ target among. tt) initial_state).1 tt

  -- ---- only reached logs are opened

  -- One more mention at the end of a chain.
  leads-more : (chain : Names) (from to name : List ℕ) → IsMentionChain logs options from chain to → Mentions to name
      → IsMentionChain logs options from (chain ++ name ∷ []) name
  leads-more [] from to name leads mentioned =
      (mentioned.0, ap (λ t. mentioned_in options name (entries_of_target t logs)) leads ∙ mentioned.1, refl)
  leads-more (next ∷ others) from to name leads mentioned = (leads.0, leads.1, leads-more others next to name leads.2 mentioned)

  module _ (requested : Names) where
    -- Targets that a reached log mentions are reached.
    reached-more : (from name : List ℕ) → IsReachable logs options requested from → options.recursive ≡ true → Mentions from name
        → IsReachable logs options requested name
    reached-more from name (inl among) recursive mentioned =
        inr (recursive, (from, name ∷ [], among, leads-more [] from from name refl mentioned))
    reached-more from name (inr (is, (first, chain, among, leads))) recursive mentioned =
        inr (recursive, (first, chain ++ name ∷ [], among, leads-more chain first from name leads mentioned))

    -- Whether all these names are reached.
    abbrev AllReachable : Names → Type 0
    AllReachable names = (name : List ℕ) → is_among name names ≡ true → IsReachable logs options requested name

    -- Whether they stay reached when more are opened.
    abbrev StaysReached : Names → Names → Type 0
    StaysReached before after = AllReachable before → AllReachable after

    -- It is such a relation.
    reached : Growth StaysReached
    reached = record { none = λ names all. all; both = λ before between after first keeps second all. second (first all) }

    -- One more reached target.
    one_reached : (target : List ℕ) (names : Names) → IsReachable logs options requested target → AllReachable names
        → AllReachable (names ++ target ∷ [])
    one_reached target names is all name among =
        elim (more-only name target names among)
        [ inl old ↦ all name old | inr same ↦ subst (IsReachable logs options requested) (sym same) is ]

    -- All opened logs are reached.
    pub opened-reached : (target : List ℕ) → is_among target (expand logs options requested).opened ≡ true
        → IsReachable logs options requested target
    opened-reached =
        (targets_grow StaysReached reached (IsReachable logs options requested) reached-more
        (λ target depth state is new rest all. rest (one_reached target state.opened is all)) requested
        (λ target among. inl among) initial_state).1
        (λ name among. absurd (cc))

  -- ---- all reached logs are opened

  -- A log that is opened is among the opened logs.
  own : (target : List ℕ) (depth : ℕ) (state : ViewState) → is_among target (opened_after_log target depth state) ≡ true
  own target depth state =
      ap (λ (s : ViewState). is_among target s.opened) (show_log_equation logs options target depth state)
      ∙ entries_keep logs options (show_log logs options) (log_keeps logs options) (entries_of_target target logs) depth
      (begin_log target state) target (more-has target state.opened)

  module _ (recursive : options.recursive ≡ true) (name : List ℕ) (listed : is_among name (targets_of logs) ≡ true) where
    -- A mention opens the log, or the log is among the opened logs already.
    open_after_mention : (depth : ℕ) (state : ViewState) (opening : Bool) → should_open logs options name state ≡ opening
        → is_among name (show_log_if logs options opening (show_log logs options) name depth state).opened ≡ true
    open_after_mention depth state true is = own name depth state
    open_after_mention depth state false is =
        let there = options.recursive && is_among name (targets_of logs) in
        elim (and_cases there (not (is_among name state.opened)) (sym (should_open-is logs options name state) ∙ is)) [
          | inl neither ↦ absurd (both_ways there neither (and_from options.recursive (is_among name (targets_of logs)) recursive listed))
          | inr known ↦ not-false (is_among name state.opened) known
        ]

    -- After an entry, the log that it mentions is among the opened logs.
    open_after_entry : (entry : Entry) → mentions_target options name entry ≡ true → (depth : ℕ) (state : ViewState)
        → is_among name (show_entry logs options (show_log logs options) depth entry state).opened ≡ true
    open_after_entry (Text line) mentioned depth state = absurd (cc)
    open_after_entry (Mention pid how other) mentioned depth state =
        let parts = and_parts (is_mention options how) (pointwise nat_eq name other) mentioned in
        subst (λ n. is_among name (show_entry logs options (show_log logs options) depth (Mention pid how n) state).opened ≡ true)
        (same_text name other (sym parts.1)) (by (is_mention options how) parts.0)
      where
        by : (counts : Bool) → counts ≡ true
            → is_among name (show_mention_if logs options counts (show_log logs options) depth pid how name state).opened ≡ true
        by true is = let named = show_mention_line options depth pid how name (mention_opening logs options name state) state in
            open_after_mention (depth + 1) named (should_open logs options name named) refl
        by false is = absurd (cc)
    open_after_entry (Done pid status other) mentioned depth state = absurd (cc)
    open_after_entry (Closing pid status) mentioned depth state = absurd (cc)
    open_after_entry (Note pid kind text) mentioned depth state = absurd (cc)

    -- This holds after entries.
    open_after_entries : (entries : List Entry) → mentioned_in options name entries ≡ true → (depth : ℕ) (state : ViewState)
        → is_among name (show_entries logs options (show_log logs options) depth entries state).opened ≡ true
    open_after_entries [] mentioned depth state = absurd (cc)
    open_after_entries (entry ∷ entries) mentioned depth state =
        let after = show_entry logs options (show_log logs options) depth entry state in
        elim (or_cases (mentions_target options name entry) (mentioned_in options name entries) mentioned) [
          | inl here ↦ entries_keep logs options (show_log logs options) (log_keeps logs options) entries depth after name
              (open_after_entry entry here depth state)
          | inr there ↦ open_after_entries entries there depth after
        ]

  -- Whether everything that a log mentions is among these names.
  abbrev HasMentioned : List ℕ → Names → Type 0
  HasMentioned from names = (name : List ℕ) → Mentions from name → is_among name names ≡ true

  -- Whether this holds for each log that was opened in between.
  abbrev Closes : Names → Names → Type 0
  Closes before after = (from : List ℕ) → is_among from after ≡ true → is_among from before ≡ false → HasMentioned from after

  -- It is such a relation.
  closes : Growth Closes
  closes = record {
    none = λ names from is was. absurd (both_ways (is_among from names) was is);
    both = λ before between after first keeps second from is was.
        by before between after first keeps second from is was (is_among from between) refl;
  }
    where
      by : (before between after : Names) → Closes before between → Keeps between after → Closes between after → (from : List ℕ)
          → is_among from after ≡ true → is_among from before ≡ false
          → (known : Bool) → is_among from between ≡ known → HasMentioned from after
      by before between after first keeps second from is was true known = λ name mentioned. keeps name (first from known was name mentioned)
      by before between after first keeps second from is was false known = second from is known

  module _ (recursive : options.recursive ≡ true) where
    -- If it holds for the logs that are opened from a log, it holds for that log too.
    log_closes : (target : List ℕ) (depth : ℕ) (state : ViewState)
        → Closes (state.opened ++ target ∷ []) (opened_after_log target depth state)
        → Closes state.opened (opened_after_log target depth state)
    log_closes target depth state rest from is was = by (is_among from (state.opened ++ target ∷ [])) refl
      where
        itself : HasMentioned target (opened_after_log target depth state)
        itself name mentioned =
            ap (λ (s : ViewState). is_among name s.opened) (show_log_equation logs options target depth state)
            ∙ open_after_entries recursive name mentioned.0 (entries_of_target target logs) mentioned.1 depth (begin_log target state)

        by : (known : Bool) → is_among from (state.opened ++ target ∷ []) ≡ known → HasMentioned from (opened_after_log target depth state)
        by true known =
            elim (more-only from target state.opened known) [
              | inl old ↦ absurd (both_ways (is_among from state.opened) was old)
              | inr same ↦ subst (λ t. HasMentioned t (opened_after_log target depth state)) (sym same) itself
            ]
        by false known = rest from is known

    -- This holds for all logs that are opened for the requested targets.
    targets_close : (requested : Names) → Closes [] (expand logs options requested).opened
    targets_close requested =
        (targets_grow Closes closes (λ name. Unit {0}) (λ from name good is mentioned. tt)
        (λ target depth state good new rest. log_closes target depth state rest) requested (λ target among. tt) initial_state).1

    -- If the start of a chain is opened, its end is opened.
    along : (requested chain : Names) (from to : List ℕ) → is_among from (expand logs options requested).opened ≡ true
        → IsMentionChain logs options from chain to → is_among to (expand logs options requested).opened ≡ true
    along requested [] from to is leads = ap (λ t. is_among t (expand logs options requested).opened) (sym leads) ∙ is
    along requested (next ∷ others) from to is leads =
        along requested others next to (targets_close requested from is refl next (leads.0, leads.1)) leads.2

  -- Requested targets are opened.
  requested-opened : (requested : Names) (target : List ℕ) (state : ViewState) → is_among target requested ≡ true
      → is_among target (opened_after_targets requested state) ≡ true
  requested-opened [] target state among = absurd (cc)
  requested-opened (first ∷ targets) target state among =
      let after = show_target_unless logs options (is_among first state.opened) first state in
      elim (or_cases (pointwise nat_eq target first) (is_among target targets) among) [
        | inl here ↦ targets_keep targets after target
            (ap (λ t. is_among t after.opened) (same_text target first (sym here)) ∙ by (is_among first state.opened) refl)
        | inr there ↦ requested-opened targets target after there
      ]
    where
      by : (known : Bool) → is_among first state.opened ≡ known
          → is_among first (show_target_unless logs options known first state).opened ≡ true
      by true is = is
      by false is = own first 1 (append_event (request_event logs first) state)

  -- Reached targets are opened.
  pub reached-opened : (requested : Names) (target : List ℕ) → IsReachable logs options requested target
      → is_among target (expand logs options requested).opened ≡ true
  reached-opened requested target (inl among) = requested-opened requested target initial_state among
  reached-opened requested target (inr (recursive, (from, chain, among, leads))) =
      along recursive requested chain from target (requested-opened requested from initial_state among) leads
