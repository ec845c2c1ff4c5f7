-- Which targets are named.
use Rattle.std.proofs.Common.{◌≡◌, ◌⊎◌, ◌↔◌, ℕ, zero, suc, ◌+◌, Bool, true, false, inl, inr, cond, List, [], ◌∷◌, ◌++◌, Some, length, refl, sym, ap, ◌∙◌, subst}
use Rattle.std.specs.Prelude.{◌||◌, not, nat_eq}
use Rattle.std.specs.Cmp.Lexicographic.{pointwise, same_text}
use Rattle.std.proofs.lemmas.Bool.{and_parts, and_from, or_cases, or_left, or_right, not-true, both_ways}
use Rattle.std.proofs.lemmas.Cmp.{nat_list_eq_equiv}
use Rattle.std.proofs.lemmas.List.{append-nil}
use Rattle.redo_line.specs.declared.entry.Entry.{Entry}
use Rattle.redo_line.specs.declared.entry.Entry.TheVariants.{Text, Mention, Done, Closing, Note}
use Rattle.redo_line.specs.declared.entry.How.{How}
use Rattle.redo_logs.specs.Logs.{Log}
use Rattle.redo_options.specs.declared.options.Options.{Options}
use Rattle.redo_view.specs.declared.event.Opening.{Opening}
use Rattle.redo_view.specs.Event.{Event}
use Rattle.redo_view.specs.Event.Event.{Mentioned}
use Rattle.redo_view.specs.Text.{event_text, mention_suffix, redo_line}
use Rattle.redo_view.specs.Expansion.{ShowLog, ViewState, is_among, insert_name, append_event, request_event, entries_of_target, is_mention, mention_opening, show_mention_line, begin_log, show_entry, show_entries, show_log_within, show_log, show_targets}
use Rattle.redo_view.specs.Private.Branches.{show_log_if, show_mention_if, show_target_unless}
use Rattle.redo_view.specs.Reachable.{mentions_target, mentioned_in}
use Rattle.redo_view.specs.Laws.{NamedFirst, NamedAgain, IsNamedIn, IsNamedBetween, AreNamed, NamedByEntries, NamedByLog, NamedFinally}
use Rattle.redo_view.proofs.Growing.{Names, Keeps, more-keeps, more-has, more-only}
use Rattle.redo_view.proofs.Equation.{show_log_equation}
use Rattle.redo_view.proofs.Openings.{should_open, should_open-parts}

-- ---- the line of a mention

module _ (options : Options) (how : How) (name : List ℕ) (depth pid : ℕ) (opening : Opening) (state : ViewState) where
  abbrev line : List Event
  line = Mentioned depth pid how name opening ∷ []

  -- The state after a mention without `debug_locks`, depending on whether the target is named.
  abbrev mentioned_by : Bool → ViewState
  mentioned_by known = record {
    named = cond known state.named (state.named ++ name ∷ []);
    opened = state.opened;
    events = state.events ++ cond (not known) line [];
  }

  mention_by : (known : Bool) → options.debug_locks ≡ false → is_among name state.named ≡ known
      → show_mention_line options depth pid how name opening state ≡ mentioned_by known
  mention_by known quiet is = λ i. record {
    named = cond (is i) state.named (state.named ++ name ∷ []);
    opened = state.opened;
    events = state.events ++ (ap (λ (locks : Bool). cond (locks || not (is_among name state.named)) line []) quiet
        ∙ ap (λ (b : Bool). cond (not b) line []) is) i;
  }

  line_text : options.debug_locks ≡ false
      → event_text options (Mentioned depth pid how name opening) ≡ redo_line options depth (Some pid) name
  line_text quiet = ap (λ (locks : Bool). redo_line options depth (Some pid) (cond locks (name ++ mention_suffix how) name)) quiet

pub named_first : (options : Options) (how : How) (name : List ℕ) → NamedFirst options how name
named_first options how name depth pid opening state quiet new =
    (mention_by options how name depth pid opening state false quiet new, line_text options how name depth pid opening state quiet)

pub named_again : (options : Options) (how : How) (name : List ℕ) → NamedAgain options how name
named_again options how name depth pid opening state quiet known =
    mention_by options how name depth pid opening state true quiet known
    ∙ (λ i. record { named = state.named; opened = state.opened; events = append-nil state.events i })

-- ---- a name that is appended

is_named_by : (name : List ℕ) (names : Names) (known : Bool) → is_among name names ≡ known → (other : List ℕ)
    → (is_among other (cond known names (names ++ name ∷ [])) ≡ true) ↔ ((is_among other names ≡ true) ⊎ (other ≡ name))
is_named_by name names true is other =
    ((λ old. inl old), (λ either. elim either [ inl old ↦ old | inr same ↦ subst (λ (n : List ℕ). is_among n names ≡ true) (sym same) is ]))
is_named_by name names false is other = (
  more-only other name names,
  (λ either. elim either [
    | inl old ↦ more-keeps name names other old
    | inr same ↦ subst (λ (n : List ℕ). is_among n (names ++ name ∷ []) ≡ true) (sym same) (more-has name names)
  ]),
)

is_named : (name : List ℕ) (names : Names) (other : List ℕ)
    → (is_among other (insert_name name names) ≡ true) ↔ ((is_among other names ≡ true) ⊎ (other ≡ name))
is_named name names other = is_named_by name names (is_among name names) refl other

-- A name that isn't among more names isn't among fewer.
not_before : (before after : Names) (name : List ℕ) → Keeps before after → is_among name after ≡ false → is_among name before ≡ false
not_before before after name keeps new = by (is_among name before) refl
  where
    by : (known : Bool) → is_among name before ≡ known → known ≡ false
    by true is = absurd (both_ways (is_among name after) new (keeps name is))
    by false is = refl

-- No name.
abbrev Nothing : List ℕ → Type 0
Nothing name = ⊥

module _ (logs : List Log) (options : Options) where
  abbrev Between : ViewState → ViewState → List ℕ → Type 0
  Between before after name = IsNamedBetween logs options before after name

  -- Opened logs stay opened, and the named targets are as `AreNamed` states.
  record Naming (these : List ℕ → Type 0) (before after : ViewState) : Type 0 where
    keeps : Keeps before.opened after.opened
    are : AreNamed logs options these before after

  -- ---- a log that is opened in between

  module _ (before between after : ViewState) (name : List ℕ) where
    in_first : Keeps between.opened after.opened → Between before between name → Between before after name
    in_first keeps (target, new, is, names) = (target, new, keeps target is, names)

    in_second : Keeps before.opened between.opened → Between between after name → Between before after name
    in_second keeps (target, new, is, names) = (target, not_before before.opened between.opened target keeps new, is, names)

    in_either : Between before after name → Between before between name ⊎ Between between after name
    in_either (target, new, is, names) = by (is_among target between.opened) refl
      where
        by : (known : Bool) → is_among target between.opened ≡ known → Between before between name ⊎ Between between after name
        by true known = inl (target, new, known, names)
        by false known = inr (target, known, is, names)

  no_log : (state after : ViewState) (name : List ℕ) → after.opened ≡ state.opened → Between state after name → ⊥
  no_log state after name same (target, new, is, names) =
      both_ways (is_among target state.opened) new (ap (is_among target) (sym same) ∙ is)

  -- ---- nothing is done, or two steps

  unchanged : (these : List ℕ → Type 0) (before after : ViewState) → ((name : List ℕ) → these name → ⊥) → after.named ≡ before.named
      → after.opened ≡ before.opened → Naming these before after
  unchanged these before after none named opened = record {
    keeps = λ name is. ap (is_among name) opened ∙ is;
    are = λ name. (
      (λ is. inl (ap (is_among name) (sym named) ∙ is)),
      (λ either. elim either [
        | inl is ↦ ap (is_among name) named ∙ is
        | inr (inl this) ↦ absurd (none name this)
        | inr (inr opening) ↦ absurd (no_log before after name opened opening)
      ]),
    );
  }

  naming-both : (first second : List ℕ → Type 0) (before between after : ViewState) → Naming first before between
      → Naming second between after → Naming (λ name. first name ⊎ second name) before after
  naming-both first second before between after one other = record {
    keeps = λ name is. other.keeps name (one.keeps name is);
    are = λ name. (
      (λ is. elim ((other.are name).0 is) [
        | inl known ↦ elim ((one.are name).0 known) [
          | inl old ↦ inl old
          | inr (inl this) ↦ inr (inl (inl this))
          | inr (inr opening) ↦ inr (inr (in_first before between after name other.keeps opening))
        ]
        | inr (inl this) ↦ inr (inl (inr this))
        | inr (inr opening) ↦ inr (inr (in_second before between after name one.keeps opening))
      ]),
      (λ either. elim either [
        | inl old ↦ (other.are name).1 (inl ((one.are name).1 (inl old)))
        | inr (inl (inl this)) ↦ (other.are name).1 (inl ((one.are name).1 (inr (inl this))))
        | inr (inl (inr this)) ↦ (other.are name).1 (inr (inl this))
        | inr (inr opening) ↦ elim (in_either before between after name opening) [
          | inl first_one ↦ (other.are name).1 (inl ((one.are name).1 (inr (inr first_one))))
          | inr second_one ↦ (other.are name).1 (inr (inr second_one))
        ]
      ]),
    );
  }

  -- Names that another predicate describes, too.
  naming-as : (these others : List ℕ → Type 0) (before after : ViewState) → ((name : List ℕ) → these name ↔ others name)
      → Naming these before after → Naming others before after
  naming-as these others before after same naming = record {
    keeps = naming.keeps;
    are = λ name. (
      (λ is. elim ((naming.are name).0 is) [
        | inl old ↦ inl old
        | inr (inl this) ↦ inr (inl ((same name).0 this))
        | inr (inr opening) ↦ inr (inr opening)
      ]),
      (λ either. elim either [
        | inl old ↦ (naming.are name).1 (inl old)
        | inr (inl this) ↦ (naming.are name).1 (inr (inl ((same name).1 this)))
        | inr (inr opening) ↦ (naming.are name).1 (inr (inr opening))
      ]),
    );
  }

  -- ---- entries

  -- Opening a log that wasn't opened before names only targets that the opened logs name.
  abbrev NamesItsOwn : ShowLog → Type 0
  NamesItsOwn inner = (target : List ℕ) (depth : ℕ) (state : ViewState) → is_among target state.opened ≡ false
      → Naming Nothing state (inner target depth state)

  mention_names : (depth pid : ℕ) (how : How) (name : List ℕ) (opening : Opening) (state : ViewState)
      → Naming (λ other. other ≡ name) state (show_mention_line options depth pid how name opening state)
  mention_names depth pid how name opening state = record {
    keeps = λ other is. is;
    are = λ other. (
      (λ is. elim ((is_named name state.named other).0 is) [ inl old ↦ inl old | inr same ↦ inr (inl same) ]),
      (λ either. elim either [
        | inl old ↦ (is_named name state.named other).1 (inl old)
        | inr (inl same) ↦ (is_named name state.named other).1 (inr same)
        | inr (inr between) ↦ absurd (no_log state (show_mention_line options depth pid how name opening state) other refl between)
      ]),
    );
  }

  module _ (inner : ShowLog) (own : NamesItsOwn inner) where
    -- The log that a mention opens, or doesn't.
    show_log_if_names : (name : List ℕ) (depth : ℕ) (state : ViewState) (opening : Bool) → should_open logs options name state ≡ opening
        → Naming Nothing state (show_log_if logs options opening inner name depth state)
    show_log_if_names name depth state true is =
        own name depth state (not-true (is_among name state.opened) (should_open-parts logs options name state is).2)
    show_log_if_names name depth state false is = unchanged Nothing state state (λ other no. no) refl refl

    show_mention_if_names : (depth pid : ℕ) (how : How) (name : List ℕ) (state : ViewState) (counts : Bool)
        → is_mention options how ≡ counts
        → Naming (λ other. mentions_target options other (Mention pid how name) ≡ true) state
        (show_mention_if logs options counts inner depth pid how name state)
    show_mention_if_names depth pid how name state true counts =
        let opening = mention_opening logs options name state in
        let named = show_mention_line options depth pid how name opening state in
        let after = show_log_if logs options (should_open logs options name named) inner name (depth + 1) named in
        naming-as (λ other. (other ≡ name) ⊎ Nothing other)
        (λ other. mentions_target options other (Mention pid how name) ≡ true) state after (λ other. (
          (λ either. elim either [
            | inl same ↦ and_from (is_mention options how) (pointwise nat_eq other name) counts
                (ap (λ n. pointwise nat_eq n name) same ∙ nat_list_eq_equiv.refl name)
            | inr never ↦ absurd never
          ]),
          (λ is. inl (same_text other name (sym (and_parts (is_mention options how) (pointwise nat_eq other name) is).1))),
        ))
        (naming-both (λ other. other ≡ name) Nothing state named after (mention_names depth pid how name opening state)
        (show_log_if_names name (depth + 1) named (should_open logs options name named) refl))
    show_mention_if_names depth pid how name state false counts =
        unchanged (λ other. mentions_target options other (Mention pid how name) ≡ true) state state
        (λ other is. both_ways (is_mention options how) counts (and_parts (is_mention options how) (pointwise nat_eq other name) is).0)
        refl refl

    entry_names : (depth : ℕ) (entry : Entry) (state : ViewState)
        → Naming (λ other. mentions_target options other entry ≡ true) state (show_entry logs options inner depth entry state)
    entry_names depth (Text line) state =
        unchanged _ state (show_entry logs options inner depth (Text line) state) (λ other is. cc) refl refl
    entry_names depth (Mention pid how name) state = show_mention_if_names depth pid how name state (is_mention options how) refl
    entry_names depth (Done pid status name) state =
        unchanged _ state (show_entry logs options inner depth (Done pid status name) state) (λ other is. cc) refl refl
    entry_names depth (Closing pid status) state =
        unchanged _ state (show_entry logs options inner depth (Closing pid status) state) (λ other is. cc) refl refl
    entry_names depth (Note pid kind text) state =
        unchanged _ state (show_entry logs options inner depth (Note pid kind text) state) (λ other is. cc) refl refl

    entries_name : (depth : ℕ) (entries : List Entry) (state : ViewState)
        → Naming (λ other. mentioned_in options other entries ≡ true) state (show_entries logs options inner depth entries state)
    entries_name depth [] state = unchanged _ state state (λ other is. cc) refl refl
    entries_name depth (entry ∷ entries) state =
        let between = show_entry logs options inner depth entry state in
        let after = show_entries logs options inner depth entries between in
        naming-as (λ other. (mentions_target options other entry ≡ true) ⊎ (mentioned_in options other entries ≡ true))
        (λ other. mentioned_in options other (entry ∷ entries) ≡ true) state after
        (λ other. (
          (λ either. elim either [
            | inl here ↦ or_left (mentions_target options other entry) (mentioned_in options other entries) here
            | inr there ↦ or_right (mentions_target options other entry) (mentioned_in options other entries) there
          ]),
          or_cases (mentions_target options other entry) (mentioned_in options other entries),
        ))
        (naming-both _ _ state between after (entry_names depth entry state) (entries_name depth entries between))

  -- ---- a log

  -- The targets that a log names, after it was begun and its entries were shown.
  module _ (target : List ℕ) (state after : ViewState)
      (gone : Naming (λ name. mentioned_in options name (entries_of_target target logs) ≡ true) (begin_log target state) after) where
    still : Keeps state.opened (begin_log target state).opened
    still name is = more-keeps target state.opened name is

    in_log : (name : List ℕ) → IsNamedIn logs options target name → is_among name after.named ≡ true
    in_log name (inl same) = (gone.are name).1 (inl ((is_named target state.named name).1 (inr same)))
    in_log name (inr mentioned) = (gone.are name).1 (inr (inl mentioned))

    in_between : (name : List ℕ) → Between state after name → is_among name after.named ≡ true
    in_between name (other, new, is, names) = by (is_among other (begin_log target state).opened) refl
      where
        by : (known : Bool) → is_among other (begin_log target state).opened ≡ known → is_among name after.named ≡ true
        by true known = elim (more-only other target state.opened known) [
          | inl old ↦ absurd (both_ways (is_among other state.opened) new old)
          | inr same ↦ in_log name (subst (λ t. IsNamedIn logs options t name) same names)
        ]
        by false known = (gone.are name).1 (inr (inr (other, known, is, names)))

    log_names : Naming (IsNamedIn logs options target) state after
    log_names = record {
      keeps = λ name is. gone.keeps name (still name is);
      are = λ name. (
        (λ is. elim ((gone.are name).0 is) [
          | inl named ↦ elim ((is_named target state.named name).0 named) [ inl old ↦ inl old | inr same ↦ inr (inl (inl same)) ]
          | inr (inl mentioned) ↦ inr (inl (inr mentioned))
          | inr (inr opening) ↦ inr (inr (in_second state (begin_log target state) after name still opening))
        ]),
        (λ either. elim either [
          | inl old ↦ (gone.are name).1 (inl ((is_named target state.named name).1 (inl old)))
          | inr (inl names) ↦ in_log name names
          | inr (inr opening) ↦ in_between name opening
        ]),
      );
    }

    -- The log itself was opened in between, if it wasn't opened before.
    new_log_names : is_among target state.opened ≡ false → Naming Nothing state after
    new_log_names new = record {
      keeps = log_names.keeps;
      are = λ name. (
        (λ is. elim ((log_names.are name).0 is) [
          | inl old ↦ inl old
          | inr (inl names) ↦ inr (inr (target, new, gone.keeps target (more-has target state.opened), names))
          | inr (inr opening) ↦ inr (inr opening)
        ]),
        (λ either. elim either [
          | inl old ↦ (log_names.are name).1 (inl old)
          | inr (inl never) ↦ absurd never
          | inr (inr opening) ↦ (log_names.are name).1 (inr (inr opening))
        ]),
      );
    }

  within_names : (levels : ℕ) → NamesItsOwn (show_log_within logs options levels)
  unfolding show_log_within
  within_names zero target depth state new = unchanged Nothing state state (λ other no. no) refl refl
  within_names (suc levels) target depth state new =
      let entries = entries_of_target target logs in
      let after = show_entries logs options (show_log_within logs options levels) depth entries (begin_log target state) in
      let naming = new_log_names target state after
      (entries_name (show_log_within logs options levels) (within_names levels) depth entries (begin_log target state)) new in
      record { keeps = naming.keeps; are = naming.are }

  show_log_names : NamesItsOwn (show_log logs options)
  unfolding show_log
  show_log_names target depth state new = within_names (length logs + 1) target depth state new

  pub named_by_entries : (entries : List Entry) → NamedByEntries logs options entries
  named_by_entries entries depth state = (entries_name (show_log logs options) show_log_names depth entries state).are

  pub named_by_log : (target : List ℕ) → NamedByLog logs options target
  named_by_log target depth state =
      subst (λ (after : ViewState). AreNamed logs options (IsNamedIn logs options target) state after)
      (sym (show_log_equation logs options target depth state))
      (log_names target state (show_entries logs options (show_log logs options) depth (entries_of_target target logs)
      (begin_log target state))
      (entries_name (show_log logs options) show_log_names depth (entries_of_target target logs) (begin_log target state))).are

  -- ---- requested targets

  target_names : (known : Bool) (target : List ℕ) (state : ViewState) → is_among target state.opened ≡ known
      → Naming Nothing state (show_target_unless logs options known target state)
  target_names true target state is = unchanged Nothing state state (λ other no. no) refl refl
  target_names false target state is =
      let naming = show_log_names target 1 (append_event (request_event logs target) state) is in
      record { keeps = naming.keeps; are = naming.are }

  targets_name : (requested : Names) (state : ViewState) → Naming Nothing state (show_targets logs options requested state)
  targets_name [] state = unchanged Nothing state state (λ other no. no) refl refl
  targets_name (target ∷ targets) state =
      let between = show_target_unless logs options (is_among target state.opened) target state in
      naming-as (λ other. Nothing other ⊎ Nothing other) Nothing state (show_targets logs options targets between)
      (λ other. ((λ either. elim either [ inl never ↦ never | inr never ↦ never ]), (λ no. absurd no)))
      (naming-both Nothing Nothing state between (show_targets logs options targets between)
      (target_names (is_among target state.opened) target state refl) (targets_name targets between))

  pub named_finally : (requested : Names) → NamedFinally logs options requested
  named_finally requested name =
      let naming = targets_name requested (record { named = []; opened = []; events = [] }) in (
        (λ is. elim ((naming.are name).0 is) [
          | inl old ↦ absurd (cc)
          | inr (inl never) ↦ absurd never
          | inr (inr (target, new, opened, names)) ↦ (target, opened, names)
        ]),
        (λ opened. (naming.are name).1 (inr (inr (opened.0, refl, opened.1, opened.2)))),
      )
