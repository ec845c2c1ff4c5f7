-- The names that entries mention, entry by entry.
use Rattle.std.proofs.Common.{◌≡◌, ℕ, suc, ◌+◌, ◌<◌, Bool, true, false, cond, not, List, [], ◌∷◌, ◌++◌, Option, None, Some, drop, length, refl, subst, sym, ap, ◌∙◌, arith, append_assoc, append-nil}
use Rattle.std.specs.Prelude.{◌==◌, option_to_list, if◌then◌else◌}
use Rattle.std.specs.List.{cons_option, list_any}
use Rattle.std.specs.Str.{bytes_eq}
use Rattle.std.proofs.lemmas.Bool.{ne_eqb}
use Rattle.redo_diagnostics.specs.Counts.{times_of}
use Rattle.redo_diagnostics.proofs.CountLemmas.{times-push}
use Rattle.redo_line.specs.declared.entry.Entry.{Entry}
use Rattle.redo_line.specs.declared.entry.Entry.TheVariants.{Text}
use Rattle.redo_logs.specs.Logs.{Log, entry_at}
use Rattle.redo_logs.specs.Numbering.{AreLinesAt, AreTexts}
use Rattle.redo_outline.specs.Facts.{entries_at, target_at}
use Rattle.redo_json.specs.Build.{mentioned_name, mentions_in, name_if_new, needs_of, new_names}
use Rattle.redo_json.specs.Private.Needing.{AreKnownNames, FoundNeeds, names_if_new}
use Rattle.redo_outline.proofs.LogEntries.{drop_here, drop_none, entry_is, within}

-- At first, only the log's own target is counted.
pub begin_needs : (target : List ℕ) (entries : List Entry) (set names : List (List ℕ)) (own : List ℕ)
    → names ≡ [] → own ≡ target → AreKnownNames set (own ∷ []) → FoundNeeds target entries 0 names set
begin_needs target entries set names own none same known = record {
  before = target ∷ [];
  known = subst (λ (name : List ℕ). AreKnownNames set (name ∷ [])) same known;
  are = ap (λ (ns : List (List ℕ)). ns ++ new_names (target ∷ []) (mentions_in entries)) none;
}

module _ (logs : List Log) (number : ℕ) where
  abbrev target : List ℕ
  target = target_at logs number

  abbrev all : List Entry
  all = entries_at number logs

  mention_here : (k : ℕ) (entry : Entry) → entry_at number k logs ≡ Some entry
      → mentions_in (drop k all) ≡ cons_option (mentioned_name entry) (mentions_in (drop (k + 1) all))
  mention_here k entry is = ap mentions_in (drop_here all k entry (sym (entry_is logs number k) ∙ is))

  skip_texts : (k : ℕ) (texts : List (List ℕ)) → AreTexts logs number k texts
      → mentions_in (drop k all) ≡ mentions_in (drop (k + length texts) all)
  skip_texts k [] are = let same : k ≡ k + 0 = omega arith in ap (λ (n : ℕ). mentions_in (drop n all)) same
  skip_texts k (text ∷ texts) are =
      let same : k + 1 + length texts ≡ k + suc (length texts) = omega arith in
      mention_here k (Text text) are.0 ∙ skip_texts (k + 1) texts are.1 ∙ ap (λ (n : ℕ). mentions_in (drop n all)) same

  pub lines_within : (k : ℕ) (bytes : List ℕ) (count : ℕ) → AreLinesAt logs number k bytes count → 0 < count → k < length all
  lines_within k bytes count lines some = by lines.texts lines.are lines.count_is
    where
      by : (texts : List (List ℕ)) → AreTexts logs number k texts → length texts ≡ count → k < length all
      by [] are none = absurd (omega (arith, none, some))
      by (text ∷ texts) are is = within logs number (Text text) k are.0

  -- Text lines mention nothing.
  pub after_texts : (k : ℕ) (bytes : List ℕ) (count : ℕ) (names set : List (List ℕ))
      → AreLinesAt logs number k bytes count → FoundNeeds target all k names set → FoundNeeds target all (k + count) names set
  after_texts k bytes count names set lines so_far = record {
    before = so_far.before;
    known = so_far.known;
    are = ap (λ (ms : List (List ℕ)). names ++ new_names so_far.before ms)
        (ap (λ (n : ℕ). mentions_in (drop (k + n) all)) (sym lines.count_is) ∙ sym (skip_texts k lines.texts lines.are))
        ∙ so_far.are;
  }

  -- No entry is left.
  pub all_needs : (k : ℕ) (names set : List (List ℕ)) → entry_at number k logs ≡ None
      → FoundNeeds target all k names set
      → names ≡ needs_of target all
  all_needs k names set none so_far =
      sym (append-nil names)
      ∙ ap (λ (es : List Entry). names ++ new_names so_far.before (mentions_in es))
      (sym (drop_none all k (sym (entry_is logs number k) ∙ none)))
      ∙ so_far.are

  more_needs : (k : ℕ) (entry : Entry) (mentioned : Option (List ℕ)) → mentioned_name entry ≡ mentioned → entry_at number k logs
      ≡ Some entry
      → (names before : List (List ℕ))
      → names ++ new_names before (mentions_in (drop k all))
      ≡ (names ++ names_if_new mentioned before) ++ new_names (before ++ option_to_list mentioned) (mentions_in (drop (k + 1) all))
  more_needs k entry None same is names before =
      ap (λ (ms : List (List ℕ)). names ++ new_names before ms) (mention_here k entry is
      ∙ ap (λ (m : Option (List ℕ)). cons_option m (mentions_in (drop (k + 1) all))) same)
      ∙ (λ i. sym (append-nil names) i ++ new_names (sym (append-nil before) i) (mentions_in (drop (k + 1) all)))
  more_needs k entry (Some name) same is names before =
      ap (λ (ms : List (List ℕ)). names ++ new_names before ms) (mention_here k entry is
      ∙ ap (λ (m : Option (List ℕ)). cons_option m (mentions_in (drop (k + 1) all))) same)
      ∙ sym (append_assoc names (name_if_new name before) (new_names (before ++ name ∷ []) (mentions_in (drop (k + 1) all))))

  -- One more entry.
  pub after_entry : (k : ℕ) (entry : Entry) (names later set after : List (List ℕ))
      → entry_at number k logs ≡ Some entry → (so_far : FoundNeeds target all k names set)
      → AreKnownNames after (so_far.before ++ option_to_list (mentioned_name entry))
      → later ≡ names ++ names_if_new (mentioned_name entry) so_far.before → FoundNeeds target all (k + 1) later after
  after_entry k entry names later set after is so_far known added = record {
    before = so_far.before ++ option_to_list (mentioned_name entry);
    known = known;
    are = ap (λ (ns : List (List ℕ)). ns ++ new_names (so_far.before
        ++ option_to_list (mentioned_name entry)) (mentions_in (drop (k + 1) all)))
        added ∙ sym (more_needs k entry (mentioned_name entry) refl is names so_far.before) ∙ so_far.are;
  }

-- ---- a name

-- A name is new if the set doesn't have it.
pub is_new : (set : List (List ℕ)) (name : List ℕ) (before : List (List ℕ)) (new : Bool) → AreKnownNames set before
    → new ≡ not (list_any (bytes_eq name) set) → name_if_new name before ≡ (if new then name ∷ [] else [])
is_new set name before new known is =
    ap (λ (test : Bool). if test then name ∷ [] else []) (sym (not_not (times_of name before == 0)) ∙ ap not (sym (known name)) ∙ sym is)
  where
    not_not : (test : Bool) → not (not test) ≡ test
    not_not true = refl
    not_not false = refl

-- One more name.
pub one_more : (old new : List (List ℕ)) (name : List ℕ) (before : List (List ℕ)) → AreKnownNames old before
    → ((other : List ℕ) → list_any (bytes_eq other) new ≡ cond (bytes_eq name other) true (list_any (bytes_eq other) old))
    → AreKnownNames new (before ++ name ∷ [])
one_more old new name before known updated other =
    updated other ∙ by (bytes_eq name other) ∙ sym (ap (λ (n : ℕ). not (n == 0)) (times-push other name before))
  where
    some : (n : ℕ) → true ≡ not (n + 1 == 0)
    some n = sym (ap not (ne_eqb (n + 1) 0 (λ is. omega (arith, is))))

    by : (is : Bool) → cond is true (list_any (bytes_eq other) old) ≡ not (times_of other before + length (cond is (name ∷ []) []) == 0)
    by true = some (times_of other before)
    by false =
        let same : times_of other before ≡ times_of other before + 0 = omega arith in
        known other ∙ ap (λ (n : ℕ). not (n == 0)) same
