-- Which lines the text has, and how it begins.
use Rattle.std.proofs.Common.{◌≡◌, ◌∙◌, ℕ, suc, nat_eq, Bool, true, false, ◌||◌, List, [], ◌∷◌, ◌++◌, Option, None, Some, filter, get_or, is_some, length, map, codes, refl, sym, ap, ap₂, arith, append_assoc}
use Rattle.std.specs.Prelude.{if◌then◌else◌, option_map}
use Rattle.std.specs.List.{flat_map, list_any, starts_with}
use Rattle.std.proofs.lemmas.List.{append-nil, length-append}
use Rattle.redo_diagnostics.specs.Diagnostic.{PartsValue, diagnostic_from, diagnostic_of, parts_of}
use Rattle.redo_line.specs.Lines.{with_line_feed}
use Rattle.redo_logs.specs.Logs.{Log}
use Rattle.redo_outline.specs.Facts.{entries_at, target_at, texts_of}
use Rattle.redo_outline.specs.declared.node.Node.{Node}
use Rattle.redo_compare.specs.Baseline.{BaselineValue}
use Rattle.redo_compare.specs.LogChanges.{are_new, diagnostics_in, new_in_log}
use Rattle.redo_compare.specs.Occurrences.{OccurrenceValue, first_source, occurrence_if, occurrences_from}
use Rattle.redo_compare.specs.Rounds.{picked}
use Rattle.redo_new.specs.Laws.{beginning_with, has_news, is_some_new, line_of}
use Rattle.redo_new.specs.News.{exit_text, failing_line, fixed_line, is_fixed, new_line, new_lines, newly_fails, news_of}

-- ---- the lines of diagnostics

abbrev pub is_diagnostic : List ℕ → Bool
is_diagnostic line = is_some (diagnostic_of line)

line_after : (front : List (List ℕ)) (line : List ℕ) (lines : List (List ℕ)) → get_or (front ++ line ∷ lines) (length front) [] ≡ line
line_after [] line lines = refl
line_after (first ∷ front) line lines = line_after front line lines

module _ (all : List (List ℕ)) where
  abbrev line_at : OccurrenceValue → List ℕ
  line_at one = get_or all one.line []

  -- `front` are the lines before these, which are `n`.
  lines_from : (front lines : List (List ℕ)) (n : ℕ) → all ≡ front ++ lines → n ≡ length front
      → map line_at (occurrences_from n lines) ≡ filter is_diagnostic lines
  unfolding diagnostic_of
  lines_from front [] n whole counted = refl
  lines_from front (line ∷ lines) n whole counted =
      let size = length-append front (line ∷ []) in
      let more : all ≡ (front ++ line ∷ []) ++ lines = whole ∙ sym (append_assoc front (line ∷ []) lines) in
      let longer : suc n ≡ length (front ++ line ∷ []) = omega (arith, counted, size) in
      by (lines_from (front ++ line ∷ []) lines (suc n) more longer) (parts_of line)
    where
      here : get_or all n [] ≡ line
      here = ap (λ (l : List (List ℕ)). get_or l n []) whole ∙ ap (λ (k : ℕ). get_or (front ++ line ∷ lines) k []) counted
          ∙ line_after front line lines

      by : map line_at (occurrences_from (suc n) lines) ≡ filter is_diagnostic lines → (found : Option PartsValue)
          → map line_at (occurrence_if n found (first_source lines) (occurrences_from (suc n) lines))
          ≡ (if is_some (option_map diagnostic_from found) then line ∷ filter is_diagnostic lines else filter is_diagnostic lines)
      by others None = others
      by others (Some parts) = ap₂ (λ (l : List ℕ) (ls : List (List ℕ)). l ∷ ls) here others

picked-map : {X Y : Type 0} (f : X → Y) (flags : List Bool) (items : List X) → picked flags (map f items) ≡ map f (picked flags items)
picked-map f [] items = refl
picked-map f (flag ∷ flags) [] = refl
picked-map f (true ∷ flags) (item ∷ items) = ap (λ l. f item ∷ l) (picked-map f flags items)
picked-map f (false ∷ flags) (item ∷ items) = picked-map f flags items

pub lines_of_new : (earlier logs : List Log) (number : ℕ)
    → picked (are_new earlier logs number) (diagnostics_in logs number) ≡ new_in_log earlier logs number
    → new_lines earlier logs number ≡ map (line_of logs number) (new_in_log earlier logs number)
lines_of_new earlier logs number picks =
    let lines = texts_of (entries_at number logs) in
    let flags = are_new earlier logs number in
    ap (picked flags) (sym (lines_from lines [] lines 0 refl refl))
    ∙ picked-map (line_of logs number) flags (diagnostics_in logs number)
    ∙ ap (map (line_of logs number)) picks

-- ---- lists

module _ {X : Type 0} where
  any_or : (p q : X → Bool) (xs : List X) → list_any (λ x. p x || q x) xs ≡ (list_any p xs || list_any q xs)
  any_or p q [] = refl
  any_or p q (x ∷ xs) = ap (λ (b : Bool). (p x || q x) || b) (any_or p q xs) ∙ swap (p x) (q x) (list_any p xs) (list_any q xs)
    where
      swap : (a b c d : Bool) → ((a || b) || (c || d)) ≡ ((a || c) || (b || d))
      swap true b c d = refl
      swap false true true d = refl
      swap false true false d = refl
      swap false false c d = refl

  -- A filter that keeps nothing of the mapped items, or all of them.
  keeps_none : {Y : Type 0} (p : Y → Bool) (f : X → Y) → ((x : X) → p (f x) ≡ false) → (xs : List X) → filter p (map f xs) ≡ []
  keeps_none p f never [] = refl
  keeps_none p f never (x ∷ xs) = rw (never x) (keeps_none p f never xs)

  keeps_all : {Y : Type 0} (p : Y → Bool) (f : X → Y) → ((x : X) → p (f x) ≡ true) → (xs : List X) → filter p (map f xs) ≡ map f xs
  keeps_all p f always [] = refl
  keeps_all {Y} p f always (x ∷ xs) = rw (always x) (ap (λ (l : List Y). f x ∷ l) (keeps_all p f always xs))

filter-append : {Y : Type 0} (p : Y → Bool) (xs ys : List Y) → filter p (xs ++ ys) ≡ filter p xs ++ filter p ys
filter-append p [] ys = refl
filter-append {Y} p (x ∷ xs) ys = by (filter-append p xs ys) (p x)
  where
    by : filter p (xs ++ ys) ≡ filter p xs ++ filter p ys → (b : Bool)
        → (if b then x ∷ filter p (xs ++ ys) else filter p (xs ++ ys)) ≡ (if b then x ∷ filter p xs else filter p xs) ++ filter p ys
    by others true = ap (λ (l : List Y). x ∷ l) others
    by others false = others

filter-three : {Y : Type 0} (p : Y → Bool) (xs ys zs : List Y)
    → filter p (xs ++ (ys ++ zs)) ≡ filter p xs ++ (filter p ys ++ filter p zs)
filter-three {Y} p xs ys zs = filter-append p xs (ys ++ zs) ∙ ap (λ (l : List Y). filter p xs ++ l) (filter-append p ys zs)

abbrev pub text_of : List (List ℕ) → List ℕ
text_of lines = flat_map with_line_feed lines

pub text-append : (one other : List (List ℕ)) → text_of (one ++ other) ≡ text_of one ++ text_of other
text-append [] other = refl
text-append (line ∷ one) other =
    ap (λ (l : List ℕ). with_line_feed line ++ l) (text-append one other)
    ∙ sym (append_assoc (with_line_feed line) (text_of one) (text_of other))

-- ---- the kinds of lines

module _ (baseline : BaselineValue) (logs : List Log) where
  abbrev pub failing : Node → List ℕ
  failing node = failing_line (target_at logs node.number) node.status

  abbrev pub new_at : Node → List (List ℕ)
  new_at node = map (new_line (target_at logs node.number)) (new_lines baseline.logs logs node.number)

  abbrev pub fixed : Node → List ℕ
  fixed node = fixed_line (target_at logs node.number)

  new_none : (p : List ℕ → Bool) → ((target line : List ℕ) → p (new_line target line) ≡ false) → (nodes : List Node)
      → filter p (flat_map new_at nodes) ≡ []
  new_none p never [] = refl
  new_none p never (node ∷ nodes) =
      filter-append p (new_at node) (flat_map new_at nodes)
      ∙ ap₂ (λ (a b : List (List ℕ)). a ++ b)
      (keeps_none p (new_line (target_at logs node.number)) (never (target_at logs node.number)) (new_lines baseline.logs logs node.number))
      (new_none p never nodes)

  new_all : (p : List ℕ → Bool) → ((target line : List ℕ) → p (new_line target line) ≡ true) → (nodes : List Node)
      → filter p (flat_map new_at nodes) ≡ flat_map new_at nodes
  new_all p always [] = refl
  new_all p always (node ∷ nodes) =
      filter-append p (new_at node) (flat_map new_at nodes)
      ∙ ap₂ (λ (a b : List (List ℕ)). a ++ b)
      (keeps_all p (new_line (target_at logs node.number)) (always (target_at logs node.number)) (new_lines baseline.logs logs node.number))
      (new_all p always nodes)

  abbrev begins : List ℕ → List ℕ → Bool
  begins prefix line = starts_with nat_eq line prefix

  split : (p : List ℕ → Bool) (nodes : List Node)
      → filter p (news_of baseline logs nodes)
      ≡ filter p (map failing (filter (newly_fails baseline logs) nodes)) ++ (filter p (flat_map new_at nodes)
      ++ filter p (map fixed (filter (is_fixed baseline logs) nodes)))
  split p nodes =
      filter-three p (map failing (filter (newly_fails baseline logs) nodes)) (flat_map new_at nodes)
      (map fixed (filter (is_fixed baseline logs) nodes))

  pub failing_are : (nodes : List Node)
      → beginning_with (codes "newly failing: ") (news_of baseline logs nodes) ≡ map failing (filter (newly_fails baseline logs) nodes)
  failing_are nodes =
      let p = begins (codes "newly failing: ") in
      split p nodes
      ∙ ap₂ (λ (a b : List (List ℕ)). a ++ b) (keeps_all p failing (λ node. refl) (filter (newly_fails baseline logs) nodes))
      (ap₂ (λ (a b : List (List ℕ)). a ++ b) (new_none p (λ target line. refl) nodes)
      (keeps_none p fixed (λ node. refl) (filter (is_fixed baseline logs) nodes)))
      ∙ append-nil (map failing (filter (newly_fails baseline logs) nodes))

  pub new_are : (nodes : List Node) → beginning_with (codes "new: ") (news_of baseline logs nodes) ≡ flat_map new_at nodes
  new_are nodes =
      let p = begins (codes "new: ") in
      split p nodes
      ∙ ap₂ (λ (a b : List (List ℕ)). a ++ b) (keeps_none p failing (λ node. refl) (filter (newly_fails baseline logs) nodes))
      (ap₂ (λ (a b : List (List ℕ)). a ++ b) (new_all p (λ target line. refl) nodes)
      (keeps_none p fixed (λ node. refl) (filter (is_fixed baseline logs) nodes)))
      ∙ append-nil (flat_map new_at nodes)

  pub fixed_are : (nodes : List Node)
      → beginning_with (codes "fixed: ") (news_of baseline logs nodes) ≡ map fixed (filter (is_fixed baseline logs) nodes)
  fixed_are nodes =
      let p = begins (codes "fixed: ") in
      split p nodes
      ∙ ap₂ (λ (a b : List (List ℕ)). a ++ b) (keeps_none p failing (λ node. refl) (filter (newly_fails baseline logs) nodes))
      (ap₂ (λ (a b : List (List ℕ)). a ++ b) (new_none p (λ target line. refl) nodes)
      (keeps_all p fixed (λ node. refl) (filter (is_fixed baseline logs) nodes)))

  -- ---- how the text begins

  -- Each new diagnostic has its line.
  abbrev HaveLines : Type 0
  HaveLines = (number : ℕ) → new_lines baseline.logs logs number ≡ map (line_of logs number) (new_in_log baseline.logs logs number)

  module _ (prefix : List ℕ) where
    -- The lines of which kinds begin with the prefix.
    pub record Tells : Type 0 where
      fails : (text behind : List ℕ) → begins prefix ((codes "newly failing: " ++ text) ++ behind) ≡ true
      is_new : (text behind : List ℕ) → begins prefix ((codes "new: " ++ text) ++ behind) ≡ true
      fixes : (text behind : List ℕ) → begins prefix ((codes "fixed: " ++ text) ++ behind) ≡ false
      nothing : begins prefix [] ≡ false

    module _ (tells : Tells) where
      failing_begin : (nodes : List Node) (behind : List ℕ)
          → begins prefix (text_of (map failing (filter (newly_fails baseline logs) nodes)) ++ behind)
          ≡ (list_any (newly_fails baseline logs) nodes || begins prefix behind)
      failing_begin [] behind = refl
      failing_begin (node ∷ nodes) behind = by (failing_begin nodes behind) (newly_fails baseline logs node)
        where
          by : begins prefix (text_of (map failing (filter (newly_fails baseline logs) nodes)) ++ behind)
              ≡ (list_any (newly_fails baseline logs) nodes || begins prefix behind)
              → (fails : Bool)
              → begins prefix (text_of (map failing (if fails then node ∷ filter (newly_fails baseline logs) nodes
              else filter (newly_fails baseline logs) nodes)) ++ behind)
              ≡ ((fails || list_any (newly_fails baseline logs) nodes) || begins prefix behind)
          by others true =
              ap (begins prefix) (append_assoc (with_line_feed (failing node))
              (text_of (map failing (filter (newly_fails baseline logs) nodes))) behind)
              ∙ ap (begins prefix) (append_assoc (failing node) (10 ∷ [])
              (text_of (map failing (filter (newly_fails baseline logs) nodes)) ++ behind))
              ∙ tells.fails (target_at logs node.number ++ exit_text node.status) _
          by others false = others

      new_begin : (is : HaveLines)
          → (nodes : List Node) (behind : List ℕ)
          → begins prefix (text_of (flat_map new_at nodes) ++ behind)
          ≡ (list_any (λ (node : Node). is_some_new (new_in_log baseline.logs logs node.number)) nodes || begins prefix behind)
      new_begin is [] behind = refl
      new_begin is (node ∷ nodes) behind =
          ap (λ (lines : List (List ℕ)).
          begins prefix (text_of (map (new_line (target_at logs node.number)) lines ++ flat_map new_at nodes) ++ behind))
          (is node.number) ∙ by (new_begin is nodes behind) (new_in_log baseline.logs logs node.number)
        where
          by : begins prefix (text_of (flat_map new_at nodes) ++ behind)
              ≡ (list_any (λ (node : Node). is_some_new (new_in_log baseline.logs logs node.number)) nodes || begins prefix behind)
              → (new : List OccurrenceValue)
              → begins prefix (text_of (map (new_line (target_at logs node.number)) (map (line_of logs node.number) new)
              ++ flat_map new_at nodes) ++ behind)
              ≡ ((is_some_new new || list_any (λ (node : Node). is_some_new (new_in_log baseline.logs logs node.number)) nodes)
              || begins prefix behind)
          by rest [] = rest
          by rest (one ∷ others) =
              let line = new_line (target_at logs node.number) (line_of logs node.number one) in
              let more = text_of (map (new_line (target_at logs node.number)) (map (line_of logs node.number) others)
              ++ flat_map new_at nodes) in
              ap (begins prefix) (append_assoc (with_line_feed line) more behind)
              ∙ ap (begins prefix) (append_assoc line (10 ∷ []) (more ++ behind))
              ∙ tells.is_new (target_at logs node.number ++ codes ": " ++ line_of logs node.number one) _

      fixed_begin : (nodes : List Node) → begins prefix (text_of (map fixed nodes)) ≡ false
      fixed_begin [] = tells.nothing
      fixed_begin (node ∷ nodes) =
          ap (begins prefix) (append_assoc (fixed node) (10 ∷ []) (text_of (map fixed nodes)))
          ∙ tells.fixes (target_at logs node.number) _

      pub begins_with : (is : HaveLines)
          → (nodes : List Node)
          → begins prefix (text_of (news_of baseline logs nodes)) ≡ list_any (has_news baseline logs) nodes
      begins_with is nodes =
          let fails = map failing (filter (newly_fails baseline logs) nodes) in
          let new = flat_map new_at nodes in
          let fixes = map fixed (filter (is_fixed baseline logs) nodes) in
          let any_new = list_any (λ (node : Node). is_some_new (new_in_log baseline.logs logs node.number)) nodes in
          ap (begins prefix) (text-append fails (new ++ fixes))
          ∙ failing_begin nodes (text_of (new ++ fixes))
          ∙ ap (λ (b : Bool). list_any (newly_fails baseline logs) nodes || b)
          (ap (begins prefix) (text-append new fixes) ∙ new_begin is nodes (text_of fixes)
          ∙ ap (λ (b : Bool). any_new || b) (fixed_begin (filter (is_fixed baseline logs) nodes)) ∙ or_false any_new)
          ∙ sym (any_or (newly_fails baseline logs) (λ (node : Node). is_some_new (new_in_log baseline.logs logs node.number)) nodes)
        where
          or_false : (b : Bool) → (b || false) ≡ b
          or_false true = refl
          or_false false = refl

  pub begins_with_word : (is : HaveLines)
      → (nodes : List Node)
      → starts_with nat_eq (flat_map with_line_feed (news_of baseline logs nodes)) (codes "new") ≡ list_any (has_news baseline logs) nodes
  begins_with_word is nodes =
      begins_with (codes "new")
      (record { fails = λ text behind. refl; is_new = λ text behind. refl; fixes = λ text behind. refl; nothing = refl }) is nodes

  pub begins_with_byte : (is : HaveLines)
      → (nodes : List Node)
      → starts_with nat_eq (flat_map with_line_feed (news_of baseline logs nodes)) (codes "n") ≡ list_any (has_news baseline logs) nodes
  begins_with_byte is nodes =
      begins_with (codes "n")
      (record { fails = λ text behind. refl; is_new = λ text behind. refl; fixes = λ text behind. refl; nothing = refl }) is nodes
