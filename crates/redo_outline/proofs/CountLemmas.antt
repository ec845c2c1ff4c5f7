-- The counts of nodes: of the entries of their logs, and of their children.
use Rattle.std.proofs.Common.{◌≡◌, ℕ, zero, suc, ◌+◌, ◌<◌, ◌≤◌, Bool, true, false, List, [], ◌∷◌, ◌++◌, Option, None, Some, ℤ, length, refl, sym, ap, ap₂, subst, ◌∙◌, arith, append_assoc}
use Rattle.std.specs.Prelude.{◌==◌, slice_get, if◌then◌else◌}
use Rattle.std.specs.List.{AllByRecursion, count_by, sum_by}
use Rattle.std.proofs.lemmas.Bool.{eq-eqb, ne_eqb}
use Rattle.std.proofs.lemmas.List.{append-nil}
use Rattle.std.proofs.lemmas.List.Sums.{sum_by-append, sum_by-cons}
use Rattle.std.proofs.lemmas.Option.{same_Some}
use Rattle.redo_line.specs.declared.entry.Entry.{Entry}
use Rattle.redo_line.specs.declared.entry.Entry.TheVariants.{Text, Mention, Done, Closing, Note}
use Rattle.redo_logs.specs.Logs.{Log}
use Rattle.redo_outline.specs.declared.node.Node.{Node}
use Rattle.redo_outline.specs.Contents.{Contents}
use Rattle.redo_outline.specs.Contents.Contents.{Nothing, Shown, Opened}
use Rattle.redo_outline.specs.Facts.{entries_at, is_number, is_warning, saturated, texts_of}
use Rattle.redo_outline.specs.Laws.{AllCountChildren, CountsLog, counted, is_child_of}
use Rattle.redo_outline.specs.Outline.{child_count, log_count, node_of, nodes_of}

-- ---- entries

ones : (texts : List (List ℕ)) → length texts ≡ sum_by (λ (text : List ℕ). 1) texts
ones [] = refl
ones (text ∷ texts) = let more = ones texts in let cons = sum_by-cons (λ (text : List ℕ). 1) text texts in omega (arith, more, cons)

-- A sum over the text lines is one over all entries.
module _ (f : List ℕ → ℕ) where
  skipped : (entry : Entry) (entries : List Entry) → counted f entry ≡ 0 → sum_by (counted f) (entry ∷ entries) ≡ sum_by (counted f) entries
  skipped entry entries none = let cons = sum_by-cons (counted f) entry entries in omega (arith, cons, none)

  texts_counted : (entries : List Entry) → sum_by f (texts_of entries) ≡ sum_by (counted f) entries
  texts_counted [] = refl
  texts_counted (Text line ∷ entries) =
      sum_by-cons f line (texts_of entries) ∙ ap (λ (n : ℕ). f line + n) (texts_counted entries)
      ∙ sym (sum_by-cons (counted f) (Text line) entries)
  texts_counted (Mention pid how name ∷ entries) = texts_counted entries ∙ sym (skipped (Mention pid how name) entries refl)
  texts_counted (Done pid status name ∷ entries) = texts_counted entries ∙ sym (skipped (Done pid status name) entries refl)
  texts_counted (Closing pid status ∷ entries) = texts_counted entries ∙ sym (skipped (Closing pid status) entries refl)
  texts_counted (Note pid kind text ∷ entries) = texts_counted entries ∙ sym (skipped (Note pid kind text) entries refl)

log_entries : (logs : List Log) (number : ℕ) (log : Log) → slice_get logs number ≡ Some log → entries_at number logs ≡ log.entries
log_entries [] number log is = absurd (cc)
log_entries (first ∷ logs) zero log is = ap (λ (l : Log). l.entries) (same_Some first log is)
log_entries (first ∷ logs) (suc number) log is = log_entries logs number log is

module _ (logs : List Log) (status : ℕ → Option ℤ) where
  counts_log : (parent : Option ℕ) (number : ℕ) (inside rest : Contents) → CountsLog logs (node_of logs status parent number inside rest)
  counts_log parent number inside rest log is =
      let same = log_entries logs number log is in record {
        lines = ap saturated (ones (texts_of (entries_at number logs)) ∙ summed (λ (line : List ℕ). 1) same);
        bytes = ap saturated (summed (λ (line : List ℕ). length line + 1) same);
        warnings = ap saturated (summed (λ (line : List ℕ). if is_warning line then 1 else 0) same);
      }
    where
      summed : (f : List ℕ → ℕ) {entries : List Entry} → entries_at number logs ≡ entries
          → sum_by f (texts_of (entries_at number logs)) ≡ sum_by (counted f) entries
      summed f same = texts_counted f (entries_at number logs) ∙ ap (sum_by (counted f)) same

  all_too : (nodes more : List Node) → AllByRecursion (CountsLog logs) nodes → AllByRecursion (CountsLog logs) more
      → AllByRecursion (CountsLog logs) (nodes ++ more)
  all_too [] more first second = second
  all_too (node ∷ nodes) more first second = (first.0, all_too nodes more first.1 second)

  pub all_count_logs : (parent : Option ℕ) (position : ℕ) (contents : Contents)
      → AllByRecursion (CountsLog logs) (nodes_of logs status parent position contents)
  all_count_logs parent position Nothing = tt
  all_count_logs parent position (Shown event rest) = all_count_logs parent position rest
  all_count_logs parent position (Opened event number inside rest) = (
    counts_log parent number inside rest,
    all_too (nodes_of logs status (Some position) (suc position) inside)
        (nodes_of logs status parent (suc position + log_count inside) rest)
        (all_count_logs (Some position) (suc position) inside) (all_count_logs parent (suc position + log_count inside) rest),
  )

  -- ---- children

  if_zero : (b : Bool) → ◌≡◌ {A = ℕ} (if b then 0 else 0) 0
  if_zero true = refl
  if_zero false = refl

  if_more : (b : Bool) (n : ℕ) → (if b then 1 else 0) + (0 + (if b then n else 0)) ≡ (if b then suc n else 0)
  if_more true n = omega arith
  if_more false n = refl

  both : (position : ℕ) (nodes more : List Node)
      → count_by (is_child_of position) (nodes ++ more) ≡ count_by (is_child_of position) nodes + count_by (is_child_of position) more
  both position nodes more = sum_by-append (λ (node : Node). if is_child_of position node then 1 else 0) nodes more

  -- The children of a log that was opened earlier.
  earlier : (above : ℕ) (parent : Option ℕ) (position : ℕ) (contents : Contents) → above < position
      → count_by (is_child_of above) (nodes_of logs status parent position contents)
      ≡ (if is_number above parent then child_count contents else 0)
  earlier above parent position Nothing before = sym (if_zero (is_number above parent))
  earlier above parent position (Shown event rest) before = earlier above parent position rest before
  earlier above parent position (Opened event number inside rest) before =
      let first = nodes_of logs status (Some position) (suc position) inside in
      let second = nodes_of logs status parent (suc position + log_count inside) rest in
      let node = node_of logs status parent number inside rest in
      let other : (above == position) ≡ false = ne_eqb above position (omega (arith, before)) in
      sum_by-cons (λ (node : Node). if is_child_of above node then 1 else 0) node (first ++ second)
      ∙ ap (λ (n : ℕ). (if is_number above parent then 1 else 0) + n) (both above first second
      ∙ ap₂ (λ (a b : ℕ). a + b) (earlier above (Some position) (suc position) inside (omega (arith, before))
      ∙ ap (λ (b : Bool). if b then child_count inside else 0) other)
      (earlier above parent (suc position + log_count inside) rest (omega (arith, before))))
      ∙ if_more (is_number above parent) (child_count rest)

  abbrev IsBefore : Option ℕ → ℕ → Type 0
  IsBefore parent position = (later : ℕ) → position ≤ later → is_number later parent ≡ false

  abbrev NoneIn : ℕ → ℕ → List Node → Type 0
  NoneIn from to nodes = (position : ℕ) → from ≤ position → position < to → count_by (is_child_of position) nodes ≡ 0

  children_counted : (parent : Option ℕ) (position end : ℕ) (contents : Contents) (more : List Node) → IsBefore parent position
      → position + log_count contents ≡ end → NoneIn position end more → AllCountChildren end more
      → AllCountChildren position (nodes_of logs status parent position contents ++ more)
  children_counted parent position end Nothing more before ends none later =
      subst (λ (n : ℕ). AllCountChildren n more) (let same : end ≡ position = omega (arith, ends) in same) later
  children_counted parent position end (Shown event rest) more before ends none later =
      children_counted parent position end rest more before ends none later
  children_counted parent position end (Opened event number inside rest) more before ends none later =
      let next = suc position + log_count inside in
      let first = nodes_of logs status (Some position) (suc position) inside in
      let second = nodes_of logs status parent next rest in
      let assoc = append_assoc first second more in
      let ending : next + log_count rest ≡ end = omega (arith, ends) in (
        sym (ap (count_by (is_child_of position)) assoc ∙ both position first (second ++ more)
            ∙ ap₂ (λ (a b : ℕ). a + b) (earlier position (Some position) (suc position) inside (omega arith)
            ∙ ap (λ (b : Bool). if b then child_count inside else 0) (eq-eqb position position refl))
            (both position second more ∙ ap₂ (λ (a b : ℕ). a + b) (earlier position parent next rest (omega arith)
            ∙ ap (λ (b : Bool). if b then child_count rest else 0) (before position (omega arith)))
            (none position (omega arith) (omega (arith, ends)))) ∙ omega arith),
        subst (AllCountChildren (suc position)) (sym assoc)
            (children_counted (Some position) (suc position) next inside (second ++ more)
            (λ later_position from. ne_eqb later_position position (omega (arith, from))) refl
            (λ above from to. both above second more
            ∙ ap₂ (λ (a b : ℕ). a + b) (earlier above parent next rest to
            ∙ ap (λ (b : Bool). if b then child_count rest else 0) (before above (omega (arith, from))))
            (none above (omega (arith, from)) (omega (arith, to, ending))))
            (children_counted parent next end rest more (λ later_position from. before later_position (omega (arith, from))) ending
            (λ above from to. none above (omega (arith, from)) to) later)),
      )

  pub all_count_children : (contents : Contents) → AllCountChildren 0 (nodes_of logs status None 0 contents)
  all_count_children contents =
      subst (AllCountChildren 0) (append-nil (nodes_of logs status None 0 contents))
      (children_counted None 0 (0 + log_count contents) contents [] (λ later from. refl) refl (λ position from to. refl) tt)
