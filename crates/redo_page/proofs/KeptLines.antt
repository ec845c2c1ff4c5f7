-- The rest of long logs: their heads and their tails.
use Rattle.std.proofs.Common.{◌≡◌, ℕ, zero, suc, ◌+◌, ◌<◌, ◌≤◌, ◌^◌, Bool, true, false, ℤ, List, [], ◌∷◌, ◌++◌, Option, None, Some, get_or, length, map, max, refl, sym, ◌∙◌, ap, subst, arith}
use Rattle.std.specs.Prelude.{◌&&◌, ◌==◌, ◌||◌, nat_lt, not, if◌then◌else◌}
use Rattle.std.specs.List.{AllByRecursion}
use Rattle.std.proofs.lemmas.Bool.{le-leb}
use Rattle.std.proofs.lemmas.List.{map-append}
use Rattle.redo_line.specs.declared.entry.Entry.TheVariants.{Text}
use Rattle.redo_logs.specs.Logs.{Log}
use Rattle.redo_view.specs.Event.{Event}
use Rattle.redo_view.specs.Event.Event.{EntryShown}
use Rattle.redo_view.specs.LogLines.{lines_of_log}
use Rattle.redo_options.specs.declared.options.Options.{Options}
use Rattle.redo_outline.specs.declared.node.Node.{Node}
use Rattle.redo_outline.specs.Contents.{Contents}
use Rattle.redo_outline.specs.Contents.Contents.{Nothing, Shown, Opened}
use Rattle.redo_outline.specs.declared.node.RunTimes.{RunTimes}
use Rattle.redo_outline.specs.Outline.{log_count, nodes_of, with_times}
use Rattle.redo_trim.specs.declared.limit.Gauge.{Gauge}
use Rattle.redo_trim.specs.declared.limit.Limit.{Limit}
use Rattle.redo_trim.specs.Laws.{FitsInto64Bits, head_and_tail, lines_in}
use Rattle.redo_trim.specs.Trim.{after_shown, gauge_of, kept, limit_of, no_limit, trim, with_shown_all}
use Rattle.redo_page.specs.Laws.{lines_at, positioned_lines, texts_of}
use Rattle.redo_page.specs.Limits.{bytes_shown, fit_in, highest_cap, limit_at, limit_if, limits_of, min_cap, position_limit, tree_limits}
use Rattle.redo_page.specs.Tree.{Build, articles, is_moved, no_node, node_at, position_of}
use Rattle.redo_page.proofs.LimitLemmas.{fits, last_within, limits_from}
use Rattle.redo_page.proofs.PageLines.{Have, HaveLines, direct_lines, opened_lines, texts_at}

-- ---- numbers of logs

-- The numbers of the logs that are opened in some contents.
abbrev numbers_in : Contents → List ℕ
numbers_in Nothing = []
numbers_in (Shown event rest) = numbers_in rest
numbers_in (Opened event number inside rest) = number ∷ (numbers_in inside ++ numbers_in rest)

nodes_numbered : (logs : List Log) (status : ℕ → Option ℤ) (parent : Option ℕ) (position : ℕ) (contents : Contents)
    → map (λ (node : Node). node.number) (nodes_of logs status parent position contents) ≡ numbers_in contents
nodes_numbered logs status parent position Nothing = refl
nodes_numbered logs status parent position (Shown event rest) = nodes_numbered logs status parent position rest
nodes_numbered logs status parent position (Opened event number inside rest) =
    let others = nodes_of logs status parent (suc position + log_count inside) rest in
    ap (λ t. number ∷ t)
    (map-append (λ (node : Node). node.number) (nodes_of logs status (Some position) (suc position) inside) others
    ∙ ap (λ t. t ++ map (λ (node : Node). node.number) others) (nodes_numbered logs status (Some position) (suc position) inside)
    ∙ ap (λ t. numbers_in inside ++ t) (nodes_numbered logs status parent (suc position + log_count inside) rest))

shown_numbers : (events : List Event) (rest : Contents) → numbers_in (with_shown_all events rest) ≡ numbers_in rest
shown_numbers [] rest = refl
shown_numbers (event ∷ events) rest = shown_numbers events rest

number_at : (nodes : List Node) (position : ℕ)
    → get_or (map (λ (node : Node). node.number) nodes) position no_node.number ≡ (get_or nodes position no_node).number
number_at [] position = refl
number_at (node ∷ nodes) zero = refl
number_at (node ∷ nodes) (suc position) = number_at nodes position

-- Trimmed contents open the same number of logs.
abbrev pub KeepCount : List Limit → Contents → Type 0
KeepCount limits contents = log_count (trim limits [] contents) ≡ log_count contents

module _ (limits : List Limit) where
  trimmed_numbers : (gauges : List Gauge) (contents : Contents) → numbers_in (trim limits gauges contents) ≡ numbers_in contents
  trimmed_numbers gauges Nothing = refl
  trimmed_numbers gauges (Shown event rest) =
      shown_numbers (kept gauges event) (trim limits (after_shown event gauges) rest) ∙ trimmed_numbers (after_shown event gauges) rest
  trimmed_numbers gauges (Opened event number inside rest) =
      ap (λ t. number ∷ (t ++ numbers_in (trim limits gauges rest))) (trimmed_numbers (gauge_of limits number ∷ gauges) inside)
      ∙ ap (λ t. number ∷ (numbers_in inside ++ t)) (trimmed_numbers gauges rest)

  same_number : (logs : List Log) (status : ℕ → Option ℤ) (contents : Contents) (position : ℕ)
      → (get_or (nodes_of logs status None 0 (trim limits [] contents)) position no_node).number
      ≡ (get_or (nodes_of logs status None 0 contents) position no_node).number
  same_number logs status contents position =
      sym (number_at (nodes_of logs status None 0 (trim limits [] contents)) position)
      ∙ ap (λ (numbers : List ℕ). get_or numbers position no_node.number)
      (nodes_numbered logs status None 0 (trim limits [] contents) ∙ trimmed_numbers [] contents
      ∙ sym (nodes_numbered logs status None 0 contents))
      ∙ number_at (nodes_of logs status None 0 contents) position

-- ---- lines

lines_same : (contents : Contents) → lines_in contents ≡ direct_lines contents
lines_same Nothing = refl
lines_same (Shown (EntryShown depth (Text line)) rest) = ap (λ t. line ∷ t) (lines_same rest)
lines_same (Shown event rest) = lines_same rest
lines_same (Opened event number inside rest) = lines_same rest

module _ (logs : List Log) (limits : List Limit)
    (keep : (number : ℕ) (contents : Contents) (outer : List Gauge) → FitsInto64Bits (limit_of limits number)
    → lines_in (trim limits (gauge_of limits number ∷ outer) contents) ≡ head_and_tail (limit_of limits number) (lines_in contents))
    (fit : (number : ℕ) → FitsInto64Bits (limit_of limits number)) where
  -- The rest of a log.
  abbrev pub left_of : ℕ → List (List ℕ)
  left_of number = head_and_tail (limit_of limits number) (lines_of_log number logs)

  shown_have : (events : List Event) (rest : Contents) → Have left_of rest → Have left_of (with_shown_all events rest)
  shown_have [] rest have = have
  shown_have (event ∷ events) rest have = shown_have events rest have

  pub trimmed_have : (gauges : List Gauge) (contents : Contents) → HaveLines logs contents → Have left_of (trim limits gauges contents)
  trimmed_have gauges Nothing have = tt
  trimmed_have gauges (Shown event rest) have =
      shown_have (kept gauges event) (trim limits (after_shown event gauges) rest) (trimmed_have (after_shown event gauges) rest have)
  trimmed_have gauges (Opened event number inside rest) have = (
    have.0,
    sym (lines_same (trim limits (gauge_of limits number ∷ gauges) inside)) ∙ keep number inside gauges (fit number)
        ∙ ap (head_and_tail (limit_of limits number)) (lines_same inside ∙ have.1),
    trimmed_have (gauge_of limits number ∷ gauges) inside have.2,
    trimmed_have gauges rest have.3,
  )

  -- The head and the tail of the log at each position are left.
  pub lines_left : (status : ℕ → Option ℤ) (contents : Contents) → HaveLines logs contents → KeepCount limits contents → (position : ℕ)
      → position < log_count contents
      → texts_of (lines_at position (positioned_lines None 0 (trim limits [] contents)))
      ≡ head_and_tail (limit_of limits (get_or (nodes_of logs status None 0 contents) position no_node).number)
      (texts_of (lines_at position (positioned_lines None 0 contents)))
  lines_left status contents have count position below =
      let number = (get_or (nodes_of logs status None 0 contents) position no_node).number in
      let at : 0 + position ≡ position = omega arith in
      let back : position ≡ 0 + position = omega arith in
      ap (λ (n : ℕ). texts_at n None 0 (trim limits [] contents)) back
      ∙ opened_lines left_of logs status None None 0 (trim limits [] contents) (trimmed_have [] contents have) tt position
      (subst (λ (n : ℕ). position < n) (sym count) below)
      ∙ ap left_of (same_number limits logs status contents position)
      ∙ ap (head_and_tail (limit_of limits number))
      (sym (opened_lines (λ (n : ℕ). lines_of_log n logs) logs status None None 0 contents have tt position below)
      ∙ ap (λ (n : ℕ). texts_at n None 0 contents) at)

-- ---- limits fit into 64 bits

abbrev pub IsSmall : ℕ → Type 0
IsSmall number = number < 2 ^ 64

abbrev pub AreSmall : List Node → Type 0
AreSmall nodes = AllByRecursion (λ (node : Node). IsSmall node.bytes) nodes

both_small : (nodes others : List Node) → AreSmall nodes → AreSmall others → AreSmall (nodes ++ others)
both_small [] others first last = last
both_small (node ∷ nodes) others first last = (first.0, both_small nodes others first.1 last)

pub nodes_small : (logs : List Log) (status : ℕ → Option ℤ) (parent : Option ℕ) (position : ℕ) (contents : Contents)
    → AreSmall (nodes_of logs status parent position contents)
nodes_small logs status parent position Nothing = tt
nodes_small logs status parent position (Shown event rest) = nodes_small logs status parent position rest
nodes_small logs status parent position (Opened event number inside rest) = (
  omega arith,
  both_small (nodes_of logs status (Some position) (suc position) inside)
      (nodes_of logs status parent (suc position + log_count inside) rest) (nodes_small logs status (Some position) (suc position) inside)
      (nodes_small logs status parent (suc position + log_count inside) rest),
)

pub bytes_small : (times : List RunTimes) (nodes : List Node) → AreSmall nodes → (position : ℕ)
    → IsSmall (node_at (map (with_times times) nodes) position).bytes
bytes_small times [] small position = omega arith
bytes_small times (node ∷ nodes) small zero = small.0
bytes_small times (node ∷ nodes) small (suc position) = bytes_small times nodes small.1 position

no_limit_fits : FitsInto64Bits no_limit
no_limit_fits = record { head = omega arith; tail = omega arith }

module _ (build : Build) (small : (position : ℕ) → IsSmall (node_at build.nodes position).bytes) (cap : ℕ) (low : IsSmall cap) where
  limit_fits : (bytes : ℕ) → IsSmall bytes → FitsInto64Bits (limit_at cap bytes)
  limit_fits bytes few = record { head = omega (arith, low); tail = omega (arith, few) }

  position_fits : (position : ℕ) → FitsInto64Bits (position_limit build.articles build.nodes cap position)
  position_fits position = by (nat_lt cap (node_at build.nodes position).bytes && not (is_moved build position))
    where
      by : (cut : Bool) → FitsInto64Bits (if cut then limit_at cap (node_at build.nodes position).bytes else no_limit)
      by true = limit_fits (node_at build.nodes position).bytes (small position)
      by false = no_limit_fits

  if_fits : (position : Option ℕ) → FitsInto64Bits (limit_if build.articles build.nodes cap position)
  if_fits None = no_limit_fits
  if_fits (Some position) = position_fits position

  each_fits : (first count number : ℕ) → FitsInto64Bits (limit_of (limits_from build cap first count) number)
  each_fits first zero number = no_limit_fits
  each_fits first (suc count) zero = if_fits (position_of build.nodes first)
  each_fits first (suc count) (suc number) = each_fits (first + 1) count number

pub limits_fit : (logs : List Log) (options : Options) (nodes : List Node) (budget : ℕ) → budget < 2 ^ 64
    → ((position : ℕ) → IsSmall (node_at nodes position).bytes) → (number : ℕ)
    → FitsInto64Bits (limit_of (tree_limits logs nodes budget) number)
limits_fit logs options nodes budget small bytes number = by (budget == 0 || fit_in None budget nodes)
  where
    by : (none : Bool) → FitsInto64Bits
        (limit_of (limits_of (articles nodes) nodes
        (if none then None else Some (max min_cap (highest_cap budget nodes))) (length logs)) number)
    by true = no_limit_fits
    by false =
        let within = last_within (fits budget nodes) budget in
        each_fits (record { logs = logs; options = options; nodes = nodes; articles = articles nodes }) bytes
        (max min_cap (highest_cap budget nodes)) (omega (arith, small, within)) 0 (length logs) number

-- ---- nothing is cut if everything fits

pub fitting_limits : (logs : List Log) (options : Options) (nodes : List Node) (budget : ℕ) → bytes_shown None nodes ≤ budget
    → tree_limits logs nodes budget ≡ []
fitting_limits logs options nodes budget fit = by (budget == 0) (fit_in None budget nodes) (le-leb (bytes_shown None nodes) budget fit)
  where
    by : (zero fits : Bool) → fits ≡ true
        → limits_of (articles nodes) nodes
        (if zero || fits then None else Some (max min_cap (highest_cap budget nodes))) (length logs) ≡ []
    by true fits is = refl
    by false true is = refl
    by false false is = absurd (cc)
