-- For every command without subcommands and every list of arguments there is at most one kind of parse error.
use Rattle.std.proofs.Common.{◌+◌, ◌≡◌, ◌≤◌, ◌==◌, ◌&&◌, ◌||◌, ℕ, zero, suc, Bool, true, false, not, List, [], ◌∷◌, length, drop, min, is_some, Option, Some, None, arith, subst, sym, encode_utf8, slice_get}
use Rattle.std.specs.Prelude.{if◌then◌else◌, nat_lt}
use Rattle.std.specs.Option.{option_map_or}
use Rattle.std.specs.Str.{bytes_eq, chars}
use Rattle.clap.specs.Facts.{parser_of_value, unwrap_or_range}
use Rattle.clap.specs.Faults.{action_fault, built_fault, bundle_step_fault, count_fault, default_fault, defaults_fault, entered_fault, fault_of, flag_word_fault, flags_fault, level_fault, long_fault, option_fault, other_fault, react_fault, set_fault, settle_fault, short_fault, step_fault, stray_fault, turn_fault, use_fault, values_fault, walk_fault, word_fault}
use Rattle.clap.specs.Kinds.{Kinds, check_kinds, or_else, range_kinds, request_kinds, value_kinds, values_kinds}
use Rattle.clap.specs.Matches.{count_text}
use Rattle.clap.specs.Lexer.{long_of, short_of}
use Rattle.clap.specs.Simple.{App, Shape, argument_words, built, entered}
use Rattle.clap.specs.ValueTests.{accepts}
use Rattle.clap.specs.Values.{refused_kind}
use Rattle.clap.specs.Walk.{Held, Row, Rule, Step, Text, Waiting, Walk, action_of, arg_by_id, arg_by_index, arg_by_long, arg_by_short, attached_value, count_of, has_row, idle, is_empty, is_pending, most_values, next, nothing_held, option, positional, reacted, settled, subcommand, subcommand_met, takes_several, takes_values, trailing, value, values_or_missing, walk, walk_from, walked, with_default, word_met}
use Rattle.clap.specs.declared.builder.action.ArgAction.{ArgAction}
use Rattle.clap.specs.declared.builder.action.ArgAction.TheVariants as action
use Rattle.clap.specs.declared.builder.value_parser.ValueParser.{ValueParser}
use Rattle.clap.specs.declared.error.kind.ErrorKind.TheVariants as kind

record IsOne (kinds : Kinds) : Type 0 where
  one : length kinds ≤ 1

-- ---- combinations of lists with at most one kind

or_else-one : (first second : Kinds) → IsOne first → IsOne second → IsOne (or_else first second)
or_else-one [] second a b = b
or_else-one (k ∷ ks) second a b = a

if-one : (test : Bool) (first second : Kinds) → IsOne first → IsOne second → IsOne (if test then first else second)
if-one true first second a b = a
if-one false first second a b = b

option-one : {X : Type 0} (f : X → Kinds) (o : Option X) (none : Kinds) → ((x : X) → IsOne (f x)) → IsOne none
    → IsOne (option_map_or f o none)
option-one f None none each last = last
option-one f (Some x) none each last = each x

none-one : IsOne []
none-one = record { one = omega arith }

single-one : (k : _) → IsOne (k ∷ [])
single-one k = record { one = omega arith }

-- ---- kinds

value_kinds-one : (ignore_case : Bool) (parser : ValueParser) (text : Text) → IsOne (value_kinds ignore_case parser text)
value_kinds-one ignore_case parser text =
    if-one (accepts ignore_case parser text) [] (refused_kind parser ∷ []) none-one (single-one (refused_kind parser))

values_kinds-one : (ignore_case : Bool) (parser : ValueParser) (texts : List Text) → IsOne (values_kinds ignore_case parser texts)
values_kinds-one ignore_case parser [] = none-one
values_kinds-one ignore_case parser (v ∷ vs) =
    or_else-one _ _ (value_kinds-one ignore_case parser v) (values_kinds-one ignore_case parser vs)

range_kinds-one : (low high n : ℕ) → IsOne (range_kinds low high n)
range_kinds-one low high n =
    if-one (nat_lt 0 low && n == 0) _ _ (single-one kind.InvalidValue)
    (if-one (low == high) _ _ (if-one (low == n) _ _ none-one (single-one kind.WrongNumberOfValues))
    (if-one (nat_lt n low) _ _ (single-one kind.TooFewValues) (if-one (nat_lt high n) _ _ (single-one kind.TooManyValues) none-one)))

request_kinds-one : (a : ArgAction) → IsOne (request_kinds a)
request_kinds-one action.Set = none-one
request_kinds-one action.Append = none-one
request_kinds-one action.SetTrue = none-one
request_kinds-one action.SetFalse = none-one
request_kinds-one action.Count = none-one
request_kinds-one action.Help = single-one kind.DisplayHelp
request_kinds-one action.HelpShort = single-one kind.DisplayHelp
request_kinds-one action.HelpLong = single-one kind.DisplayHelp
request_kinds-one action.Version = single-one kind.DisplayVersion

check_kinds-one : (a b c : Bool) → IsOne (check_kinds a b c)
check_kinds-one a b c =
    if-one a _ _ (single-one kind.DisplayHelpOnMissingArgumentOrSubcommand)
    (if-one b _ _ (single-one kind.MissingSubcommand) (if-one c _ _ (single-one kind.MissingRequiredArgument) none-one))

-- ---- one use of an argument

values_fault-one : (a : Rule) (values : List Text) → IsOne (values_fault a values)
values_fault-one a values = values_kinds-one a.ignore_case (parser_of_value a.parser) values

count_fault-one : (a : Rule) (values : List Text) (rows : List Row) → IsOne (count_fault a values rows)
count_fault-one a [] rows = value_kinds-one a.ignore_case (parser_of_value a.parser) (count_text (min (count_of a.id rows + 1) 255))
count_fault-one a (v ∷ vs) rows = values_fault-one a (v ∷ vs)

set_fault-one : (again : Bool) (a : Rule) (values : List Text) (rows : List Row) → IsOne (set_fault again a values rows)
set_fault-one again a values rows = or_else-one _ _
    (if-one (has_row a.id rows && not again) _ _ (single-one kind.ArgumentConflict) none-one) (values_fault-one a values)

action_fault-one : (x : ArgAction) (again : Bool) (a : Rule) (values : List Text) (rows : List Row)
    → IsOne (action_fault x again a values rows)
action_fault-one action.Set again a values rows = set_fault-one again a values rows
action_fault-one action.SetTrue again a values rows = set_fault-one again a values rows
action_fault-one action.SetFalse again a values rows = set_fault-one again a values rows
action_fault-one action.Append again a values rows = values_fault-one a values
action_fault-one action.Count again a values rows = count_fault-one a values rows
action_fault-one action.Help again a values rows = request_kinds-one action.Help
action_fault-one action.HelpShort again a values rows = request_kinds-one action.HelpShort
action_fault-one action.HelpLong again a values rows = request_kinds-one action.HelpLong
action_fault-one action.Version again a values rows = request_kinds-one action.Version

use_fault-one : (again : Bool) (a : Rule) (values : List Text) (rows : List Row) → IsOne (use_fault again a values rows)
use_fault-one again a values rows = or_else-one _ _
    (range_kinds-one (unwrap_or_range a.range).start_inclusive (most_values a) (length values))
    (action_fault-one (action_of a) again a (values_or_missing a values) rows)

-- ---- the walk

settle_fault-one : (c : List Rule) (again : Bool) (h : Held) → IsOne (settle_fault c again h)
settle_fault-one c again h =
    option-one _ h.pending [] (λ p. option-one _ (arg_by_id c p.0) [] (λ a. use_fault-one again a p.1 h.rows) none-one) none-one

react_fault-one : (c : List Rule) (again : Bool) (a : Rule) (values : List Text) (h : Held) → IsOne (react_fault c again a values h)
react_fault-one c again a values h = or_else-one _ _ (settle_fault-one c again h) (use_fault-one again a values (settled c h).rows)

option_fault-one : (c : List Rule) (again : Bool) (a : Rule) (v : Option Text) (h : Held) → IsOne (option_fault c again a v h)
option_fault-one c again a (Some v) h = react_fault-one c again a (v ∷ []) h
option_fault-one c again a None h = settle_fault-one c again h

long_fault-one : (c : List Rule) (again : Bool) (o : Option Rule) (v : Option Text) (h : Held) → IsOne (long_fault c again o v h)
long_fault-one c again None v h = single-one kind.UnknownArgument
long_fault-one c again (Some a) v h =
    if-one (takes_values a) _ _ (option_fault-one c again a v h)
    (if-one (is_some v) _ _ (single-one kind.TooManyValues) (react_fault-one c again a [] h))

short_fault-one : (c : List Rule) (again : Bool) (o : Option Rule) (rest : Text) (h : Held) (more : Held → Kinds)
    → ((k : Held) → IsOne (more k)) → IsOne (short_fault c again o rest h more)
short_fault-one c again None rest h more each = single-one kind.UnknownArgument
short_fault-one c again (Some a) rest h more each =
    if-one (takes_values a) _ _ (option_fault-one c again a (attached_value rest) h)
    (or_else-one _ _ (react_fault-one c again a [] h) (each (reacted c a [] h)))

bundle_step_fault-one : (c : List Rule) (again : Bool) (o : Option ℕ) (flags : Text) (skip : ℕ) (h : Held) (more : Text → ℕ → Held → Kinds)
    → ((t : Text) (s : ℕ) (k : Held) → IsOne (more t s k)) → IsOne (bundle_step_fault c again o flags skip h more)
bundle_step_fault-one c again None flags skip h more each = none-one
bundle_step_fault-one c again (Some x) flags zero h more each =
    let rest = drop (length (encode_utf8 x)) flags in
    short_fault-one c again (arg_by_short c x) rest h (more rest 0) (each rest 0)
bundle_step_fault-one c again (Some x) flags (suc skip) h more each = each (drop (length (encode_utf8 x)) flags) skip h

flags_fault-one : (c : List Rule) (again : Bool) (k : ℕ) (flags : Text) (skip : ℕ) (h : Held) → IsOne (flags_fault c again k flags skip h)
unfolding flags_fault
flags_fault-one c again zero flags skip h = none-one
flags_fault-one c again (suc k) flags skip h =
    bundle_step_fault-one c again (slice_get (chars flags) 0) flags skip h (flags_fault c again k) (flags_fault-one c again k)

flag_word_fault-one : (c : List Rule) (again : Bool) (o : Option (Text × Option Text)) (word : Text) (h : Held)
    → IsOne (flag_word_fault c again o word h)
flag_word_fault-one c again (Some p) word h = long_fault-one c again (arg_by_long c p.0) p.1 h
flag_word_fault-one c again None word h =
    option-one _ (short_of word) [] (λ flags. flags_fault-one c again (length flags) flags h.skip (record h { skip = 0 })) none-one

-- This is for a command without subcommands.
word_fault-one : (s : Shape) (is_trailing : Bool) (waiting : Waiting) (word : Text) (h : Held)
    → IsOne (word_fault s [] is_trailing waiting word h)
word_fault-one s is_trailing waiting word h = if-one is_trailing _ _ none-one (no_name waiting)
  where
    plain_word : IsOne (other_fault s None word h)
    plain_word = if-one (bytes_eq word (45 ∷ 45 ∷ [])) _ _ none-one (flag_word_fault-one s.rules s.args_override_self (long_of word) word h)

    no_name : (w : Waiting) → IsOne (other_fault s (subcommand_met [] w word) word h)
    no_name idle = plain_word
    no_name (option id) = plain_word
    no_name positional = plain_word

step_fault-one : (s : Shape) (position : ℕ) (h : Held) (step : Step) → s.is_leaf ≡ true → IsOne (step_fault s position h step)
step_fault-one s position h (next w) leaf = none-one
step_fault-one s position h (trailing p) leaf = none-one
step_fault-one s position h (subcommand name) leaf = none-one
step_fault-one s position h value leaf =
    option-one _ (arg_by_index s.rules position) (stray_fault s)
    (λ a. if-one (is_pending a h.pending && takes_several a) _ _ none-one (settle_fault-one s.rules s.args_override_self h))
    (rw leaf (single-one kind.UnknownArgument))

turn_fault-one : (s : Shape) (w : Walk) (word : Text) → s.is_leaf ≡ true → IsOne (turn_fault s [] w word)
turn_fault-one s w word leaf =
    let met = word_met s.rules [] w.is_trailing w.waiting w.position word w.held in
    if-one (is_some w.stopped) _ _ none-one
    (or_else-one _ _ (word_fault-one s w.is_trailing w.waiting word w.held) (step_fault-one s w.position met.0 met.1 leaf))

walk_fault-one : (s : Shape) (w : Walk) (words : List Text) → s.is_leaf ≡ true → IsOne (walk_fault s [] w words)
unfolding walk_fault
walk_fault-one s w [] leaf = none-one
walk_fault-one s w (word ∷ rest) leaf =
    or_else-one _ _ (turn_fault-one s w word leaf) (walk_fault-one s (walked s.rules [] w word) rest leaf)

-- ---- after the walk

default_fault-one : (rows : List Row) (a : Rule) → IsOne (default_fault rows a)
default_fault-one rows a = if-one (has_row a.id rows || is_empty a.defaults) _ _ none-one
    (or_else-one _ _ (request_kinds-one (action_of a)) (values_fault-one a a.defaults))

defaults_fault-one : (rows : List Row) (rules : List Rule) → IsOne (defaults_fault rows rules)
unfolding defaults_fault
defaults_fault-one rows [] = none-one
defaults_fault-one rows (a ∷ rest) = or_else-one _ _ (default_fault-one rows a) (defaults_fault-one (with_default rows a) rest)

level_fault-one : (s : Shape) (words : List Text) (has_subcommand : Bool) (below : Kinds) → s.is_leaf ≡ true → IsOne below
    → IsOne (level_fault s [] nothing_held words has_subcommand below)
level_fault-one s words has_subcommand below leaf one =
    let end = (walk s.rules [] nothing_held words).held in
    or_else-one _ _ (walk_fault-one s (walk_from nothing_held) words leaf)
    (or_else-one _ _ one (or_else-one _ _ (settle_fault-one s.rules s.args_override_self end)
    (or_else-one _ _ (defaults_fault-one (settled s.rules end).rows s.rules) (check_kinds-one _ _ _))))

leaf_fault-one : (top : Shape) (words : List Text) → top.is_leaf ≡ true
    → IsOne (built_fault (record { top = top; subs = [] }) nothing_held words)
leaf_fault-one top words leaf =
    let app : App = record { top = top; subs = [] } in
    let stop = (walk top.rules [] nothing_held words).stopped in
    level_fault-one top words (is_some (entered app stop)) (entered_fault app stop) leaf (option-one _ stop [] (λ p. none-one) none-one)

-- A command without subcommands.
pub one_kind_of : (app : App) → built app ≡ record { top = (built app).top; subs = [] } → (built app).top.is_leaf ≡ true
    → (words : List Text) → length (fault_of app words) ≤ 1
one_kind_of app no_subcommands leaf words =
    let of_words = argument_words app words in
    (subst (λ (one : App). IsOne (built_fault one nothing_held of_words)) (sym no_subcommands)
    (leaf_fault-one (built app).top of_words leaf)).one
