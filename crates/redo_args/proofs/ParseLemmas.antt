-- Parsing the arguments of a command without subcommands: `clap` finds values that the rules of the command allow, or at most one
-- kind of error.
use Rattle.std.proofs.Common.{◌≡◌, ◌⊎◌, ◌∙◌, ◌<◌, ◌≤◌, ◌&&◌, ℕ, zero, suc, Bool, true, false, not, List, [], ◌∷◌, length, map, is_some, Option, Some, None, Ok, Err, Result, refl, sym, subst, ap, inl, inr, arith, codes}
use Rattle.std.specs.Prelude.{if◌then◌else◌, IfErr, IfOk, IfSome, MatchResult, IsErrAnd, option_map, pos, slice_get, unwrap_or}
use Rattle.std.specs.Borrow.{Bor}
use Rattle.std.specs.List.{All, AllByRecursion, list_all, slice_index_or}
use Rattle.std.specs.Str.{bytes_eq}
use Rattle.std.proofs.lemmas.Bool.{eqb-true}
use Rattle.std.proofs.lemmas.List.{length-map}
use Rattle.std.proofs.lemmas.Result.{IfOk-weaker}
use Rattle.std.proofs.lemmas.Slice.Eq.{bytes_eq-Decides}
use Rattle.clap.specs.Built.{BuildsOrBreaks, BuildsTo, IsPlain, IsPlainArg, is_broken}
use Rattle.clap.specs.Facts.{Entry, EntryPasses, HasReading, IsParsed, PassesArg, ValuesPass, args_of, groups_of, parser_of_value, unwrap_or_range}
use Rattle.clap.specs.Kinds.{FailsBy, HasKind, IsAmong, Kinds}
use Rattle.clap.specs.Matches.{found_of, has_subcommand, matched_of, one_text, raw_values}
use Rattle.clap.specs.Faults.{fault_of, is_simple_and_free}
use Rattle.clap.specs.Simple.{App, HasMatchesOf, app_of, built, has_simple_rules, is_buildable, is_simple, matches_of}
use Rattle.clap.specs.Values.{Accepts, kind_of, read_as, reading_of}
use Rattle.clap.specs.Walk.{Rule, Text, is_empty, one_of, rows_of, rule_of}
use Rattle.clap.specs.declared.builder.action.ArgAction.TheVariants.{Append, Count, Set}
use Rattle.clap.specs.declared.builder.arg.Arg.{Arg}
use Rattle.clap.specs.declared.builder.command.Command.{Command}
use Rattle.clap.specs.declared.builder.command.Command.TheViews.{out-Command}
use Rattle.clap.specs.declared.builder.value_parser.Reading.{Reading}
use Rattle.clap.specs.declared.builder.value_parser.ValueParser.{ValueParser}
use Rattle.clap.specs.declared.builder.value_parser.ValueParser.TheVariants as vp
use Rattle.clap.specs.declared.error.Error.{Error}
use Rattle.clap.specs.declared.error.kind.ErrorKind.TheVariants as kind
use Rattle.clap.specs.declared.parser.matches.ArgMatches.{ArgMatches}
use Rattle.clap.specs.declared.parser.matches.Found.{Found}
use Rattle.clap.specs.declared.parser.matches.MatchedArg.{MatchedArg}
use Rattle.clap.proofs.CallerLemmas.{entry_by_id}
use Rattle.clap.proofs.WalkLemmas.{one_text-rows, raw_values-rows}
use Rattle.redo_args.specs.Job.{targets_or_all}
use Rattle.redo_args.specs.Private.Matches.{IsFlag, IsFlagText, IsNumber, IsNumberTo}
use Rattle.redo_args.specs.Words.{fault_of_first, fault_of_kind}
use Rattle.redo_args.proofs.ErrorLemmas.{map_err_if_ok}
use Rattle.redo_args.specs.declared.words_fault.WordsFault.{WordsFault}
use Rattle.redo_args.specs.declared.words_fault.WordsFault.TheVariants.{OutOfMemory}

-- ---- arguments by their rules

both : (a b : Bool) → (a && b) ≡ true → (a ≡ true) × (b ≡ true)
both true b is = (refl, is)
both false b is = cc

not_true : (a : Bool) → not a ≡ true → a ≡ false
not_true true is = cc
not_true false is = refl

none_in : {X : Type 0} (xs : List X) → is_empty xs ≡ true → xs ≡ []
none_in [] is = refl
none_in (x ∷ xs) is =
    let bad = eqb-true (length (x ∷ xs)) 0 is in
    absurd (omega arith)

is_none : {X : Type 0} (o : Option X) → is_some o ≡ false → o ≡ None
is_none None is = refl
is_none (Some x) is = cc

all_args : (P : Rule → Type 0) (xs : List Arg) → AllByRecursion P (map rule_of xs) → All (λ a. P (rule_of a)) xs
all_args P [] each k d lt = absurd (omega arith)
all_args P (x ∷ xs) each zero d lt = each.0
all_args P (x ∷ xs) each (suc k) d lt = all_args P xs each.1 k d (omega arith)

arg_at : (P : Rule → Type 0) (xs : List Arg) → AllByRecursion P (map rule_of xs) → (k : ℕ) (a : Arg) → k < length xs
    → slice_index_or xs k a ≡ a → P (rule_of a)
arg_at P xs each k a lt at = subst (λ (x : Arg). P (rule_of x)) at (all_args P xs each k a lt)

pub rule_at : (xs : List Arg) (k : ℕ) (d : Arg) (r : Rule) → k < length xs
    → rule_of (slice_index_or xs k d) ≡ slice_index_or (map rule_of xs) k r
rule_at [] k d r lt = absurd (omega arith)
rule_at (x ∷ xs) zero d r lt = refl
rule_at (x ∷ xs) (suc k) d r lt = rule_at xs k d r (omega arith)

pub some_arg : (xs : List Arg) → 0 < length xs → Arg
some_arg [] lt = absurd (omega arith)
some_arg (x ∷ xs) lt = x

abbrev IsPlainRule : Rule → Type 0
IsPlainRule rule = (rule.is_simple ≡ true) × (rule.is_free ≡ true)

plain_arg : (a : Arg) → IsPlainRule (rule_of a) → IsPlainArg a
plain_arg a is =
    let simple = both _ _ is.0 in
    let more = both _ _ (both _ _ simple.1).1 in
    let free = both _ _ is.1 in (
      not_true a.exclusive free.0,
      none_in a.conflicts.items (both _ _ free.1).0,
      none_in a.overrides.items simple.0,
      none_in a.groups.items more.0,
    )

no_delimiter : (a : Arg) → (rule_of a).is_simple ≡ true → is_some a.val_delim ≡ false
no_delimiter a is =
    let first = both (is_empty a.overrides.items) _ is in
    let second = both (is_empty a.default_vals_ifs.items) _ first.1 in
    let third = both (is_empty a.groups.items) _ second.1 in
    not_true (is_some a.val_delim) (both (not (is_some a.val_delim)) _ third.1).0

-- The command has no groups and no global arguments.
plain_settings : (c : Command) → (app_of c).top.is_plain ≡ true → (groups_of c ≡ []) × ((out-Command c).has_globals ≡ false)
plain_settings c is =
    let first = both _ _ is in
    let third = both _ _ (both _ _ first.1).1 in
    (none_in (groups_of c) first.0, not_true (out-Command c).has_globals third.0)

-- ---- entries

-- Whether `rule` has this parser, if it has this id.
abbrev IsParsedBy : Text → ValueParser → Rule → Type 0
IsParsedBy id parser rule = bytes_eq rule.id id ≡ true → parser_of_value rule.parser ≡ parser

-- Whether an argument takes at least one value each time it is given, and doesn't count how often.
abbrev pub IsWordsRule : Rule → Type 0
IsWordsRule rule = (unwrap_or rule.action Set ≡ Append) × ((unwrap_or_range rule.range).start_inclusive ≡ 1) × (rule.is_simple ≡ true)

abbrev TakesWords : Text → Rule → Type 0
TakesWords id rule = bytes_eq rule.id id ≡ true → IsWordsRule rule

-- Whether `text` was read from a text that `parser` accepts.
abbrev pub IsAccepted : ValueParser → Text → Type 0
IsAccepted parser text = (written : Text) × (text ≡ read_as (reading_of parser) written) × (ignore_case : Bool)
    × Accepts ignore_case parser written

module _ (c : Command) (id : Text) (no_groups : groups_of c ≡ []) (named : id ≡ [] → ⊥) where
  own : (e : Entry) → e.0.now ≡ id → EntryPasses c e → e.1.is_group ≡ true → ⊥
  own e key pass group = elim (pass.3 group) [
    | inl empty ↦ named (sym key ∙ empty)
    | inr some ↦
        let bad : 0 < 0 = rw no_groups at some in
        omega arith
  ]

  first_accepted : (parser : ValueParser) → AllByRecursion (IsParsedBy id parser) (map rule_of (args_of c)) → (how : Reading)
      → how ≡ reading_of parser
      → (vs : List (Bor Text)) → All (λ v. PassesArg c id v.now) vs
      → IfSome (option_map (λ v. read_as how v.now) (slice_get vs 0)) (IsAccepted parser)
  first_accepted parser rules how is [] all = tt
  first_accepted parser rules how is (v ∷ vs) all =
      let arg = all 0 v (omega arith) in
      let same : parser_of_value arg.1.value_parser ≡ parser =
      arg_at (IsParsedBy id parser) (args_of c) rules arg.0 arg.1 arg.2 arg.3 arg.4.0 in (
        v.now,
        ap (λ (h : Reading). read_as h v.now) is,
        arg.1.ignore_case,
        subst
            (λ (p : ValueParser). Accepts arg.1.ignore_case p v.now) same arg.4.1,
      )

  entry_accepted : (parser : ValueParser) → AllByRecursion (IsParsedBy id parser) (map rule_of (args_of c)) → (e : Entry) → e.0.now ≡ id
      → EntryPasses c e
      → IfSome (option_map (λ v. read_as e.1.reading v.now) (slice_get e.1.vals.items 0)) (IsAccepted parser)
  entry_accepted parser rules e key pass =
      let values : All (λ v. PassesArg c id v.now) e.1.vals.items =
      elim pass.0 [
        | inl group ↦ absurd (own e key pass group)
        | inr all ↦ subst
            (λ (w : Text). All (λ v. PassesArg c w v.now) e.1.vals.items) key all
      ] in
      let arg : HasReading c e.0.now e.1.reading = elim pass.4 [ inl group ↦ absurd (own e key pass group) | inr any ↦ any ] in
      let same : parser_of_value arg.1.value_parser ≡ parser =
      arg_at (IsParsedBy id parser) (args_of c) rules arg.0 arg.1 arg.2 arg.3 (rw key at arg.4.0) in
      first_accepted parser rules e.1.reading (sym arg.4.1 ∙ ap reading_of same) e.1.vals.items values

  -- The text found for the id was accepted by its parser.
  text_accepted : (parser : ValueParser) → AllByRecursion (IsParsedBy id parser) (map rule_of (args_of c)) → (f : Found) → ValuesPass c f
      → IfSome (one_text f id) (IsAccepted parser)
  text_accepted parser rules f values = go (matched_of f id) refl
    where
      go : (o : Option MatchedArg) → matched_of f id ≡ o → IfSome (one_text f id) (IsAccepted parser)
      go None at = rw at tt
      go (Some x) at =
          let e = entry_by_id (EntryPasses c) f.entries.items id x values at in
          let is = entry_accepted parser rules e.0 ((bytes_eq-Decides e.0.0.now id).0 e.2) e.3 in
          rw (at, ← e.1) is

  entry_filled : AllByRecursion (TakesWords id) (map rule_of (args_of c)) → (e : Entry) → e.0.now ≡ id → EntryPasses c e
      → 0 < length e.1.vals.items
  entry_filled rules e key pass = elim pass.1 [
    | inl group ↦ absurd (own e key pass group.0)
    | inr (inl some) ↦ some
    | inr (inr (inl counted)) ↦
        let arg = counted.1 in
        let rule = arg_at (TakesWords id) (args_of c) rules arg.0 arg.1 arg.2 arg.3 (rw key at arg.4.0) in
        let bad : Append ≡ Count = sym rule.0 ∙ arg.4.1 in
        cc
    | inr (inr (inr arg)) ↦
        let rule = arg_at (TakesWords id) (args_of c) rules arg.0 arg.1 arg.2 arg.3 (rw key at arg.4.0) in
        elim arg.4.1 [
          | inl none ↦
              let bad = sym rule.1 ∙ none in
              absurd (omega arith)
          | inr delimiter ↦
              let bad : false ≡ true = sym (no_delimiter arg.1 rule.2) ∙ delimiter in
              cc
        ]
  ]

  values_filled : AllByRecursion (TakesWords id) (map rule_of (args_of c)) → (f : Found) → ValuesPass c f → is_some (matched_of f id) ≡ true
      → 0 < length (unwrap_or (option_map raw_values (matched_of f id)) [])
  values_filled rules f values has = go (matched_of f id) refl
    where
      go : (o : Option MatchedArg) → matched_of f id ≡ o → 0 < length (unwrap_or (option_map raw_values (matched_of f id)) [])
      go None at =
          let bad : false ≡ true = rw at at has in
          cc
      go (Some x) at =
          let e = entry_by_id (EntryPasses c) f.entries.items id x values at in
          let some : 0 < length x.vals.items = rw e.1 at (entry_filled rules e.0 ((bytes_eq-Decides e.0.0.now id).0 e.2) e.3) in
          rw (at, length-map x.vals.items (λ (v : Bor Text). v.now)) some

-- ---- the rules of a command, before and after it is built

-- The rules with an id.
abbrev pub with_id : Text → List Rule → List Rule
with_id id [] = []
with_id id (rule ∷ rules) = if bytes_eq rule.id id then rule ∷ with_id id rules else with_id id rules

each_with_id : (P : Rule → Type 0) (id : Text) (rules : List Rule) → AllByRecursion P (with_id id rules)
    → AllByRecursion (λ rule. bytes_eq rule.id id ≡ true → P rule) rules
each_with_id P id [] all = tt
each_with_id P id (rule ∷ rest) all = go (bytes_eq rule.id id) refl all (each_with_id P id rest)
  where
    go : (is : Bool) → bytes_eq rule.id id ≡ is → AllByRecursion P (if is then rule ∷ with_id id rest else with_id id rest)
        → (AllByRecursion P (with_id id rest) → AllByRecursion (λ rule. bytes_eq rule.id id ≡ true → P rule) rest)
        → (bytes_eq rule.id id ≡ true → P rule) × AllByRecursion (λ rule. bytes_eq rule.id id ≡ true → P rule) rest
    go true at all more = (λ _. all.0, more all.1)
    go false at all more = (
      λ yes.
          let bad : false ≡ true = sym at ∙ yes in
          cc,
      more all,
    )

-- Whether `P` holds of the rules with an id, before and after the command is built.
abbrev pub HoldsOf : App → Text → (Rule → Type 0) → Type 0
HoldsOf app id P = AllByRecursion P (with_id id app.top.rules) × AllByRecursion P (with_id id (built app).top.rules)

-- Whether the rules with an id have this parser. Where they are computed, `((refl, tt), (refl, tt))` proves it.
abbrev pub AreParsedBy : App → Text → ValueParser → Type 0
AreParsedBy app id parser = HoldsOf app id (λ rule. parser_of_value rule.parser ≡ parser)

-- A command without subcommands, groups and global arguments. Where it is computed, each field is `refl`.
pub record IsLeaf (app : App) : Type 0 where
  pub exact : is_simple_and_free app ≡ true
  pub free : list_all (λ rule. rule.is_free) app.top.rules ≡ true
  pub no_subcommands : built app ≡ record { top = (built app).top; subs = [] }
  pub leaf : (built app).top.is_leaf ≡ true

plain_rules : (rules : List Rule) → list_all (λ rule. rule.is_simple) rules ≡ true → list_all (λ rule. rule.is_free) rules ≡ true
    → AllByRecursion IsPlainRule rules
plain_rules [] simple free = tt
plain_rules (rule ∷ rest) simple free =
    let first = both rule.is_simple _ simple in
    let second = both rule.is_free _ free in
    ((first.0, second.0), plain_rules rest first.1 second.1)

pub simple_of : (app : App) → is_simple_and_free app ≡ true → is_simple app ≡ true
simple_of app exact = (both (is_simple app) _ exact).0

-- ---- a parse

-- Arguments that are given, or the default, are not empty.
some_words : (matched : Option MatchedArg) → (is_some matched ≡ true → 0 < length (unwrap_or (option_map raw_values matched) []))
    → 0 < length (unwrap_or (option_map raw_values matched) (codes "all" ∷ []))
some_words None filled = omega arith
some_words (Some one) filled = filled refl

pub weaker : {X : Type 0} (P Q : X → Type 0) (o : Option X) → ((x : X) → P x → Q x) → IfSome o P → IfSome o Q
weaker P Q None more is = tt
weaker P Q (Some x) more is = more x is

flag_text : (text : Text) → IsAccepted vp.Bool text → IsFlagText text
flag_text text (written, is, ignore_case, accepted) = go (bytes_eq written (codes "true")) refl
  where
    go : (b : Bool) → bytes_eq written (codes "true") ≡ b → IsFlagText text
    go true at = inl (is ∙ (bytes_eq-Decides written (codes "true")).0 at)
    go false at = inr (is ∙ (bytes_eq-Decides written (codes "false")).0 (rw at at accepted))

number_text : (max : ℕ) (text : Text) → IsAccepted (vp.Signed (pos 1) (pos max)) text → IsNumberTo max text
number_text max text (written, is, ignore_case, accepted) = (written, is, accepted)

-- Whether a command with the rules of `app` parsed arguments. `new` is the command after it.
abbrev pub WasParsed : App → ArgMatches → Type 0
WasParsed app m = (old : Command) × (new : Command) × (app_of old ≡ app) × BuildsTo old new
    × ((app_of new ≡ app_of old) ⊎ (is_buildable (app_of old) ≡ true → app_of new ≡ built (app_of old)))
    × ((out-Command new).has_globals ≡ false → IsParsed new (found_of m) (has_subcommand m))

-- The same, with a name for each part.
pub record IsParse (app : App) (m : ArgMatches) : Type 0 where
  pub old : Command
  pub new : Command
  pub begins : app_of old ≡ app
  pub builds : BuildsTo old new
  pub after : (app_of new ≡ app_of old) ⊎ (is_buildable (app_of old) ≡ true → app_of new ≡ built (app_of old))
  pub parsed : (out-Command new).has_globals ≡ false → IsParsed new (found_of m) (has_subcommand m)

pub is_parse : (app : App) (m : ArgMatches) → WasParsed app m → IsParse app m
is_parse app m (old, new, begins, builds, after, parsed) =
    record { old = old; new = new; begins = begins; builds = builds; after = after; parsed = parsed }

module _ (app : App) (leaf : IsLeaf app) (m : ArgMatches) (parse : IsParse app m) where
  simple_rules : (is_buildable app ≡ true) × (app.top.is_plain ≡ true) × (list_all (λ rule. rule.is_simple) app.top.rules ≡ true)
  simple_rules =
      let buildable = (both (is_buildable app) _ (simple_of app leaf.exact)).0 in
      let top = (both (has_simple_rules app.top) _ buildable).0 in
      let rules = both app.top.is_plain _ top in
      (buildable, rules.0, rules.1)

  pub old_rules : map rule_of (args_of parse.old) ≡ app.top.rules
  old_rules = ap (λ (a : App). a.top.rules) parse.begins

  holds : (P : Rule → Type 0) (id : Text) → HoldsOf app id P
      → AllByRecursion (λ rule. bytes_eq rule.id id ≡ true → P rule) (map rule_of (args_of parse.new))
  holds P id h =
      let All : List Rule → Type 0 = AllByRecursion (λ rule. bytes_eq rule.id id ≡ true → P rule) in
      elim parse.after [
        | inl same ↦ subst All (sym (ap (λ (a : App). a.top.rules) (same ∙ parse.begins))) (each_with_id P id app.top.rules h.0)
        | inr made ↦ subst All
            (sym (ap (λ (a : App). a.top.rules) (made (ap is_buildable parse.begins ∙ simple_rules.0) ∙ ap built parse.begins)))
            (each_with_id P id (built app).top.rules h.1)
      ]

  pub plain_command : (groups_of parse.old ≡ []) × ((out-Command parse.old).has_globals ≡ false)
  plain_command = plain_settings parse.old (ap (λ (a : App). a.top.is_plain) parse.begins ∙ simple_rules.1)

  pub plain : IsPlain parse.old
  plain = (
    λ k d lt. plain_arg (slice_index_or (args_of parse.old) k d)
        (all_args IsPlainRule (args_of parse.old)
        (subst (AllByRecursion IsPlainRule) (sym old_rules) (plain_rules app.top.rules simple_rules.2 leaf.free)) k d lt),
    plain_command.0,
  )

  values : ValuesPass parse.new (found_of m)
  values = (parse.parsed (parse.builds.globals ∙ plain_command.1)).values

  groups : groups_of parse.new ≡ []
  groups = (parse.builds.plain plain).1

  -- The text of an option was accepted by its parser.
  pub sound_text : (parser : ValueParser) (id : Text) → (id ≡ [] → ⊥) → AreParsedBy app id parser
      → IfSome (one_of id (rows_of (found_of m))) (IsAccepted parser)
  sound_text parser id named rules =
      subst (λ (o : Option Text). IfSome o (IsAccepted parser)) (one_text-rows (found_of m) id)
      (text_accepted parse.new id groups named parser (holds (λ rule. parser_of_value rule.parser ≡ parser) id rules) (found_of m) values)

  pub sound_flag : (id : Text) → (id ≡ [] → ⊥) → AreParsedBy app id vp.Bool → IsFlag id (rows_of (found_of m))
  sound_flag id named rules = weaker _ _ _ flag_text (sound_text vp.Bool id named rules)

  pub sound_number : (max : ℕ) (id : Text) → (id ≡ [] → ⊥) → AreParsedBy app id (vp.Signed (pos 1) (pos max))
      → IsNumber max id (rows_of (found_of m))
  sound_number max id named rules = weaker _ _ _ (number_text max) (sound_text _ id named rules)

  pub sound_words : (id : Text) → (id ≡ [] → ⊥) → HoldsOf app id IsWordsRule → is_some (matched_of (found_of m) id) ≡ true
      → 0 < length (unwrap_or (option_map raw_values (matched_of (found_of m) id)) [])
  sound_words id named rules has = values_filled parse.new id groups named (holds IsWordsRule id rules) (found_of m) values has

  -- A target is requested, by default `all`.
  pub sound_targets : HoldsOf app (codes "target") IsWordsRule → 0 < length (targets_or_all (rows_of (found_of m)))
  sound_targets rules =
      subst (λ (o : Option (List Text)). 0 < length (unwrap_or o (codes "all" ∷ []))) (raw_values-rows (found_of m) (codes "target"))
      (some_words (matched_of (found_of m) (codes "target")) (sound_words (codes "target") (λ e. cc) rules))

-- The command after a successful parse: unchanged or built.
app_after : (old new : Command) → BuildsOrBreaks old new → (is_broken new ≡ true → ⊥)
    → (app_of new ≡ app_of old) ⊎ (is_buildable (app_of old) ≡ true → app_of new ≡ built (app_of old))
app_after old new (inl broken) whole = absurd (whole broken)
app_after old new (inr builds) whole = builds.2

-- The fault as which an error of a parse is reported, if there is at most one kind.
fault_is : (kinds : Kinds) → length kinds ≤ 1 → (e : Error) → HasKind kinds e
    → (fault_of_kind (kind_of e) ≡ OutOfMemory) ⊎ (fault_of_first kinds ≡ Some (fault_of_kind (kind_of e)))
fault_is kinds one e (inl memory) = inl (ap fault_of_kind memory)
fault_is kinds one e (inr among) = inr (go kinds one among)
  where
    go : (kinds : Kinds) → length kinds ≤ 1 → IsAmong (kind_of e) kinds → fault_of_first kinds ≡ Some (fault_of_kind (kind_of e))
    go [] one none = absurd none
    go (k ∷ ks) one (inl is) = ap (λ x. Some (fault_of_kind x)) (sym is)
    go (k ∷ []) one (inr none) = absurd none
    go (k ∷ l ∷ ks) one (inr more) = absurd (omega arith)

-- What a successful parse returns was parsed by the command.
pub parsed_if_ok : (app : App) (answer : Result ArgMatches Error) (old new : Command) (More : ArgMatches → Type 0) → app_of old ≡ app
    → BuildsOrBreaks old new
    → (is_broken new ≡ true → IsErrAnd answer (λ e. kind_of e ≡ kind.OutOfMemory))
    → IfOk answer (λ m. BuildsTo old new × ((out-Command new).has_globals ≡ false → IsParsed new (found_of m) (has_subcommand m)) × More m)
    → IfOk answer (WasParsed app)
parsed_if_ok app (Ok m) old new More is after whole parsed = (old, new, is, parsed.0, app_after old new after whole, parsed.1)
parsed_if_ok app (Err e) old new More is after whole parsed = tt

-- An error of a parse is reported as the fault of the arguments.
module _ (kinds : Kinds) (answer : Result ArgMatches Error) where
  pub no_fault_if_ok : FailsBy kinds answer → IfOk answer (λ _. fault_of_first kinds ≡ None)
  no_fault_if_ok fails = go answer fails
    where
      go : (r : Result ArgMatches Error) → FailsBy kinds r → IfOk r (λ _. fault_of_first kinds ≡ None)
      go (Ok m) none = ap fault_of_first none
      go (Err e) among = tt

  module _ (one : length kinds ≤ 1) (Maps : Error → WordsFault → Type 0) (result : Result ArgMatches WordsFault)
      (mapped : MatchResult answer (λ m. result ≡ Ok m) (λ e. IsErrAnd result (Maps e))) where
    pub fault_if_err : ((e : Error) (fault : WordsFault) → Maps e fault → fault ≡ fault_of_kind (kind_of e)) → FailsBy kinds answer
        → IfErr result (λ fault. (fault ≡ OutOfMemory) ⊎ (fault_of_first kinds ≡ Some fault))
    fault_if_err gives fails = go answer result mapped fails
      where
        go : (a : Result ArgMatches Error) (r : Result ArgMatches WordsFault) → MatchResult a (λ m. r ≡ Ok m) (λ e. IsErrAnd r (Maps e))
            → FailsBy kinds a
            → IfErr r (λ fault. (fault ≡ OutOfMemory) ⊎ (fault_of_first kinds ≡ Some fault))
        go (Ok m) r is among = subst (λ x. IfErr x (λ fault. (fault ≡ OutOfMemory) ⊎ (fault_of_first kinds ≡ Some fault))) (sym is) tt
        go (Err e) (Ok m) is among = absurd is
        go (Err e) (Err f) is among = subst (λ fault. (fault ≡ OutOfMemory) ⊎ (fault_of_first kinds ≡ Some fault)) (sym (gives e f is))
            (fault_is kinds one e among)

-- The result of a parse, once its error is converted, by a command with the rules of `app`.
module _ (app : App) (exact : is_simple_and_free app ≡ true) (old : Command) (begins : app_of old ≡ app)
    (words : List Text)
    (answer : Result ArgMatches Error) (Maps : Error → WordsFault → Type 0) (result : Result ArgMatches WordsFault)
    (mapped : MatchResult answer (λ m. result ≡ Ok m) (λ e. IsErrAnd result (Maps e))) where
  pub converted_entries : (A B : ArgMatches → Type 0) → IfOk answer (λ m. A m × B m × HasMatchesOf (app_of old) words m)
      → IfOk result (λ m. rows_of (found_of m) ≡ matches_of app words)
  converted_entries A B found =
      map_err_if_ok answer Maps result mapped _ (IfOk-weaker answer _ (λ m. rows_of (found_of m) ≡ matches_of app words)
      (λ m has. (has.2 (ap is_simple begins ∙ simple_of app exact)).0 ∙ ap (λ (a : App). matches_of a words) begins) found)

  module _ (kinds : is_simple_and_free (app_of old) ≡ true → FailsBy (fault_of (app_of old) words) answer) where
    fails : FailsBy (fault_of app words) answer
    fails = subst (λ (a : App). FailsBy (fault_of a words) answer) begins (kinds (ap is_simple_and_free begins ∙ exact))

    pub converted_no_fault : IfOk result (λ _. fault_of_first (fault_of app words) ≡ None)
    converted_no_fault = map_err_if_ok answer Maps result mapped _ (no_fault_if_ok (fault_of app words) answer fails)

    pub converted_fault : length (fault_of app words) ≤ 1
        → ((e : Error) (fault : WordsFault) → Maps e fault → fault ≡ fault_of_kind (kind_of e))
        → IfErr result (λ fault. (fault ≡ OutOfMemory) ⊎ (fault_of_first (fault_of app words) ≡ Some fault))
    converted_fault one gives = fault_if_err (fault_of app words) answer one Maps result mapped gives fails
