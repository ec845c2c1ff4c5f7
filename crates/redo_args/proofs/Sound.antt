-- The rows of a parse are sound: each has values that its rule allows.
use Rattle.std.proofs.Common.{◌≡◌, ◌∙◌, ◌<◌, true, false, List, [], length, is_some, Option, refl, sym, subst, ap, arith, codes}
use Rattle.std.specs.Prelude.{unwrap_or}
use Rattle.std.specs.List.{slice_index_or}
use Rattle.std.proofs.lemmas.List.{length-map}
use Rattle.clap.specs.Built.{IsParsedFrom}
use Rattle.clap.specs.Facts.{args_of}
use Rattle.clap.specs.Matches.{found_of, matched_of}
use Rattle.clap.specs.Simple.{App}
use Rattle.clap.specs.Walk.{Rule, Text, rows_of, rule_of}
use Rattle.clap.specs.declared.builder.command.Command.TheViews.{out-Command}
use Rattle.clap.specs.declared.parser.matches.ArgMatches.{ArgMatches}
use Rattle.clap.proofs.CallerLemmas.{present_has_entry, required_present}
use Rattle.clap.proofs.WalkLemmas.{raw_values-rows}
use Rattle.redo_args.specs.CommandLine.{redo_log, words_rule}
use Rattle.redo_args.specs.Private.Matches.{AreSound}
use Rattle.redo_args.proofs.ParseLemmas.{IsLeaf, WasParsed, is_parse, old_rules, plain, plain_command, rule_at, some_arg, sound_flag, sound_number, sound_words}

pub leaf : IsLeaf redo_log
unfolding redo_log
leaf = record { exact = refl; free = refl; no_subcommands = refl; leaf = refl }

-- The command has nine arguments.
settings : (redo_log.top.subcommand_negates_reqs ≡ false) × (length redo_log.top.rules ≡ 9)
unfolding redo_log
settings = (refl, refl)

last_rule : (r : Rule) → slice_index_or redo_log.top.rules 8 r ≡ words_rule (codes "target")
unfolding redo_log
last_rule r = refl

-- The rows of a parse by the complete command are sound.
pub sound : (m : ArgMatches) → WasParsed redo_log m → AreSound (rows_of (found_of m))
unfolding redo_log
sound m was_parsed =
    let parse = is_parse redo_log m was_parsed in
    let args = args_of parse.old in
    let found = found_of m in
    let rules = old_rules redo_log leaf m parse in
    let negates : (out-Command parse.old).subcommand_negates_reqs ≡ false =
    ap (λ (a : App). a.top.subcommand_negates_reqs) parse.begins ∙ settings.0 in
    let count : length args ≡ 9 = sym (length-map args rule_of) ∙ ap length rules ∙ settings.1 in
    let d = some_arg args (omega arith) in
    let last : rule_of (slice_index_or args 8 d) ≡ words_rule (codes "target") =
    rule_at args 8 d (rule_of d) (omega arith) ∙ ap (λ (rules : List Rule). slice_index_or rules 8 (rule_of d)) rules
    ∙ last_rule (rule_of d) in
    let from_old : IsParsedFrom parse.old m = record { built = parse.new; from = parse.builds; parsed = parse.parsed } in
    let present = required_present parse.old m from_old (plain redo_log leaf m parse) (plain_command redo_log leaf m parse).1 negates 8 d
    (omega arith) (ap (λ (r : Rule). r.required) last) in
    let has : is_some (matched_of found (codes "target")) ≡ true =
    present_has_entry found (codes "target") (rw (ap (λ (r : Rule). r.id) last) at present) in
    let filled = sound_words redo_log leaf m parse (codes "target") (λ e. cc) (((refl, refl, refl), tt), ((refl, refl, refl), tt)) has in
    record {
      recursive_is = sound_flag redo_log leaf m parse (codes "recursive") (λ e. cc) ((refl, tt), (refl, tt));
      unchanged_is = sound_flag redo_log leaf m parse (codes "unchanged") (λ e. cc) ((refl, tt), (refl, tt));
      details_are = sound_flag redo_log leaf m parse (codes "details") (λ e. cc) ((refl, tt), (refl, tt));
      debug_locks_are = sound_flag redo_log leaf m parse (codes "debug_locks") (λ e. cc) ((refl, tt), (refl, tt));
      debug_pids_are = sound_flag redo_log leaf m parse (codes "debug_pids") (λ e. cc) ((refl, tt), (refl, tt));
      senders_are = sound_number redo_log leaf m parse 64 (codes "senders") (λ e. cc) ((refl, tt), (refl, tt));
      capacity_is = sound_number redo_log leaf m parse 65536 (codes "capacity") (λ e. cc) ((refl, tt), (refl, tt));
      some_target = subst (λ (o : Option (List Text)). 0 < length (unwrap_or o [])) (raw_values-rows found (codes "target")) filled;
    }
