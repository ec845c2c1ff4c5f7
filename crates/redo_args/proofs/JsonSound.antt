-- The rows of a parse are sound: each has values that its rule allows.
use Rattle.std.proofs.Common.{refl, codes}
use Rattle.clap.specs.Matches.{found_of}
use Rattle.clap.specs.Walk.{rows_of}
use Rattle.clap.specs.declared.parser.matches.ArgMatches.{ArgMatches}
use Rattle.redo_args.proofs.ParseLemmas.{IsLeaf, WasParsed, is_parse, sound_flag, sound_number, sound_targets}
use Rattle.redo_args.specs.JsonCommandLine.{redo_log_json}
use Rattle.redo_args.specs.Private.JsonMatches.{AreSound}

pub leaf : IsLeaf redo_log_json
unfolding redo_log_json
leaf = record { exact = refl; free = refl; no_subcommands = refl; leaf = refl }

pub sound : (m : ArgMatches) → WasParsed redo_log_json m → AreSound (rows_of (found_of m))
unfolding redo_log_json
sound m was_parsed =
    let parse = is_parse redo_log_json m was_parsed in
    record {
      unchanged_is = sound_flag redo_log_json leaf m parse (codes "unchanged") (λ e. cc) ((refl, tt), (refl, tt));
      every_is = sound_flag redo_log_json leaf m parse (codes "every") (λ e. cc) ((refl, tt), (refl, tt));
      senders_are = sound_number redo_log_json leaf m parse 64 (codes "senders") (λ e. cc) ((refl, tt), (refl, tt));
      some_target = sound_targets redo_log_json leaf m parse (((refl, refl, refl), tt), ((refl, refl, refl), tt));
    }
