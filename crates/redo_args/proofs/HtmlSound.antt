-- The rows of a parse are sound: each has values that its rule allows.
use Rattle.std.proofs.Common.{refl, subst, sym, codes}
use Rattle.clap.specs.Matches.{found_of}
use Rattle.clap.specs.Values.{IsUnsignedIn}
use Rattle.clap.specs.Walk.{Text, rows_of}
use Rattle.clap.specs.declared.builder.value_parser.ValueParser.TheVariants as vp
use Rattle.clap.specs.declared.parser.matches.ArgMatches.{ArgMatches}
use Rattle.redo_args.proofs.ParseLemmas.{IsAccepted, IsLeaf, WasParsed, is_parse, sound_flag, sound_number, sound_targets, sound_text, weaker}
use Rattle.redo_args.specs.HtmlCommandLine.{redo_log_html}
use Rattle.redo_args.specs.Private.HtmlMatches.{AreSound}

pub leaf : IsLeaf redo_log_html
unfolding redo_log_html
leaf = record { exact = refl; free = refl; no_subcommands = refl; leaf = refl }

-- A text that the rule of an unsigned number accepts is such a number.
unsigned_text : (text : Text) → IsAccepted (vp.Unsigned 0 18446744073709551615) text → IsUnsignedIn 0 18446744073709551615 text
unsigned_text text (written, is, ignore_case, accepted) = subst (IsUnsignedIn 0 18446744073709551615) (sym is) accepted

pub sound : (m : ArgMatches) → WasParsed redo_log_html m → AreSound (rows_of (found_of m))
unfolding redo_log_html
sound m was_parsed =
    let parse = is_parse redo_log_html m was_parsed in
    record {
      unchanged_is = sound_flag redo_log_html leaf m parse (codes "unchanged") (λ e. cc) ((refl, tt), (refl, tt));
      debug_locks_are = sound_flag redo_log_html leaf m parse (codes "debug_locks") (λ e. cc) ((refl, tt), (refl, tt));
      max_bytes_are = weaker _ _ _ unsigned_text
          (sound_text redo_log_html leaf m parse (vp.Unsigned 0 18446744073709551615) (codes "max-bytes") (λ e. cc)
          ((refl, tt), (refl, tt)));
      senders_are = sound_number redo_log_html leaf m parse 64 (codes "senders") (λ e. cc) ((refl, tt), (refl, tt));
      some_target = sound_targets redo_log_html leaf m parse (((refl, refl, refl), tt), ((refl, refl, refl), tt));
    }
