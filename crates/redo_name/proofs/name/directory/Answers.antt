use Rattle.std.proofs.Common.{ℕ, List, ◌++◌, None, Some, sym, ap, ◌∙◌}
use Rattle.std.specs.Option.{option_copied}
use Rattle.redo_name.specs.Names.{is_absolute, segments, without_last, directory_of, reduce_suffix}
use Rattle.redo_name.proofs.DirectoryLemmas.{no_directory, directory_is}
use Rattle.redo_name.proofs.name.directory.Goals as goal

pub returns-then-begins_with_slash-clause-segments :
    goal.returns-then-begins_with_slash-clause-segments
returns-then-begins_with_slash-clause-segments c behind =
    no_directory behind ∙ ap (λ a. reduce_suffix ((directory_of a (option_copied c.args.target)).1 ++ behind))
    c.if-begins_with_slash.ensures

pub returns-in-None-clause-segments : goal.returns-in-None-clause-segments
returns-in-None-clause-segments c behind =
    no_directory behind ∙ ap (λ a. reduce_suffix ((directory_of a None).1 ++ behind)) c.if-begins_with_slash.ensures
    ∙ ap (λ o. reduce_suffix ((directory_of (is_absolute c.args.name.now) (option_copied o)).1 ++ behind)) (sym c.in-None.is)

pub returns-in-Some-clause-segments : goal.returns-in-Some-clause-segments
returns-in-Some-clause-segments c behind =
    let found = c.last_segment-above in
    directory_is c.bytes-bytes.result.now found.result.0 found.result.1.now found.ensures.slash found.ensures.none behind
    ∙ ap (λ (t : List ℕ). reduce_suffix (without_last (segments t) ++ behind)) c.bytes-bytes.ensures.bytes
    ∙ ap (λ a. reduce_suffix ((directory_of a (Some c.in-Some.target.now)).1 ++ behind)) c.if-begins_with_slash.ensures
    ∙ ap (λ o. reduce_suffix ((directory_of (is_absolute c.args.name.now) (option_copied o)).1 ++ behind)) (sym c.in-Some.is)
