use Rattle.std.proofs.Common.{◌++◌, ℕ, List, Option, ap, ap₂, ◌∙◌, option_copied}
use Rattle.redo_json.specs.Private.Parts.{flag_text}
use Rattle.redo_json.proofs.JoinLemmas.{appended_as, appended_then}
use Rattle.redo_json.proofs.joined.join_strings.Goals as goal

pub returns : goal.returns
returns c =
    let value = c.args.diagnostic.now in
    appended_as _ _ _ _ _
    (ap₂ (λ (m k : List ℕ). m ++ (flag_text (option_copied c.message_and_flag.result.1) ++ k)) c.message_and_flag.ensures.message c.requires
    ∙ ap (λ (flag : Option (List ℕ)). value.message ++ (flag_text flag ++ value.key)) c.message_and_flag.ensures.flag)
    (appended_then _ _ _ _ _ _ c.in_ok-join_bytes.ensures
    (appended_then _ _ _ _ _ _ c.in_ok-join_flag.ensures c.join_key.ensures))
