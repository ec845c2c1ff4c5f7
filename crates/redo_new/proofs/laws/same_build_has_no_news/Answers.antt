use Rattle.std.proofs.Common.{◌≡◌, List, [], sym, subst}
use Rattle.redo_logs.specs.Logs.{Log}
use Rattle.redo_compare.specs.LogChanges.{new_in_log}
use Rattle.redo_new.proofs.SameLemmas.{no_news}
use Rattle.redo_new.proofs.laws.same_build_has_no_news.Goals as goal

pub returns : goal.returns
returns c = λ baseline logs nodes table same ended.
    no_news baseline logs (c.each_new_diagnostic_has_its_line.ensures baseline.logs logs)
    (λ number. subst (λ (earlier : List Log). new_in_log earlier logs number ≡ []) (sym same)
    (c.same_build_has_nothing_new.ensures.new logs number table)) nodes ended
