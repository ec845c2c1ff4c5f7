use Rattle.std.proofs.Common.{◌∙◌, ℕ, Bool, List, ap, sym, subst}
use Rattle.std.specs.Prelude.{if◌then◌else◌}
use Rattle.redo_json.specs.Every.{every_target}
use Rattle.redo_view.specs.Form.{FormWrites}
use Rattle.redo_new.specs.News.{news_text}
use Rattle.redo_log_new.proofs.job.write_of_targets.Goals as goal

pub returns-in_ok-targets : goal.returns-in_ok-targets
returns-in_ok-targets g c =
    let job = c.args.job.now in
    let earlier = c.args.earlier.now in
    let table = c.args.table.now in
    let requested = c.args.requested.now in
    let before = g.W.Sink.written c.args.out.now in
    let after = g.W.Sink.written c.write_news.new.out in
    let shown = ap (λ (every : Bool). if every then every_target table requested else requested) (sym c.every.ensures ∙ c.if-every.true) in
    subst (λ (targets : List (List ℕ)). FormWrites before after (news_text job.unchanged earlier table targets) c.write_news.result)
    (c.deref.ensures.value ∙ c.in_ok-targets.ensures.names ∙ sym shown)
    (subst (λ (unchanged : Bool). FormWrites before after (news_text unchanged earlier table c.deref.result.now) c.write_news.result)
    c.unchanged-unchanged.ensures c.write_news.ensures)

pub returns-else-every : goal.returns-else-every
returns-else-every g c =
    let job = c.args.job.now in
    let earlier = c.args.earlier.now in
    let table = c.args.table.now in
    let requested = c.args.requested.now in
    let before = g.W.Sink.written c.args.out.now in
    let after = g.W.Sink.written c.write_news-else-every.new.out in
    let shown = ap (λ (every : Bool). if every then every_target table requested else requested) (sym c.every.ensures ∙ c.if-every.false) in
    subst (λ (targets : List (List ℕ)).
    FormWrites before after (news_text job.unchanged earlier table targets) c.write_news-else-every.result)
    (sym shown)
    (subst (λ (unchanged : Bool). FormWrites before after (news_text unchanged earlier table requested) c.write_news-else-every.result)
    c.unchanged-unchanged.ensures c.write_news-else-every.ensures)
