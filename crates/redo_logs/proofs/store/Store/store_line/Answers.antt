use Rattle.std.proofs.Common.{[], ◌∷◌, ◌++◌, zero-le, ◌∙◌}
use Rattle.redo_line.specs.Lines.{line_feed}
use Rattle.redo_line.proofs.EntriesLemmas.{line_end, line_put, line_text, line_whole, texts_are, texts_within}
use Rattle.redo_logs.proofs.Keeping.{grows_more}
use Rattle.redo_logs.proofs.store.Store.store_line.Goals as goal

pub returns-in_err-end-clause-extends : goal.returns-in_err-end-clause-extends
returns-in_err-end-clause-extends c = grows_more _ _ _ c.in_ok-start.ensures.extends c.in_err-end.ensures.extends

pub returns-clause-extends : goal.returns-clause-extends
returns-clause-extends c = grows_more _ _ _ c.in_ok-start.ensures.extends c.in_ok-end.ensures.extends

pub returns-clause-within : goal.returns-clause-within
returns-clause-within c =
    let line = c.args.line.now in
    let first = c.in_ok-start.ensures in
    let last = c.in_ok-end.ensures in
    let within = texts_within c.args.self.now.bytes (line ++ line_feed ∷ []) _
    (line_put _ line _ _ first.bytes last.bytes) _ _ 1 first.start (line_end _ line _ _ first.bytes last.bytes _ last.end)
    (line_whole line c.requires) in
    (within.0, within.1, zero-le, within.2)

pub returns-clause-denotes : goal.returns-clause-denotes
returns-clause-denotes c =
    let line = c.args.line.now in
    let first = c.in_ok-start.ensures in
    let last = c.in_ok-end.ensures in
    texts_are c.args.self.now.bytes (line ++ line_feed ∷ []) _ (line_put _ line _ _ first.bytes last.bytes) _ _ 1 first.start
    (line_end _ line _ _ first.bytes last.bytes _ last.end) (line_whole line c.requires)
    ∙ line_text line c.requires
