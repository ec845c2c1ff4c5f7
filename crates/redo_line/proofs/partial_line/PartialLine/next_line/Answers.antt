use Rattle.std.proofs.Common.{◌++◌, rules, ap, sym, ◌∙◌, subst}
use Rattle.redo_line.specs.Lines.{HasNoLineFeed, line_feed}
use Rattle.redo_line.proofs.PartLemmas.{free-append}
use Rattle.redo_line.proofs.CutLemmas.{holds_none, line_in, no_feed, none_in}
use Rattle.redo_line.proofs.partial_line.PartialLine.next_line.Goals as goal

pub returns-in_ok-line-in-Some-clause-line : goal.returns-in_ok-line-in-Some-clause-line
returns-in_ok-line-in-Some-clause-line c =
    line_in c.args.self.now _ c.args.chunk.now c.in-Some.at c.in-Some.ensures c.in_ok-line-in-Some.ensures.line

pub returns-in_ok-extend_from_slice-in-None-clause-found : goal.returns-in_ok-extend_from_slice-in-None-clause-found
returns-in_ok-extend_from_slice-in-None-clause-found c = (λ is. cc, λ there. absurd (no_feed c.args.chunk.now c.in-None.ensures there))

pub returns-in_ok-extend_from_slice-in-None-clause-rest_consumed : goal.returns-in_ok-extend_from_slice-in-None-clause-rest_consumed
returns-in_ok-extend_from_slice-in-None-clause-rest_consumed c =
    none_in c.args.self.now c.extend_from_slice.new.self.items c.args.chunk.now c.in-None.ensures
    (c.in_ok-extend_from_slice-in-None.ensures.items ∙ ap (λ kept. kept ++ c.args.chunk.now) c.self.view_is)

pub returns-in_err-extend_from_slice-in-None-clause-unchanged_on_err : goal.returns-in_err-extend_from_slice-in-None-clause-unchanged_on_err
returns-in_err-extend_from_slice-in-None-clause-unchanged_on_err c = search rules

pub invariant_of-self-in-None : goal.invariant_of-self-in-None
invariant_of-self-in-None c =
    subst HasNoLineFeed (sym c.in_ok-extend_from_slice-in-None.ensures.items)
    (free-append line_feed c.self.inside.kept.items c.args.chunk.now c.self.invariant (holds_none c.args.chunk.now c.in-None.ensures))
