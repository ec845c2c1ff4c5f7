use Rattle.std.proofs.Common.{◌+◌, [], arith, length}
use Rattle.redo_line.proofs.LineLemmas.{rest-free}
use Rattle.redo_html.proofs.LineWriting.{complete_to_feed, feed_before, none_before}
use Rattle.redo_html.proofs.lines.plain_lines_len.Goals as goal

pub returns-in_default-clause-no_escape : goal.returns-in_default-clause-no_escape
returns-in_default-clause-no_escape c = none_before c.args.lines.now (length c.args.lines.now) (c.in_default.ensures)

pub returns-in-Some-memrchr-clause-complete : goal.returns-in-Some-memrchr-clause-complete
returns-in-Some-memrchr-clause-complete c =
    let found = c.in-Some-memrchr.ensures in
    let feed = feed_before c.args.lines.now c.in-Some.escape c.in-Some-memrchr.at found.0.high found.1 in
    complete_to_feed c.args.lines.now c.in-Some-memrchr.at feed.1 feed.2

pub returns-in-Some-memrchr-clause-no_escape : goal.returns-in-Some-memrchr-clause-no_escape
returns-in-Some-memrchr-clause-no_escape c =
    let found = c.in-Some-memrchr.ensures in
    let feed = feed_before c.args.lines.now c.in-Some.escape c.in-Some-memrchr.at found.0.high found.1 in
    let inside = feed.0 in
    none_before c.args.lines.now (c.in-Some-memrchr.at + 1) (λ k low below. c.in-Some.ensures.0.before k low (omega (arith, below, inside)))

pub returns-in-None-clause-complete : goal.returns-in-None-clause-complete
returns-in-None-clause-complete c = rest-free [] tt
