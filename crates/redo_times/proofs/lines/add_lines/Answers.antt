use Rattle.std.proofs.Common.{◌≡◌, ◌+◌, ◌-◌, [], ◌++◌, length, take, drop, zero-le, refl, sym, ap, ◌∙◌, arith}
use Rattle.std.proofs.lemmas.List.{length-drop}
use Rattle.redo_line.specs.Lines.{ended}
use Rattle.redo_line.proofs.LineLemmas.{rest-free}
use Rattle.redo_index.specs.Index.{listed_targets}
use Rattle.redo_times.specs.Report.{reports_in}
use Rattle.redo_times.proofs.LineLemmas.{all_lines_after, last_rest, left_is, next_lines, next_rest, none_after, skipped_lines, skipped_rest}
use Rattle.redo_times.proofs.lines.add_lines.Goals as goal

pub lines-init : goal.lines-init
lines-init c = record {
  range = zero-le;
  no_rest = rest-free [] tt;
  count = refl;
  tallies = λ reports are. none_after (listed_targets c.args.index.now) c.args.log.target.now reports c.args.tallies.now are;
}

pub lines-preserved : goal.lines-preserved
lines-preserved c =
    let bytes = c.args.bytes.now in
    let upto = c.lines.upto in
    let size = c.skip_lines-upto.result in
    let start = upto + size in
    let at = c.in-Some.at in
    let kept = c.lines.invariant in
    let hay = left_is bytes start in
    let found = c.in-Some.ensures in
    let skipped = c.skip_lines-upto.ensures in
    let no_rest = skipped_rest bytes _ upto (left_is bytes upto) kept.no_rest size skipped.complete skipped.none in
    let line_is : take ((start + at) - start) (drop start bytes) ≡ take at (take (length bytes - start) (drop start bytes)) =
    ap (λ n. take n (drop start bytes)) (let same : (start + at) - start ≡ at = omega arith in same) ∙ ap (take at) (sym hay) in record {
      range = omega (arith, kept.range, found.0.high, ap length hay, length-drop start bytes);
      no_rest = next_rest bytes _ start hay no_rest at found;
      count = c.add_line.auto.tallies ∙ kept.count;
      tallies = λ reports are. next_lines bytes _ start hay no_rest at found
          (listed_targets c.args.index.now) c.args.log.target.now reports c.add_line.new.tallies _ line_is
          (c.in_ok-add_line.ensures (reports ++ reports_in c.args.log.target.now (ended (take start bytes)))
          (skipped_lines bytes _ upto (left_is bytes upto) kept.no_rest size skipped.complete skipped.none
          (listed_targets c.args.index.now) c.args.log.target.now reports c.lines.tallies (kept.tallies reports are)));
    }

pub returns-in_default-clause-rest : goal.returns-in_default-clause-rest
returns-in_default-clause-rest c =
    let bytes = c.args.bytes.now in
    let upto = c.lines.upto in
    let size = c.skip_lines-upto.result in
    let skipped = c.skip_lines-upto.ensures in
    last_rest bytes _ (upto + size) (left_is bytes (upto + size))
    (skipped_rest bytes _ upto (left_is bytes upto) c.lines.invariant.no_rest size skipped.complete skipped.none) c.in_default.ensures

pub returns-in_default-clause-tallies : goal.returns-in_default-clause-tallies
returns-in_default-clause-tallies c reports are =
    let bytes = c.args.bytes.now in
    let upto = c.lines.upto in
    let size = c.skip_lines-upto.result in
    let skipped = c.skip_lines-upto.ensures in
    let kept = c.lines.invariant in
    let targets = listed_targets c.args.index.now in
    all_lines_after bytes _ (upto + size) (left_is bytes (upto + size))
    (skipped_rest bytes _ upto (left_is bytes upto) kept.no_rest size skipped.complete skipped.none) c.in_default.ensures
    targets c.args.log.target.now reports c.lines.tallies
    (skipped_lines bytes _ upto (left_is bytes upto) kept.no_rest size skipped.complete skipped.none
    targets c.args.log.target.now reports c.lines.tallies (kept.tallies reports are))
