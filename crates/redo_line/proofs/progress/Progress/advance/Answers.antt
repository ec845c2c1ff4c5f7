use Rattle.std.proofs.Common.{◌<◌, ◌≤◌, inl, ℕ, List, Result, Ok, Err, Option, Some, None, IfOk, IfSome, arith, rules, refl, sym, ◌∙◌}
use Rattle.std.specs.List.{slice_range}
use Rattle.std.proofs.lemmas.List.{take_rest}
use Rattle.std.proofs.lemmas.Option.{none-some}
use Rattle.std.proofs.lemmas.Result.{err_from_is_err_and}
use Rattle.redo_line.specs.declared.entry.Entry.{Entry}
use Rattle.redo_line.specs.declared.stream_fault.StreamFault.{StreamFault}
use Rattle.redo_line.specs.Private.Progress.{Progress, Advances, FindsEntries}
use Rattle.redo_line.proofs.ScanLemmas.{next_lines_fit}
use Rattle.redo_line.proofs.ScanSteps.{texts_at_once, texts_bytes, texts_count, texts_found}
use Rattle.redo_line.proofs.progress.Progress.advance.Goals as goal

-- A step of one line is a step of at most `max_lines` lines.
at_most : (old new : Progress) (chunk : List ℕ) (from max_lines : ℕ) (first all : List Entry) (result : Result (Option ℕ) StreamFault)
    → 1 ≤ max_lines → Advances old new chunk from 1 first all result → Advances old new chunk from max_lines first all result
at_most old new chunk from max_lines first all result some one = record {
  range = one.range;
  found = λ before after. by before result (one.found before after);
  rest_consumed = one.rest_consumed;
  entries_unchanged = one.entries_unchanged;
  fault = one.fault;
  immediate = one.immediate;
  unchanged_on_err = one.unchanged_on_err;
  target = one.target;
  max_bytes = one.max_bytes;
}
  where
    by : (before : List ℕ) (result : Result (Option ℕ) StreamFault)
        → IfOk result (λ found. IfSome found (λ end_offset. FindsEntries old new before (slice_range chunk from end_offset) 1 first all))
        → IfOk result (λ found. IfSome found (λ end_offset.
        FindsEntries old new before (slice_range chunk from end_offset) max_lines first all))
    by before (Ok (Some end_offset)) found =
        record {
          more = found.more;
          finds = found.finds;
          some = found.some;
          few = let few = found.few in
              omega (arith, few, some);
          put = found.put;
        }
    by before (Ok None) found = tt
    by before (Err fault) found = tt

pub returns-then-count-eq0 : goal.returns-then-count-eq0
returns-then-count-eq0 c = at_most _ _ _ _ _ _ _ _ c.requires.max_lines c.advance_one_line.ensures

pub returns-in_err-push_lines : goal.returns-in_err-push_lines
returns-in_err-push_lines c =
    let told = c.leading_text_lines-length.ensures in
    let some : 0 < c.leading_text_lines-length.result.1 = let none = c.if-count-eq0.false in omega (arith, none) in
    let given = err_from_is_err_and c.from_residual.result c.from_residual.ensures.1 in
    rw (given.1, given.2)
    (record {
      range = tt;
      found = λ before after. tt;
      rest_consumed = λ before after. tt;
      entries_unchanged = tt;
      fault = λ before after. inl refl;
      immediate = λ fault first.
          absurd (none-some fault (sym (texts_at_once c.args.self.now _ c.self.view_is c.requires.after.0 c.requires.after.1
          c.args.chunk.now _ c.args.from (take_rest c.args.chunk.now c.args.from) c.leading_text_lines-length.result.0
          c.leading_text_lines-length.result.1
          told.lines told.range told.in_limit some (told.no_partial_line some) (told.not_closed some)) ∙ first));
      unchanged_on_err = c.in_err-push_lines.ensures.unchanged_on_err;
      target = search rules;
      max_bytes = search rules;
    })

pub overflow_add-self-2 : goal.overflow_add-self-2
overflow_add-self-2 c =
    next_lines_fit c.args.self.now _ c.self.view_is c.requires.after.0 c.requires.after.1 c.requires.limit
    c.leading_text_lines-length.result.1 (omega (arith, c.leading_text_lines-length.ensures.at_most, c.ranges.max_lines.fits))

pub returns : goal.returns
returns c =
    let told = c.leading_text_lines-length.ensures in
    let some : 0 < c.leading_text_lines-length.result.1 = let none = c.if-count-eq0.false in omega (arith, none) in
    let bytes = texts_bytes c.args.self.now _ c.self.view_is c.requires.after.0 c.requires.after.1 c.args.chunk.now _ c.args.from
    (take_rest c.args.chunk.now c.args.from) c.leading_text_lines-length.result.0 c.leading_text_lines-length.result.1
    told.lines told.range told.in_limit some (told.no_partial_line some) (told.not_closed some) in
    record {
      range = (omega (arith, bytes), let within = told.range in omega (arith, within, c.requires.from));
      found = λ before after.
          let count = texts_count c.args.self.now _ c.self.view_is before after c.args.chunk.now _ c.args.from
          (take_rest c.args.chunk.now c.args.from) c.leading_text_lines-length.result.0 c.leading_text_lines-length.result.1
          told.lines told.range told.in_limit some (told.no_partial_line some) (told.not_closed some) in
          record {
            more = _;
            finds = texts_found c.args.self.now _ c.self.view_is before after c.args.chunk.now _ c.args.from
                (take_rest c.args.chunk.now c.args.from) c.leading_text_lines-length.result.0 c.leading_text_lines-length.result.1
                told.lines told.range told.in_limit some (told.no_partial_line some) (told.not_closed some);
            some = omega (arith, count, some);
            few = omega (arith, count, told.at_most);
            put = c.in_ok-push_lines.ensures.pushed;
          };
      rest_consumed = λ before after. tt;
      entries_unchanged = tt;
      fault = λ before after. tt;
      immediate = λ fault first.
          absurd (none-some fault (sym (texts_at_once c.args.self.now _ c.self.view_is c.requires.after.0 c.requires.after.1
          c.args.chunk.now _ c.args.from (take_rest c.args.chunk.now c.args.from) c.leading_text_lines-length.result.0
          c.leading_text_lines-length.result.1
          told.lines told.range told.in_limit some (told.no_partial_line some) (told.not_closed some)) ∙ first));
      unchanged_on_err = tt;
      target = search rules;
      max_bytes = search rules;
    }
