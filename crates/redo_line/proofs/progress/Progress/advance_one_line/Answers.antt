use Rattle.std.proofs.Common.{◌≡◌, inl, inr, ℕ, ◌+◌, ◌-◌, ◌<◌, ◌≤◌, length-drop, List, [], ◌∷◌, None, Some, arith, rules, length, take, drop, refl, sym, ap, ◌∙◌}
use Rattle.std.proofs.lemmas.List.{length-take, take_rest}
use Rattle.std.proofs.lemmas.Option.{none-some}
use Rattle.std.proofs.lemmas.Result.{err_from_is_err_and}
use Rattle.redo_line.specs.declared.stream_fault.StreamFault.{StreamFault}
use Rattle.redo_line.specs.Private.CutLine.{line_bytes}
use Rattle.redo_line.specs.Private.Progress.{Progress, FailsWith, first_byte_fault}
use Rattle.redo_line.proofs.ScanLemmas.{next_lines_fit}
use Rattle.redo_line.proofs.ScanSteps.{no_entry, refuses_first, refuses_bad, line_found, refuses_long, all_taken}
use Rattle.redo_line.proofs.progress.Progress.advance_one_line.Goals as goal

pub first_byte_fault-requires-clause-lines : goal.first_byte_fault-requires-clause-lines
first_byte_fault-requires-clause-lines c =
    (next_lines_fit c.args.self.now _ refl c.requires.after.0 c.requires.after.1 c.requires.limit 1 (omega arith)).fits

pub overflow_add-number : goal.overflow_add-number
overflow_add-number c = next_lines_fit c.args.self.now _ c.self.view_is c.requires.after.0 c.requires.after.1 c.requires.limit 1
    (omega arith)

-- If the first byte of `rest` has no fault by its position, the same byte of the chunk has none either.
none_at_once : (self : Progress) (chunk : List ℕ) (from : ℕ) (fault : StreamFault)
    → first_byte_fault self (take (length chunk - from) (drop from chunk)) ≡ None → first_byte_fault self (drop from chunk) ≡ Some fault → ⊥
none_at_once self chunk from fault none first = none-some fault (sym none ∙ ap (first_byte_fault self) (take_rest chunk from) ∙ first)

-- An offset in the allowed bytes, counted from the start of the chunk.
in_chunk : (chunk allowed : List ℕ) (from count max_bytes : ℕ) → allowed ≡ take max_bytes (take (length chunk - from) (drop from chunk))
    → (0 < count) × (count ≤ length allowed)
    → (from < from + count) × (from + count ≤ length chunk)
in_chunk chunk allowed from count max_bytes is range =
    let size = ap length is ∙ length-take max_bytes (take (length chunk - from) (drop from chunk)) in
    let left = length-take (length chunk - from) (drop from chunk) in
    let some = range.0 in
    let few = range.1 in
    let all = length-drop from chunk in
    (omega (arith, some), omega (arith, size, left, all, some, few))

pub returns-in-Some : goal.returns-in-Some
returns-in-Some c =
    record {
      range = tt;
      found = λ before after. tt;
      rest_consumed = λ before after. tt;
      entries_unchanged = tt;
      fault = λ before after.
          inr (refuses_first c.args.self.now _ c.self.view_is before after c.args.chunk.now _ _ c.args.from
          (take_rest c.args.chunk.now c.args.from) refl c.in-Some.fault
          (sym c.first_byte_fault.ensures ∙ c.in-Some.is));
      immediate = λ fault first. search rules;
      unchanged_on_err = refl;
      target = search rules;
      max_bytes = search rules;
    }

pub returns-in_err-line : goal.returns-in_err-line
returns-in_err-line c =
    let given = err_from_is_err_and c.from_residual.result c.from_residual.ensures.1 in
    rw (given.1, given.2)
    (record {
      range = tt;
      found = λ before after. tt;
      rest_consumed = λ before after. tt;
      entries_unchanged = tt;
      fault = λ before after. inl refl;
      immediate = λ fault first. absurd (none_at_once c.args.self.now c.args.chunk.now c.args.from fault
          (sym c.first_byte_fault.ensures ∙ c.in_default.is) first);
      unchanged_on_err = refl;
      target = search rules;
      max_bytes = search rules;
    })

pub returns-in_err-self-inside-in-Some-2 : goal.returns-in_err-self-inside-in-Some-2
returns-in_err-self-inside-in-Some-2 c =
    let allowed = c.limit_to-allowed.result.now in
    let rejected = c.in_err-self-inside-in-Some-2.field-0.0 in
    let given = err_from_is_err_and c.from_residual-in_err-self-inside-in-Some-2.result
    c.from_residual-in_err-self-inside-in-Some-2.ensures.1 in
    rw (given.1, given.2)
    (record {
      range = tt;
      found = λ before after. tt;
      rest_consumed = λ before after. tt;
      entries_unchanged = tt;
      fault = λ before after.
          no_entry rejected (c.self.inside.lines + 1) _
          (FailsWith c.args.self.now before (drop c.args.from c.args.chunk.now)) c.in_err-self-inside-in-Some-2.ensures.fault
          (refuses_bad c.args.self.now _ c.self.view_is before after c.args.chunk.now _ allowed c.args.from
          (take_rest c.args.chunk.now c.args.from) c.limit_to-allowed.ensures
          (sym c.first_byte_fault.ensures ∙ c.in_default.is) (line_bytes c.in-Some-2.line) c.in-Some-2.length
          (rw c.in-Some-2.is at c.in_ok-line.ensures.range) (rw c.in-Some-2.is at c.in_ok-line.ensures.line));
      immediate = λ fault first. absurd (none_at_once c.args.self.now c.args.chunk.now c.args.from fault
          (sym c.first_byte_fault.ensures ∙ c.in_default.is) first);
      unchanged_on_err = c.in_err-self-inside-in-Some-2.ensures.unchanged_on_err;
      target = search rules;
      max_bytes = search rules;
    })

pub returns-in_ok-self-inside-in-Some-2 : goal.returns-in_ok-self-inside-in-Some-2
returns-in_ok-self-inside-in-Some-2 c =
    let allowed = c.limit_to-allowed.result.now in
    let put = c.in_ok-self-inside-in-Some-2.ensures.put in
    record {
      range = in_chunk c.args.chunk.now allowed c.args.from c.in-Some-2.length _ c.limit_to-allowed.ensures
          (rw c.in-Some-2.is at c.in_ok-line.ensures.range);
      found = λ before after. record {
        more = put.entry ∷ [];
        finds = line_found c.args.self.now _ c.self.view_is before after c.args.chunk.now _ allowed c.args.from
            (take_rest c.args.chunk.now c.args.from) c.limit_to-allowed.ensures
            (sym c.first_byte_fault.ensures ∙ c.in_default.is) (line_bytes c.in-Some-2.line) c.in-Some-2.length
            (rw c.in-Some-2.is at c.in_ok-line.ensures.range) (rw c.in-Some-2.is at c.in_ok-line.ensures.line)
            put.entry c.next_line.new.self c.in_ok-self-inside-in-Some-2.field-0 put.is
            (rw c.in-Some-2.is at c.in_ok-line.ensures.line_kept) put.closing_is;
        some = omega arith;
        few = omega arith;
        put = put.put;
      };
      rest_consumed = λ before after. tt;
      entries_unchanged = tt;
      fault = λ before after. tt;
      immediate = λ fault first. absurd (none_at_once c.args.self.now c.args.chunk.now c.args.from fault
          (sym c.first_byte_fault.ensures ∙ c.in_default.is) first);
      unchanged_on_err = tt;
      target = search rules;
      max_bytes = search rules;
    }

pub returns-then-allowed-rest : goal.returns-then-allowed-rest
returns-then-allowed-rest c =
    let allowed = c.limit_to-allowed.result.now in
    record {
      range = tt;
      found = λ before after. tt;
      rest_consumed = λ before after. tt;
      entries_unchanged = tt;
      fault = λ before after.
          inr (refuses_long c.args.self.now _ c.self.view_is before after c.args.chunk.now _ allowed c.args.from
          (take_rest c.args.chunk.now c.args.from) c.limit_to-allowed.ensures
          (sym c.first_byte_fault.ensures ∙ c.in_default.is) c.next_line.new.self
          (rw c.in-None.is at c.in_ok-line.ensures.rest_consumed) c.if-allowed-rest.true);
      immediate = λ fault first. absurd (none_at_once c.args.self.now c.args.chunk.now c.args.from fault
          (sym c.first_byte_fault.ensures ∙ c.in_default.is) first);
      unchanged_on_err = refl;
      target = search rules;
      max_bytes = search rules;
    }

pub returns-else-allowed-rest : goal.returns-else-allowed-rest
returns-else-allowed-rest c =
    let allowed = c.limit_to-allowed.result.now in
    record {
      range = tt;
      found = λ before after. tt;
      rest_consumed = λ before after.
          all_taken c.args.self.now _ c.self.view_is before after c.args.chunk.now _ allowed c.args.from
          (take_rest c.args.chunk.now c.args.from) c.limit_to-allowed.ensures
          (sym c.first_byte_fault.ensures ∙ c.in_default.is) c.next_line.new.self
          (rw c.in-None.is at c.in_ok-line.ensures.rest_consumed) c.if-allowed-rest.false;
      entries_unchanged = refl;
      fault = λ before after. tt;
      immediate = λ fault first. absurd (none_at_once c.args.self.now c.args.chunk.now c.args.from fault
          (sym c.first_byte_fault.ensures ∙ c.in_default.is) first);
      unchanged_on_err = tt;
      target = search rules;
      max_bytes = search rules;
    }
