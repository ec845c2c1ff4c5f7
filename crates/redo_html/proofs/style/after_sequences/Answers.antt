use Rattle.std.proofs.Common.{◌≡◌, ◌<◌, ◌≤◌, ◌+◌, ◌-◌, List, [], ◌∷◌, ◌++◌, ℕ, drop, length, slice_index, sym, ◌∙◌, ap, subst, arith}
use Rattle.std.proofs.lemmas.List.{drop-drop, get_or-drop, length-drop, take_rest}
use Rattle.redo_html.specs.Private.Writing.{ReadsPair, ReadsSequence, SkipsSequences}
use Rattle.redo_html.proofs.LineParts.{pair_in_line, skipped_in_line}
use Rattle.redo_html.proofs.SequenceLemmas.{none_skipped, one_more_skipped, pair_skipped}
use Rattle.redo_html.proofs.style.after_sequences.Goals as goal

pub loop-at-init : goal.loop-at-init
loop-at-init c =
    let none : 0 ≡ c.args.from - c.args.from = omega arith in
    record {
      after = omega arith;
      all = subst (SkipsSequences c.args.style (drop c.args.from c.args.bytes.now) c.args.style) none
          (none_skipped c.args.style (drop c.args.from c.args.bytes.now));
      line = λ line more is. (
        subst (SkipsSequences c.args.style (line ++ 10 ∷ []) c.args.style) none (none_skipped c.args.style (line ++ 10 ∷ [])),
        omega arith,
      );
    }

pub loop-at-preserved-then-len-gt0 : goal.loop-at-preserved-then-len-gt0
loop-at-preserved-then-len-gt0 c =
    let after = c.loop-at.invariant.after in
    let so_far = c.loop-at.at - c.args.from in
    let left = drop c.args.from c.args.bytes.now in
    let here : c.args.from + so_far ≡ c.loop-at.at = omega (arith, after) in
    let len = c.read_pair-len.result.1 in
    let next = c.read_pair-len.result.0 in
    let read : ReadsPair c.loop-at.current (drop so_far left) next len =
    subst (λ (b : List ℕ). ReadsPair c.loop-at.current b next len)
    (take_rest c.args.bytes.now c.loop-at.at ∙ ap (λ (n : ℕ). drop n c.args.bytes.now) (sym here)
    ∙ sym (drop-drop so_far c.args.from c.args.bytes.now)) (c.read_pair-len.ensures c.if-len-gt0.true) in
    let escape : slice_index left so_far ≡ 27 =
    get_or-drop c.args.from c.args.bytes.now so_far 0 ∙ ap (slice_index c.args.bytes.now) here ∙ c.if-bytes-at-eq27.true in
    let both : so_far + len ≡ c.loop-at.at + len - c.args.from = omega (arith, after) in
    record {
      after = omega (arith, after);
      all = subst (SkipsSequences c.args.style left next) both
          (pair_skipped c.args.style c.loop-at.current next left so_far len c.loop-at.invariant.all read);
      line = λ line more is.
          subst (λ (n : ℕ). SkipsSequences c.args.style (line ++ 10 ∷ []) next n × (n ≤ length line)) both
          (pair_in_line c.args.style c.loop-at.current next left line more so_far len is escape read
          (c.loop-at.invariant.line line more is));
    }

pub overflow_add-at : goal.overflow_add-at
overflow_add-at c =
    let after = c.loop-at.invariant.after in
    let so_far = c.loop-at.at - c.args.from in
    let left = drop c.args.from c.args.bytes.now in
    let here : c.args.from + so_far ≡ c.loop-at.at = omega (arith, after) in
    let len = c.read_pair-len.result.1 in
    let next = c.read_pair-len.result.0 in
    let read : ReadsPair c.loop-at.current (drop so_far left) next len =
    subst (λ (b : List ℕ). ReadsPair c.loop-at.current b next len)
    (take_rest c.args.bytes.now c.loop-at.at ∙ ap (λ (n : ℕ). drop n c.args.bytes.now) (sym here)
    ∙ sym (drop-drop so_far c.args.from c.args.bytes.now)) (c.read_pair-len.ensures c.if-len-gt0.true) in
    let more = pair_skipped c.args.style c.loop-at.current next left so_far len c.loop-at.invariant.all read in
    let within = more.within in
    let size = length-drop c.args.from c.args.bytes.now in
    let start = c.requires in
    let fits = c.type_inv.bytes in
    omega (arith, within, size, here, start)

pub loop-at-preserved : goal.loop-at-preserved
loop-at-preserved c =
    let after = c.loop-at.invariant.after in
    let so_far = c.loop-at.at - c.args.from in
    let left = drop c.args.from c.args.bytes.now in
    let here : c.args.from + so_far ≡ c.loop-at.at = omega (arith, after) in
    let len = c.read_sequence-other_len.result in
    let next = c.read_sequence-other_len.new.style in
    let other = c.if-other_len-eq0.false in
    let some : 0 < len = omega (arith, other) in
    let read : ReadsSequence c.loop-at.current (drop so_far left) next len =
    subst (λ (b : List ℕ). ReadsSequence c.loop-at.current b next len)
    (take_rest c.args.bytes.now c.loop-at.at ∙ ap (λ (n : ℕ). drop n c.args.bytes.now) (sym here)
    ∙ sym (drop-drop so_far c.args.from c.args.bytes.now)) c.read_sequence-other_len.ensures in
    let escape : slice_index left so_far ≡ 27 =
    get_or-drop c.args.from c.args.bytes.now so_far 0 ∙ ap (slice_index c.args.bytes.now) here ∙ c.if-bytes-at-eq27.true in
    let both : so_far + len ≡ c.loop-at.at + len - c.args.from = omega (arith, after) in
    record {
      after = omega (arith, after);
      all = subst (SkipsSequences c.args.style left next) both
          (one_more_skipped c.args.style c.loop-at.current next left so_far len c.loop-at.invariant.all some read);
      line = λ line more is.
          subst (λ (n : ℕ). SkipsSequences c.args.style (line ++ 10 ∷ []) next n × (n ≤ length line)) both
          (skipped_in_line c.args.style c.loop-at.current next left line more so_far len is escape some read
          (c.loop-at.invariant.line line more is));
    }

pub overflow_add-at-else-len-gt0 : goal.overflow_add-at-else-len-gt0
overflow_add-at-else-len-gt0 c =
    let after = c.loop-at.invariant.after in
    let so_far = c.loop-at.at - c.args.from in
    let left = drop c.args.from c.args.bytes.now in
    let here : c.args.from + so_far ≡ c.loop-at.at = omega (arith, after) in
    let len = c.read_sequence-other_len.result in
    let next = c.read_sequence-other_len.new.style in
    let other = c.if-other_len-eq0.false in
    let some : 0 < len = omega (arith, other) in
    let read : ReadsSequence c.loop-at.current (drop so_far left) next len =
    subst (λ (b : List ℕ). ReadsSequence c.loop-at.current b next len)
    (take_rest c.args.bytes.now c.loop-at.at ∙ ap (λ (n : ℕ). drop n c.args.bytes.now) (sym here)
    ∙ sym (drop-drop so_far c.args.from c.args.bytes.now)) c.read_sequence-other_len.ensures in
    let more = one_more_skipped c.args.style c.loop-at.current next left so_far len c.loop-at.invariant.all some read in
    let within = more.within in
    let size = length-drop c.args.from c.args.bytes.now in
    let start = c.requires in
    let fits = c.type_inv.bytes in
    omega (arith, within, size, here, start)
