use Rattle.std.proofs.Common.{arith}
use Rattle.redo_html.proofs.RepeatLemmas.{found, size_within, one_more_code_point, ended_by_other, ended_by_end}
use Rattle.redo_html.proofs.passage.repeats.Goals as goal

pub returns-then-not-is_code_point : goal.returns-then-not-is_code_point
returns-then-not-is_code_point c =
    let here = found c.args.kind c.args.code_point c.args.bytes.now c.loop-len.count c.loop-len.len c.loop-len.invariant.within
    c.loop-len.invariant.bytes_taken c.loop-len.invariant.none c.loop-len.invariant.repeated c.symbol_at-symbol.result.0
    c.symbol_at-symbol.result.1 c.symbol_at-symbol.ensures.code_point c.symbol_at-symbol.ensures.len in
    ended_by_other c.args.kind c.args.code_point c.args.bytes.now c.loop-len.count c.loop-len.len c.loop-len.invariant.within
    c.loop-len.invariant.bytes_taken c.loop-len.invariant.none c.loop-len.invariant.repeated c.symbol_at-symbol.result.0
    c.loop-len-test.true c.requires.code_point here.0
    (λ same. absurd (let is = c.is_code_point.ensures.1 same in let no = c.if-not-is_code_point.true in cc))

pub overflow_add-len : goal.overflow_add-len
overflow_add-len c =
    let here = found c.args.kind c.args.code_point c.args.bytes.now c.loop-len.count c.loop-len.len c.loop-len.invariant.within
    c.loop-len.invariant.bytes_taken c.loop-len.invariant.none c.loop-len.invariant.repeated c.symbol_at-symbol.result.0
    c.symbol_at-symbol.result.1 c.symbol_at-symbol.ensures.code_point c.symbol_at-symbol.ensures.len in
    let size = size_within c.args.kind c.args.code_point c.args.bytes.now c.loop-len.count c.loop-len.len c.loop-len.invariant.within
    c.loop-len.invariant.bytes_taken c.loop-len.invariant.none c.loop-len.invariant.repeated c.symbol_at-symbol.result.1
    c.loop-len-test.true here.1 in
    let fits = c.type_inv.bytes in
    omega (arith, size.1)

pub loop-len-smaller : goal.loop-len-smaller
loop-len-smaller c =
    let here = found c.args.kind c.args.code_point c.args.bytes.now c.loop-len.count c.loop-len.len c.loop-len.invariant.within
    c.loop-len.invariant.bytes_taken c.loop-len.invariant.none c.loop-len.invariant.repeated c.symbol_at-symbol.result.0
    c.symbol_at-symbol.result.1 c.symbol_at-symbol.ensures.code_point c.symbol_at-symbol.ensures.len in
    let size = size_within c.args.kind c.args.code_point c.args.bytes.now c.loop-len.count c.loop-len.len c.loop-len.invariant.within
    c.loop-len.invariant.bytes_taken c.loop-len.invariant.none c.loop-len.invariant.repeated c.symbol_at-symbol.result.1
    c.loop-len-test.true here.1 in
    let test = c.loop-len-test.true in
    omega (arith, size.0, test)

pub loop-len-preserved : goal.loop-len-preserved
loop-len-preserved c =
    let here = found c.args.kind c.args.code_point c.args.bytes.now c.loop-len.count c.loop-len.len c.loop-len.invariant.within
    c.loop-len.invariant.bytes_taken c.loop-len.invariant.none c.loop-len.invariant.repeated c.symbol_at-symbol.result.0
    c.symbol_at-symbol.result.1 c.symbol_at-symbol.ensures.code_point c.symbol_at-symbol.ensures.len in
    let size = size_within c.args.kind c.args.code_point c.args.bytes.now c.loop-len.count c.loop-len.len c.loop-len.invariant.within
    c.loop-len.invariant.bytes_taken c.loop-len.invariant.none c.loop-len.invariant.repeated c.symbol_at-symbol.result.1
    c.loop-len-test.true here.1 in
    let taken = c.loop-len.invariant.bytes_taken in
    record {
      within = size.1;
      bytes_taken = omega (arith, size.0, taken);
      none = λ zero_count. absurd (omega (arith, zero_count));
      repeated = one_more_code_point c.args.kind c.args.code_point c.args.bytes.now c.loop-len.count c.loop-len.len
          c.loop-len.invariant.within c.loop-len.invariant.bytes_taken c.loop-len.invariant.none c.loop-len.invariant.repeated
          c.symbol_at-symbol.result.0 c.symbol_at-symbol.result.1 c.loop-len-test.true here.0 here.1
          (c.is_code_point.ensures.0 c.if-not-is_code_point.false);
    }

pub returns : goal.returns
returns c = ended_by_end c.args.kind c.args.code_point c.args.bytes.now c.loop-len.count c.loop-len.len c.loop-len.invariant.within
    c.loop-len.invariant.bytes_taken c.loop-len.invariant.none c.loop-len.invariant.repeated c.loop-len-test.false c.requires.some
