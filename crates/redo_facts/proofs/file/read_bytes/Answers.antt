use Rattle.std.proofs.Common.{◌≡◌, ◌+◌, ◌-◌, ◌<◌, ◌≤◌, ℕ, List, zero-le, arith, length, take, sym, ap, ◌∙◌, subst}
use Rattle.std.proofs.lemmas.List.{length-append, length-take-le}
use Rattle.redo_device.proofs.GaveLemmas.{Gave, Gave-none, Gave-more}
use Rattle.redo_facts.proofs.FileLemmas.{file_ends, file_fails, file_is_long}
use Rattle.redo_facts.proofs.file.read_bytes.Given.{Over}
use Rattle.redo_facts.proofs.file.read_bytes.Goals as goal

pub reads-init : goal.reads-init
reads-init g c =
    let known = g.R.Feed.contents c.args.reader.now in (
      c.as_mut_slice-buf.ensures.len ∙ c.in_ok-buffer.ensures.len,
      subst (λ (b : List ℕ). length b ≤ c.args.max_bytes) (sym c.new-bytes.ensures.items) zero-le,
      subst (λ (b : List ℕ). Gave known b known) (sym c.new-bytes.ensures.items) (Gave-none known),
    )

pub returns-in-Err-clause-none : goal.returns-in-Err-clause-none
returns-in-Err-clause-none g c =
    let holds = c.reads.invariant in
    file_fails c.args.max_bytes _ _ _ _ c.pull.new.buf holds.2 _ c.in-Err.ensures.gives

pub returns-then-n-max_bytes-clause-none : goal.returns-then-n-max_bytes-clause-none
returns-then-n-max_bytes-clause-none g c =
    let holds = c.reads.invariant in
    let over : c.args.max_bytes - length c.reads.bytes.items < c.in-Ok.n = omega (arith, c.len.ensures, c.if-n-max_bytes.true) in
    file_is_long c.args.max_bytes _ _ _ _ c.pull.new.buf holds.2 c.in-Ok.n over c.in-Ok.ensures.bound c.in-Ok.ensures.gives

pub returns-in-Ok-eq0-clause-some : goal.returns-in-Ok-eq0-clause-some
returns-in-Ok-eq0-clause-some g c =
    let holds = c.reads.invariant in
    let gives = rw c.in-Ok-eq0.field-0-test at c.in-Ok-eq0.ensures.gives in
    file_ends c.args.max_bytes _ _ _ _ c.pull.new.buf holds.2 holds.1 gives

pub overflow_sub-max_bytes : goal.overflow_sub-max_bytes
overflow_sub-max_bytes g c = omega (arith, c.len.ensures, c.reads.invariant.1)

-- One more read, of at least one byte.
size : (g : Over) (c : goal.In_ok-extend_from_slice-in-Ok g)
    → length c.extend_from_slice.new.self.items ≡ length c.reads.bytes.items + c.in-Ok.n
size g c =
    ap length c.in_ok-extend_from_slice-in-Ok.ensures.items ∙ length-append c.reads.bytes.items (take c.in-Ok.n c.pull.new.buf)
    ∙ ap (λ n. length c.reads.bytes.items + n) (length-take-le c.in-Ok.n c.pull.new.buf c.in-Ok.ensures.bound)

some : (g : Over) (c : goal.In_ok-extend_from_slice-in-Ok g) → 0 < c.in-Ok.n
some g c = let nonzero = c.in-Ok.n-test.1 in omega (arith, nonzero)

within : (g : Over) (c : goal.In_ok-extend_from_slice-in-Ok g) → length c.extend_from_slice.new.self.items ≤ c.args.max_bytes
within g c = omega (arith, size g c, c.len.ensures, c.if-n-max_bytes.false, c.reads.invariant.1)

pub reads-smaller : goal.reads-smaller
reads-smaller g c = omega (arith, size g c, some g c, within g c)

pub reads-preserved : goal.reads-preserved
reads-preserved g c =
    let holds = c.reads.invariant in
    let gave = Gave-more _ _ _ c.reads.bytes.items c.in-Ok.n c.pull.new.buf (some g c) holds.2 c.in-Ok.ensures.gives in (
      omega (arith, c.pull.auto.buf, holds.0),
      within g c,
      subst (λ (b : List ℕ). Gave (g.R.Feed.contents c.args.reader.now) b (g.R.Feed.contents c.pull.new.self))
          (sym c.in_ok-extend_from_slice-in-Ok.ensures.items) gave,
    )
