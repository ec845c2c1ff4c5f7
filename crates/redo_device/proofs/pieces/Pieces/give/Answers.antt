use Rattle.std.proofs.lemmas.Grind.{common_steps}
use Rattle.std.proofs.Common.{◌≡◌, ◌+◌, ◌-◌, ◌<◌, ◌++◌, ℕ, List, [], Ok, length, get_or, drop, take, map, arith, ap, sym, subst, ◌∙◌}
use Rattle.std.proofs.lemmas.List.{get_or-map, length-map}
use Rattle.redo_device.specs.Pieces.{Reads, ReadsNext, from_first_byte}
use Rattle.redo_device.specs.Private.Pieces.{unread}
use Rattle.redo_device.proofs.PieceLemmas.{copies_front}
use Rattle.redo_device.proofs.pieces.Pieces.give.Goals as goal

pub returns : goal.returns
returns c =
    let inside = c.self.inside in
    let reads = map (λ read. read.items) inside.reads.items in
    let at = c.next_byte.result.0 in
    let from = c.next_byte.result.1 in
    let n = c.min-n.result in
    let read = c.index-read.result.now.items in
    let after : Reads = record { reads = unread reads at (from + n); fails = inside.fails } in
    let here : unread reads at from ≡ from_first_byte (unread reads inside.at inside.from) =
    rw (← c.deref.ensures.value) c.next_byte.ensures.reads in
    let below : at < length inside.reads.items = omega (arith, ap length c.deref.ensures.value, inside.reads.ok.0) in
    let read_is : read ≡ get_or reads at [] =
    ap (λ v. v.items) c.index-read.ensures ∙ sym (get_or-map (λ v. v.items) inside.reads.items at c.index-read.result.now [] below) in
    let count : from + n - from ≡ n = omega arith in
    let copied : c.copy_from_slice.new.self ≡ take n (drop from read) =
    c.copy_from_slice.ensures.after ∙ ap (λ (k : ℕ). take k (drop from c.deref-2.result.now)) count
    ∙ ap (λ (b : List ℕ). take n (drop from b)) c.deref-2.ensures.value in
    subst (λ (s : Reads). ReadsNext (from_first_byte s.reads) s.fails after (Ok n) (c.copy_from_slice.new.self ++ drop n c.args.buf.now))
    c.self.view_is
    (copies_front (unread reads inside.at inside.from) reads inside.fails at from n read c.args.buf.now c.copy_from_slice.new.self here
    (rw length-map below) read_is (omega (arith, c.index-read.result.now.ok.0)) copied)

pub returns-then-self-len : goal.returns-then-self-len
returns-then-self-len c = grind (arith, common_steps)
