use Rattle.std.proofs.Common.{◌≡◌, true, false, List, ℕ, ◌∙◌, ap}
use Rattle.std.specs.Cow.{cow_slice_items}
use Rattle.std.specs.Str.{bytes_eq}
use Rattle.redo_diagnostics.proofs.KeyPartLemmas.{joined, other_tail, same_tail}
use Rattle.redo_diagnostics.proofs.key.KeyPartialEq.eq.Goals as goal

pub returns-then-eq : goal.returns-then-eq
returns-then-eq c =
    let origin = cow_slice_items c.self.inside.origin in
    let tail = cow_slice_items c.self.inside.tail in
    let origin' = cow_slice_items c.other.inside.origin in
    let tail' = cow_slice_items c.other.inside.tail in
    let view : joined origin tail ≡ c.args.self.now = cc (c.self.view_is) in
    let view' : joined origin' tail' ≡ c.args.other.now = cc (c.other.view_is) in
    let tails : bytes_eq tail tail' ≡ true =
    cc (c.if-eq.true, c.eq.ensures, c.as_slice.ensures.value, c.as_slice-2.ensures.value) in
    let origins : c.eq-then-eq.result ≡ bytes_eq origin origin' =
    cc (c.eq-then-eq.ensures, c.as_slice-then-eq.ensures.value, c.as_slice-then-eq-2.ensures.value) in
    origins ∙ same_tail origin tail origin' tail' c.self.invariant c.other.invariant tails
    ∙ ap (λ (key : List ℕ). bytes_eq key (joined origin' tail')) view ∙ ap (bytes_eq c.args.self.now) view'

pub returns-else-eq : goal.returns-else-eq
returns-else-eq c =
    let origin = cow_slice_items c.self.inside.origin in
    let tail = cow_slice_items c.self.inside.tail in
    let origin' = cow_slice_items c.other.inside.origin in
    let tail' = cow_slice_items c.other.inside.tail in
    let view : joined origin tail ≡ c.args.self.now = cc (c.self.view_is) in
    let view' : joined origin' tail' ≡ c.args.other.now = cc (c.other.view_is) in
    let tails : bytes_eq tail tail' ≡ false =
    cc (c.if-eq.false, c.eq.ensures, c.as_slice.ensures.value, c.as_slice-2.ensures.value) in
    c.if-eq.false ∙ other_tail origin tail origin' tail' c.self.invariant c.other.invariant tails
    ∙ ap (λ (key : List ℕ). bytes_eq key (joined origin' tail')) view ∙ ap (bytes_eq c.args.self.now) view'
