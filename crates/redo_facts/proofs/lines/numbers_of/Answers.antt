use Rattle.std.proofs.Common.{◌≡◌, Bool, false, cond, List, ℕ, [], ◌∷◌, ◌++◌, nat_eq, ap, sym, ◌∙◌, subst}
use Rattle.std.specs.List.{list_any}
use Rattle.std.proofs.lemmas.Option.{get_or_from_slice_get, slice_get_within}
use Rattle.redo_index.specs.Index.{numbers_of}
use Rattle.redo_facts.proofs.LineLemmas.{fresh, take-next}
use Rattle.redo_facts.proofs.lines.numbers_of.Goals as goal

pub loop-i-preserved : goal.loop-i-preserved
loop-i-preserved c =
    let all = numbers_of c.args.index.now in
    let i = c.loop-i.i in
    let number = c.fid.result in
    let keys = c.loop-i.numbers.keys in
    let there = c.fid.ensures in
    let new_number : list_any (nat_eq number) keys ≡ false =
    subst (λ (ns : List ℕ). list_any (nat_eq number) ns ≡ false) (sym c.loop-i.invariant)
    (fresh number all i c.len-i-end.ensures.index.numbers_differ (slice_get_within all i number there)
    (get_or_from_slice_get all i number 0 there)) in
    c.in_ok-insert.ensures.keys ∙ ap (λ (b : Bool). cond b keys (keys ++ number ∷ [])) new_number
    ∙ ap (λ (ns : List ℕ). ns ++ number ∷ []) c.loop-i.invariant ∙ sym (take-next all i number there)
