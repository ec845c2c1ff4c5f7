use Rattle.std.proofs.Common.{◌≡◌, ◌<◌, ◌++◌, ℕ, List, [], ◌∷◌, Some, vec_len, length, arith, sym, ap, ◌∙◌, subst}
use Rattle.std.specs.Option.{option_copied}
use Rattle.std.proofs.lemmas.Bool.{eqb-true, eqb-false}
use Rattle.std.proofs.lemmas.List.{nil_from_length}
use Rattle.redo_name.specs.Names.{segments}
use Rattle.redo_name.specs.Private.Path.{Adds}
use Rattle.redo_name.proofs.DirectoryLemmas.{normal_is_path, normal_is_single}
use Rattle.redo_name.proofs.name.normal_form.Goals as goal

pub returns-in_ok-push : goal.returns-in_ok-push
returns-in_ok-push c =
    let target = option_copied c.args.target in
    let name = c.args.name.now in
    let found = c.directory-absolute in
    let absolute = found.result.0 in
    let directory = found.result.1.now in
    let first = c.add_segments.new.path.items in
    let path = c.add_segments-2.new.path.items in
    let adds = subst (λ (p : List ℕ). Adds absolute p (segments directory) first)
    (c.in_ok-reserve.ensures.items ∙ c.clear.ensures.items) c.in_ok-add_segments.ensures in
    let size = eqb-true (vec_len c.add_segments-2.new.path) 0 (sym c.if-is_empty.ensures) in
    let none : path ≡ [] = nil_from_length path (omega (arith, size, c.add_segments-2.new.path.ok.0)) in
    normal_is_single target name directory first path absolute c.requires.nonempty found.ensures.absolute found.ensures.segments adds
    c.in_ok-add_segments-2.ensures none
    ∙ ap Some (ap (λ (byte : ℕ). byte ∷ []) (sym c.root_or_dot.ensures) ∙ ap (λ (p : List ℕ). p ++ c.root_or_dot.result ∷ []) (sym none)
    ∙ sym c.in_ok-push.ensures.items)

pub returns-else-is_empty : goal.returns-else-is_empty
returns-else-is_empty c =
    let target = option_copied c.args.target in
    let name = c.args.name.now in
    let found = c.directory-absolute in
    let absolute = found.result.0 in
    let directory = found.result.1.now in
    let first = c.add_segments.new.path.items in
    let path = c.add_segments-2.new.path.items in
    let adds = subst (λ (p : List ℕ). Adds absolute p (segments directory) first)
    (c.in_ok-reserve.ensures.items ∙ c.clear.ensures.items) c.in_ok-add_segments.ensures in
    let size = eqb-false (vec_len c.add_segments-2.new.path) 0 (sym c.if-is_empty.ensures) in
    let some : 0 < length path = omega (arith, size, c.add_segments-2.new.path.ok.0) in
    normal_is_path target name directory first path absolute c.requires.nonempty found.ensures.absolute found.ensures.segments adds
    c.in_ok-add_segments-2.ensures some
