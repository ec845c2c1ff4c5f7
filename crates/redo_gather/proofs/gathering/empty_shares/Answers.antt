use Rattle.std.proofs.Common.{◌≡◌, [], ◌∷◌, ◌++◌, map, ap, ◌∙◌, arith, subst}
use Rattle.std.proofs.lemmas.List.{map_push, replicate_more}
use Rattle.redo_gather.specs.Private.Distribution.{AreEmpty}
use Rattle.std.proofs.lemmas.Result.{IfOk-from_err}
use Rattle.redo_gather.proofs.gathering.empty_shares.Goals as goal

pub returns-in_err-push : goal.returns-in_err-push
returns-in_err-push g c = IfOk-from_err _ _ c.from_residual.ensures.0

pub loop-init : goal.loop-init
loop-init g c = ap (map (λ share. share.items)) c.new-shares.ensures.items

pub returns : goal.returns
returns g c =
    let all : c.loop.counter ≡ c.args.senders = omega (arith, c.loop-test.false, c.loop.auto.counter-end) in
    subst (λ senders. AreEmpty senders (map (λ share. share.items) c.loop.shares.items)) all c.loop.invariant

pub loop-preserved : goal.loop-preserved
loop-preserved g c =
    let shares = c.loop.shares.items in
    ap (map (λ share. share.items)) c.in_ok-push.ensures.items ∙ map_push (λ share. share.items) shares c.new.result
    ∙ ap (λ share. map (λ share. share.items) shares ++ share ∷ []) c.new.ensures.items ∙ ap (λ before. before ++ [] ∷ []) c.loop.invariant
    ∙ replicate_more c.loop.counter []
