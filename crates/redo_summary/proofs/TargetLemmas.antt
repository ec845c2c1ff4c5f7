-- The shown targets.
use Rattle.std.proofs.Common.{◌≡◌, ℕ, ◌+◌, ◌<◌, List, [], ◌∷◌, ◌++◌, None, get_or, length, take, false, sym, ap, ◌∙◌, arith}
use Rattle.std.proofs.lemmas.List.{length-take-le, take_more}
use Rattle.redo_times.specs.declared.times.Times.{Times}
use Rattle.redo_outline.specs.declared.node.Node.{Node}
use Rattle.redo_summary.specs.declared.target.Target.{Target}
use Rattle.redo_summary.specs.Spans.{target_of, targets_from, targets_of}
use Rattle.redo_summary.specs.Targets.{no_times}

-- The target of a position past the end.
abbrev pub no_target : Target
no_target = record { position = 0; parent = None; failed = false; times = no_times }

targets-last : (times : List Times) (position : ℕ) (nodes : List Node) (node : Node)
    → targets_from times position (nodes ++ node ∷ [])
    ≡ targets_from times position nodes ++ target_of times (position + length nodes) node ∷ []
targets-last times position [] node = ap (λ (n : ℕ). target_of times n node ∷ []) (omega arith)
targets-last times position (first ∷ nodes) node =
    ap (λ targets. target_of times position first ∷ targets)
    (targets-last times (position + 1) nodes node
    ∙ ap (λ (n : ℕ). targets_from times (position + 1) nodes ++ target_of times n node ∷ []) (omega arith))

pub targets_more : (times : List Times) (nodes : List Node) (i : ℕ) (d : Node) → i < length nodes
    → targets_of (take i nodes) times ++ target_of times i (get_or nodes i d) ∷ [] ≡ targets_of (take (i + 1) nodes) times
targets_more times nodes i d below =
    let node = get_or nodes i d in
    sym
    (ap (targets_from times 0) (take_more nodes i d below) ∙ targets-last times 0 (take i nodes) node
    ∙ ap (λ (n : ℕ). targets_from times 0 (take i nodes) ++ target_of times n node ∷ [])
    (let all = length-take-le i nodes (omega (arith, below)) in omega (arith, all)))
