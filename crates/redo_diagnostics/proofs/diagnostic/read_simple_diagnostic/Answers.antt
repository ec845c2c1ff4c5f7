use Rattle.std.proofs.Common.{◌≡◌, ◌-◌, ℕ, List, ◌++◌, Option, Some, length, take, drop, length-drop, sym, ap, ◌∙◌, subst, arith}
use Rattle.std.specs.Prelude.{codes, option_and_then, option_map}
use Rattle.std.proofs.lemmas.List.{take_all}
use Rattle.redo_line.proofs.PartLemmas.{HasNo}
use Rattle.redo_line.specs.Record.{colon}
use Rattle.redo_diagnostics.specs.declared.severity.Severity.{Severity}
use Rattle.redo_diagnostics.specs.Diagnostic.{DiagnosticValue, PartsValue, diagnostic_from, masked, parts_at, parts_in, with_key}
use Rattle.redo_diagnostics.proofs.ApartLemmas.{origin_free}
use Rattle.redo_diagnostics.proofs.FlagLemmas.{nowhere_free}
use Rattle.redo_diagnostics.proofs.ReadLemmas.{of_free, of_none}
use Rattle.redo_diagnostics.proofs.StretchLemmas.{origin_kept, tail_kept}
use Rattle.redo_diagnostics.proofs.WordLemmas.{colon_of_head}
use Rattle.redo_diagnostics.proofs.diagnostic.read_simple_diagnostic.Goals as goal

pub returns-in_default : goal.returns-in_default
returns-in_default c =
    let line = c.args.line.now in
    ap (λ (found : Option DiagnosticValue). option_map with_key found)
    (of_none line (nowhere_free colon line c.in_default.ensures) ∙ of_free line c.requires.plain)

pub returns-in_default-find_word : goal.returns-in_default-find_word
returns-in_default-find_word c =
    let line = c.args.line.now in
    ap (λ (place : Option ℕ). option_map with_key (option_map diagnostic_from (option_and_then (λ (n : ℕ). parts_at line n) place)))
    c.in_default-find_word.ensures.place
    ∙ ap (λ (found : Option DiagnosticValue). option_map with_key found) (of_free line c.requires.plain)

pub origin_of-requires : goal.origin_of-requires
origin_of-requires c =
    colon_of_head c.args.line.now c.in-Some.colon c.in-Some.ensures c.in-Some-find_word.at
    (let range = c.in-Some-find_word.ensures.range in omega (arith, range))

pub simple_key-key-requires-clause-free : goal.simple_key-key-requires-clause-free
simple_key-key-requires-clause-free c =
    subst (HasNo colon) (sym c.origin_of.ensures) (origin_free (take c.in-Some-find_word.at c.args.line.now))

pub simple_key-key-requires-clause-origin : goal.simple_key-key-requires-clause-origin
simple_key-key-requires-clause-origin c =
    subst (λ (bytes : List ℕ). masked bytes ≡ bytes) (sym c.origin_of.ensures)
    (origin_kept c.args.line.now c.in-Some-find_word.at c.requires.simple)

pub simple_key-key-requires-clause-tail : goal.simple_key-key-requires-clause-tail
simple_key-key-requires-clause-tail c =
    let line = c.args.line.now in
    let at = c.in-Some-find_word.at in
    subst (λ (bytes : List ℕ). masked bytes ≡ bytes)
    (sym (take_all (length line - at) (drop at line) (let size = length-drop at line in omega (arith, size))))
    (tail_kept line at c.requires.simple)

pub invariant_of-diagnostic : goal.invariant_of-diagnostic
invariant_of-diagnostic c =
    colon_of_head c.args.line.now c.in-Some.colon c.in-Some.ensures c.in-Some-find_word.at
    (let range = c.in-Some-find_word.ensures.range in omega (arith, range))

pub returns : goal.returns
returns c =
    let line = c.args.line.now in
    let at = c.in-Some-find_word.at in
    let severity = c.in-Some-find_word.severity in
    let cut : take (length line - at) (drop at line) ≡ drop at line =
    take_all (length line - at) (drop at line) (let size = length-drop at line in omega (arith, size)) in
    let tail = take (length line - at) (drop at line) in
    let parts : PartsValue = record { head = take at line; severity = severity; tail = tail } in
    let found : parts_in line ≡ Some parts =
    ap (λ (place : Option ℕ). option_and_then (λ (n : ℕ). parts_at line n) place) (sym c.in-Some-find_word.ensures.place)
    ∙ ap (λ (one : Option Severity). option_map (λ (s : Severity). record { head = take at line; severity = s; tail = drop at line }) one)
    c.in-Some-find_word.ensures.severity
    ∙ ap (λ (bytes : List ℕ). Some (record { head = take at line; severity = severity; tail = bytes })) (sym cut) in
    let key : c.simple_key-key.result ≡ (diagnostic_from parts).key =
    c.simple_key-key.ensures ∙ ap (λ (origin : List ℕ). masked (origin ++ codes ": " ++ tail)) c.origin_of.ensures in
    ap (λ (k : List ℕ). Some (diagnostic_from parts, k)) key
    ∙ ap (λ (one : Option PartsValue). option_map with_key (option_map diagnostic_from one)) (sym found)
    ∙ ap (λ (one : Option DiagnosticValue). option_map with_key one) (of_free line c.requires.plain)
