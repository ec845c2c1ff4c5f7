-- A word in a plain line, and what precedes and follows it.
use Rattle.std.proofs.Common.{◌≡◌, inl, inr, ⊎_elim, ℕ, ◌+◌, ◌<◌, ◌≤◌, ◌==◌, true, List, [], ◌∷◌, ◌++◌, Option, None, Some, length, take, drop, get_or, refl, ◌∙◌, ap, subst, arith}
use Rattle.std.specs.Prelude.{option_and_then, option_map}
use Rattle.std.proofs.lemmas.Bool.{or_cases, eqb-true, cases_lt}
use Rattle.std.proofs.lemmas.List.{at_drop_more, drop_all, get_or_past}
use Rattle.std.proofs.lemmas.Option.{none-some, same_Some}
use Rattle.memchr.proofs.lemmas.MatchLemmas.{OccursAt-split}
use Rattle.redo_line.specs.Record.{space}
use Rattle.redo_diagnostics.specs.declared.severity.Severity.{Severity}
use Rattle.redo_diagnostics.specs.declared.severity.Severity.TheVariants.{Warning, Error, FatalError}
use Rattle.redo_diagnostics.specs.Diagnostic.{PartsValue, is_word_at, parts_at, parts_in, severity_at, word_of, word_place}
use Rattle.redo_diagnostics.proofs.ApartLemmas.{Follows}
use Rattle.redo_diagnostics.proofs.WordLemmas.{has_word, word_ends, word_occurs}

module _ (plain : List ℕ) (severity : Severity) (place : ℕ) (is : is_word_at plain severity place ≡ true) where
  abbrev pub behind : ℕ
  behind = place + length (word_of severity)

  pub word_splits : drop place plain ≡ word_of severity ++ drop behind plain
  word_splits = OccursAt-split plain (word_of severity) place (word_occurs plain severity place is)

  pub word_follows : Follows (drop behind plain)
  word_follows = ⊎_elim (λ end. inl (drop_all behind plain (let same = eqb-true behind (length plain) end in omega (arith, same))))
      (λ next. inr (drop (behind + 1) plain, at_space (eqb-true (get_or plain behind 0) space next)))
      (or_cases (behind == length plain) (get_or plain behind 0 == space) (word_ends plain severity place is))
    where
      at_space : get_or plain behind 0 ≡ space → drop behind plain ≡ space ∷ drop (behind + 1) plain
      at_space next = ⊎_elim
          (λ (below : behind < length plain). at_drop_more (λ (bytes : List ℕ). bytes) plain behind 0 below
          ∙ ap (λ (byte : ℕ). byte ∷ drop (behind + 1) plain) next)
          (λ (past : length plain ≤ behind). absurd (let none = get_or_past plain behind 0 past in omega (arith, none, next)))
          (cases_lt behind (length plain))

-- The bytes after the word of a diagnostic.
pub record Tail (one : PartsValue) : Type 0 where
  pub after : List ℕ
  pub whole : one.tail ≡ word_of one.severity ++ after
  pub follows : Follows after

pub tail_of : (plain : List ℕ) (one : PartsValue) → parts_in plain ≡ Some one → Tail one
tail_of plain one is = first (word_place plain) is
  where
    second : (place : ℕ) (found : Option Severity) → severity_at plain place ≡ found
        → option_map (λ severity. record { head = take place plain; severity = severity; tail = drop place plain }) found ≡ Some one
        → Tail one
    second place None found is = absurd (none-some one is)
    second place (Some severity) found is =
        let here = has_word plain severity place (Warning ∷ Error ∷ FatalError ∷ []) found in
        subst Tail (same_Some (record { head = take place plain; severity = severity; tail = drop place plain }) one is) (record {
          after = drop (place + length (word_of severity)) plain;
          whole = word_splits plain severity place here;
          follows = word_follows plain severity place here;
        })

    first : (place : Option ℕ) → option_and_then (λ (place : ℕ). parts_at plain place) place ≡ Some one → Tail one
    first None is = absurd (none-some one is)
    first (Some place) is = second place (severity_at plain place) refl is
