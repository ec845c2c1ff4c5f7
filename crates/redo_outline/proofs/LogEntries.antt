-- The entries of a log from one of them on.
use Rattle.std.proofs.Common.{◌≡◌, ℕ, zero, suc, ◌+◌, ◌<◌, List, [], ◌∷◌, ◌++◌, None, Some, drop, length, map, refl, sym, ap, ◌∙◌, arith}
use Rattle.std.specs.Prelude.{slice_get}
use Rattle.std.proofs.lemmas.Option.{none-some, same_Some, slice_get_within}
use Rattle.redo_line.specs.declared.entry.Entry.{Entry}
use Rattle.redo_line.specs.declared.entry.Entry.TheVariants.{Text}
use Rattle.redo_logs.specs.Logs.{Log, entry_at}
use Rattle.redo_logs.specs.Numbering.{AreTexts}
use Rattle.redo_outline.specs.Facts.{entries_at}

pub entry_is : (logs : List Log) (number k : ℕ) → entry_at number k logs ≡ slice_get (entries_at number logs) k
entry_is [] number k = refl
entry_is (log ∷ logs) zero k = refl
entry_is (log ∷ logs) (suc number) k = entry_is logs number k

-- An entry, and the entries after it.
pub drop_here : (entries : List Entry) (k : ℕ) (entry : Entry) → slice_get entries k ≡ Some entry
    → drop k entries ≡ entry ∷ drop (k + 1) entries
drop_here [] k entry is = absurd (none-some entry is)
drop_here (first ∷ entries) zero entry is = ap (λ (e : Entry). e ∷ entries) (same_Some first entry is)
drop_here (first ∷ entries) (suc k) entry is =
    let same : suc (k + 1) ≡ suc k + 1 = omega arith in
    drop_here entries k entry is ∙ ap (λ (n : ℕ). entry ∷ drop n (first ∷ entries)) same

pub drop_none : (entries : List Entry) (k : ℕ) → slice_get entries k ≡ None → drop k entries ≡ []
drop_none [] zero is = refl
drop_none [] (suc k) is = refl
drop_none (first ∷ entries) zero is = absurd (none-some first (sym is))
drop_none (first ∷ entries) (suc k) is = drop_none entries k is

module _ (logs : List Log) (number : ℕ) where
  pub within : (entry : Entry) (k : ℕ) → entry_at number k logs ≡ Some entry → k < length (entries_at number logs)
  within entry k is = slice_get_within (entries_at number logs) k entry (sym (entry_is logs number k) ∙ is)

  pub one_entry : (k : ℕ) (entry : Entry) → entry_at number k logs ≡ Some entry
      → drop k (entries_at number logs) ≡ entry ∷ drop (k + 1) (entries_at number logs)
  one_entry k entry at = drop_here (entries_at number logs) k entry (sym (entry_is logs number k) ∙ at)

  pub no_entry : (k : ℕ) → entry_at number k logs ≡ None → drop k (entries_at number logs) ≡ []
  no_entry k none = drop_none (entries_at number logs) k (sym (entry_is logs number k) ∙ none)

  pub text_entries : (k : ℕ) (texts : List (List ℕ)) → AreTexts logs number k texts
      → drop k (entries_at number logs) ≡ map Text texts ++ drop (k + length texts) (entries_at number logs)
  text_entries k [] are = ap (λ (n : ℕ). drop n (entries_at number logs)) (omega arith)
  text_entries k (text ∷ texts) are =
      one_entry k (Text text) are.0
      ∙ ap (λ entries. Text text ∷ entries) (text_entries (k + 1) texts are.1
      ∙ ap (λ (n : ℕ). map Text texts ++ drop n (entries_at number logs)) (omega arith))
