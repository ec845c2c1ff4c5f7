-- The result of reading a line, case by case.
use Rattle.std.proofs.Common.{◌≡◌, ◌≢◌, ◌↔◌, ◌&&◌, Bool, false, ℕ, ◌-◌, true, List, [], ◌∷◌, Option, None, Some, Result, Ok, Err, IsErr, IsErrAnd, length, take, drop, nat_eq, refl, sym, ap, ◌∙◌, subst, ℤ}
use Rattle.std.specs.Prelude.{option_map, option_and_then}
use Rattle.std.proofs.lemmas.Bool.{and_parts}
use Rattle.std.proofs.lemmas.Option.{same_Some, none-some}
use Rattle.std.proofs.lemmas.List.{take_rest}
use Rattle.std.specs.Cmp.Lexicographic.{pointwise}
use Rattle.redo_line.specs.declared.entry.Entry.{Entry}
use Rattle.redo_line.specs.declared.entry.Entry.TheVariants.{Text}
use Rattle.redo_line.specs.declared.line.LineFault.{LineFault}
use Rattle.redo_line.specs.declared.line.LineFault.TheVariants.{BadRecord, OutOfMemory}
use Rattle.redo_name.specs.declared.name.NameFault.{NameFault}
use Rattle.redo_name.specs.declared.name.NameFault.TheVariants as name
use Rattle.redo_line.specs.declared.record.Kind.{Kind}
use Rattle.redo_line.specs.Entry.{candidate_body, line_entry, done_or_closing, done_entry, entry_of_fields, record_entry, entry_of}
use Rattle.redo_line.specs.Line.{line_fault_of_name}
use Rattle.redo_line.specs.Private.Line.{IsRefused, ReadsInto}
use Rattle.redo_line.specs.Private.Record.{parts_of}
use Rattle.redo_name.specs.Names.{normal}
use Rattle.redo_line.specs.Decimal.{number}
use Rattle.redo_line.specs.Record.{record_prefix, Fields, kind_of, fields_of, status_of}
use Rattle.redo_line.proofs.Stripping.{behind_begins, behind_none}

-- The entry that is made from a name.
abbrev pub of_name : (List ℕ → Entry) → List ℕ → List ℕ → Option Entry
of_name make target written = option_and_then (λ (mentioned : List ℕ). Some (make mentioned)) (normal (Some target) written)

without : (make : List ℕ → Entry) (target written : List ℕ) → written ≡ [] → of_name make target written ≡ None
unfolding normal
without make target [] is = refl
without make target (byte ∷ bytes) is = absurd (cc)

with : (make : List ℕ → Entry) (target written : List ℕ) → written ≢ [] → of_name make target written ≢ None
unfolding normal
with make target [] some none = some refl
with make target (byte ∷ bytes) some none = absurd (cc)

-- A name that can't be resolved.
pub refused_name : (make : List ℕ → Entry) (target written : List ℕ) (fault : NameFault)
    → (◌≡◌ {A = Result (Unit {0}) NameFault} (Err fault) (Err name.Empty) ↔ (written ≡ []))
    → IsRefused (line_fault_of_name fault) (of_name make target written)
refused_name make target written name.Empty empty = without make target written (empty.0 refl)
refused_name make target written name.OutOfMemory empty = with make target written (λ none. let e = empty.1 none in absurd (cc))

-- A fault is returned, and nothing was appended to the entries.
pub refused_into : (result : Result Bool LineFault) (given : LineFault) (read : Option Entry) (old new : List Entry)
    → IsErr result × IsErrAnd result (λ fault. fault ≡ given) → IsRefused given read → new ≡ old → ReadsInto result read old new
refused_into (Ok closing) given read old new told refused same = absurd told.1
refused_into (Err fault) given read old new told refused same = (subst (λ f. IsRefused f read) (sym told.1) refused, same)

pub named_read : (make : List ℕ → Entry) (target written mentioned : List ℕ) → normal (Some target) written ≡ Some mentioned
    → of_name make target written ≡ Some (make mentioned)
named_read make target written mentioned is = rw is refl

-- A `done` record, by its parts.
pub done_by_parts : (target : List ℕ) (pid : ℕ) (read : Option (List ℕ × List ℕ)) (status written : List ℕ) (value : ℤ)
    → read ≡ Some (status, written) → status_of status ≡ Some value
    → done_entry target pid read ≡ of_name (λ mentioned. done_or_closing target pid value mentioned) target written
done_by_parts target pid read status written value parts is = rw (parts, is) refl

-- The bytes after the record prefix give the entry of the line.
pub at_mark : (target line : List ℕ) → pointwise nat_eq record_prefix (take 7 line) ≡ true
    → entry_of target line true ≡ record_entry target (drop 7 line)
unfolding entry_of
at_mark target line is = rw (behind_begins record_prefix line is) refl

pub no_fields : (target bytes : List ℕ) → fields_of bytes ≡ None → record_entry target bytes ≡ None
unfolding record_entry
no_fields target bytes is = rw is

said_by : (target : List ℕ) (read : Option Fields) (kind : List ℕ) (pid : ℕ) (text : List ℕ)
    → option_map parts_of read ≡ Some (kind, pid, text)
    → option_and_then (λ (fields : Fields). entry_of_fields target (kind_of fields.kind) fields.kind (number fields.pid) fields.text) read
    ≡ entry_of_fields target (kind_of kind) kind pid text
said_by target None kind pid text is = absurd (cc)
said_by target (Some fields) kind pid text is =
    let same : parts_of fields ≡ (kind, pid, text) = same_Some (parts_of fields) (kind, pid, text) is in
    ap (λ (parts : List ℕ × ℕ × List ℕ). entry_of_fields target (kind_of parts.0) parts.0 parts.1 parts.2) same

pub by_fields : (target bytes kind : List ℕ) (pid : ℕ) (text : List ℕ) → option_map parts_of (fields_of bytes) ≡ Some (kind, pid, text)
    → record_entry target bytes ≡ entry_of_fields target (kind_of kind) kind pid text
unfolding record_entry
by_fields target bytes kind pid text is = said_by target (fields_of bytes) kind pid text is

-- The bytes of `&line[7..]`.
pub behind_line : (shown line : List ℕ) → shown ≡ line → take (length shown - 7) (drop 7 shown) ≡ drop 7 line
behind_line shown line is = take_rest shown 7 ∙ ap (drop 7) is

-- The entry of a record, by its parts.
pub what_it_says : (target line shown kind : List ℕ) (pid : ℕ) (text : List ℕ) (text_kind : Kind)
    → pointwise nat_eq record_prefix (take 7 line) ≡ true → shown ≡ line
    → option_map parts_of (fields_of (take (length shown - 7) (drop 7 shown))) ≡ Some (kind, pid, text) → text_kind ≡ kind_of kind
    → entry_of target line true ≡ entry_of_fields target text_kind kind pid text
what_it_says target line shown kind pid text text_kind begins shown_is parts is =
    let bytes = take (length shown - 7) (drop 7 shown) in
    at_mark target line begins ∙ ap (record_entry target) (sym (behind_line shown line shown_is))
    ∙ by_fields target bytes kind pid text parts ∙ ap (λ k. entry_of_fields target k kind pid text) (sym is)

pub what_none_says : (target line bytes : List ℕ) → pointwise nat_eq record_prefix (take 7 line) ≡ true → bytes ≡ drop 7 line
    → fields_of bytes ≡ None → entry_of target line true ≡ None
what_none_says target line bytes begins bytes_are none =
    at_mark target line begins ∙ ap (record_entry target) (sym bytes_are) ∙ no_fields target bytes none

-- An allocation fails for a line that has an entry.
pub no_memory : (read : Option Entry) (entry : Entry) → read ≡ Some entry → IsRefused OutOfMemory read
no_memory read entry is none = none-some entry (sym none ∙ is)

-- A line that is not a candidate.
begins_not : (line : List ℕ) (ended : Bool) → (ended && pointwise nat_eq record_prefix (take 7 line)) ≡ false
    → candidate_body line ended ≡ None
begins_not line true is = behind_none record_prefix line is
begins_not line false is = refl

module _ (target line shown : List ℕ) (ended : Bool) (shown_is : shown ≡ line)
    (is : (ended && pointwise nat_eq record_prefix (take 7 shown)) ≡ false) where
  no_candidate : candidate_body line ended ≡ None
  no_candidate = subst (λ (l : List ℕ). candidate_body l ended ≡ None) shown_is (begins_not shown ended is)

  pub is_text : entry_of target line ended ≡ Some (Text line)
  unfolding entry_of
  is_text = ap (line_entry target line) no_candidate

  pub text_has_entry : (result : Result Entry LineFault) → result ≡ Ok (Text line)
      → (result ≡ Err BadRecord) ↔ (entry_of target line ended ≡ None)
  text_has_entry result answer = (
    λ bad. let e : Ok (Text line) ≡ Err BadRecord = sym answer ∙ bad in
        absurd (cc),
    λ none. absurd (none-some (Text line) (sym none ∙ is_text)),
  )

-- A line that is a candidate.
module _ (target line shown : List ℕ) (ended : Bool) (shown_is : shown ≡ line)
    (is : (ended && pointwise nat_eq record_prefix (take 7 shown)) ≡ true) where
  begins : pointwise nat_eq record_prefix (take 7 line) ≡ true
  begins = subst (λ (l : List ℕ). pointwise nat_eq record_prefix (take 7 l) ≡ true) shown_is
      (and_parts ended (pointwise nat_eq record_prefix (take 7 shown)) is).1

  ended_is : ended ≡ true
  ended_is = (and_parts ended (pointwise nat_eq record_prefix (take 7 shown)) is).0

  pub has_to_be : candidate_body line ended ≡ None → ⊥
  has_to_be none = none-some (drop 7 line) (sym none ∙ ap (candidate_body line) ended_is ∙ behind_begins record_prefix line begins)
