-- The fields of a record, part by part.
use Rattle.std.proofs.Common.{◌≡◌, ℕ, ◌&&◌, Bool, true, false, List, [], ◌∷◌, Option, None, Some, IfNone, if◌then◌else◌, refl, ap, ◌∙◌}
use Rattle.std.specs.Prelude.{option_map}
use Rattle.std.proofs.lemmas.Bool.{and_left, and_right}
use Rattle.std.proofs.lemmas.Option.{cond_some}
use Rattle.redo_line.specs.Decimal.{number}
use Rattle.redo_line.specs.Parts.{split_once, after_prefix}
use Rattle.redo_line.specs.Record.{Fields, colon, at_sign, space, is_kind, is_pid, is_time, validated, fields_of, record_prefix, record_fields, timed_parts}
use Rattle.redo_line.specs.Private.Record.{parts_of, pid_of}

pub if_none : {X : Type 0} (result : Option X) (P : Type 0) → P → IfNone result P
if_none None P p = p
if_none (Some x) P p = tt

-- Bytes without a value as a pid are not a pid.
pub no_number : (pid : List ℕ) → pid_of pid ≡ None → is_pid pid ≡ false
no_number pid none = by (is_pid pid) none
  where
    by : (is : Bool) → (if is then Some (number pid) else None) ≡ None → is ≡ false
    by true none = absurd (cc)
    by false none = refl

-- Parts that don't fit.
module _ (kind pid time : List ℕ) where
  pub kind_fails : is_kind kind ≡ false → (is_kind kind && is_pid pid && is_time time) ≡ false
  kind_fails is = and_left (is_kind kind && is_pid pid) (is_time time) (and_left (is_kind kind) (is_pid pid) is)

  pub pid_fails : is_pid pid ≡ false → (is_kind kind && is_pid pid && is_time time) ≡ false
  pid_fails is = and_left (is_kind kind && is_pid pid) (is_time time) (and_right (is_kind kind) (is_pid pid) is)

  pub time_fails : is_time time ≡ false → (is_kind kind && is_pid pid && is_time time) ≡ false
  time_fails is = and_right (is_kind kind && is_pid pid) (is_time time) is

module _ (bytes : List ℕ) where
  pub no_kind : split_once colon bytes ≡ None → fields_of bytes ≡ None
  unfolding fields_of
  no_kind is = rw is

  module _ (kind behind_kind : List ℕ) (kind_is : split_once colon bytes ≡ Some (kind, behind_kind)) where
    pub no_pid : split_once colon behind_kind ≡ None → fields_of bytes ≡ None
    unfolding fields_of
    no_pid is = rw (kind_is, is)

    module _ (pid behind_pid : List ℕ) (pid_is : split_once colon behind_kind ≡ Some (pid, behind_pid)) where
      pub no_time : split_once at_sign behind_pid ≡ None → fields_of bytes ≡ None
      unfolding fields_of
      no_time is = rw (kind_is, pid_is, is)

      module _ (time behind_time : List ℕ) (time_is : split_once at_sign behind_pid ≡ Some (time, behind_time)) where
        pub no_text : after_prefix (at_sign ∷ space ∷ []) behind_time ≡ None → fields_of bytes ≡ None
        unfolding fields_of
        no_text is = rw (kind_is, pid_is, time_is, is)

        module _ (text : List ℕ) (text_is : after_prefix (at_sign ∷ space ∷ []) behind_time ≡ Some text) where
          fields_are : fields_of bytes ≡ validated (record { kind = kind; pid = pid; time = time; text = text })
          unfolding fields_of
          fields_are = rw (kind_is, pid_is, time_is, text_is)

          pub fields_found : (value : ℕ) → is_kind kind ≡ true → pid_of pid ≡ Some value → is_time time ≡ true
              → option_map parts_of (fields_of bytes) ≡ Some (kind, value, text)
          fields_found value kind_fits pid_stands time_fits =
              let pid_is = cond_some (is_pid pid) (number pid) value pid_stands in
              let pid_fits : is_pid pid ≡ true = pid_is.0 in
              ap (option_map parts_of) fields_are ∙ rw (kind_fits, pid_fits, time_fits) (ap (λ (n : ℕ). Some (kind, n, text)) pid_is.1)

          -- The time of the same fields.
          pub time_found : (value : ℕ) → is_kind kind ≡ true → pid_of pid ≡ Some value → is_time time ≡ true
              → option_map (λ (fields : Fields). fields.time) (fields_of bytes) ≡ Some time
          time_found value kind_fits pid_stands time_fits =
              let pid_fits : is_pid pid ≡ true = (cond_some (is_pid pid) (number pid) value pid_stands).0 in
              ap (option_map (λ (fields : Fields). fields.time)) fields_are ∙ rw (kind_fits, pid_fits, time_fits) refl

          pub fields_refused : (is_kind kind && is_pid pid && is_time time) ≡ false → fields_of bytes ≡ None
          fields_refused is = fields_are ∙ rw is

-- The kind, the time and the text of fields, if they are known.
pub timed_found : (found : Option Fields) (kind time text : List ℕ) (pid : ℕ) → option_map parts_of found ≡ Some (kind, pid, text)
    → option_map (λ (fields : Fields). fields.time) found ≡ Some time
    → option_map timed_parts found ≡ Some (kind, time, text)
timed_found None kind time text pid parts is = absurd (cc)
timed_found (Some fields) kind time text pid parts is =
    let same : parts_of fields ≡ (kind, pid, text) = cc in
    let time_is : fields.time ≡ time = cc in
    λ i. Some ((same i).0, time_is i, (same i).2)

-- The fields of a line, by whether it begins with the record prefix.
module _ (line : List ℕ) where
  pub no_prefix : after_prefix record_prefix line ≡ None → record_fields line ≡ None
  unfolding record_fields
  no_prefix none = rw none

  pub behind_prefix : (bytes : List ℕ) → after_prefix record_prefix line ≡ Some bytes → record_fields line ≡ fields_of bytes
  unfolding record_fields
  behind_prefix bytes is = rw is
