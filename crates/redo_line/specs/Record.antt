-- Records: the lines of the form `@@REDO:kind:pid:time@@ text`.
use Rattle.std.specs.Prelude.{◌≡◌, ◌≢◌, ℕ, ◌≤◌, nat_le, Bool, false, ◌==◌, ◌&&◌, ◌||◌, ◌⊎◌, List, [], ◌∷◌, ◌++◌, Option, None, Some, option_and_then, ℤ, pos, neg_ℤ, codes, if◌then◌else◌}
use Rattle.std.specs.List.{AllByRecursion, list_all}
use Rattle.std.specs.Str.{bytes_eq}
use Rattle.redo_line.specs.declared.entry.How.TheVariants.{Made, Waiting, Locked, Unlocked, Unchanged}
use Rattle.redo_line.specs.declared.record.Kind.{Kind}
use Rattle.redo_line.specs.declared.record.Kind.TheVariants.{Mention, Done, Note}
use Rattle.redo_line.specs.Decimal.{number, AreDigits, are_digits, number_of}
use Rattle.redo_line.specs.Parts.{split_once, after_prefix}

-- The record prefix.
abbrev pub record_prefix : List ℕ
record_prefix = codes "@@REDO:"

abbrev pub colon : ℕ
colon = 58

abbrev pub at_sign : ℕ
at_sign = 64

abbrev pub period : ℕ
period = 46

abbrev pub space : ℕ
space = 32

abbrev pub minus : ℕ
minus = 45

abbrev pub max_pid : ℕ
max_pid = 4294967295

-- Whether a byte is a letter from `a` to `z`, `-` or `_`.
abbrev pub IsKindByte : ℕ → Type 0
IsKindByte byte = ((97 ≤ byte) × (byte ≤ 122)) ⊎ ((byte ≡ 45) ⊎ (byte ≡ 95))

-- Whether bytes are a time: seconds, optionally with a fraction after a point.
abbrev pub IsTime : List ℕ → Type 0
IsTime time = AreDigits 20 time ⊎ ((seconds fraction : List ℕ) × (time ≡ seconds ++ period ∷ fraction) × AreDigits 20 seconds × AreDigits 9 fraction)

-- Whether bytes are a status with this value: digits, optionally after a minus.
abbrev pub IsStatus : List ℕ → ℤ → Type 0
IsStatus bytes status =
    (AreDigits 9 bytes × (status ≡ pos (number bytes)))
    ⊎ ((digits : List ℕ) × (bytes ≡ minus ∷ digits) × AreDigits 9 digits × (status ≡ neg_ℤ (pos (number digits))))

-- How the text of a record is read, by the name of its kind.
abbrev pub kind_of : List ℕ → Kind
kind_of name =
    if bytes_eq name (codes "do") then Mention Made
    else if bytes_eq name (codes "waiting") then Mention Waiting
    else if bytes_eq name (codes "locked") then Mention Locked
    else if bytes_eq name (codes "unlocked") then Mention Unlocked
    else if bytes_eq name (codes "unchanged") then Mention Unchanged
    else if bytes_eq name (codes "done") then Done else Note

-- The text is a status, a space and a name that isn't empty.
pub record IsDone (text : List ℕ) : Type 0 where
  pub status : List ℕ
  pub value : ℤ
  pub name : List ℕ
  pub whole : text ≡ status ++ space ∷ name
  pub status_is : IsStatus status value
  pub some : name ≢ []

-- Whether the text of a record fits its kind.
abbrev pub FitsKind : Kind → List ℕ → Type 0
FitsKind (Mention how) text = text ≢ []
FitsKind Done text = IsDone text
FitsKind Note text = Unit {0}

-- The parts of a record, without the bytes between them.
pub record Fields : Type 0 where
  pub kind : List ℕ
  pub pid : List ℕ
  pub time : List ℕ
  pub text : List ℕ

-- The line is a record with these fields.
pub record IsRecord (line : List ℕ) (fields : Fields) : Type 0 where
  pub whole : line ≡ record_prefix ++ fields.kind ++ colon ∷ fields.pid ++ colon ∷ fields.time ++ at_sign ∷ at_sign ∷ space ∷ fields.text
  pub kind_some : fields.kind ≢ []
  pub kind_each : AllByRecursion IsKindByte fields.kind
  pub pid_digits : AreDigits 10 fields.pid
  pub pid_fits : number fields.pid ≤ max_pid
  pub time_is : IsTime fields.time
  pub text_fits : FitsKind (kind_of fields.kind) fields.text

-- The functions from here on compute the fields of a record. A record is split at its first two colons and at the next `@`, because
-- its kind, its pid and its time can't contain the byte that follows them.
abbrev pub is_kind_byte : ℕ → Bool
is_kind_byte byte = (nat_le 97 byte && nat_le byte 122) || byte == 45 || byte == 95

abbrev pub is_kind : List ℕ → Bool
is_kind [] = false
is_kind (first ∷ others) = list_all is_kind_byte (first ∷ others)

abbrev pub is_pid : List ℕ → Bool
is_pid pid = are_digits 10 pid && nat_le (number pid) max_pid

abbrev pub is_time_parts : List ℕ → Option (List ℕ × List ℕ) → Bool
is_time_parts time None = are_digits 20 time
is_time_parts time (Some parts) = are_digits 20 parts.0 && are_digits 9 parts.1

abbrev pub is_time : List ℕ → Bool
is_time time = is_time_parts time (split_once period time)

abbrev pub validated : Fields → Option Fields
validated fields = if is_kind fields.kind && is_pid fields.pid && is_time fields.time then Some fields else None

-- The fields of a record, from the bytes after the record prefix, without a test of whether its text fits its kind.
unfoldable pub fields_of : List ℕ → Option Fields
fields_of bytes =
    option_and_then (λ (kind : List ℕ × List ℕ). option_and_then (λ (pid : List ℕ × List ℕ). option_and_then (λ (time : List ℕ × List ℕ).
    option_and_then (λ (text : List ℕ). validated (record { kind = kind.0; pid = pid.0; time = time.0; text = text }))
    (after_prefix (at_sign ∷ space ∷ []) time.1)) (split_once at_sign pid.1)) (split_once colon kind.1)) (split_once colon bytes)

-- The fields of a line that begins with the record prefix, without a test of whether its text fits its kind.
unfoldable pub record_fields : List ℕ → Option Fields
record_fields line = option_and_then (λ (bytes : List ℕ). fields_of bytes) (after_prefix record_prefix line)

-- The kind, the time and the text of a record.
abbrev pub timed_parts : Fields → List ℕ × List ℕ × List ℕ
timed_parts fields = (fields.kind, fields.time, fields.text)

abbrev pub signed_status : List ℕ → Option (List ℕ) → Option ℤ
signed_status bytes None = option_and_then (λ (value : ℕ). Some (pos value)) (number_of 9 bytes)
signed_status bytes (Some digits) = option_and_then (λ (value : ℕ). Some (neg_ℤ (pos value))) (number_of 9 digits)

-- The value of a status, if it is one.
unfoldable pub status_of : List ℕ → Option ℤ
status_of bytes = signed_status bytes (after_prefix (minus ∷ []) bytes)
