-- Records: what the tests of their parts decide, and that a line has no fields other than the computed ones.
use Rattle.std.proofs.Common.{◌≡◌, ◌≢◌, ℕ, ◌≤◌, true, eqb, leb, ◌&&◌, ◌||◌, inl, inr, List, [], ◌∷◌, ◌++◌, Option, None, Some, ℤ, pos, refl, sym, ◌∙◌, ap, subst, arith}
use Rattle.std.specs.Prelude.{option_and_then, option_map, neg_ℤ}
use Rattle.std.specs.Bool.{Decides}
use Rattle.std.specs.List.{AllByRecursion, list_all}
use Rattle.std.proofs.Math.Bool.{or_assoc}
use Rattle.std.proofs.lemmas.Bool.{eqb-false, false≢true, cond-true}
use Rattle.std.proofs.lemmas.Bool.Decides.{Decides-at, Decides-eqb, Decides-and, Decides-or, Decides-like}
use Rattle.std.proofs.lemmas.List.{append_assoc, append_cancel_left}
use Rattle.std.proofs.lemmas.Option.{none-some, same_Some, cond_some, option_and_then_some}
use Rattle.redo_line.specs.Decimal.{number, AreDigits, are_digits, number_of}
use Rattle.redo_line.specs.Lines.{line_feed}
use Rattle.redo_line.specs.Parts.{split_once, after_prefix}
use Rattle.redo_line.specs.Private.Record.{parts_of}
use Rattle.redo_line.specs.Record.{record_prefix, colon, at_sign, period, space, minus, max_pid, IsKindByte, IsTime, IsStatus, kind_of, FitsKind, Fields, IsRecord, is_kind_byte, is_kind, is_pid, is_time_parts, is_time, validated, fields_of, signed_status, status_of}
use Rattle.redo_line.proofs.DigitLemmas.{leb-Decides, list_all-Decides, are_digits-Decides, digits_free}
use Rattle.redo_line.proofs.PartLemmas.{HasNo, free-append, free_parts, are_parts, parted_at, parted_free, behind_front, front_whole, behind_free}

-- The name of a kind.
kind_byte-Decides : (byte : ℕ) → Decides (is_kind_byte byte) (IsKindByte byte)
kind_byte-Decides byte =
    let letter = Decides-and (leb 97 byte) (leb byte 122) (leb-Decides 97 byte) (leb-Decides byte 122) in
    let other = Decides-or (eqb byte 45) (eqb byte 95) (Decides-eqb byte 45) (Decides-eqb byte 95) in
    Decides-at (is_kind_byte byte) ((leb 97 byte && leb byte 122) || (eqb byte 45 || eqb byte 95))
    (or_assoc (leb 97 byte && leb byte 122) (eqb byte 45) (eqb byte 95))
    (Decides-or (leb 97 byte && leb byte 122) (eqb byte 45 || eqb byte 95) letter other)

abbrev AreKindBytes : List ℕ → Type 0
AreKindBytes kind = (kind ≢ []) × AllByRecursion IsKindByte kind

kind-Decides : (kind : List ℕ) → Decides (is_kind kind) (AreKindBytes kind)
kind-Decides [] = (λ is. absurd (false≢true is), λ are. absurd (are.0 refl))
kind-Decides (first ∷ others) =
    Decides-like (list_all is_kind_byte (first ∷ others)) (λ each. ((λ e. cc), each)) (λ are. are.1)
    (list_all-Decides is_kind_byte IsKindByte kind_byte-Decides (first ∷ others))

-- A kind contains no colon.
kind_byte-free : (byte : ℕ) → IsKindByte byte → byte ≢ colon
kind_byte-free byte (inl letter) same = omega (arith, letter.0)
kind_byte-free byte (inr (inl is)) same = omega (arith, is)
kind_byte-free byte (inr (inr is)) same = omega (arith, is)

kind-free : (kind : List ℕ) → AllByRecursion IsKindByte kind → HasNo colon kind
kind-free [] each = tt
kind-free (byte ∷ kind) each = (kind_byte-free byte each.0, kind-free kind each.1)

abbrev IsPid : List ℕ → Type 0
IsPid pid = AreDigits 10 pid × (number pid ≤ max_pid)

pid-Decides : (pid : List ℕ) → Decides (is_pid pid) (IsPid pid)
pid-Decides pid = Decides-and (are_digits 10 pid) (leb (number pid) max_pid) (are_digits-Decides 10 pid) (leb-Decides (number pid) max_pid)

time_cut : (time : List ℕ) (cut : Option (List ℕ × List ℕ)) → split_once period time ≡ cut → is_time_parts time cut ≡ true → IsTime time
time_cut time None none is = inl ((are_digits-Decides 20 time).0 is)
time_cut time (Some parts) cut is =
    let each = (Decides-and (are_digits 20 parts.0) (are_digits 9 parts.1) (are_digits-Decides 20 parts.0)
    (are_digits-Decides 9 parts.1)).0 is in
    inr (parts.0, parts.1, (are_parts period time parts cut).whole, each.0, each.1)

time_is : (time : List ℕ) → IsTime time → is_time time ≡ true
time_is time (inl are) = ap (is_time_parts time) (parted_free period time (digits_free 20 period time refl are))
    ∙ (are_digits-Decides 20 time).1 are
time_is time (inr (seconds, fraction, whole, are, behind_point)) =
    let free = digits_free 20 period seconds refl are in
    ap (is_time_parts time) (ap (split_once period) whole ∙ parted_at period seconds fraction free)
    ∙ (Decides-and (are_digits 20 seconds) (are_digits 9 fraction) (are_digits-Decides 20 seconds) (are_digits-Decides 9 fraction)).1
    (are, behind_point)

time-Decides : (time : List ℕ) → Decides (is_time time) (IsTime time)
time-Decides time = (time_cut time (split_once period time) refl, time_is time)

-- A time contains no `@`.
time-free : (time : List ℕ) → IsTime time → HasNo at_sign time
time-free time (inl are) = digits_free 20 at_sign time refl are
time-free time (inr (seconds, fraction, whole, are, behind_point)) =
    subst (HasNo at_sign) (sym whole)
    (free-append at_sign seconds (period ∷ fraction) (digits_free 20 at_sign seconds refl are)
    (eqb-false period at_sign refl, digits_free 9 at_sign fraction refl behind_point))

-- A status.
number_read : (most : ℕ) (bytes : List ℕ) (value : ℕ) → number_of most bytes ≡ Some value → AreDigits most bytes × (number bytes ≡ value)
number_read most bytes value so = let both = cond_some (are_digits most bytes) (number bytes) value so in
    ((are_digits-Decides most bytes).0 both.0, both.1)

number_is : (most : ℕ) (bytes : List ℕ) → AreDigits most bytes → number_of most bytes ≡ Some (number bytes)
number_is most bytes are = cond-true (are_digits most bytes) (Some (number bytes)) None ((are_digits-Decides most bytes).1 are)

abbrev positive : ℕ → Option ℤ
positive value = Some (pos value)

abbrev negative : ℕ → Option ℤ
negative value = Some (neg_ℤ (pos value))

status_cut : (bytes : List ℕ) (cut : Option (List ℕ)) (status : ℤ) → after_prefix (minus ∷ []) bytes ≡ cut
    → signed_status bytes cut ≡ Some status → IsStatus bytes status
status_cut bytes None status cut so = option_and_then_some positive (number_of 9 bytes) status so (λ value is last.
    let read = number_read 9 bytes value is in
    inl (read.0, sym (same_Some (pos value) status last) ∙ ap pos (sym read.1)))
status_cut bytes (Some digits) status cut so = option_and_then_some negative (number_of 9 digits) status so (λ value is last.
    let read = number_read 9 digits value is in
    inr (
      digits,
      front_whole (minus ∷ []) bytes digits cut,
      read.0,
      sym (same_Some (neg_ℤ (pos value)) status last)
          ∙ ap (λ (n : ℕ). neg_ℤ (pos n)) (sym read.1),
    ))

-- `status_of` gives the status and no other value.
pub status_read : (bytes : List ℕ) (status : ℤ) → status_of bytes ≡ Some status → IsStatus bytes status
unfolding status_of
status_read bytes status so = status_cut bytes (after_prefix (minus ∷ []) bytes) status refl so

pub status_is : (bytes : List ℕ) (status : ℤ) → IsStatus bytes status → status_of bytes ≡ Some status
unfolding status_of
status_is bytes status (inl (are, is)) =
    ap (signed_status bytes) (behind_free minus bytes (digits_free 9 minus bytes refl are))
    ∙ ap (option_and_then positive) (number_is 9 bytes are) ∙ ap Some (sym is)
status_is bytes status (inr (digits, whole, are, is)) =
    ap (signed_status bytes) (ap (after_prefix (minus ∷ [])) whole ∙ behind_front (minus ∷ []) digits)
    ∙ ap (option_and_then negative) (number_is 9 digits are) ∙ ap Some (sym is)

-- A status contains no space.
pub status-free : (bytes : List ℕ) (status : ℤ) → IsStatus bytes status → HasNo space bytes
status-free bytes status (inl (are, is)) = digits_free 9 space bytes refl are
status-free bytes status (inr (digits, whole, are, is)) =
    subst (HasNo space) (sym whole) (eqb-false minus space refl, digits_free 9 space digits refl are)

-- The fields, except whether the text fits the kind.
abbrev AreFields : Fields → Type 0
AreFields fields = (AreKindBytes fields.kind × IsPid fields.pid) × IsTime fields.time

fields-Decides : (fields : Fields) → Decides (is_kind fields.kind && is_pid fields.pid && is_time fields.time) (AreFields fields)
fields-Decides fields =
    Decides-and (is_kind fields.kind && is_pid fields.pid) (is_time fields.time)
    (Decides-and (is_kind fields.kind) (is_pid fields.pid) (kind-Decides fields.kind) (pid-Decides fields.pid)) (time-Decides fields.time)

-- The bytes after the record prefix.
abbrev behind_time : Fields → List ℕ
behind_time fields = at_sign ∷ space ∷ fields.text

abbrev behind_pid : Fields → List ℕ
behind_pid fields = fields.time ++ at_sign ∷ behind_time fields

abbrev behind_kind : Fields → List ℕ
behind_kind fields = fields.pid ++ colon ∷ behind_pid fields

abbrev written : Fields → List ℕ
written fields = fields.kind ++ colon ∷ behind_kind fields

abbrev Writes : List ℕ → Fields → Type 0
Writes bytes fields = (bytes ≡ written fields) × AreFields fields

-- The fields that `fields_of` splits off, one after another.
module _ (kind pid time : List ℕ × List ℕ) where
  abbrev made : List ℕ → Fields
  made text = record { kind = kind.0; pid = pid.0; time = time.0; text = text }

  abbrev at_text : List ℕ → Option Fields
  at_text text = validated (made text)

abbrev at_time : List ℕ × List ℕ → List ℕ × List ℕ → List ℕ × List ℕ → Option Fields
at_time kind pid time = option_and_then (at_text kind pid time) (after_prefix (at_sign ∷ space ∷ []) time.1)

abbrev at_pid : List ℕ × List ℕ → List ℕ × List ℕ → Option Fields
at_pid kind pid = option_and_then (at_time kind pid) (split_once at_sign pid.1)

abbrev at_kind : List ℕ × List ℕ → Option Fields
at_kind kind = option_and_then (at_pid kind) (split_once colon kind.1)

-- `fields_of` gives the fields and no others.
pub fields_read : (bytes : List ℕ) (fields : Fields) → fields_of bytes ≡ Some fields → Writes bytes fields
unfolding fields_of
fields_read bytes fields so =
    option_and_then_some at_kind (split_once colon bytes) fields so (λ kind kind_cut so_kind.
    option_and_then_some (at_pid kind) (split_once colon kind.1) fields so_kind (λ pid pid_cut so_pid.
    option_and_then_some (at_time kind pid) (split_once at_sign pid.1) fields so_pid (λ time time_cut so_time.
    option_and_then_some (at_text kind pid time) (after_prefix (at_sign ∷ space ∷ []) time.1) fields so_time (λ text text_cut so_text.
    let all = cond_some (is_kind kind.0 && is_pid pid.0 && is_time time.0) (made kind pid time text) fields so_text in
    let whole : bytes ≡ written (made kind pid time text) =
    (are_parts colon bytes kind kind_cut).whole
    ∙ ap (λ (bs : List ℕ). kind.0 ++ colon ∷ bs) ((are_parts colon kind.1 pid pid_cut).whole
    ∙ ap (λ (bs : List ℕ). pid.0 ++ colon ∷ bs) ((are_parts at_sign pid.1 time time_cut).whole
    ∙ ap (λ (bs : List ℕ). time.0 ++ at_sign ∷ bs) (front_whole (at_sign ∷ space ∷ []) time.1 text text_cut))) in
    subst (Writes bytes) all.1 (whole, (fields-Decides (made kind pid time text)).0 all.0)))))

fields_are : (bytes : List ℕ) (fields : Fields) → Writes bytes fields → fields_of bytes ≡ Some fields
unfolding fields_of
fields_are bytes fields writes =
    let are = writes.1 in
    ap (option_and_then at_kind) (ap (split_once colon) writes.0
    ∙ parted_at colon fields.kind (behind_kind fields) (kind-free fields.kind are.0.0.1))
    ∙ ap (option_and_then (at_pid (fields.kind, behind_kind fields)))
    (parted_at colon fields.pid (behind_pid fields) (digits_free 10 colon fields.pid refl are.0.1.0))
    ∙ ap (option_and_then (at_time (fields.kind, behind_kind fields) (fields.pid, behind_pid fields)))
    (parted_at at_sign fields.time (behind_time fields) (time-free fields.time are.1))
    ∙ ap (option_and_then (at_text (fields.kind, behind_kind fields) (fields.pid, behind_pid fields) (fields.time, behind_time fields)))
    (behind_front (at_sign ∷ space ∷ []) fields.text)
    ∙ cond-true (is_kind fields.kind && is_pid fields.pid && is_time fields.time) (Some fields) None ((fields-Decides fields).1 are)

-- A line that is a record begins with the record prefix, and its fields are computed from the bytes after the prefix.
record_whole : (line : List ℕ) (fields : Fields) → IsRecord line fields → line ≡ record_prefix ++ written fields
record_whole line fields is = is.whole ∙ simp append_assoc

pub record_begins : (line : List ℕ) (fields : Fields) → IsRecord line fields → (bytes : List ℕ) × (line ≡ record_prefix ++ bytes)
record_begins line fields is = (written fields, record_whole line fields is)

pub record_fields : (line bytes : List ℕ) (fields : Fields) → line ≡ record_prefix ++ bytes → IsRecord line fields
    → fields_of bytes ≡ Some fields
record_fields line bytes fields begins is =
    fields_are bytes fields (
      append_cancel_left record_prefix bytes (written fields) (sym begins ∙ record_whole line fields is),
      (((is.kind_some, is.kind_each), (is.pid_digits, is.pid_fits)), is.time_is),
    )

pub fields_record : (line bytes : List ℕ) (fields : Fields) → line ≡ record_prefix ++ bytes → fields_of bytes ≡ Some fields
    → FitsKind (kind_of fields.kind) fields.text → IsRecord line fields
fields_record line bytes fields begins are fits =
    let writes = fields_read bytes fields are in
    record {
      whole = begins ∙ ap (λ (bs : List ℕ). record_prefix ++ bs) writes.0 ∙ simp append_assoc;
      kind_some = writes.1.0.0.0;
      kind_each = writes.1.0.0.1;
      pid_digits = writes.1.0.1.0;
      pid_fits = writes.1.0.1.1;
      time_is = writes.1.1;
      text_fits = fits;
    }

-- A record is read in only one way.
pub one_reading : (line : List ℕ) (fields others : Fields) → IsRecord line fields → IsRecord line others → fields ≡ others
one_reading line fields others is also =
    let begins = record_begins line fields is in
    same_Some fields others (sym (record_fields line begins.0 fields begins.1 is) ∙ record_fields line begins.0 others begins.1 also)

-- The kind and the text of a record in a line contain no line feed.
pub parts_free : (bytes kind : List ℕ) (pid : ℕ) (text : List ℕ) → HasNo line_feed bytes
    → option_map parts_of (fields_of bytes) ≡ Some (kind, pid, text) → HasNo line_feed kind × HasNo line_feed text
parts_free bytes kind pid text free is = by (fields_of bytes) refl is
  where
    by : (read : Option Fields) → fields_of bytes ≡ read → option_map parts_of read ≡ Some (kind, pid, text)
        → HasNo line_feed kind × HasNo line_feed text
    by None read is = absurd (none-some (kind, pid, text) is)
    by (Some fields) read is =
        let same = same_Some (parts_of fields) (kind, pid, text) is in
        let all = subst (HasNo line_feed) (fields_read bytes fields read).0 free in
        let after_prefix = free_parts line_feed fields.kind _ all in
        let behind_pid = free_parts line_feed fields.pid _ after_prefix.1.1 in
        let behind_time = free_parts line_feed fields.time _ behind_pid.1.1 in (
          subst (HasNo line_feed) (ap (λ (parts : List ℕ × ℕ × List ℕ). parts.0) same) after_prefix.0,
          subst (HasNo line_feed) (ap (λ (parts : List ℕ × ℕ × List ℕ). parts.2) same) behind_time.1.1.1.1,
        )
