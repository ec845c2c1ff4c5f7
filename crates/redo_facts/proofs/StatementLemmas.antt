-- The statement of a line, and that it has no other.
use Rattle.std.proofs.Common.{◌≡◌, ◌≢◌, ◌==◌, ℕ, Bool, true, false, cond, not, List, [], ◌∷◌, ◌++◌, Option, None, Some, refl, sym, ◌∙◌, ap, subst, arith}
use Rattle.std.specs.Prelude.{codes, option_and_then, option_map}
use Rattle.std.specs.Bool.{Decides}
use Rattle.std.specs.List.{list_all}
use Rattle.std.specs.Cmp.Lexicographic.{same_text}
use Rattle.std.specs.Str.{bytes_eq}
use Rattle.std.proofs.lemmas.Bool.{eqb-false, ne_eqb, not-true}
use Rattle.std.proofs.lemmas.Bool.Decides.{Decides-and, Decides-like}
use Rattle.std.proofs.lemmas.List.{append_assoc}
use Rattle.std.proofs.lemmas.Option.{none-some, same_Some, cond_some}
use Rattle.redo_line.specs.Decimal.{AreDigits, are_digits, number, number_of}
use Rattle.redo_line.specs.Parts.{split_once}
use Rattle.redo_line.specs.Record.{space}
use Rattle.redo_line.proofs.DigitLemmas.{are_digits-Decides, digits_free, list_all-Decides}
use Rattle.redo_line.proofs.PartLemmas.{AreParts, HasNo, are_parts, parted_at}
use Rattle.redo_index.specs.Index.{IsNumber, is_number, parse_number}
use Rattle.redo_facts.specs.declared.statement.Form.{Form}
use Rattle.redo_facts.specs.declared.statement.Form.TheVariants.{Log, Directory, Command, Truncated, More, Took}
use Rattle.redo_facts.specs.declared.statement.Usage.{Usage}
use Rattle.redo_facts.specs.Statement.{FitsForm, IsStatement, IsUsage, Statement, form_of, if_not_empty, max_digits, statement_from, statement_of, usage_from, usage_of, word_of}

-- ---- numbers

number-Decides : (digits : List ℕ) → Decides (is_number digits) (IsNumber digits)
number-Decides [] = (λ is. absurd (cc), λ are. absurd (let some = are.digits_are.some in omega (arith, some)))
number-Decides (first ∷ others) =
    let begins : Decides (not (first == 48)) (first ≢ 48) =
    (λ is. eqb-false first 48 (not-true (first == 48) is), λ other. ap not (ne_eqb first 48 other)) in
    Decides-like (is_number (first ∷ others))
    (λ pair. record { digits_are = pair.1; first_not_0 = λ suffix same. let is : first ≡ 48 = cc in pair.0 is })
    (λ are. ((λ same. are.first_not_0 others (ap (λ (byte : ℕ). byte ∷ others) same)), are.digits_are))
    (Decides-and (not (first == 48)) (are_digits 9 (first ∷ others)) begins (are_digits-Decides 9 (first ∷ others)))

number_found : (digits : List ℕ) → IsNumber digits → parse_number digits ≡ Some (number digits)
number_found digits are = ap (λ (is : Bool). cond is (Some (number digits)) None) ((number-Decides digits).1 are)

number_is : (digits : List ℕ) (value : ℕ) → parse_number digits ≡ Some value → IsNumber digits × (value ≡ number digits)
number_is digits value so =
    let both = cond_some (is_number digits) (number digits) value so in ((number-Decides digits).0 both.0, sym both.1)

digits_found : (most : ℕ) (digits : List ℕ) → AreDigits most digits → number_of most digits ≡ Some (number digits)
digits_found most digits are = ap (λ (is : Bool). cond is (Some (number digits)) None) ((are_digits-Decides most digits).1 are)

digits_are : (most : ℕ) (digits : List ℕ) (value : ℕ) → number_of most digits ≡ Some value → AreDigits most digits × (value ≡ number digits)
digits_are most digits value so =
    let both = cond_some (are_digits most digits) (number digits) value so in ((are_digits-Decides most digits).0 both.0, sym both.1)

-- ---- a usage

usage_parts : (user system peak : Option ℕ) (usage : Usage) → usage_from user system peak ≡ Some usage
    → (user ≡ Some usage.user_ms) × (system ≡ Some usage.system_ms) × (peak ≡ Some usage.peak_kb)
usage_parts None system peak usage so = absurd (none-some usage so)
usage_parts (Some user) None peak usage so = absurd (none-some usage so)
usage_parts (Some user) (Some system) None usage so = absurd (none-some usage so)
usage_parts (Some user) (Some system) (Some peak) usage so =
    let same = same_Some (record { user_ms = user; system_ms = system; peak_kb = peak }) usage so in (
      ap (λ (one : Usage). Some one.user_ms) same,
      ap (λ (one : Usage). Some one.system_ms) same,
      ap (λ (one : Usage). Some one.peak_kb) same,
    )

abbrev usage_in : List ℕ × List ℕ → List ℕ × List ℕ → Option Usage
usage_in user system = usage_from (number_of max_digits user.0) (number_of max_digits system.0) (number_of max_digits system.1)

usage_is : (text : List ℕ) (usage : Usage) → usage_of text ≡ Some usage → IsUsage text usage
usage_is text usage so = first (split_once space text) refl so
  where
    second : (user : List ℕ × List ℕ) → AreParts space text user → (parts : Option (List ℕ × List ℕ)) → split_once space user.1 ≡ parts
        → option_and_then (usage_in user) parts ≡ Some usage → IsUsage text usage
    second user are None is so = absurd (none-some usage so)
    second user are (Some system) is so =
        let rest = are_parts space user.1 system is in
        let values = usage_parts (number_of max_digits user.0) (number_of max_digits system.0) (number_of max_digits system.1) usage so in
        let user_is = digits_are max_digits user.0 usage.user_ms values.0 in
        let system_is = digits_are max_digits system.0 usage.system_ms values.1 in
        let peak_is = digits_are max_digits system.1 usage.peak_kb values.2 in
        record {
          user = user.0;
          system = system.0;
          peak = system.1;
          whole = are.whole ∙ ap (λ (bytes : List ℕ). user.0 ++ space ∷ bytes) rest.whole
              ∙ sym (append_assoc user.0 (space ∷ system.0) (space ∷ system.1));
          user_digits = user_is.0;
          user_is = user_is.1;
          system_digits = system_is.0;
          system_is = system_is.1;
          peak_digits = peak_is.0;
          peak_is = peak_is.1;
        }

    first : (parts : Option (List ℕ × List ℕ)) → split_once space text ≡ parts
        → option_and_then (λ (user : List ℕ × List ℕ). option_and_then (usage_in user) (split_once space user.1)) parts ≡ Some usage
        → IsUsage text usage
    first None is so = absurd (none-some usage so)
    first (Some user) is so = second user (are_parts space text user is) (split_once space user.1) refl so

usage_found : (text : List ℕ) (usage : Usage) → IsUsage text usage → usage_of text ≡ Some usage
usage_found text usage is =
    let after_user = parted_at space is.user (is.system ++ space ∷ is.peak) (digits_free max_digits space is.user refl is.user_digits) in
    let after_system = parted_at space is.system is.peak (digits_free max_digits space is.system refl is.system_digits) in
    ap usage_of (is.whole ∙ append_assoc is.user (space ∷ is.system) (space ∷ is.peak))
    ∙ ap (λ (parts : Option (List ℕ × List ℕ)). option_and_then (λ (user : List ℕ × List ℕ). option_and_then (usage_in user)
    (split_once space user.1)) parts) after_user
    ∙ ap (λ (parts : Option (List ℕ × List ℕ)). option_and_then (usage_in (is.user, is.system ++ space ∷ is.peak)) parts) after_system
    ∙ (λ i. usage_from ((digits_found max_digits is.user is.user_digits ∙ ap Some (sym is.user_is)) i)
    ((digits_found max_digits is.system is.system_digits ∙ ap Some (sym is.system_is)) i)
    ((digits_found max_digits is.peak is.peak_digits ∙ ap Some (sym is.peak_is)) i))

-- ---- a form

module _ (word text : List ℕ) (form : Form) where
  abbrev IsForm : Type 0
  IsForm = (word ≡ word_of form) × FitsForm form text

  abbrev from_usage : Option Form
  from_usage = cond (bytes_eq word (codes "usage")) (option_map Took (usage_of text)) None

  abbrev from_more : Option Form
  from_more = cond (bytes_eq word (codes "more")) (Some More) from_usage

  abbrev from_truncated : Option Form
  from_truncated = cond (bytes_eq word (codes "truncated")) (Some Truncated) from_more

  abbrev from_command : Option Form
  from_command = cond (bytes_eq word (codes "command")) (Some Command) from_truncated

  abbrev from_directory : Option Form
  from_directory = cond (bytes_eq word (codes "directory")) (if_not_empty Directory text) from_command

  not_empty : (wanted : Form) (bytes : List ℕ) → if_not_empty wanted bytes ≡ Some form → (wanted ≡ form) × (bytes ≢ [])
  not_empty wanted [] so = absurd (none-some form so)
  not_empty wanted (byte ∷ bytes) so = (same_Some wanted form so, λ same. cc)

  form_is : form_of word text ≡ Some form → IsForm
  form_is so = log (bytes_eq word (codes "log")) refl so
    where
      found : (one : Form) → one ≡ form → (word ≡ word_of one) × FitsForm one text → IsForm
      found one same is = subst (λ (f : Form). (word ≡ word_of f) × FitsForm f text) same is

      took : (usage : Option Usage) → usage_of text ≡ usage → option_map Took usage ≡ Some form → word ≡ codes "usage" → IsForm
      took None is so same = absurd (none-some form so)
      took (Some usage) is so same = found (Took usage) (same_Some (Took usage) form so) (same, usage_is text usage is)

      usage : (b : Bool) → bytes_eq word (codes "usage") ≡ b → cond b (option_map Took (usage_of text)) None ≡ Some form → IsForm
      usage true is so = took (usage_of text) refl so (same_text word (codes "usage") (sym is))
      usage false is so = absurd (none-some form so)

      more : (b : Bool) → bytes_eq word (codes "more") ≡ b → cond b (Some More) from_usage ≡ Some form → IsForm
      more true is so = found More (same_Some More form so) (same_text word (codes "more") (sym is), tt)
      more false is so = usage (bytes_eq word (codes "usage")) refl so

      truncated : (b : Bool) → bytes_eq word (codes "truncated") ≡ b → cond b (Some Truncated) from_more ≡ Some form → IsForm
      truncated true is so = found Truncated (same_Some Truncated form so) (same_text word (codes "truncated") (sym is), tt)
      truncated false is so = more (bytes_eq word (codes "more")) refl so

      command : (b : Bool) → bytes_eq word (codes "command") ≡ b → cond b (Some Command) from_truncated ≡ Some form → IsForm
      command true is so = found Command (same_Some Command form so) (same_text word (codes "command") (sym is), tt)
      command false is so = truncated (bytes_eq word (codes "truncated")) refl so

      directory : (b : Bool) → bytes_eq word (codes "directory") ≡ b → cond b (if_not_empty Directory text) from_command ≡ Some form → IsForm
      directory true is so =
          let both = not_empty Directory text so in found Directory both.0 (same_text word (codes "directory") (sym is), both.1)
      directory false is so = command (bytes_eq word (codes "command")) refl so

      log : (b : Bool) → bytes_eq word (codes "log") ≡ b → cond b (if_not_empty Log text) from_directory ≡ Some form → IsForm
      log true is so = let both = not_empty Log text so in found Log both.0 (same_text word (codes "log") (sym is), both.1)
      log false is so = directory (bytes_eq word (codes "directory")) refl so

some_form : (form : Form) (text : List ℕ) → text ≢ [] → if_not_empty form text ≡ Some form
some_form form [] some = absurd (some refl)
some_form form (byte ∷ bytes) some = refl

form_found : (form : Form) (text : List ℕ) → FitsForm form text → form_of (word_of form) text ≡ Some form
form_found Log text fits = some_form Log text fits
form_found Directory text fits = some_form Directory text fits
form_found Command text fits = refl
form_found Truncated text fits = refl
form_found More text fits = refl
form_found (Took usage) text fits = ap (option_map Took) (usage_found text usage fits)

free : (bytes : List ℕ) → list_all (λ byte. not (byte == space)) bytes ≡ true → HasNo space bytes
free bytes = (list_all-Decides (λ byte. not (byte == space)) (λ byte. byte ≢ space)
    (λ byte. (λ is. eqb-false byte space (not-true (byte == space) is), λ other. ap not (ne_eqb byte space other))) bytes).0

word_free : (form : Form) → HasNo space (word_of form)
word_free Log = free (codes "log") refl
word_free Directory = free (codes "directory") refl
word_free Command = free (codes "command") refl
word_free Truncated = free (codes "truncated") refl
word_free More = free (codes "more") refl
word_free (Took usage) = free (codes "usage") refl

-- ---- a line

statement_parts : (number : Option ℕ) (form : Option Form) (text : List ℕ) (statement : Statement)
    → statement_from number form text ≡ Some statement
    → (number ≡ Some statement.number) × (form ≡ Some statement.form) × (text ≡ statement.text)
statement_parts None form text statement so = absurd (none-some statement so)
statement_parts (Some number) None text statement so = absurd (none-some statement so)
statement_parts (Some number) (Some form) text statement so =
    let same = same_Some (record { number = number; form = form; text = text }) statement so in (
      ap (λ (one : Statement). Some one.number) same,
      ap (λ (one : Statement). Some one.form) same,
      ap (λ (one : Statement). one.text) same,
    )

abbrev statement_in : List ℕ × List ℕ → List ℕ × List ℕ → Option Statement
statement_in first second = statement_from (parse_number first.0) (form_of second.0 second.1) second.1

pub statement_is : (line : List ℕ) (statement : Statement) → statement_of line ≡ Some statement → IsStatement line statement
unfolding statement_of
statement_is line statement so = first (split_once space line) refl so
  where
    second : (front : List ℕ × List ℕ) → AreParts space line front → (parts : Option (List ℕ × List ℕ)) → split_once space front.1 ≡ parts
        → option_and_then (statement_in front) parts ≡ Some statement → IsStatement line statement
    second front are None is so = absurd (none-some statement so)
    second front are (Some others) is so =
        let rest = are_parts space front.1 others is in
        let parts = statement_parts (parse_number front.0) (form_of others.0 others.1) others.1 statement so in
        let number = number_is front.0 statement.number parts.0 in
        let form = form_is others.0 others.1 statement.form parts.1 in
        record {
          digits = front.0;
          whole = are.whole
              ∙ ap (λ (bytes : List ℕ). front.0 ++ space ∷ bytes)
              (rest.whole ∙ (λ i. form.0 i ++ space ∷ parts.2 i))
              ∙ sym (append_assoc front.0 (space ∷ word_of statement.form) (space ∷ statement.text));
          digits_are = number.0;
          number_is = number.1;
          fits = subst (FitsForm statement.form) parts.2 form.1;
        }

    first : (parts : Option (List ℕ × List ℕ)) → split_once space line ≡ parts
        → option_and_then (λ (front : List ℕ × List ℕ). option_and_then (statement_in front) (split_once space front.1)) parts
        ≡ Some statement
        → IsStatement line statement
    first None is so = absurd (none-some statement so)
    first (Some front) is so = second front (are_parts space line front is) (split_once space front.1) refl so

pub statement_found : (line : List ℕ) (statement : Statement) → IsStatement line statement → statement_of line ≡ Some statement
unfolding statement_of
statement_found line statement is =
    let word = word_of statement.form in
    let free = digits_free 9 space is.digits refl is.digits_are.digits_are in
    let after_digits = parted_at space is.digits (word ++ space ∷ statement.text) free in
    let after_word = parted_at space word statement.text (word_free statement.form) in
    ap statement_of (is.whole ∙ append_assoc is.digits (space ∷ word) (space ∷ statement.text))
    ∙ ap (λ (parts : Option (List ℕ × List ℕ)). option_and_then (λ (front : List ℕ × List ℕ). option_and_then (statement_in front)
    (split_once space front.1)) parts) after_digits
    ∙ ap (λ (parts : Option (List ℕ × List ℕ)). option_and_then (statement_in (is.digits, word ++ space ∷ statement.text)) parts) after_word
    ∙ (λ i. statement_from ((number_found is.digits is.digits_are ∙ ap Some (sym is.number_is)) i)
    (form_found statement.form statement.text is.fits i) statement.text)
