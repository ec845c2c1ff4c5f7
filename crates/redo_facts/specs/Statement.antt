-- The statement of a line of `facts`.
use Rattle.std.specs.Prelude.{◌≡◌, ◌≢◌, ℕ, List, [], ◌∷◌, ◌++◌, Option, None, Some, option_and_then, option_map, codes, if◌then◌else◌}
use Rattle.std.specs.Str.{bytes_eq}
use Rattle.redo_line.specs.Decimal.{AreDigits, number, number_of}
use Rattle.redo_line.specs.Parts.{split_once}
use Rattle.redo_line.specs.Record.{space}
use Rattle.redo_index.specs.Index.{IsNumber, parse_number}
use Rattle.redo_facts.specs.declared.statement.Form.{Form}
use Rattle.redo_facts.specs.declared.statement.Form.TheVariants.{Log, Directory, Command, Truncated, More, Took}
use Rattle.redo_facts.specs.declared.statement.Usage.{Usage}

-- A statement: the number of a log, the form of the line, and the text after the form's word.
pub record Statement : Type 0 where
  pub number : ℕ
  pub form : Form
  pub text : List ℕ

-- The word of each form.
abbrev pub word_of : Form → List ℕ
word_of Log = codes "log"
word_of Directory = codes "directory"
word_of Command = codes "command"
word_of Truncated = codes "truncated"
word_of More = codes "more"
word_of (Took usage) = codes "usage"

-- The maximum number of digits of a number that a `usage` line has.
abbrev pub max_digits : ℕ
max_digits = 15

-- Whether a text is three numbers with one space between two of them, and these are their values.
pub record IsUsage (text : List ℕ) (usage : Usage) : Type 0 where
  pub user : List ℕ
  pub system : List ℕ
  pub peak : List ℕ
  pub whole : text ≡ user ++ space ∷ system ++ space ∷ peak
  pub user_digits : AreDigits max_digits user
  pub user_is : usage.user_ms ≡ number user
  pub system_digits : AreDigits max_digits system
  pub system_is : usage.system_ms ≡ number system
  pub peak_digits : AreDigits max_digits peak
  pub peak_is : usage.peak_kb ≡ number peak

-- Whether a text fits the form of its line. Names and paths are not empty.
abbrev pub FitsForm : Form → List ℕ → Type 0
FitsForm Log text = text ≢ []
FitsForm Directory text = text ≢ []
FitsForm Command text = Unit {0}
FitsForm Truncated text = Unit {0}
FitsForm More text = Unit {0}
FitsForm (Took usage) text = IsUsage text usage

-- Whether a line states this: it is a number, a word and a text, with one space between two of them.
pub record IsStatement (line : List ℕ) (statement : Statement) : Type 0 where
  pub digits : List ℕ
  pub whole : line ≡ digits ++ space ∷ word_of statement.form ++ space ∷ statement.text
  pub digits_are : IsNumber digits
  pub number_is : statement.number ≡ number digits
  pub fits : FitsForm statement.form statement.text

-- The definitions from here on compute the statement that `IsStatement` describes. The law `line_has_one_statement` says that both agree.
abbrev pub usage_from : Option ℕ → Option ℕ → Option ℕ → Option Usage
usage_from None system peak = None
usage_from (Some user) None peak = None
usage_from (Some user) (Some system) None = None
usage_from (Some user) (Some system) (Some peak) = Some (record { user_ms = user; system_ms = system; peak_kb = peak })

-- The usage that a text has, if it has that form.
abbrev pub usage_of : List ℕ → Option Usage
usage_of text =
    option_and_then (λ (user : List ℕ × List ℕ). option_and_then (λ (system : List ℕ × List ℕ).
    usage_from (number_of max_digits user.0) (number_of max_digits system.0) (number_of max_digits system.1))
    (split_once space user.1)) (split_once space text)

-- The form, if the text after the word is not empty.
abbrev pub if_not_empty : Form → List ℕ → Option Form
if_not_empty form [] = None
if_not_empty form (byte ∷ bytes) = Some form

-- The form of a line with this word and this text, if there is one.
abbrev pub form_of : List ℕ → List ℕ → Option Form
form_of word text =
    if bytes_eq word (codes "log") then if_not_empty Log text
    else if bytes_eq word (codes "directory") then if_not_empty Directory text
    else if bytes_eq word (codes "command") then Some Command
    else if bytes_eq word (codes "truncated") then Some Truncated
    else if bytes_eq word (codes "more") then Some More
    else if bytes_eq word (codes "usage") then option_map Took (usage_of text)
    else None

abbrev pub statement_from : Option ℕ → Option Form → List ℕ → Option Statement
statement_from None form text = None
statement_from (Some number) None text = None
statement_from (Some number) (Some form) text = Some (record { number = number; form = form; text = text })

-- The statement of a line, if it has one.
unfoldable pub statement_of : List ℕ → Option Statement
statement_of line =
    option_and_then (λ (first : List ℕ × List ℕ). option_and_then (λ (second : List ℕ × List ℕ).
    statement_from (parse_number first.0) (form_of second.0 second.1) second.1)
    (split_once space first.1)) (split_once space line)
