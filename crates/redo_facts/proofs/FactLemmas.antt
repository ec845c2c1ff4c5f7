-- The facts of a target after one more statement.
use Rattle.std.proofs.Common.{◌≡◌, ℕ, Bool, true, false, List, [], ◌∷◌, ◌++◌, Option, None, Some, refl, sym, ap, ◌∙◌}
use Rattle.std.specs.Prelude.{option_map, if◌then◌else◌}
use Rattle.std.specs.Option.{option_or}
use Rattle.std.proofs.lemmas.List.{append-nil, append_assoc}
use Rattle.redo_line.specs.Lines.{line_feed}
use Rattle.redo_name.specs.Names.{normal}
use Rattle.redo_facts.specs.declared.statement.Form.{Form}
use Rattle.redo_facts.specs.declared.statement.Form.TheVariants.{Log, Directory, Command, Truncated, More, Took}
use Rattle.redo_facts.specs.declared.statement.Usage.{Usage}
use Rattle.redo_facts.specs.Facts.{RecipeCommand, RecipeFacts, command_if, commands_from, commands_in, continuation, continuation_from, directory_if, facts_by, facts_in, facts_since, is_log, is_name_of, last_of, more_if, nothing, since_log, usage_if}
use Rattle.redo_facts.specs.Statement.{Statement}
use Rattle.redo_facts.specs.Private.Adding.{with_fact, with_more, with_statement}

-- ---- the last value

or-none : {A : Type 0} (value : Option A) → option_or value None ≡ value
or-none None = refl
or-none (Some x) = refl

or-assoc : {A : Type 0} (a b c : Option A) → option_or (option_or a b) c ≡ option_or a (option_or b c)
or-assoc None b c = refl
or-assoc (Some x) b c = refl

last_of-push : {A : Type 0} (value : Statement → Option A) (ss : List Statement) (s : Statement)
    → last_of value (ss ++ s ∷ []) ≡ option_or (value s) (last_of value ss)
last_of-push value [] s = sym (or-none (value s))
last_of-push value (t ∷ ss) s = ap (λ last. option_or last (value t)) (last_of-push value ss s)
    ∙ or-assoc (value s) (last_of value ss) (value t)

-- ---- the last `log` line

abbrev Since : Type 0
Since = Option (List ℕ × List Statement)

abbrev and_then : Statement → List ℕ × List Statement → List ℕ × List Statement
and_then s since = (since.0, since.1 ++ s ∷ [])

since-log : (ss : List Statement) (s : Statement) → is_log s.form ≡ true → since_log (ss ++ s ∷ []) ≡ Some (s.text, [])
since-log [] s is = rw is refl
since-log (t ∷ ss) s is = ap
    (λ (since : Since). option_or since (if is_log t.form then Some (t.text, ss ++ s ∷ []) else None)) (since-log ss s is)

since-step : (t s : Statement) (ss : List Statement) (since : Since) (log : Bool)
    → option_or (option_map (and_then s) since) (if log then Some (t.text, ss ++ s ∷ []) else None)
    ≡ option_map (and_then s) (option_or since (if log then Some (t.text, ss) else None))
since-step t s ss None true = refl
since-step t s ss None false = refl
since-step t s ss (Some since) log = refl

since-other : (ss : List Statement) (s : Statement) → is_log s.form ≡ false
    → since_log (ss ++ s ∷ []) ≡ option_map (and_then s) (since_log ss)
since-other [] s is = rw is refl
since-other (t ∷ ss) s is =
    ap (λ (since : Since). option_or since (if is_log t.form then Some (t.text, ss ++ s ∷ []) else None)) (since-other ss s is)
    ∙ since-step t s ss (since_log ss) (is_log t.form)

-- ---- commands

-- The last command goes on with these bytes.
abbrev extended : List ℕ → List RecipeCommand → List RecipeCommand
extended more [] = []
extended more (command ∷ []) = record command { text = command.text ++ more } ∷ []
extended more (command ∷ other ∷ others) = command ∷ extended more (other ∷ others)

extended-more : (text : List ℕ) (commands : List RecipeCommand) → extended (line_feed ∷ text) commands ≡ with_more text commands
extended-more text [] = refl
extended-more text (command ∷ []) = refl
extended-more text (command ∷ other ∷ others) = ap (λ cs. command ∷ cs) (extended-more text (other ∷ others))

extended-none : (commands : List RecipeCommand) → extended [] commands ≡ commands
extended-none [] = refl
extended-none (command ∷ []) = λ i. record command { text = append-nil command.text i } ∷ []
extended-none (command ∷ other ∷ others) = ap (λ cs. command ∷ cs) (extended-none (other ∷ others))

-- A statement that begins no command, and its text for the last command before it.
module _ (s : Statement) (begins_none : command_if s.form ≡ None) where
  abbrev more : List ℕ
  more = more_if s.form s.text

  alone-step : (begins : Option Bool) (own text after later : List ℕ) (rest : List RecipeCommand) → (rest ≡ [] → later ≡ after ++ more)
      → commands_from begins text rest ≡ [] → continuation_from begins own later ≡ continuation_from begins own after ++ more
  alone-step None own text after later rest so none = ap (λ (bs : List ℕ). own ++ bs) (so none) ∙ sym (append_assoc own after more)
  alone-step (Some is_whole) own text after later rest so none = absurd (cc)

  -- Before the first command, it goes on.
  alone : (ss : List Statement) → commands_in ss ≡ [] → continuation (ss ++ s ∷ []) ≡ continuation ss ++ more
  alone [] none = rw begins_none (append-nil more)
  alone (t ∷ ss) none = alone-step (command_if t.form) (more_if t.form t.text) (t.text ++ continuation ss) (continuation ss)
      (continuation (ss ++ s ∷ [])) (commands_in ss) (alone ss) none

  -- Behind another command, it does not.
  behind : (ss : List Statement) (command : RecipeCommand) (commands : List RecipeCommand) → commands_in ss ≡ command ∷ commands
      → continuation (ss ++ s ∷ []) ≡ continuation ss
  behind [] command commands some = absurd (cc)
  behind (t ∷ ss) command commands some = by (commands_in ss) refl (behind ss)
    where
      by : (rest : List RecipeCommand) → commands_in ss ≡ rest
          → ((first : RecipeCommand) (others : List RecipeCommand) → commands_in ss ≡ first ∷ others
          → continuation (ss ++ s ∷ []) ≡ continuation ss)
          → continuation (t ∷ ss ++ s ∷ []) ≡ continuation (t ∷ ss)
      by [] none so = begun (command_if t.form) (more_if t.form t.text) (t.text ++ continuation ss) none some
        where
          begun : (begins : Option Bool) (own text : List ℕ) → commands_in ss ≡ []
              → commands_from begins text (commands_in ss) ≡ command ∷ commands
              → continuation_from begins own (continuation (ss ++ s ∷ [])) ≡ continuation_from begins own (continuation ss)
          begun None own text none some = absurd (cc)
          begun (Some is_whole) own text none some = refl
      by (first ∷ others) some_others so =
          ap (λ (after : List ℕ). continuation_from (command_if t.form) (more_if t.form t.text) after) (so first others some_others)

  extends-step : (begins : Option Bool) (text : List ℕ) (ss : List Statement) (rest : List RecipeCommand) → commands_in ss ≡ rest
      → commands_from begins (text ++ continuation (ss ++ s ∷ [])) (extended more rest)
      ≡ extended more (commands_from begins (text ++ continuation ss) rest)
  extends-step None text ss rest is = refl
  extends-step (Some is_whole) text ss [] is =
      λ i. record {
        text = (ap (λ (bs : List ℕ). text ++ bs) (alone ss is) ∙ sym (append_assoc text (continuation ss) more)) i;
        is_whole = is_whole;
      } ∷ []
  extends-step (Some is_whole) text ss (command ∷ commands) is =
      λ i. record { text = text ++ behind ss command commands is i; is_whole = is_whole } ∷ extended more (command ∷ commands)

  extends : (ss : List Statement) → commands_in (ss ++ s ∷ []) ≡ extended more (commands_in ss)
  extends [] = rw begins_none refl
  extends (t ∷ ss) =
      ap (λ (rest : List RecipeCommand). commands_from (command_if t.form) (t.text ++ continuation (ss ++ s ∷ [])) rest) (extends ss)
      ∙ extends-step (command_if t.form) t.text ss (commands_in ss) refl

-- A statement that begins a command.
module _ (s : Statement) (is_whole : Bool) (begins : command_if s.form ≡ Some is_whole) where
  begun : (ss : List Statement) → continuation (ss ++ s ∷ []) ≡ continuation ss
  begun [] = rw begins refl
  begun (t ∷ ss) = ap (λ (after : List ℕ). continuation_from (command_if t.form) (more_if t.form t.text) after) (begun ss)

  push-step : (other : Option Bool) (text : List ℕ) (rest : List RecipeCommand) (one : RecipeCommand)
      → commands_from other text (rest ++ one ∷ []) ≡ commands_from other text rest ++ one ∷ []
  push-step None text rest one = refl
  push-step (Some whole) text rest one = refl

  pushes : (ss : List Statement) → commands_in (ss ++ s ∷ []) ≡ commands_in ss ++ record { text = s.text; is_whole = is_whole } ∷ []
  pushes [] = rw begins (λ i. record { text = append-nil s.text i; is_whole = is_whole } ∷ [])
  pushes (t ∷ ss) =
      (λ i. commands_from (command_if t.form) (t.text ++ begun ss i) (pushes ss i))
      ∙ push-step (command_if t.form) (t.text ++ continuation ss) (commands_in ss) (record { text = s.text; is_whole = is_whole })

-- ---- all facts

abbrev stated : ℕ → Form → List ℕ → Statement
stated number form text = record { number = number; form = form; text = text }

abbrev path_of : Statement → Option (List ℕ)
path_of s = directory_if s.form s.text

abbrev took : Statement → Option Usage
took s = usage_if s.form

facts_in-push : (number : ℕ) (form : Form) (text : List ℕ) (ss : List Statement) → is_log form ≡ false
    → facts_in (ss ++ stated number form text ∷ []) ≡ with_fact form text (facts_in ss)
facts_in-push number Log text ss is = absurd (cc)
facts_in-push number Directory text ss is = λ i. record {
  has_log = true;
  directory = last_of-push path_of ss (stated number Directory text) i;
  commands = (extends (stated number Directory text) refl ss ∙ extended-none (commands_in ss)) i;
  usage = last_of-push took ss (stated number Directory text) i;
}
facts_in-push number Command text ss is = λ i. record {
  has_log = true;
  directory = last_of-push path_of ss (stated number Command text) i;
  commands = pushes (stated number Command text) true refl ss i;
  usage = last_of-push took ss (stated number Command text) i;
}
facts_in-push number Truncated text ss is = λ i. record {
  has_log = true;
  directory = last_of-push path_of ss (stated number Truncated text) i;
  commands = pushes (stated number Truncated text) false refl ss i;
  usage = last_of-push took ss (stated number Truncated text) i;
}
facts_in-push number More text ss is = λ i. record {
  has_log = true;
  directory = last_of-push path_of ss (stated number More text) i;
  commands = (extends (stated number More text) refl ss ∙ extended-more text (commands_in ss)) i;
  usage = last_of-push took ss (stated number More text) i;
}
facts_in-push number (Took usage) text ss is = λ i. record {
  has_log = true;
  directory = last_of-push path_of ss (stated number (Took usage) text) i;
  commands = (extends (stated number (Took usage) text) refl ss ∙ extended-none (commands_in ss)) i;
  usage = last_of-push took ss (stated number (Took usage) text) i;
}

module _ (target : List ℕ) (s : Statement) where
  abbrev added : RecipeFacts → RecipeFacts
  added facts = if facts.has_log then with_fact s.form s.text facts else facts

  named-push : is_log s.form ≡ false → (ss : List Statement) (named : Bool)
      → (if named then facts_in (ss ++ s ∷ []) else nothing) ≡ added (if named then facts_in ss else nothing)
  named-push is ss true = facts_in-push s.number s.form s.text ss is
  named-push is ss false = refl

  since-push : is_log s.form ≡ false → (since : Since)
      → facts_since target (option_map (and_then s) since) ≡ added (facts_since target since)
  since-push is None = refl
  since-push is (Some since) = named-push is since.1 (is_name_of target (normal None since.0))

  pub facts_by-push : (ss : List Statement) → facts_by target (ss ++ s ∷ []) ≡ with_statement target s.form s.text (facts_by target ss)
  facts_by-push ss = by (is_log s.form) refl
    where
      by : (log : Bool) → is_log s.form ≡ log
          → facts_by target (ss ++ s ∷ []) ≡ (if log then facts_since target (Some (s.text, [])) else added (facts_by target ss))
      by true is = ap (facts_since target) (since-log ss s is)
      by false is = ap (facts_since target) (since-other ss s is) ∙ since-push is (since_log ss)

-- ---- more of the last command

pub with_more-last : (text : List ℕ) (front : List RecipeCommand) (command : RecipeCommand)
    → with_more text (front ++ command ∷ []) ≡ front ++ record command { text = command.text ++ line_feed ∷ text } ∷ []
with_more-last text [] command = refl
with_more-last text (first ∷ []) command = refl
with_more-last text (first ∷ second ∷ front) command = ap (λ cs. first ∷ cs) (with_more-last text (second ∷ front) command)

pub no_name : (target name : List ℕ) → name ≡ [] → false ≡ is_name_of target (normal None name)
unfolding normal
no_name target name is = rw is refl
