-- The parents of objects.
use Rattle.std.proofs.Common.{◌≡◌, ◌≢◌, ℕ, zero, suc, ◌+◌, ◌<◌, ◌≤◌, cond, Bool, true, false, inl, inr, ℤ, List, [], ◌∷◌, ◌++◌, Option, None, Some, filter, length, refl, sym, ap, ◌∙◌, subst, arith, append_assoc, append-nil}
use Rattle.std.specs.Prelude.{◌||◌, nat_eq, if◌then◌else◌}
use Rattle.std.specs.Cmp.Lexicographic.{pointwise}
use Rattle.std.specs.List.{AllByRecursion, list_any, position_from}
use Rattle.std.specs.Option.{option_or}
use Rattle.std.specs.Str.{bytes_eq}
use Rattle.std.proofs.lemmas.Bool.{and_from, and_parts, or_cases, or_left, or_right}
use Rattle.std.proofs.lemmas.Cmp.{nat_list_eq_equiv}
use Rattle.std.proofs.lemmas.Iterator.Adapters.{position_from-zero}
use Rattle.std.proofs.lemmas.List.Folds.{list_any-append}
use Rattle.std.proofs.lemmas.Option.{none-some, same_Some}
use Rattle.redo_diagnostics.specs.Counts.{times_of}
use Rattle.redo_line.specs.declared.entry.Entry.{Entry}
use Rattle.redo_line.specs.declared.entry.Entry.TheVariants.{Text, Mention, Done, Closing, Note}
use Rattle.redo_logs.specs.Logs.{Log, log_number, targets_of}
use Rattle.redo_options.specs.declared.options.Options.{Options}
use Rattle.redo_view.specs.Expansion.{entries_of_target, is_among, is_mention}
use Rattle.redo_view.specs.Reachable.{mentioned_in, mentions_target}
use Rattle.redo_outline.specs.Contents.{Contents}
use Rattle.redo_outline.specs.Contents.Contents.{Nothing, Shown, Opened}
use Rattle.redo_outline.specs.Facts.{entries_at, target_at}
use Rattle.redo_outline.specs.Outline.{node_of}
use Rattle.redo_outline.specs.declared.node.Node.{Node}
use Rattle.redo_json.specs.Build.{Request, log_values, mentions_in, needs_of, options_of, values_in}
use Rattle.redo_json.specs.Laws.{AllFollowing, HasLastParent, IsNeededByParent, IsRequestedIfAlone, is_needing, last_mentioning, log_mentions, target_if_mentions}
use Rattle.redo_json.specs.Object.{LogValues}
use Rattle.redo_json.proofs.LeftLemmas.{Keeps, front-has, front-keeps}
use Rattle.redo_json.proofs.MentionLemmas.{needs_times}
use Rattle.redo_json.proofs.ParentTreeLemmas.{AreRight, HasReason, Opens, Parent, ended_after}

-- ---- the entries of a target

-- A position that is counted from a number on isn't below it.
later_found : {A : Type 0} (test : A → Bool) (start : ℕ) (xs : List A) (number : ℕ) → position_from test start xs ≡ Some number
    → number < start → ⊥
later_found test start [] number is below = none-some number is
later_found test start (x ∷ xs) number is below = by (test x) is (λ found. later_found test (start + 1) xs number found (omega arith))
  where
    by : (passes : Bool) → cond passes (Some start) (position_from test (start + 1) xs) ≡ Some number
        → (position_from test (start + 1) xs ≡ Some number → ⊥) → ⊥
    by true found later = let same : start ≡ number = same_Some start number found in omega arith
    by false found later = later found

numbered_from : (name : List ℕ) (logs : List Log) (start number : ℕ)
    → position_from (pointwise nat_eq name) start (targets_of logs) ≡ Some (start + number)
    → entries_of_target name logs ≡ entries_at number logs
numbered_from name [] start number is = absurd (none-some (start + number) is)
numbered_from name (log ∷ logs) start number is =
    by (pointwise nat_eq name log.target) number is
    (λ later found. numbered_from name logs (start + 1) later (found ∙ ap Some (omega arith)))
  where
    by : (same : Bool) (at : ℕ) → cond same (Some start) (position_from (pointwise nat_eq name) (start + 1) (targets_of logs))
        ≡ Some (start + at)
        → ((later : ℕ) → position_from (pointwise nat_eq name) (start + 1) (targets_of logs) ≡ Some (start + suc later)
        → entries_of_target name logs ≡ entries_at later logs)
        → (if same then log.entries else entries_of_target name logs) ≡ entries_at at (log ∷ logs)
    by true zero found others = refl
    by true (suc at) found others = let wrong : start ≡ start + suc at = same_Some start (start + suc at) found in absurd (omega arith)
    by false zero found others = absurd (later_found (pointwise nat_eq name) (start + 1) (targets_of logs) (start + 0) found (omega arith))
    by false (suc at) found others = others at found

numbered : (name : List ℕ) (logs : List Log) (number : ℕ) → log_number name logs ≡ Some number
    → entries_of_target name logs ≡ entries_at number logs
numbered name logs number is = numbered_from name logs 0 number
    (sym (position_from-zero (pointwise nat_eq name) (targets_of logs)) ∙ is ∙ ap Some (omega arith))

-- ---- needs

module _ (name : List ℕ) where
  abbrev one_if : Bool → ℕ
  one_if same = if same then 1 else 0

  times-cons : (other : List ℕ) (names : List (List ℕ)) → times_of name (other ∷ names) ≡ one_if (bytes_eq other name) + times_of name names
  times-cons other names = by (bytes_eq other name)
    where
      by : (same : Bool) → length (if same then other ∷ filter (λ (o : List ℕ). bytes_eq o name) names
          else filter (λ (o : List ℕ). bytes_eq o name) names) ≡ one_if same + times_of name names
      by true = omega arith
      by false = omega arith

  among_times : (names : List (List ℕ)) → 1 ≤ times_of name names → is_among name names ≡ true
  among_times [] some = absurd (omega (arith, some))
  among_times (other ∷ names) some = by (bytes_eq other name) refl (among_times names)
    where
      by : (same : Bool) → bytes_eq other name ≡ same → (1 ≤ times_of name names → is_among name names ≡ true)
          → (pointwise nat_eq name other || is_among name names) ≡ true
      by true is later = or_left (pointwise nat_eq name other) (is_among name names) (nat_list_eq_equiv.symm name other ∙ is)
      by false is later = let one = times-cons other names in let none = ap one_if is in
          or_right (pointwise nat_eq name other) (is_among name names) (later (omega (arith, some, one, none)))

  module _ (options : Options) where
    -- What is mentioned is among the mentions.
    some_times : (entries : List Entry) → mentioned_in options name entries ≡ true → 1 ≤ times_of name (mentions_in entries)
    some_times [] is = absurd (cc)
    some_times (Text line ∷ entries) is = some_times entries is
    some_times (Mention pid how other ∷ entries) is =
        elim (or_cases (mentions_target options name (Mention pid how other)) (mentioned_in options name entries) is) [
          | inl here ↦
              let same = and_parts (is_mention options how) (pointwise nat_eq name other) here in
              let one = ap one_if (nat_list_eq_equiv.symm other name ∙ same.1) in
              omega (arith, times-cons other (mentions_in entries), one)
          | inr later ↦ omega (arith, times-cons other (mentions_in entries), some_times entries later)
        ]
    some_times (Done pid status other ∷ entries) is = some_times entries is
    some_times (Closing pid status ∷ entries) is = some_times entries is
    some_times (Note pid kind text ∷ entries) is = some_times entries is

    is_needed : (target : List ℕ) (entries : List Entry) → name ≢ target → mentioned_in options name entries ≡ true
        → is_among name (needs_of target entries) ≡ true
    is_needed target entries other mentioned =
        among_times (needs_of target entries) (omega (arith, needs_times target entries name other, some_times entries mentioned))

-- ---- objects

all-append : {A : Type 0} (P : A → Type 0) (xs ys : List A) → AllByRecursion P xs → AllByRecursion P ys → AllByRecursion P (xs ++ ys)
all-append P [] ys first last = last
all-append P (x ∷ xs) ys first last = (first.0, all-append P xs ys first.1 last)

following-append : (property : List LogValues → LogValues → Type 0) (before xs ys : List LogValues) → AllFollowing property before xs
    → AllFollowing property (before ++ xs) ys → AllFollowing property before (xs ++ ys)
following-append property before [] ys first last = subst (λ (l : List LogValues). AllFollowing property l ys) (append-nil before) last
following-append property before (x ∷ xs) ys first last = (
  first.0,
  following-append property (before ++ x ∷ []) xs ys first.1
      (subst (λ (l : List LogValues). AllFollowing property l ys) (sym (append_assoc before (x ∷ []) xs)) last),
)

-- The logs of these objects ended.
abbrev HaveEnded : List (List ℕ) → List LogValues → Type 0
HaveEnded ended objects = AllByRecursion (λ (values : LogValues). is_among values.target ended ≡ true) objects

ended-more : (ended more : List (List ℕ)) (objects : List LogValues) → Keeps ended more → HaveEnded ended objects → HaveEnded more objects
ended-more ended more [] keeps all = tt
ended-more ended more (values ∷ others) keeps all = (keeps values.target all.0, ended-more ended more others keeps all.1)

module _ (request : Request) (logs : List Log) (requested : List (List ℕ)) (status : ℕ → Option ℤ) where
  abbrev objects_in : Parent → Contents → List LogValues
  objects_in parent contents = values_in request logs status parent contents

  abbrev object_at : Parent → Node → LogValues
  object_at parent node = log_values request logs parent node

  abbrev after : Contents → List (List ℕ) → List (List ℕ)
  after contents ended = ended_after request logs requested contents ended

  after-keeps : (contents : Contents) (ended : List (List ℕ)) → Keeps ended (after contents ended)
  after-keeps Nothing ended name among = among
  after-keeps (Shown event rest) ended name among = after-keeps rest ended name among
  after-keeps (Opened event number inside rest) ended name among =
      after-keeps rest (target_at logs number ∷ after inside ended) name
      (front-keeps (target_at logs number) (after inside ended) name (after-keeps inside ended name among))

  -- After contents, the logs of their objects have ended.
  contents_end : (parent : Parent) (contents : Contents) (ended : List (List ℕ))
      → HaveEnded (after contents ended) (objects_in parent contents)
  contents_end parent Nothing ended = tt
  contents_end parent (Shown event rest) ended = contents_end parent rest ended
  contents_end parent (Opened event number inside rest) ended =
      let target = target_at logs number in
      let own = target ∷ after inside ended in
      let inner = objects_in (Some target) inside in (
        after-keeps rest own target (front-has target (after inside ended)),
        all-append (λ (values : LogValues). is_among values.target (after rest own) ≡ true) inner (objects_in parent rest)
            (ended-more (after inside ended) (after rest own) inner (λ name among.
            after-keeps rest own name (front-keeps target (after inside ended) name among)) (contents_end (Some target) inside ended))
            (contents_end parent rest own),
      )

  -- ---- the objects before one

  -- The object of `parent` is one of those before. The logs of those after it have ended.
  record HasObject (parent : List ℕ) (ended : List (List ℕ)) (before : List LogValues) : Type 0 where
    earlier : List LogValues
    object : LogValues
    since : List LogValues
    is : before ≡ earlier ++ object ∷ since
    target : object.target ≡ parent
    needs : object.needs ≡ needs_of parent (entries_of_target parent logs)
    have_ended : HaveEnded ended since

  -- Without a parent, all logs before have ended.
  abbrev IsAround : Parent → List (List ℕ) → List LogValues → Type 0
  IsAround None ended before = HaveEnded ended before
  IsAround (Some parent) ended before = HasObject parent ended before

  -- In a log that is opened.
  around_own : (parent : Parent) (node : Node) (ended : List (List ℕ)) (before : List LogValues)
      → log_number (target_at logs node.number) logs ≡ Some node.number
      → IsAround (Some (target_at logs node.number)) ended (before ++ object_at parent node ∷ [])
  around_own parent node ended before own = record {
    earlier = before;
    object = object_at parent node;
    since = [];
    is = refl;
    target = refl;
    needs = ap (needs_of (target_at logs node.number)) (sym (numbered (target_at logs node.number) logs node.number own));
    have_ended = tt;
  }

  -- After the end of more logs.
  around_more : (parent : Parent) (ended now : List (List ℕ)) (before more : List LogValues) → Keeps ended now → HaveEnded now more
      → IsAround parent ended before → IsAround parent now (before ++ more)
  around_more None ended now before more keeps all around =
      all-append (λ (values : LogValues). is_among values.target now ≡ true) before more (ended-more ended now before keeps around) all
  around_more (Some parent) ended now before more keeps all around = record {
    earlier = around.earlier;
    object = around.object;
    since = around.since ++ more;
    is = ap (λ (l : List LogValues). l ++ more) around.is ∙ append_assoc around.earlier (around.object ∷ around.since) more;
    target = around.target;
    needs = around.needs;
    have_ended = all-append (λ (values : LogValues). is_among values.target now ≡ true) around.since more
        (ended-more ended now around.since keeps around.have_ended) all;
  }

  -- ---- one property of each object, from its opening and the objects before it

  module _ (property : List LogValues → LogValues → Type 0)
      (holds : (parent : Parent) (node : Node) (ended : List (List ℕ)) (before : List LogValues) → IsAround parent ended before
      → Opens request logs requested parent ended node.number → property before (object_at parent node))
    where
      all_follow : (parent : Parent) (contents : Contents) (ended : List (List ℕ)) (before : List LogValues) → IsAround parent ended before
          → AreRight request logs requested parent ended contents → AllFollowing property before (objects_in parent contents)
      all_follow parent Nothing ended before around right = tt
      all_follow parent (Shown event rest) ended before around right = all_follow parent rest ended before around right
      all_follow parent (Opened event number inside rest) ended before around right =
          let target = target_at logs number in
          let node = node_of logs status None number inside rest in
          let object = object_at parent node in
          let inner = objects_in (Some target) inside in
          let ended_inside = after inside ended in (
            holds parent node ended before around right.0,
            following-append property (before ++ object ∷ []) inner (objects_in parent rest)
                (all_follow (Some target) inside ended (before ++ object ∷ []) (around_own parent node ended before right.0.is_own)
                right.1)
                (all_follow parent rest (target ∷ ended_inside) ((before ++ object ∷ []) ++ inner)
                (subst (IsAround parent (target ∷ ended_inside)) (sym (append_assoc before (object ∷ []) inner))
                (around_more parent ended (target ∷ ended_inside) before (object ∷ inner)
                (λ name among. front-keeps target ended_inside name (after-keeps inside ended name among)) (
                  front-has target ended_inside,
                  ended-more ended_inside (target ∷ ended_inside) inner (front-keeps target ended_inside)
                      (contents_end (Some target) inside ended),
                ) around)) right.2),
          )

  -- ---- the last object that mentions a target

  abbrev last : List ℕ → List LogValues → Parent
  last name objects = last_mentioning request logs name objects

  last-none : (name : List ℕ) (ended : List (List ℕ)) (objects : List LogValues) → HaveEnded ended objects
      → ((other : List ℕ) → is_among other ended ≡ true → log_mentions request logs other name ≡ false) → last name objects ≡ None
  last-none name ended [] all unmentioned = refl
  last-none name ended (values ∷ others) all unmentioned =
      ap (λ (found : Parent). option_or found (target_if_mentions request logs name values))
      (last-none name ended others all.1 unmentioned)
      ∙ ap (λ (mentions : Bool). if mentions then Some values.target else None) (unmentioned values.target all.0)

  last-earlier : (name target : List ℕ) (earlier objects : List LogValues) → last name objects ≡ Some target
      → last name (earlier ++ objects) ≡ Some target
  last-earlier name target [] objects is = is
  last-earlier name target (values ∷ earlier) objects is =
      ap (λ (found : Parent). option_or found (target_if_mentions request logs name values)) (last-earlier name target earlier objects is)

  parent_last : (parent : Parent) (node : Node) (ended : List (List ℕ)) (before : List LogValues) → IsAround parent ended before
      → Opens request logs requested parent ended node.number → HasLastParent request logs before (object_at parent node)
  parent_last None node ended before around opens = sym (last-none (target_at logs node.number) ended before around opens.unmentioned)
  parent_last (Some parent) node ended before around opens =
      sym (ap (last name) around.is ∙ last-earlier name parent around.earlier (around.object ∷ around.since)
      (ap (λ (found : Parent). option_or found (target_if_mentions request logs name around.object))
      (last-none name ended around.since around.have_ended opens.unmentioned)
      ∙ ap (λ (mentions : Bool). if mentions then Some around.object.target else None)
      (ap (λ (target : List ℕ). log_mentions request logs target name) around.target ∙ opens.reason.1)
      ∙ ap Some around.target))
    where
      name : List ℕ
      name = target_at logs node.number

  -- ---- needs, and requested targets

  parent_needs : (parent : Parent) (node : Node) (ended : List (List ℕ)) (before : List LogValues) → IsAround parent ended before
      → Opens request logs requested parent ended node.number → IsNeededByParent before (object_at parent node)
  parent_needs None node ended before around opens = tt
  parent_needs (Some parent) node ended before around opens =
      ap (list_any needing) around.is
      ∙ list_any-append needing around.earlier (around.object ∷ around.since)
      ∙ or_right (list_any needing around.earlier) (list_any needing (around.object ∷ around.since))
      (or_left (needing around.object) (list_any needing around.since) (and_from (pointwise nat_eq parent around.object.target)
      (is_among name around.object.needs)
      (ap (pointwise nat_eq parent) around.target ∙ nat_list_eq_equiv.refl parent)
      (ap (is_among name) around.needs
      ∙ is_needed name (options_of request) parent (entries_of_target parent logs) opens.reason.0 opens.reason.1)))
    where
      name : List ℕ
      name = target_at logs node.number

      needing : LogValues → Bool
      needing = is_needing parent (target_at logs node.number)

  all_requested : (parent : Parent) (contents : Contents) (ended : List (List ℕ)) → AreRight request logs requested parent ended contents
      → AllByRecursion (IsRequestedIfAlone requested) (objects_in parent contents)
  all_requested parent Nothing ended right = tt
  all_requested parent (Shown event rest) ended right = all_requested parent rest ended right
  all_requested parent (Opened event number inside rest) ended right = (
    by parent right.0.reason,
    all-append (IsRequestedIfAlone requested) (objects_in (Some (target_at logs number)) inside) (objects_in parent rest)
        (all_requested (Some (target_at logs number)) inside ended right.1)
        (all_requested parent rest (target_at logs number ∷ after inside ended) right.2),
  )
    where
      by : (around : Parent) → HasReason request logs requested around (target_at logs number)
          → IsRequestedIfAlone requested (object_at around (node_of logs status None number inside rest))
      by None reason = reason
      by (Some other) reason = tt

  -- ---- the contents of a build

  module _ (contents : Contents) (right : AreRight request logs requested None [] contents) where
    pub have_last_parents : AllFollowing (HasLastParent request logs) [] (objects_in None contents)
    have_last_parents = all_follow (HasLastParent request logs) parent_last None contents [] [] tt right

    pub are_needed : AllFollowing IsNeededByParent [] (objects_in None contents)
    are_needed = all_follow IsNeededByParent parent_needs None contents [] [] tt right

    pub are_requested : AllByRecursion (IsRequestedIfAlone requested) (objects_in None contents)
    are_requested = all_requested None contents [] right
