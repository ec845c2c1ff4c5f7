-- The verdict on a build, and the heading and the title that state it.
use Rattle.std.specs.Prelude.{ℕ, ◌==◌, ◌&&◌, nat_lt, Bool, List, ◌++◌, is_none, length, codes, if◌then◌else◌}
use Rattle.std.specs.List.{filter, list_any}
use Rattle.redo_html.specs.declared.markup.Markup.{Markup}
use Rattle.redo_html.specs.declared.markup.Markup.TheVariants as markup
use Rattle.redo_html.specs.Shown.{number_text}
use Rattle.redo_outline.specs.declared.node.Node.{Node}
use Rattle.redo_page.specs.declared.labels.TheConstants.{FAILED_SIGN, MADE_SIGN, MIDDLE_DOT, OF, TARGETS_FAILED, TARGETS_MADE, TARGETS_UNFINISHED, TARGET_FAILED, TARGET_MADE, TARGET_UNFINISHED, UNFINISHED_SIGN}
use Rattle.redo_page.specs.declared.verdict.Verdict.{Verdict}
use Rattle.redo_page.specs.declared.verdict.Verdict.TheVariants.{Failed, Unfinished, Made}
use Rattle.redo_page.specs.Targets.{plural}
use Rattle.redo_page.specs.Tree.{root_failures}

-- Whether a requested target is unfinished: the build goes on, or was killed.
abbrev pub is_unfinished : Node → Bool
is_unfinished node = is_none node.parent && is_none node.status

-- A number, and words that depend on it.
abbrev pub counted_text : ℕ → List ℕ → List ℕ → List ℕ
counted_text number one many = number_text number ++ plural number one many

-- How many targets of all, and words that depend on the number of all.
abbrev pub share_text : ℕ → ℕ → List ℕ → List ℕ → List ℕ
share_text part all one many = number_text part ++ (OF.now ++ counted_text all one many)

-- The number of unfinished targets: no record says how they ended.
abbrev pub unfinished_count : List Node → ℕ
unfinished_count nodes = length (filter (λ node. is_none node.status) nodes)

abbrev pub verdict_of : List Node → Verdict
verdict_of nodes = if nat_lt 0 (length (root_failures nodes)) then Failed else if list_any is_unfinished nodes then Unfinished else Made

abbrev pub verdict_text : Verdict → List Node → List ℕ
verdict_text Failed nodes = share_text (length (root_failures nodes)) (length nodes) TARGET_FAILED.now TARGETS_FAILED.now
verdict_text Unfinished nodes = share_text (unfinished_count nodes) (length nodes) TARGET_UNFINISHED.now TARGETS_UNFINISHED.now
verdict_text Made nodes = counted_text (length nodes) TARGET_MADE.now TARGETS_MADE.now

-- A ballot cross (U+2717), an ellipsis (U+2026) or a check mark (U+2713), in UTF-8.
abbrev pub sign_text : Verdict → List ℕ
sign_text Failed = FAILED_SIGN.now
sign_text Unfinished = UNFINISHED_SIGN.now
sign_text Made = MADE_SIGN.now

abbrev pub body_markup : Verdict → Markup
body_markup Failed = markup.BodyBad
body_markup Unfinished = markup.BodyOpen
body_markup Made = markup.BodyGood

-- A title before the heading, if there is one, with a middle dot (U+00B7) between them.
abbrev pub titled : List ℕ → List ℕ → List ℕ
titled title heading = if length title == 0 then heading else title ++ (MIDDLE_DOT.now ++ heading)

-- The text of the element `title`. It begins with the sign, so that it is seen in a row of tabs.
abbrev pub title_text : List ℕ → Verdict → List ℕ → List ℕ
title_text title verdict heading = sign_text verdict ++ (codes " " ++ titled title heading)
