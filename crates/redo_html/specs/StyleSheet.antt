-- The style sheet of a page, and the statement of the law about it.
use Rattle.std.specs.Prelude.{◌≡◌, ℕ, ◌+◌, Bool, true, ◌==◌, ◌||◌, nat_eq, nat_lt, List, [], ◌∷◌, ◌++◌, map, codes, if◌then◌else◌}
use Rattle.std.specs.Char.{to_ascii_lowercase}
use Rattle.std.specs.List.{filter, list_all, starts_with}
use Rattle.redo_html.specs.declared.style_sheet.TheConstants.{STYLE_SHEET}
use Rattle.redo_html.specs.Html.{is_lower_letter, is_one_of}

unfoldable pub style_sheet : List ℕ
style_sheet = STYLE_SHEET.now

-- How often a word occurs in some bytes.
abbrev pub occurrences : List ℕ → List ℕ → ℕ
occurrences word [] = 0
occurrences word (byte ∷ bytes) = (if starts_with nat_eq (byte ∷ bytes) word then 1 else 0) + occurrences word bytes

abbrev pub lower_case : List ℕ → List ℕ
lower_case sheet = map to_ascii_lowercase sheet

-- A style sheet in lower case, without spaces and line feeds.
abbrev pub squeezed : List ℕ → List ℕ
squeezed sheet = lower_case (filter (nat_lt 32) sheet)

-- The name before each `(`; the empty name before the condition of `@media (..)`.
abbrev pub function_at : List ℕ → ℕ → List (List ℕ)
function_at name byte = if byte == 40 then name ∷ [] else []

abbrev pub name_with : List ℕ → ℕ → List ℕ
name_with name byte = if is_lower_letter byte || byte == 45 then name ++ byte ∷ [] else []

abbrev pub functions_after : List ℕ → List ℕ → List (List ℕ)
functions_after name [] = []
functions_after name (byte ∷ bytes) = function_at name byte ++ functions_after (name_with name byte) bytes

-- Functions that load nothing. Others are `url`, `image-set` and `src`.
abbrev pub is_local_function : List ℕ → Bool
is_local_function name =
    is_one_of name ([] ∷ codes "var" ∷ codes "repeat" ∷ codes "minmax" ∷ codes "min" ∷ codes "nth-child" ∷ [])

-- Each function is one that loads nothing, each rule with an `@` is `@media`, and no escape, comment or tag hides another one.
pub record LoadsNothing (sheet : List ℕ) : Type 0 where
  pub functions : list_all is_local_function (functions_after [] (lower_case sheet)) ≡ true
  pub rules : occurrences (codes "@") (squeezed sheet) ≡ occurrences (codes "@media") (squeezed sheet)
  pub bytes : list_all (λ word. occurrences word sheet == 0) (codes "\\" ∷ codes "/*" ∷ codes "<" ∷ []) ≡ true

-- Words by which a style sheet can hide text or write other text.
abbrev pub hiding_words : List (List ℕ)
hiding_words =
    codes "visibility:collapse" ∷ codes "clip" ∷ codes "mask" ∷ codes "filter" ∷ codes "transform" ∷ codes "translate" ∷ codes "scale" ∷ codes "rotate"
    ∷ codes "text-indent" ∷ codes "text-overflow" ∷ codes "line-clamp" ∷ codes "max-height" ∷ codes "height:0" ∷ codes "font-size:0" ∷ codes "transparent"
    ∷ codes "content:" ∷ codes "::" ∷ codes ":before" ∷ codes ":after" ∷ codes "!important" ∷ []

-- Words that hide something, each with the only rule that has it. Links to sections aren't printed. Printed charts have no scroll bars. A bar
-- under the pointer is paler. The links to sections stay in view.
abbrev pub hiding_rules : List (List ℕ × List ℕ)
hiding_rules =
    (codes "display:none", codes "nav{display:none}") ∷ (codes "hidden", codes ".scroll{overflow:hidden}")
    ∷ (codes "width:0", codes ".scroll>svg{min-width:0;width:100%}") ∷ (codes "opacity", codes ".scrolla:hoverrect{opacity:.75}")
    ∷ (codes "position:", codes "nav{position:sticky;top:0;z-index:1;") ∷ (codes "z-index", codes "nav{position:sticky;top:0;z-index:1;") ∷ []

-- No rule hides text, other than those above.
pub record HidesNothing (sheet : List ℕ) : Type 0 where
  pub words : list_all (λ word. occurrences word (squeezed sheet) == 0) hiding_words ≡ true
  pub rules : list_all (λ (rule : List ℕ × List ℕ). occurrences rule.0 (squeezed sheet) == occurrences rule.1 (squeezed sheet)) hiding_rules ≡ true
