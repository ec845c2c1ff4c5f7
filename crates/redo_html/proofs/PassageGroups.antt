-- The groups of a passage are what is written of it, from its start on.
use Rattle.std.proofs.Common.{◌≡◌, ℕ, Bool, true, false, List, [], ◌∷◌, ◌++◌, refl, sym, ◌∙◌, ap, subst}
use Rattle.std.specs.Prelude.{◌&&◌, not, if◌then◌else◌}
use Rattle.std.specs.List.{AllByRecursion, flat_map}
use Rattle.std.proofs.lemmas.Bool.{cond_both}
use Rattle.std.proofs.lemmas.List.{append_assoc, append-nil}
use Rattle.redo_html.specs.declared.text_kind.TextKind.{TextKind}
use Rattle.redo_html.specs.declared.look.Look.{Look}
use Rattle.redo_html.specs.declared.style.Style.{Style}
use Rattle.redo_html.specs.Passage.{Inline, inline_html, inline_tokens, has_element, style_start, style_end, same_bool, is_same_style, with_member, group_by, styled_texts, printability_group, style_group, passage_inlines, passage_html, passage_tokens}
use Rattle.redo_html.specs.Passage.Inline.{UnprintableStart, UnprintableEnd, StyleStart, StyleEnd, Text}
use Rattle.redo_html.specs.Private.Highlighting.{highlight_if, highlights_between, after_code_point, with_wanted, start_look, inlines_from, html_from}
use Rattle.redo_html.specs.Shown.{Run, runs_of, is_unprintable}
use Rattle.redo_html.specs.Shown.Run.{CodePoints, Restyle}
use Rattle.redo_html.specs.Style.{plain_style, restyled}
use Rattle.redo_html.specs.Symbols.{symbols}
use Rattle.redo_html.proofs.StyleLemmas.{other_style, same_as_itself, same_style}

-- ---- within a style

-- The parts that are left of a style's highlight. `was` states whether the highlight for unprintable code points is open.
abbrev texts_left : Bool → List (Bool × List Inline) → List Inline
texts_left was [] = highlight_if was UnprintableEnd
texts_left was ((unprintable, texts) ∷ groups) = if same_bool unprintable was
    then texts ++ (highlight_if was UnprintableEnd ++ flat_map printability_group groups)
    else highlight_if was UnprintableEnd ++ flat_map printability_group ((unprintable, texts) ∷ groups)

none_open : (groups : List (Bool × List Inline)) → texts_left false groups ≡ flat_map printability_group groups
none_open [] = refl
none_open ((true, texts) ∷ groups) = refl
none_open ((false, texts) ∷ groups) = refl

text_first : (was unprintable : Bool) (text : Inline) (groups : List (Bool × List Inline))
    → texts_left was (with_member same_bool unprintable text groups)
    ≡ highlight_if (was && not unprintable) UnprintableEnd
    ++ (highlight_if (unprintable && not was) UnprintableStart ++ text ∷ texts_left unprintable groups)
text_first true true text [] = refl
text_first true false text [] = refl
text_first false true text [] = refl
text_first false false text [] = refl
text_first true true text ((true, texts) ∷ groups) = refl
text_first true true text ((false, texts) ∷ groups) = refl
text_first true false text ((true, texts) ∷ groups) = refl
text_first true false text ((false, texts) ∷ groups) = refl
text_first false true text ((true, texts) ∷ groups) =
    ap (λ (t : List Inline). UnprintableStart ∷ text ∷ t) (append_assoc texts (UnprintableEnd ∷ []) (flat_map printability_group groups))
text_first false true text ((false, texts) ∷ groups) = refl
text_first false false text ((true, texts) ∷ groups) = refl
text_first false false text ((false, texts) ∷ groups) = refl

-- ---- styles

-- The parts that are left of a passage. The highlight of the style `current` is open.
abbrev parts_left : Style → Bool → List (Style × List (Bool × Inline)) → List Inline
parts_left current was [] = highlight_if was UnprintableEnd ++ style_end current
parts_left current was ((style, texts) ∷ groups) = if is_same_style style current
    then texts_left was (group_by same_bool texts) ++ (style_end current ++ flat_map style_group groups)
    else highlight_if was UnprintableEnd ++ (style_end current ++ flat_map style_group ((style, texts) ∷ groups))

-- The highlights before a code point, if the last one had the style `current`.
abbrev between : Style → Style → Bool → Bool → List Inline
between wanted current was unprintable =
    highlights_between (record { wanted = wanted; current = current; unprintable = was }) unprintable

within_style : (was unprintable : Bool) (text : Inline) (texts behind : List Inline)
    → (highlight_if (was && not unprintable) UnprintableEnd
    ++ (highlight_if (unprintable && not was) UnprintableStart ++ text ∷ texts)) ++ behind
    ≡ ((highlight_if (was && not (true && unprintable)) UnprintableEnd ++ [])
    ++ highlight_if (unprintable && not (true && was)) UnprintableStart) ++ text ∷ (texts ++ behind)
within_style true true text texts behind = refl
within_style true false text texts behind = refl
within_style false true text texts behind = refl
within_style false false text texts behind = refl

after_style : (was unprintable : Bool) (text : Inline) (end start texts last behind : List Inline)
    → highlight_if was UnprintableEnd ++ (end
    ++ (((start ++ (highlight_if (unprintable && true) UnprintableStart ++ text ∷ texts)) ++ last) ++ behind))
    ≡ ((highlight_if (was && not (false && unprintable)) UnprintableEnd ++ (end ++ start))
    ++ highlight_if (unprintable && not (false && was)) UnprintableStart) ++ text ∷ (texts ++ (last ++ behind))
after_style true true text end start texts last behind = simp append_assoc
after_style true false text end start texts last behind = simp append_assoc
after_style false true text end start texts last behind = simp append_assoc
after_style false false text end start texts last behind = simp append_assoc

module _ (was unprintable : Bool) (text : Inline) where
  -- The parts from a code point on, with which a group begins.
  abbrev Begins : Style → Style → Type 0
  Begins current wanted = (texts : List (Bool × Inline)) (groups : List (Style × List (Bool × Inline)))
      → parts_left current was ((wanted, (unprintable, text) ∷ texts) ∷ groups)
      ≡ between wanted current was unprintable
      ++ text ∷ (texts_left unprintable (group_by same_bool texts) ++ (style_end wanted ++ flat_map style_group groups))

  same_begins : (style : Style) → Begins style style
  same_begins style texts groups =
      let others = group_by same_bool texts in
      let behind = style_end style ++ flat_map style_group groups in
      rw (same_as_itself style) (ap (λ (t : List Inline). t ++ behind) (text_first was unprintable text others)
      ∙ within_style was unprintable text (texts_left unprintable others) behind)

  other_begins : (current wanted : Style) → is_same_style wanted current ≡ false → Begins current wanted
  other_begins current wanted is texts groups =
      let others = group_by same_bool texts in
      rw is (ap (λ (t : List Inline). highlight_if was UnprintableEnd
      ++ (style_end current ++ (((style_start wanted ++ t) ++ style_end wanted) ++ flat_map style_group groups)))
      (sym (none_open (with_member same_bool unprintable text others)) ∙ text_first false unprintable text others)
      ∙ after_style was unprintable text (style_end current) (style_start wanted) (texts_left unprintable others) (style_end wanted)
      (flat_map style_group groups))

  begins : (current wanted : Style) → Begins current wanted
  begins current wanted = by (is_same_style wanted current) refl
    where
      by : (same : Bool) → is_same_style wanted current ≡ same → Begins current wanted
      by true is = subst (λ (s : Style). Begins s wanted) (same_style wanted current is) (same_begins wanted)
      by false is = other_begins current wanted is

  style_first : (current wanted : Style) (groups : List (Style × List (Bool × Inline)))
      → parts_left current was (with_member is_same_style wanted (unprintable, text) groups)
      ≡ between wanted current was unprintable ++ text ∷ parts_left wanted unprintable groups
  style_first current wanted [] =
      begins current wanted [] [] ∙ ap (λ (t : List Inline). between wanted current was unprintable
      ++ text ∷ (highlight_if unprintable UnprintableEnd ++ t)) (append-nil (style_end wanted))
  style_first current wanted ((next, texts) ∷ groups) = by (is_same_style wanted next) refl
    where
      same : parts_left current was (with_member is_same_style wanted (unprintable, text) ((wanted, texts) ∷ groups))
          ≡ between wanted current was unprintable ++ text ∷ parts_left wanted unprintable ((wanted, texts) ∷ groups)
      same = rw (same_as_itself wanted) (begins current wanted texts groups)

      by : (same : Bool) → is_same_style wanted next ≡ same
          → parts_left current was (with_member is_same_style wanted (unprintable, text) ((next, texts) ∷ groups))
          ≡ between wanted current was unprintable ++ text ∷ parts_left wanted unprintable ((next, texts) ∷ groups)
      by true is = subst (λ (n : Style). parts_left current was
          (with_member is_same_style wanted (unprintable, text) ((n, texts) ∷ groups))
          ≡ between wanted current was unprintable ++ text ∷ parts_left wanted unprintable ((n, texts) ∷ groups))
          (same_style wanted next is) same
      by false is = rw (is, other_style wanted next is) (begins current wanted [] ((next, texts) ∷ groups))

-- ---- passages

rest_is : (look : Look) (runs : List Run)
    → parts_left look.current look.unprintable (group_by is_same_style (styled_texts look.wanted runs)) ≡ inlines_from look runs
rest_is look [] = refl
rest_is look (Restyle numbers ∷ runs) = rest_is (with_wanted look (restyled look.wanted numbers)) runs
rest_is look (CodePoints code_point count ∷ runs) =
    let unprintable = is_unprintable code_point in
    style_first look.unprintable unprintable (Text code_point count) look.current look.wanted
    (group_by is_same_style (styled_texts look.wanted runs))
    ∙ ap (λ (t : List Inline). highlights_between look unprintable ++ Text code_point count ∷ t)
    (rest_is (after_code_point look unprintable) runs)

from_start : (groups : List (Style × List (Bool × Inline))) → flat_map style_group groups ≡ parts_left plain_style false groups
from_start [] = refl
from_start ((style, texts) ∷ groups) = by (is_same_style style plain_style) refl
  where
    plain : flat_map style_group ((plain_style, texts) ∷ groups) ≡ parts_left plain_style false ((plain_style, texts) ∷ groups)
    plain = ap (λ (t : List Inline). t ++ flat_map style_group groups)
        (append-nil (flat_map printability_group (group_by same_bool texts)) ∙ sym (none_open (group_by same_bool texts)))

    by : (same : Bool) → is_same_style style plain_style ≡ same
        → flat_map style_group ((style, texts) ∷ groups) ≡ parts_left plain_style false ((style, texts) ∷ groups)
    by true is = subst (λ (s : Style). flat_map style_group ((s, texts) ∷ groups) ≡ parts_left plain_style false ((s, texts) ∷ groups))
        (sym (same_style style plain_style is)) plain
    by false is = rw is refl

pub parts_are : (style : Style) (runs : List Run) → passage_inlines style runs ≡ inlines_from (start_look style) runs
parts_are style runs = from_start (group_by is_same_style (styled_texts style runs)) ∙ rest_is (start_look style) runs

pub passage_is : (kind : TextKind) (style : Style) (bytes : List ℕ)
    → passage_html kind style bytes ≡ html_from kind (start_look style) bytes
unfolding passage_html html_from
passage_is kind style bytes = ap (flat_map (inline_html kind)) (parts_are style (runs_of (symbols kind bytes)))

pub tokens_are : (kind : TextKind) (style : Style) (bytes : List ℕ)
    → passage_tokens kind style bytes ≡ flat_map (inline_tokens kind) (inlines_from (start_look style) (runs_of (symbols kind bytes)))
tokens_are kind style bytes = ap (flat_map (inline_tokens kind)) (parts_are style (runs_of (symbols kind bytes)))

-- ---- what holds of each passage

module _ {Key Member : Type 0} (same : Key → Key → Bool) (Good : Member → Type 0) where
  abbrev AllGood : List (Key × List Member) → Type 0
  AllGood groups = AllByRecursion (λ (group : Key × List Member). AllByRecursion Good group.1) groups

  good_first : (key : Key) (member : Member) (groups : List (Key × List Member)) → Good member → AllGood groups
      → AllGood (with_member same key member groups)
  good_first key member [] good all = ((good, tt), tt)
  good_first key member ((next, members) ∷ groups) good all =
      cond_both (same key next) ((next, member ∷ members) ∷ groups) ((key, member ∷ []) ∷ (next, members) ∷ groups) AllGood
      (λ is. ((good, all.0), all.1)) (λ is. ((good, tt), all))

  good_groups : (members : List (Key × Member)) → AllByRecursion (λ (member : Key × Member). Good member.1) members
      → AllGood (group_by same members)
  good_groups [] all = tt
  good_groups ((key, member) ∷ members) all = good_first key member (group_by same members) all.0 (good_groups members all.1)

-- It holds of code points, and if it holds of some parts, of these parts within a highlight.
module _ (P : List Inline → Type 0) (Q : Run → Type 0) (nothing : P [])
    (both : (a b : List Inline) → P a → P b → P (a ++ b))
    (text : (code_point count : ℕ) → Q (CodePoints code_point count) → P (Text code_point count ∷ []))
    (unprintable : (a : List Inline) → P a → P (UnprintableStart ∷ (a ++ UnprintableEnd ∷ [])))
    (styled : (style : Style) (a : List Inline) → has_element style ≡ true → P a → P (StyleStart style ∷ (a ++ StyleEnd style ∷ []))) where
  each : {X : Type 0} (parts : X → List Inline) (Good : X → Type 0) → ((x : X) → Good x → P (parts x))
      → (xs : List X) → AllByRecursion Good xs → P (flat_map parts xs)
  each parts Good good [] all = nothing
  each parts Good good (x ∷ xs) all = both (parts x) (flat_map parts xs) (good x all.0) (each parts Good good xs all.1)

  all_texts : (texts : List Inline) → AllByRecursion (λ (t : Inline). P (t ∷ [])) texts → P texts
  all_texts [] all = nothing
  all_texts (t ∷ texts) all = both (t ∷ []) texts all.0 (all_texts texts all.1)

  in_printability : (group : Bool × List Inline) → AllByRecursion (λ (t : Inline). P (t ∷ [])) group.1 → P (printability_group group)
  in_printability (true, texts) all = unprintable texts (all_texts texts all)
  in_printability (false, texts) all = all_texts texts all

  in_style : (group : Style × List (Bool × Inline)) → AllByRecursion (λ (t : Bool × Inline). P (t.1 ∷ [])) group.1 → P (style_group group)
  in_style (style, texts) all = by (has_element style) refl
    where
      inner : List Inline
      inner = flat_map printability_group (group_by same_bool texts)

      holds : P inner
      holds = each printability_group (λ (group : Bool × List Inline). AllByRecursion (λ (t : Inline). P (t ∷ [])) group.1) in_printability
          (group_by same_bool texts) (good_groups same_bool (λ (t : Inline). P (t ∷ [])) texts all)

      by : (has : Bool) → has_element style ≡ has → P (style_group (style, texts))
      by true is = rw is (styled style inner is holds)
      by false is = rw is (subst P (sym (append-nil inner)) holds)

  all_styled : (style : Style) (runs : List Run) → AllByRecursion Q runs
      → AllByRecursion (λ (t : Style × (Bool × Inline)). P (t.1.1 ∷ [])) (styled_texts style runs)
  all_styled style [] all = tt
  all_styled style (CodePoints code_point count ∷ runs) all = (text code_point count all.0, all_styled style runs all.1)
  all_styled style (Restyle numbers ∷ runs) all = all_styled (restyled style numbers) runs all.1

  pub holds_of_passage : (style : Style) (runs : List Run) → AllByRecursion Q runs → P (passage_inlines style runs)
  holds_of_passage style runs all =
      each style_group (λ (group : Style × List (Bool × Inline)). AllByRecursion (λ (t : Bool × Inline). P (t.1 ∷ [])) group.1) in_style
      (group_by is_same_style (styled_texts style runs))
      (good_groups is_same_style (λ (t : Bool × Inline). P (t.1 ∷ [])) (styled_texts style runs) (all_styled style runs all))

pub any_runs : (runs : List Run) → AllByRecursion (λ (run : Run). Unit {0}) runs
any_runs [] = tt
any_runs (run ∷ runs) = (tt, any_runs runs)
