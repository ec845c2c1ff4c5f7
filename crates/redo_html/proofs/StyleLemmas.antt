-- Lemmas about the style at the end of a text.
use Rattle.std.proofs.Common.{◌≡◌, ℕ, zero, suc, ◌<◌, ◌≤◌, Bool, true, false, List, ◌++◌, length, drop, replicate, refl, sym, ◌∙◌, ap, ap₂}
use Rattle.std.specs.Prelude.{◌==◌, fold, not}
use Rattle.std.proofs.lemmas.Bool.{and_parts, eq-eqb, eqb-true, or_parts}
use Rattle.std.proofs.lemmas.List.{drop_all}
use Rattle.redo_html.specs.declared.text_kind.TextKind.{TextKind}
use Rattle.redo_html.specs.declared.style.Hue.{Hue}
use Rattle.redo_html.specs.declared.style.Hue.TheVariants.{Plain, Red, Green, Yellow, Blue, Magenta, Cyan}
use Rattle.redo_html.specs.declared.style.Style.{Style}
use Rattle.redo_html.specs.Lines.{style_after_symbol}
use Rattle.redo_html.specs.Passage.{hue_number, has_element, is_same_style, same_bool}
use Rattle.redo_html.specs.Style.{digit_hue, plain_style, restyled}
use Rattle.redo_html.specs.Symbols.{Symbol, first_symbol, symbol_len, symbols}
use Rattle.redo_html.specs.Symbols.Symbol.{CodePoint, Sequence}
use Rattle.redo_html.specs.Private.Writing.{IsRepeated, style_in}
use Rattle.redo_html.proofs.SymbolLemmas.{symbols-nil, symbols-step}

module _ (kind : TextKind) (style : Style) (bytes : List ℕ) (some : 0 < length bytes) where
  step : fold style_after_symbol (style_after_symbol style (first_symbol kind bytes)) (symbols kind (drop (symbol_len kind bytes) bytes))
      ≡ style_in kind style bytes
  step = sym (ap (fold style_after_symbol style) (symbols-step kind bytes some))

  pub code_point_style : (code_point : ℕ) → first_symbol kind bytes ≡ CodePoint code_point
      → style_in kind style (drop (symbol_len kind bytes) bytes) ≡ style_in kind style bytes
  code_point_style code_point first =
      ap (λ (s : Symbol). fold style_after_symbol (style_after_symbol style s) (symbols kind (drop (symbol_len kind bytes) bytes)))
      (sym first) ∙ step

  pub sequence_style : (numbers : List ℕ) → first_symbol kind bytes ≡ Sequence numbers
      → style_in kind (restyled style numbers) (drop (symbol_len kind bytes) bytes) ≡ style_in kind style bytes
  sequence_style numbers first = ap (λ (s : Symbol).
      fold style_after_symbol (style_after_symbol style s) (symbols kind (drop (symbol_len kind bytes) bytes))) (sym first) ∙ step

-- At the end of a text.
pub ended_style : (kind : TextKind) (style last : Style) (bytes : List ℕ) (done : ℕ) → length bytes ≤ done
    → style_in kind last (drop done bytes) ≡ style_in kind style bytes → last ≡ style_in kind style bytes
ended_style kind style last bytes done past left =
    sym (ap (λ (b : List ℕ). style_in kind last b) (drop_all done bytes past) ∙ ap (fold style_after_symbol last) (symbols-nil kind)) ∙ left

code_points_style : (style : Style) (code_point count : ℕ) (symbols : List Symbol)
    → fold style_after_symbol style (replicate count (CodePoint code_point) ++ symbols) ≡ fold style_after_symbol style symbols
code_points_style style code_point zero symbols = refl
code_points_style style code_point (suc count) symbols = code_points_style style code_point count symbols

pub repeated_style : (kind : TextKind) (style : Style) (bytes : List ℕ) (code_point count len : ℕ)
    → IsRepeated kind code_point bytes count len → style_in kind style (drop len bytes) ≡ style_in kind style bytes
repeated_style kind style bytes code_point count len repeated =
    sym (ap (fold style_after_symbol style) repeated.repeated ∙ code_points_style style code_point count (symbols kind (drop len bytes)))

-- A style without an element is the page's own.
pub plain_without_element : (style : Style) → has_element style ≡ false → style ≡ plain_style
plain_without_element style none =
    let parts = or_parts style.bold (not (hue_number style.hue == 0)) none in
    ap (λ (b : Bool). record { bold = b; hue = style.hue }) parts.0
    ∙ ap (λ (h : Hue). record { bold = false; hue = h }) (plain style.hue parts.1)
  where
    plain : (hue : Hue) → not (hue_number hue == 0) ≡ false → hue ≡ Plain
    plain Plain is = refl
    plain Red is = absurd (cc)
    plain Green is = absurd (cc)
    plain Yellow is = absurd (cc)
    plain Blue is = absurd (cc)
    plain Magenta is = absurd (cc)
    plain Cyan is = absurd (cc)

-- ---- equal styles

hue_back : (hue : Hue) → digit_hue (hue_number hue) ≡ hue
hue_back Plain = refl
hue_back Red = refl
hue_back Green = refl
hue_back Yellow = refl
hue_back Blue = refl
hue_back Magenta = refl
hue_back Cyan = refl

same_bold : (one other : Bool) → same_bool one other ≡ true → one ≡ other
same_bold true true same = refl
same_bold true false same = sym same
same_bold false true same = same
same_bold false false same = refl

abbrev style_with : Bool → Hue → Style
style_with bold hue = record { bold = bold; hue = hue }

pub same_style : (one other : Style) → is_same_style one other ≡ true → one ≡ other
same_style one other same =
    let parts = and_parts (same_bool one.bold other.bold) (hue_number one.hue == hue_number other.hue) same in
    ap₂ style_with (same_bold one.bold other.bold parts.0)
    (sym (hue_back one.hue) ∙ ap digit_hue (eqb-true (hue_number one.hue) (hue_number other.hue) parts.1) ∙ hue_back other.hue)

same_bool_itself : (bold : Bool) → same_bool bold bold ≡ true
same_bool_itself true = refl
same_bool_itself false = refl

pub same_as_itself : (style : Style) → is_same_style style style ≡ true
same_as_itself style = rw (same_bool_itself style.bold, eq-eqb (hue_number style.hue) (hue_number style.hue) refl) refl

pub other_style : (one other : Style) → is_same_style one other ≡ false → is_same_style other one ≡ false
other_style one other differ = by (is_same_style other one) refl
  where
    by : (same : Bool) → is_same_style other one ≡ same → is_same_style other one ≡ false
    by true is =
        let e : true ≡ false = sym (same_as_itself one) ∙ ap (is_same_style one) (sym (same_style other one is)) ∙ differ in absurd (cc)
    by false is = is
