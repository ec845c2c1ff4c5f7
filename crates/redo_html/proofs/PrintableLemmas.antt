-- Lemmas about names that are shown unchanged.
use Rattle.std.proofs.Common.{◌≡◌, ℕ, zero, suc, ⊎_elim, ◌+◌, ◌-◌, ◌<◌, ◌≤◌, Bool, true, false, List, [], ◌∷◌, ◌++◌, Option, None, Some, length, take, drop, slice_index, refl, sym, ◌∙◌, ap, arith}
use Rattle.std.specs.Char.{encode_utf8}
use Rattle.std.specs.Prelude.{◌==◌, ◌||◌, ◌&&◌, not, nat_lt, nat_le, if◌then◌else◌, IfNone, IfSome}
use Rattle.std.specs.List.{flat_map, list_all}
use Rattle.std.proofs.lemmas.Bool.{agree_below_at, and_parts, and_from, cond-false, eqb-true, lt-ltb, ltb-true, not-true, or_cases}
use Rattle.std.proofs.lemmas.Bool.Decides.{nat_tests}
use Rattle.std.proofs.lemmas.List.{drop-drop, length-drop, take-append-drop}
use Rattle.redo_html.specs.declared.text_kind.TextKind.TheVariants.{Monochrome}
use Rattle.redo_html.specs.Laws.{is_byte, is_printable_ascii}
use Rattle.redo_html.specs.Shown.{is_printable, is_unprintable, is_visible, run_text, runs_of, shown_text, unprintable_text}
use Rattle.redo_html.specs.Symbols.{Symbol, first_symbol, symbol_len, symbols}
use Rattle.redo_html.specs.Symbols.Symbol.{CodePoint, Sequence}
use Rattle.redo_html.specs.Private.Writing.{symbol_code_point}
use Rattle.redo_html.proofs.SymbolLemmas.{ascii_symbol, symbol_bounds, symbols-nil, symbols-step, visible_bytes, visible_run}

pub printable-nil : is_printable [] ≡ true
printable-nil = ap (list_all is_visible) (symbols-nil Monochrome)

pub printable-step : (name : List ℕ) → 0 < length name
    → is_printable name ≡ (is_visible (first_symbol Monochrome name) && is_printable (drop (symbol_len Monochrome name) name))
printable-step name some = ap (list_all is_visible) (symbols-step Monochrome name some)

-- Whether a symbol is visible, by its code point.
pub visible_by : (symbol : Symbol) (code_point : Option ℕ) (visible : Bool) → code_point ≡ symbol_code_point symbol
    → IfSome code_point (λ c. visible ≡ not (is_unprintable c)) → IfNone code_point (visible ≡ false) → visible ≡ is_visible symbol
visible_by (CodePoint c) (Some other) visible same some none = some ∙ ap (λ (o : Option ℕ). by o) same
  where
    by : Option ℕ → Bool
    by None = false
    by (Some c) = not (is_unprintable c)
visible_by (CodePoint c) None visible same some none = absurd (cc)
visible_by (Sequence numbers) (Some other) visible same some none = absurd (cc)
visible_by (Sequence numbers) None visible same some none = none

-- The length of the symbol at `at`, or 0 if it isn't visible.
abbrev pub len_if : Bool → ℕ → ℕ
len_if visible len = if visible then len else 0

-- What is known of the symbol at `at`: its bytes are in the name, and whether the rest is printable.
pub record Found (name : List ℕ) (at len : ℕ) : Type 0 where
  pub within : at + len ≤ length name
  pub printable : is_printable (drop at name) ≡ (nat_lt 0 len && is_printable (drop (at + len) name))

pub found_at : (name : List ℕ) (at len : ℕ) (code_point : Option ℕ) (visible : Bool) → at < length name
    → code_point ≡ symbol_code_point (first_symbol Monochrome (drop at name)) → len ≡ symbol_len Monochrome (drop at name)
    → IfSome code_point (λ c. visible ≡ not (is_unprintable c)) → IfNone code_point (visible ≡ false)
    → Found name at (len_if visible len)
found_at name at len code_point visible inside found size some none =
    let left = length-drop at name in
    let nonempty : 0 < length (drop at name) = omega (arith, left, inside) in
    let bounds = symbol_bounds Monochrome (drop at name) nonempty in
    let behind : drop (symbol_len Monochrome (drop at name)) (drop at name) ≡ drop (at + len) name =
    ap (λ (n : ℕ). drop n (drop at name)) (sym size) ∙ drop-drop len at name in
    by visible
    (printable-step (drop at name) nonempty
    ∙ ap (λ (b : Bool). b && is_printable (drop (symbol_len Monochrome (drop at name)) (drop at name)))
    (sym (visible_by (first_symbol Monochrome (drop at name)) code_point visible found some none))
    ∙ ap (λ (rest : List ℕ). visible && is_printable rest) behind) (omega (arith, size, bounds.0))
    (omega (arith, left, bounds.1, size, inside))
  where
    by : (visible : Bool) → is_printable (drop at name) ≡ (visible && is_printable (drop (at + len) name)) → 0 < len
        → at + len ≤ length name → Found name at (len_if visible len)
    by true printable some within = record {
      within = within;
      printable = printable ∙ ap (λ (b : Bool). b && is_printable (drop (at + len) name)) (sym (lt-ltb 0 len some));
    }
    by false printable some within = record { within = omega (arith, inside); printable = printable }

all_dropped : (test : ℕ → Bool) (n : ℕ) (bytes : List ℕ) → list_all test bytes ≡ true → list_all test (drop n bytes) ≡ true
all_dropped test zero bytes all = all
all_dropped test (suc n) [] all = all
all_dropped test (suc n) (byte ∷ bytes) all = all_dropped test n bytes (and_parts (test byte) (list_all test bytes) all).1

-- The rest of a name after its first symbol.
abbrev rest_of : List ℕ → List ℕ
rest_of name = drop (symbol_len Monochrome name) name

rest_shorter : (name : List ℕ) (n : ℕ) → 0 < length name → length name ≤ suc n → length (rest_of name) ≤ n
rest_shorter name n some within =
    let bounds = symbol_bounds Monochrome name some in
    let left = length-drop (symbol_len Monochrome name) name in omega (arith, left, bounds.0, within)

printable_parts : (name : List ℕ) → 0 < length name → is_printable name ≡ true
    → (is_visible (first_symbol Monochrome name) ≡ true) × (is_printable (rest_of name) ≡ true)
printable_parts name some printable =
    and_parts (is_visible (first_symbol Monochrome name)) (is_printable (rest_of name)) (sym (printable-step name some) ∙ printable)

-- A visible symbol shows its bytes.
symbol_shown : (name : List ℕ) (symbol : Symbol) → 0 < length name → slice_index name 0 < 256 → first_symbol Monochrome name ≡ symbol
    → is_visible symbol ≡ true → shown_text Monochrome (rest_of name) ≡ rest_of name → shown_text Monochrome name ≡ name
symbol_shown name (Sequence numbers) some below is visible rest = absurd (cc)
symbol_shown name (CodePoint c) some below is visible rest =
    let seen : is_unprintable c ≡ false = not-true (is_unprintable c) visible in
    ap (λ (ss : List Symbol). flat_map run_text (runs_of ss))
    (symbols-step Monochrome name some ∙ ap (λ (s : Symbol). s ∷ symbols Monochrome (rest_of name)) is)
    ∙ ap (flat_map run_text) (visible_run c (runs_of (symbols Monochrome (rest_of name))) seen)
    ∙ ap (λ (t : List ℕ). t ++ shown_text Monochrome (rest_of name))
    (cond-false (is_unprintable c) (unprintable_text c 1) (encode_utf8 c) seen)
    ∙ ap (λ (t : List ℕ). encode_utf8 c ++ t) rest
    ∙ ap (λ (t : List ℕ). t ++ rest_of name) (sym (visible_bytes Monochrome name c some below is seen))
    ∙ take-append-drop (symbol_len Monochrome name) name

shown_within : (fuel : ℕ) (name : List ℕ) → length name ≤ fuel → list_all is_byte name ≡ true → is_printable name ≡ true
    → shown_text Monochrome name ≡ name
shown_within fuel [] within are printable = ap (λ (ss : List Symbol). flat_map run_text (runs_of ss)) (symbols-nil Monochrome)
shown_within zero (byte ∷ bytes) within are printable = absurd (omega (arith, within))
shown_within (suc fuel) (byte ∷ bytes) within are printable =
    let name : List ℕ = byte ∷ bytes in
    let parts = printable_parts name (omega arith) printable in
    symbol_shown name (first_symbol Monochrome name) (omega arith)
    (ltb-true byte 256 (and_parts (is_byte byte) (list_all is_byte bytes) are).0) refl parts.0
    (shown_within fuel (rest_of name) (rest_shorter name fuel (omega arith) within)
    (all_dropped is_byte (symbol_len Monochrome name) name are) parts.1)

pub printable_shown : (name : List ℕ) → list_all is_byte name ≡ true → is_printable name ≡ true → shown_text Monochrome name ≡ name
printable_shown name = shown_within (length name) name (omega arith)

-- ---- ASCII

ascii_facts : (byte : ℕ) → is_printable_ascii byte ≡ true → (not (byte == 27) && not (is_unprintable byte)) ≡ true
unfolding is_unprintable
ascii_facts byte ascii = ⊎_elim
    (λ other. absurd (let e : true ≡ false = sym ascii ∙ not-true (is_printable_ascii byte) other in cc)) (λ facts. facts)
    (or_cases (not (is_printable_ascii byte)) (not (byte == 27) && not (is_unprintable byte))
    (agree_below_at (λ b. not (is_printable_ascii b) || (not (b == 27) && not (is_unprintable b))) (λ b. true) 128 byte refl
    (let below = ascii_below byte ascii in omega arith)))
  where
    ascii_below : (byte : ℕ) → is_printable_ascii byte ≡ true → byte < 127
    ascii_below byte ascii = grind (arith, nat_tests)

pub ascii_printable : (name : List ℕ) → list_all is_printable_ascii name ≡ true → is_printable name ≡ true
ascii_printable [] ascii = printable-nil
ascii_printable (byte ∷ bytes) ascii =
    let parts = and_parts (is_printable_ascii byte) (list_all is_printable_ascii bytes) ascii in
    let facts = and_parts (not (byte == 27)) (not (is_unprintable byte)) (ascii_facts byte parts.0) in
    let below : byte < 128 = ascii_below byte parts.0 in
    let symbol = ascii_symbol Monochrome byte bytes below (not-true (byte == 27) facts.0) in
    printable-step (byte ∷ bytes) (omega arith)
    ∙ ap (λ (s : Symbol). is_visible s && is_printable (drop (symbol_len Monochrome (byte ∷ bytes)) (byte ∷ bytes))) symbol.0
    ∙ ap (λ (n : ℕ). not (is_unprintable byte) && is_printable (drop n (byte ∷ bytes))) symbol.1
    ∙ and_from (not (is_unprintable byte)) (is_printable bytes) facts.1 (ascii_printable bytes parts.1)
  where
    ascii_below : (byte : ℕ) → is_printable_ascii byte ≡ true → byte < 128
    ascii_below byte ascii = grind (arith, nat_tests)
