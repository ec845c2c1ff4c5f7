-- Parts of a line: what was found in bytes that continue after the line feed is in the line.
use Rattle.std.proofs.Common.{◌≡◌, ◌⊎◌, inl, inr, ℕ, zero, suc, ◌+◌, ◌-◌, ◌<◌, ◌≤◌, true, List, [], ◌∷◌, ◌++◌, length, take, drop, map, slice_index, refl, sym, ◌∙◌, ap, subst, arith, ⊎_elim}
use Rattle.std.specs.Prelude.{◌==◌, not}
use Rattle.std.specs.List.{AllByRecursion, flat_map, list_all}
use Rattle.std.proofs.lemmas.Bool.{and_parts, cases_lt, eqb-true, or_cases}
use Rattle.std.proofs.lemmas.List.{append_assoc, append-nil, append_cancel_right, drop-append-le, drop-drop, drop_at, get_or-drop, length-append, length-drop, take-append-le}
use Rattle.redo_line.specs.Lines.{HasNoLineFeed, ended, rest, with_line_feed}
use Rattle.redo_line.proofs.LineLemmas.{are_lines, ended-line, rest-line}
use Rattle.redo_html.specs.declared.text_kind.TextKind.{TextKind}
use Rattle.redo_html.specs.declared.style.Style.{Style}
use Rattle.redo_html.specs.Laws.{is_plain}
use Rattle.redo_html.specs.Style.{restyled}
use Rattle.redo_html.specs.Symbols.{Symbol, sequence_len, sequence_numbers, symbols}
use Rattle.redo_html.specs.Symbols.Symbol.{CodePoint}
use Rattle.redo_html.specs.Private.Writing.{IsQuote, IsSequence, IsVerbatim, ReadsPair, ReadsSequence, SkipsSequences}
use Rattle.redo_html.proofs.LineLemmas.{numbers_same, sequence_same, symbols-feed}
use Rattle.redo_html.proofs.SequenceLemmas.{one_more_skipped}
use Rattle.redo_html.proofs.SymbolLemmas.{sequence_parts, symbols-nil}
use Rattle.redo_html.proofs.LetterLemmas.{is_triple, triple_verbatim}
use Rattle.redo_html.proofs.VerbatimLemmas.{all_of_front, more_code_points, plain_code_points}

-- ---- the first line

pub record HasLine (bytes line : List ℕ) (lines : List (List ℕ)) : Type 0 where
  pub more : List ℕ
  pub bytes_are : bytes ≡ line ++ 10 ∷ more
  pub free : HasNoLineFeed line
  pub lines_are : ended more ≡ lines
  pub rest_is : rest more ≡ rest bytes

pub has_line : (bytes line : List ℕ) (lines : List (List ℕ)) → ended bytes ≡ line ∷ lines → HasLine bytes line lines
has_line bytes line lines is = record {
  more = more;
  bytes_are = shape;
  free = none.0;
  lines_are = tails (sym (ended-line line more none.0) ∙ sym (ap ended shape) ∙ is);
  rest_is = sym (rest-line line more none.0) ∙ sym (ap rest shape);
}
  where
    tails : {a b : List ℕ} {s t : List (List ℕ)} → a ∷ s ≡ b ∷ t → s ≡ t
    tails same = cc

    more : List ℕ
    more = flat_map with_line_feed lines ++ rest bytes

    none : AllByRecursion HasNoLineFeed (line ∷ lines)
    none = subst (AllByRecursion HasNoLineFeed) is (are_lines bytes).lines_hold_none

    shape : bytes ≡ line ++ 10 ∷ more
    shape = (are_lines bytes).whole ∙ ap (λ (ls : List (List ℕ)). flat_map with_line_feed ls ++ rest bytes) is
        ∙ append_assoc (with_line_feed line) (flat_map with_line_feed lines) (rest bytes) ∙ append_assoc line (10 ∷ []) more

pub no_line : (bytes : List ℕ) → ended bytes ≡ [] → rest bytes ≡ [] → bytes ≡ []
no_line bytes none complete =
    (are_lines bytes).whole ∙ ap (λ (ls : List (List ℕ)). flat_map with_line_feed ls ++ rest bytes) none ∙ complete

-- Complete lines have a first one.
pub some_line : (bytes : List ℕ) → rest bytes ≡ [] → 0 < length bytes
    → (line : List ℕ) × (lines : List (List ℕ)) × (ended bytes ≡ line ∷ lines)
some_line bytes complete some = by (ended bytes) refl
  where
    by : (ls : List (List ℕ)) → ended bytes ≡ ls → (line : List ℕ) × (lines : List (List ℕ)) × (ended bytes ≡ line ∷ lines)
    by [] none = absurd (let empty = ap length (no_line bytes none complete) in omega (arith, some, empty))
    by (line ∷ lines) is = (line, lines, is)

pub free_behind : (n : ℕ) (line : List ℕ) → HasNoLineFeed line → HasNoLineFeed (drop n line)
free_behind zero line free = free
free_behind (suc n) [] free = tt
free_behind (suc n) (byte ∷ line) free = free_behind n line free.1

-- Only the last byte of a line is a line feed.
pub feed_at_end : (line more : List ℕ) (n : ℕ) → HasNoLineFeed line → slice_index (line ++ 10 ∷ more) n ≡ 10 → length line ≤ n
feed_at_end [] more n free is = omega arith
feed_at_end (byte ∷ line) more zero free is = absurd (free.0 is)
feed_at_end (byte ∷ line) more (suc n) free is = let past = feed_at_end line more n free.1 is in omega (arith, past)

pub feed_of_line : (line more : List ℕ) → slice_index (line ++ 10 ∷ more) (length line) ≡ 10
feed_of_line [] more = refl
feed_of_line (byte ∷ line) more = feed_of_line line more

pub same_first : (line more : List ℕ) → slice_index (line ++ 10 ∷ more) 0 ≡ slice_index (line ++ 10 ∷ []) 0
same_first [] more = refl
same_first (byte ∷ line) more = refl

-- Bytes before the first line feed are in the line.
pub before_feed : (n : ℕ) (line more : List ℕ) → list_all (λ byte. not (byte == 10)) (take n (line ++ 10 ∷ more)) ≡ true → n ≤ length line
before_feed zero line more none = omega arith
before_feed (suc n) [] more none = absurd (let same : not (10 == 10) ≡ true =
    (and_parts (not (10 == 10)) (list_all (λ byte. not (byte == 10)) (take n more)) none).0 in cc)
before_feed (suc n) (byte ∷ line) more none =
    let next = before_feed n line more
    (and_parts (not (byte == 10)) (list_all (λ byte. not (byte == 10)) (take n (line ++ 10 ∷ more))) none).1 in
    omega (arith, next)

pub same_front : (line more : List ℕ) (n : ℕ) → n ≤ length line + 1 → take n (line ++ 10 ∷ more) ≡ take n (line ++ 10 ∷ [])
same_front line more n few =
    let size = length-append line (10 ∷ []) in
    ap (take n) (sym (append_assoc line (10 ∷ []) more)) ∙ take-append-le n (line ++ 10 ∷ []) more (omega (arith, few, size))

behind_line : (line more : List ℕ) (n : ℕ) → n ≡ length line + 1 → drop n (line ++ 10 ∷ more) ≡ more
behind_line line more n is =
    let size = length-append line (10 ∷ []) in
    ap (drop n) (sym (append_assoc line (10 ∷ []) more)) ∙ drop_at (line ++ 10 ∷ []) more n (omega (arith, is, size))

-- ---- code points

pub plain_in_line : (line more : List ℕ) (count run : ℕ) → count ≤ run → count ≤ length line + 1
    → list_all is_plain (take run (line ++ 10 ∷ more)) ≡ true → IsVerbatim (line ++ 10 ∷ []) count
plain_in_line line more count run few within plain =
    let size = length-append line (10 ∷ []) in
    plain_code_points count (line ++ 10 ∷ []) (omega (arith, within, size))
    (ap (list_all is_plain) (sym (same_front line more count within)) ∙ all_of_front count run (line ++ 10 ∷ more) few plain)

pub verbatim_in_line : (line more : List ℕ) (len : ℕ) → len ≤ length line + 1 → IsVerbatim (line ++ 10 ∷ more) len
    → IsVerbatim (line ++ 10 ∷ []) len
verbatim_in_line line more len few all = record {
  within = let size = length-append line (10 ∷ []) in omega (arith, few, size);
  code_points = all.code_points;
  verbatim = all.verbatim;
  bytes_are = sym (same_front line more len few) ∙ all.bytes_are;
  symbols_are = λ kind. ⊎_elim (λ inside. within kind (omega (arith, inside))) (λ past. at_end kind (omega (arith, few, past)))
      (cases_lt len (length line + 1));
}
  where
    own : List Symbol
    own = map CodePoint all.code_points

    within : (kind : TextKind) → len ≤ length line → symbols kind (line ++ 10 ∷ []) ≡ own ++ symbols kind (drop len (line ++ 10 ∷ []))
    within kind inside =
        let feed = CodePoint 10 ∷ symbols kind more in
        let left = symbols kind (drop len line) in
        let same : symbols kind line ++ feed ≡ (own ++ left) ++ feed =
        sym (symbols-feed kind line more) ∙ all.symbols_are kind
        ∙ ap (λ (b : List ℕ). own ++ symbols kind b) (drop-append-le len line (10 ∷ more) inside)
        ∙ ap (λ (ss : List Symbol). own ++ ss) (symbols-feed kind (drop len line) more) ∙ sym (append_assoc own left feed) in
        symbols-feed kind line [] ∙ ap (λ (ss : List Symbol). ss ++ CodePoint 10 ∷ symbols kind [])
        (append_cancel_right (symbols kind line) (own ++ left) feed same)
        ∙ append_assoc own left (CodePoint 10 ∷ symbols kind [])
        ∙ ap (λ (ss : List Symbol). own ++ ss) (sym (symbols-feed kind (drop len line) []))
        ∙ ap (λ (b : List ℕ). own ++ symbols kind b) (sym (drop-append-le len line (10 ∷ []) inside))

    at_end : (kind : TextKind) → len ≡ length line + 1 → symbols kind (line ++ 10 ∷ []) ≡ own ++ symbols kind (drop len (line ++ 10 ∷ []))
    at_end kind is =
        let feed = CodePoint 10 ∷ [] in
        let same : (symbols kind line ++ feed) ++ symbols kind more ≡ own ++ symbols kind more =
        append_assoc (symbols kind line) feed (symbols kind more) ∙ sym (symbols-feed kind line more) ∙ all.symbols_are kind
        ∙ ap (λ (b : List ℕ). own ++ symbols kind b) (behind_line line more len is) in
        symbols-feed kind line [] ∙ ap (λ (ss : List Symbol). symbols kind line ++ CodePoint 10 ∷ ss) (symbols-nil kind)
        ∙ append_cancel_right (symbols kind line ++ feed) own (symbols kind more) same
        ∙ sym (append-nil own) ∙ ap (λ (ss : List Symbol). own ++ ss) (sym (symbols-nil kind))
        ∙ ap (λ (b : List ℕ). own ++ symbols kind b) (sym (behind_line line [] len is))

-- A quote that isn't in ASCII, and plain bytes after it.
pub quote_in_line : (bytes line more : List ℕ) (at run count : ℕ) → at + 3 + run ≤ length bytes → IsQuote bytes at
    → drop at bytes ≡ line ++ 10 ∷ more → count ≤ run → list_all is_plain (take run (drop (at + 3) bytes)) ≡ true
    → ((l m : List ℕ) → drop (at + 3) bytes ≡ l ++ 10 ∷ m → run ≤ length l + 1) → IsVerbatim (line ++ 10 ∷ []) (3 + count)
quote_in_line bytes line more at run count room quote is few plain in_line =
    verbatim_in_line line more (3 + count) bound (subst (λ (b : List ℕ). IsVerbatim b (3 + count)) is
    (more_code_points left 3 count (triple_verbatim left (omega (arith, size, room)) known)
    (plain_code_points count (drop 3 left) (omega (arith, few, room, size, left_size))
    (all_of_front count run (drop 3 left) few (ap (λ (b : List ℕ). list_all is_plain (take run b)) behind ∙ plain)))))
  where
    left : List ℕ
    left = drop at bytes

    size : length left ≡ length bytes - at
    size = length-drop at bytes

    behind : drop 3 left ≡ drop (at + 3) bytes
    behind = drop-drop 3 at bytes

    left_size : length (drop 3 left) ≡ length left - 3
    left_size = length-drop 3 left

    first : slice_index left 0 ≡ 0xE2
    first = get_or-drop at bytes 0 0 ∙ ap (slice_index bytes) (omega arith) ∙ quote.0

    next : slice_index left 1 ≡ 0x80
    next = get_or-drop at bytes 1 0 ∙ quote.1

    last : (slice_index left 2 ≡ 0x98) ⊎ (slice_index left 2 ≡ 0x99)
    last =
        let here = get_or-drop at bytes 2 0 in
        ⊎_elim (λ one. inl (here ∙ eqb-true (slice_index bytes (at + 2)) 0x98 one))
        (λ other. inr (here ∙ eqb-true (slice_index bytes (at + 2)) 0x99 other))
        (or_cases (slice_index bytes (at + 2) == 0x98) (slice_index bytes (at + 2) == 0x99) quote.2)

    known : is_triple (slice_index left 0) (slice_index left 1) (slice_index left 2) ≡ true
    known = ap (λ (b : ℕ). is_triple b (slice_index left 1) (slice_index left 2)) first
        ∙ ap (λ (b : ℕ). is_triple 0xE2 b (slice_index left 2)) next
        ∙ ⊎_elim (λ one. ap (is_triple 0xE2 0x80) one) (λ other. ap (is_triple 0xE2 0x80) other) last

    three : (l : List ℕ) → left ≡ l ++ 10 ∷ more → 3 ≤ length l
    three [] same = absurd (let feed = ap (λ (b : List ℕ). slice_index b 0) same in omega (arith, feed, first))
    three (x ∷ []) same = absurd (let feed = ap (λ (b : List ℕ). slice_index b 1) same in omega (arith, feed, next))
    three (x ∷ y ∷ []) same =
        let feed = ap (λ (b : List ℕ). slice_index b 2) same in
        ⊎_elim (λ one. absurd (omega (arith, feed, one))) (λ other. absurd (omega (arith, feed, other))) last
    three (x ∷ y ∷ z ∷ l) same = omega arith

    bound : 3 + count ≤ length line + 1
    bound =
        let inside = three line is in
        let end = in_line (drop 3 line) more (sym behind ∙ ap (drop 3) is ∙ drop-append-le 3 line (10 ∷ more) inside) in
        let line_size = length-drop 3 line in
        omega (arith, inside, end, few, line_size)

-- ---- sequences

pub sequence_in_line : (style next : Style) (byte : ℕ) (line more : List ℕ) (len : ℕ) → 0 < len
    → ReadsSequence style ((byte ∷ line) ++ 10 ∷ more) next len
    → ReadsSequence style ((byte ∷ line) ++ 10 ∷ []) next len × (len ≤ length (byte ∷ line))
sequence_in_line style next byte line more len some read = by line refl
  where
    found : (len ≡ sequence_len ((byte ∷ line) ++ 10 ∷ more)) × (next ≡ restyled style (sequence_numbers ((byte ∷ line) ++ 10 ∷ more)))
    found = read some

    len_is : len ≡ sequence_len (byte ∷ line)
    len_is = found.0 ∙ sequence_same byte line more

    parts : IsSequence (byte ∷ line) (sequence_len (byte ∷ line))
    parts = sequence_parts (byte ∷ line) (omega (arith, some, len_is))

    few : len ≤ length (byte ∷ line)
    few = let within = parts.within in omega (arith, len_is, within)

    by : (l : List ℕ) → line ≡ l → ReadsSequence style ((byte ∷ line) ++ 10 ∷ []) next len × (len ≤ length (byte ∷ line))
    by [] is = absurd (let three = parts.some in let within = parts.within in let size = ap length is in omega (arith, three, within, size))
    by (second ∷ l) is =
        let numbers : (behind : List ℕ) → sequence_numbers ((byte ∷ line) ++ 10 ∷ behind) ≡ sequence_numbers (byte ∷ line) =
        λ behind. ap (λ (t : List ℕ). sequence_numbers ((byte ∷ t) ++ 10 ∷ behind)) is ∙ numbers_same byte second l behind
        ∙ ap (λ (t : List ℕ). sequence_numbers (byte ∷ t)) (sym is) in (
          λ positive. (
            len_is ∙ sym (sequence_same byte line []),
            found.1 ∙ ap (restyled style) (numbers more ∙ sym (numbers [])),
          ),
          few,
        )

pub skipped_in_line : (style current next : Style) (bytes line more : List ℕ) (done len : ℕ) → bytes ≡ line ++ 10 ∷ more
    → slice_index bytes done ≡ 27 → 0 < len → ReadsSequence current (drop done bytes) next len
    → SkipsSequences style (line ++ 10 ∷ []) current done × (done ≤ length line)
    → SkipsSequences style (line ++ 10 ∷ []) next (done + len) × (done + len ≤ length line)
skipped_in_line style current next bytes line more done len is escape some read so_far = by (drop done line) refl
  where
    rest_is : drop done bytes ≡ drop done line ++ 10 ∷ more
    rest_is = ap (drop done) is ∙ drop-append-le done line (10 ∷ more) so_far.1

    by : (left : List ℕ) → drop done line ≡ left
        → SkipsSequences style (line ++ 10 ∷ []) next (done + len) × (done + len ≤ length line)
    by [] none =
        let here : done + 0 ≡ done = omega arith in
        let feed : slice_index bytes done ≡ 10 =
        ap (slice_index bytes) (sym here) ∙ sym (get_or-drop done bytes 0 0)
        ∙ ap (λ (b : List ℕ). slice_index b 0) (rest_is ∙ ap (λ (b : List ℕ). b ++ 10 ∷ more) none) in
        absurd (omega (arith, feed, escape))
    by (byte ∷ left) left_is =
        let found = sequence_in_line current next byte left more len some
        (subst (λ (b : List ℕ). ReadsSequence current b next len) (rest_is ∙ ap (λ (b : List ℕ). b ++ 10 ∷ more) left_is) read) in
        let line_rest : drop done (line ++ 10 ∷ []) ≡ (byte ∷ left) ++ 10 ∷ [] =
        drop-append-le done line (10 ∷ []) so_far.1 ∙ ap (λ (b : List ℕ). b ++ 10 ∷ []) left_is in
        let few = found.1 in
        let size = length-drop done line in
        let left_size = ap length left_is in
        let before = so_far.1 in (
          one_more_skipped style current next (line ++ 10 ∷ []) done len so_far.0 some
              (subst (λ (b : List ℕ). ReadsSequence current b next len) (sym line_rest) found.0),
          omega (arith, few, size, left_size, before),
        )

pub pair_in_line : (style current next : Style) (bytes line more : List ℕ) (done len : ℕ) → bytes ≡ line ++ 10 ∷ more
    → slice_index bytes done ≡ 27 → ReadsPair current (drop done bytes) next len
    → SkipsSequences style (line ++ 10 ∷ []) current done × (done ≤ length line)
    → SkipsSequences style (line ++ 10 ∷ []) next (done + len) × (done + len ≤ length line)
pair_in_line style current next bytes line more done len is escape pair so_far =
    let both = pair.both in
    subst (λ (n : ℕ). SkipsSequences style (line ++ 10 ∷ []) next n × (n ≤ length line)) (omega (arith, both))
    (skipped_in_line style next next bytes line more (done + pair.first) 3 is
    (sym (get_or-drop done bytes pair.first 0) ∙ pair.escape) (omega arith)
    (subst (λ (b : List ℕ). ReadsSequence next b next 3) (drop-drop pair.first done bytes) pair.erase)
    (skipped_in_line style current next bytes line more done pair.first is escape pair.some pair.read so_far))
