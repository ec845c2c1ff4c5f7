-- Entries stay the same if bytes are appended to their buffers and further entries are appended to them.
use Rattle.std.proofs.Common.{◌≡◌, ℕ, ◌+◌, ◌-◌, ◌≤◌, ◌<◌, List, [], ◌∷◌, ◌++◌, length, map, take, drop, Result, Ok, Err, IfOk, slice_index_or, slice_range, refl, sym, ap, ◌∙◌, subst, arith}
use Rattle.std.specs.List.{AllByRecursion, flat_map}
use Rattle.std.proofs.lemmas.List.{drop-append-le, drop-take, take-append-le, take-take, length-append, length-drop, length-map, length-take, append_assoc, append-nil}
use Rattle.std.proofs.Math.Seq.{drop-append_seam, take-length}
use Rattle.redo_line.specs.declared.entries.EntryAt.{EntryAt}
use Rattle.redo_line.specs.declared.entries.EntryAt.TheVariants.{Texts, Mention, Done, Closing, Note}
use Rattle.std.specs.declared.alloc.AllocError.{AllocError}
use Rattle.redo_line.specs.declared.entry.Entry.{Entry}
use Rattle.redo_line.specs.declared.entry.Entry.TheVariants as entry
use Rattle.redo_line.specs.Entries.{AreWithin, IsNameAt, IsWithin, entries_at, entries_at_place}
use Rattle.redo_line.specs.Lines.{AreCompleteLines, HasNoLineFeed, line_feed, ended}
use Rattle.redo_line.specs.Private.Entries.{AreCounted}
use Rattle.redo_line.proofs.LineLemmas.{are_lines, ended-free, ended-line, few_lines, rest-free, rest-line}
use Rattle.redo_name.specs.Names.{IsNormal}

-- `front` is a prefix of `whole`.
abbrev pub IsFront : {A : Type 0} → List A → List A → Type 0
IsFront {A} front whole = (more : List A) × (whole ≡ front ++ more)

-- A range within a prefix.
range_front : (xs more : List ℕ) (start end : ℕ) → start ≤ end → end ≤ length xs
    → slice_range (xs ++ more) start end ≡ slice_range xs start end
range_front xs more start end order within =
    ap (take (end - start)) (drop-append-le start xs more (omega (arith, order, within)))
    ∙ take-append-le (end - start) (drop start xs) more (omega (arith, order, within, length-drop start xs))

pub range_grown : (xs ys : List ℕ) (start end : ℕ) → IsFront xs ys → start ≤ end → end ≤ length xs
    → slice_range ys start end ≡ slice_range xs start end
range_grown xs ys start end front order within =
    ap (λ bytes. slice_range bytes start end) front.1 ∙ range_front xs front.0 start end order within

pub front_none : {A : Type 0} (xs : List A) → IsFront xs xs
front_none xs = ([], sym (append-nil xs))

pub front_length : {A : Type 0} (xs ys : List A) → IsFront xs ys → length xs ≤ length ys
front_length xs ys front = omega (arith, ap length front.1, length-append xs front.0)

module _ (bytes names bytes' names' : List ℕ) (more_bytes : IsFront bytes bytes') (more_names : IsFront names names') where
  name_grown : (start end : ℕ) → IsNameAt bytes names start end → IsNameAt bytes' names' start end
  name_grown start end within =
      let fits = front_length names names' more_names in (
        within.0,
        omega (arith, within.1, fits),
        subst IsNormal
            (sym (range_grown names names' start end more_names within.0 within.1)) within.2,
      )

  still_there : (place : EntryAt) → IsWithin bytes names place → IsWithin bytes' names' place
  still_there (Texts lines start end) within = (
    within.0,
    omega (arith, within.1, front_length bytes bytes' more_bytes),
    subst (λ bs. AreCompleteLines bs lines) (sym (range_grown bytes bytes' start end more_bytes within.0 within.1)) within.2,
  )
  still_there (Mention pid how start end) within = name_grown start end within
  still_there (Done pid status start end) within = name_grown start end within
  still_there (Closing pid status) within = within
  still_there (Note pid start middle end) within = (
    within.0,
    within.1,
    omega (arith, within.2, front_length bytes bytes' more_bytes),
    subst HasNoLineFeed (sym (range_grown bytes bytes' start middle more_bytes within.0 (omega (arith, within.1, within.2)))) within.3,
    subst HasNoLineFeed (sym (range_grown bytes bytes' middle end more_bytes within.1 within.2)) within.4,
  )

  still_one : (place : EntryAt) → IsWithin bytes names place → entries_at_place bytes' names' place ≡ entries_at_place bytes names place
  still_one (Texts lines start end) within =
      ap (λ bs. map entry.Text (ended bs)) (range_grown bytes bytes' start end more_bytes within.0 within.1)
  still_one (Mention pid how start end) within =
      ap (λ name. entry.Mention pid how name ∷ []) (range_grown names names' start end more_names within.0 within.1)
  still_one (Done pid status start end) within =
      ap (λ name. entry.Done pid status name ∷ []) (range_grown names names' start end more_names within.0 within.1)
  still_one (Closing pid status) within = refl
  still_one (Note pid start middle end) within =
      let kind = range_grown bytes bytes' start middle more_bytes within.0 (omega (arith, within.1, within.2)) in
      let text = range_grown bytes bytes' middle end more_bytes within.1 within.2 in
      λ i. entry.Note pid (kind i) (text i) ∷ []

  pub still_within : (places : List EntryAt) → AreWithin bytes names places → AreWithin bytes' names' places
  still_within [] within = within
  still_within (place ∷ places) within = (still_there place within.0, still_within places within.1)

  pub still_seen : (places : List EntryAt) → AreWithin bytes names places → entries_at bytes' names' places ≡ entries_at bytes names places
  still_seen [] within = refl
  still_seen (place ∷ places) within = λ i. still_one place within.0 i ++ still_seen places within.1 i

  pub more_within : (places : List EntryAt) (place : EntryAt) → AreWithin bytes names places → IsWithin bytes' names' place
      → AreWithin bytes' names' (places ++ place ∷ [])
  more_within [] place within one = (one, tt)
  more_within (first ∷ places) place within one = (still_there first within.0, more_within places place within.1 one)

  pub more_seen : (places : List EntryAt) (place : EntryAt) → AreWithin bytes names places
      → entries_at bytes' names' (places ++ place ∷ []) ≡ entries_at bytes names places ++ entries_at_place bytes' names' place
  more_seen [] place within = append-nil (entries_at_place bytes' names' place)
  more_seen (first ∷ places) place within =
      (λ i. still_one first within.0 i ++ more_seen places place within.1 i)
      ∙ sym (append_assoc (entries_at_place bytes names first) (entries_at bytes names places) (entries_at_place bytes' names' place))

-- ---- a step

-- Entries in these buffers, and other buffers that begin with the same bytes and names.
module _ (entries : List Entry) (bytes names : List ℕ) (places : List EntryAt) (count : ℕ) (are : entries_at bytes names places ≡ entries)
    (counted : AreCounted bytes names places count)
    (bytes' names' : List ℕ) (places' : List EntryAt) (more_bytes : IsFront bytes bytes') (more_names : IsFront names names') where
  -- Both have the same entries.
  pub same_seen : places' ≡ places → entries_at bytes' names' places' ≡ entries
  same_seen same = ap (entries_at bytes' names') same
      ∙ still_seen bytes names bytes' names' more_bytes more_names places counted.within ∙ are

  pub same_counted : places' ≡ places → AreCounted bytes' names' places' count
  same_counted same = record {
    within = subst (AreWithin bytes' names') (sym same)
        (still_within bytes names bytes' names' more_bytes more_names places counted.within);
    count_is = counted.count_is ∙ ap length (are ∙ sym (same_seen same));
    few = omega (arith, counted.few, front_length bytes bytes' more_bytes, ap length same);
  }

  -- One more place, with one or more entries.
  module _ (place : EntryAt) (more : List Entry) (put : places' ≡ places ++ place ∷ [])
      (is : entries_at_place bytes' names' place ≡ more) where
    pub more_are_seen : entries_at bytes' names' places' ≡ entries ++ more
    more_are_seen =
        ap (entries_at bytes' names') put ∙ more_seen bytes names bytes' names' more_bytes more_names places place counted.within
        ∙ (λ i. are i ++ is i)

    pub more_counted : IsWithin bytes' names' place → (count' : ℕ) → count' ≡ count + length more
        → length bytes + length more ≤ length bytes' + 1 → AreCounted bytes' names' places' count'
    more_counted there count' count_is few = record {
      within = subst (AreWithin bytes' names') (sym put)
          (more_within bytes names bytes' names' more_bytes more_names places place counted.within there);
      count_is =
          count_is ∙ ap (λ n. n + length more) (counted.count_is ∙ ap length are) ∙ sym (length-append entries more)
          ∙ ap length (sym more_are_seen);
      few = omega (arith, counted.few, count_is, few, ap length put, length-append places (place ∷ []));
    }

-- Each place has an entry.
some_there : (bytes names : List ℕ) (place : EntryAt) → IsWithin bytes names place → 0 < length (entries_at_place bytes names place)
some_there bytes names (Texts lines start end) within =
    let some = within.2.some in omega (arith, some, within.2.count_is, length-map (ended (slice_range bytes start end)) entry.Text)
some_there bytes names (Mention pid how start end) within = omega arith
some_there bytes names (Done pid status start end) within = omega arith
some_there bytes names (Closing pid status) within = omega arith
some_there bytes names (Note pid start middle end) within = omega arith

pub only_one : (bytes names : List ℕ) (places : List EntryAt) (entries : List Entry) (place d : EntryAt) → AreWithin bytes names places
    → entries_at bytes names places ≡ entries → length entries ≡ 1
    → place ≡ slice_index_or places 0 d → (IsWithin bytes names place) × (entries ≡ entries_at_place bytes names place)
only_one bytes names [] entries place d within are one is = absurd (let none = ap length are in omega (arith, none, one))
only_one bytes names (first ∷ []) entries place d within are one is = (
  subst (IsWithin bytes names) (sym is) within.0,
  sym are ∙ append-nil (entries_at_place bytes names first)
      ∙ ap (entries_at_place bytes names) (sym is),
)
only_one bytes names (first ∷ second ∷ places) entries place d within are one is =
    let all = ap length are in
    let some = some_there bytes names first within.0 in
    let more = some_there bytes names second within.1.0 in
    let both = length-append (entries_at_place bytes names first) (entries_at bytes names (second ∷ places)) in
    let behind = length-append (entries_at_place bytes names second) (entries_at bytes names places) in
    absurd (omega (arith, all, one, some, more, both, behind))

-- ---- a single line

pub record IsOneLine (bytes : List ℕ) (start end : ℕ) : Type 0 where
  pub some : start < end
  pub no_feed : HasNoLineFeed (slice_range bytes start (end - 1))
  pub is : map entry.Text (ended (slice_range bytes start end)) ≡ entry.Text (slice_range bytes start (end - 1)) ∷ []

pub one_line : (bytes : List ℕ) (lines start end : ℕ) → start ≤ end → end ≤ length bytes
    → AreCompleteLines (slice_range bytes start end) lines
    → length (map entry.Text (ended (slice_range bytes start end))) ≡ 1 → IsOneLine bytes start end
one_line bytes lines start end order within whole one = by (ended (slice_range bytes start end)) refl
  where
    by : (found : List (List ℕ)) → ended (slice_range bytes start end) ≡ found → IsOneLine bytes start end
    by [] found = absurd (let none = ap length found in
        omega (arith, none, one, length-map (ended (slice_range bytes start end)) entry.Text))
    by (first ∷ second ∷ others) found =
        absurd (let more = ap length found in omega (arith, more, one, length-map (ended (slice_range bytes start end)) entry.Text))
    by (line ∷ []) found =
        let are = are_lines (slice_range bytes start end) in
        let whole_is : (slice_range bytes start end) ≡ line ++ line_feed ∷ [] =
        are.whole ∙ (λ i. flat_map (λ l. l ++ line_feed ∷ []) (found i) ++ whole.no_rest i) ∙ append-nil _ ∙ append-nil _ in
        let size = ap length whole_is ∙ length-append line (line_feed ∷ []) in
        let room = length-take (end - start) (drop start bytes) in
        let behind = length-drop start bytes in
        let some : start < end = omega (arith, size, room) in
        let count : end - 1 - start ≡ length line = omega (arith, size, room, behind, within, order) in
        let fewer : length line ≤ end - start = omega (arith, size, room) in
        let is : slice_range bytes start (end - 1) ≡ line =
        ap (λ n. take n (drop start bytes)) count ∙ sym (take-take (length line) (end - start) (drop start bytes) fewer)
        ∙ ap (take (length line)) whole_is
        ∙ take-append-le (length line) line (line_feed ∷ []) (omega arith) ∙ take-length line in
        record {
          some = some;
          no_feed = subst HasNoLineFeed (sym is) ((subst (AllByRecursion HasNoLineFeed) found are.lines_hold_none).0);
          is = ap (map entry.Text) found ∙ ap (λ l. entry.Text l ∷ []) (sym is);
        }

pub only_line : (bytes names : List ℕ) (places : List EntryAt) (entries : List Entry) (lines start end : ℕ) (d : EntryAt)
    → AreWithin bytes names places → entries_at bytes names places ≡ entries
    → length entries ≡ 1 → Texts lines start end ≡ slice_index_or places 0 d
    → IsOneLine bytes start end × (end ≤ length bytes) × (entries ≡ entry.Text (slice_range bytes start (end - 1)) ∷ [])
only_line bytes names places entries lines start end d within are one is =
    let only = only_one bytes names places entries (Texts lines start end) d within are one is in
    let line = one_line bytes lines start end only.0.0 only.0.1 only.0.2 (ap length (sym only.1) ∙ one) in
    (line, only.0.1, only.1 ∙ line.is)

-- A fact about an entry, if no allocation failed.
pub if_ok : (result : Result Entry AllocError) (P Q : Entry → Type 0) → ((entry : Entry) → P entry → Q entry) → IfOk result P
    → IfOk result Q
if_ok (Ok entry) P Q more is = more entry is
if_ok (Err fault) P Q more is = tt

-- A range, truncated at its end first.
pub range_cut : (bs : List ℕ) (start end : ℕ) → start ≤ end → drop start (take end bs) ≡ slice_range bs start end
range_cut bs start end order =
    let count : start + (end - start) ≡ end = omega (arith, order) in
    ap (λ n. drop start (take n bs)) (sym count) ∙ drop-take start (end - start) bs

-- ---- appending

pub front_put : (xs more ys : List ℕ) → ys ≡ xs ++ more → IsFront xs ys
front_put xs more ys is = (more, is)

pub front_of_none : {A : Type 0} (xs ys : List A) → xs ≡ [] → IsFront xs ys
front_of_none xs ys none = (ys, ap (λ front. front ++ ys) (sym none))

pub front_same : {A : Type 0} (xs ys : List A) → ys ≡ xs → IsFront xs ys
front_same xs ys is = ([], is ∙ sym (append-nil xs))

pub put_twice : (xs first second between ys : List ℕ) → between ≡ xs ++ first → ys ≡ between ++ second → IsFront xs ys
put_twice xs first second between ys one two = (first ++ second, two ∙ ap (λ front. front ++ second) one ∙ append_assoc xs first second)

module _ (xs more ys : List ℕ) (put : ys ≡ xs ++ more) (start end : ℕ) (start_is : start ≡ length xs)
    (end_is : end ≡ length xs + length more) where
  pub range_put : slice_range ys start end ≡ more
  range_put =
      let count : end - start ≡ length more = omega (arith, start_is, end_is) in
      ap (λ (bs : List ℕ). slice_range bs start end) put ∙ ap (λ n. take n (drop start (xs ++ more))) count
      ∙ ap (λ n. take (length more) (drop n (xs ++ more))) start_is
      ∙ ap (take (length more)) (drop-append_seam xs more) ∙ take-length more

  pub in_order : start ≤ end
  in_order = omega (arith, start_is, end_is)

  pub reaches : length ys ≡ end
  reaches = omega (arith, ap length put, length-append xs more, end_is)

  pub name_within : IsNormal more → (start ≤ end) × (end ≤ length ys) × IsNormal (slice_range ys start end)
  name_within is_normal = let count = reaches in (in_order, omega (arith, count), subst IsNormal (sym range_put) is_normal)

-- Appending lines.
module _ (xs lines ys : List ℕ) (put : ys ≡ xs ++ lines) (start end count : ℕ) (start_is : start ≡ length xs)
    (end_is : end ≡ length xs + length lines) (whole : AreCompleteLines lines count) where
  pub texts_within : (start ≤ end) × (end ≤ length ys) × AreCompleteLines (slice_range ys start end) count
  texts_within =
      let reach = reaches xs lines ys put start end start_is end_is in (
        in_order xs lines ys put start end start_is end_is,
        omega (arith, reach),
        subst (λ bs. AreCompleteLines bs count) (sym (range_put xs lines ys put start end start_is end_is)) whole,
      )

  pub texts_are : map entry.Text (ended (slice_range ys start end)) ≡ map entry.Text (ended lines)
  texts_are = ap (λ bs. map entry.Text (ended bs)) (range_put xs lines ys put start end start_is end_is)

  pub texts_few : length xs + length (map entry.Text (ended lines)) ≤ length ys + 1
  texts_few =
      let few = few_lines lines in
      omega (arith, few, length-map (ended lines) entry.Text, ap length put, length-append xs lines)

-- One line with its line feed.
pub line_whole : (line : List ℕ) → HasNoLineFeed line → AreCompleteLines (line ++ line_feed ∷ []) 1
line_whole line free = record {
  count_is = ap length (ended-line line [] free) ∙ ap (λ ls. length (line ∷ ls)) (ended-free [] tt);
  some = omega arith;
  no_rest = rest-line line [] free ∙ rest-free [] tt;
}

module _ (xs line ys zs : List ℕ) (put : ys ≡ xs ++ line) (ended_then : zs ≡ ys ++ line_feed ∷ []) where
  pub line_put : zs ≡ xs ++ (line ++ line_feed ∷ [])
  line_put = ended_then ∙ ap (λ bs. bs ++ line_feed ∷ []) put ∙ append_assoc xs line (line_feed ∷ [])

  pub line_end : (end : ℕ) → end ≡ length ys + 1 → end ≡ length xs + length (line ++ line_feed ∷ [])
  line_end end is = omega (arith, is, ap length put, length-append xs line, length-append line (line_feed ∷ []))

  pub line_few : length xs + 1 ≤ length zs + 1
  line_few = omega (arith, ap length line_put, length-append xs (line ++ line_feed ∷ []))

pub line_text : (line : List ℕ) → HasNoLineFeed line → map entry.Text (ended (line ++ line_feed ∷ [])) ≡ entry.Text line ∷ []
line_text line free = ap (map entry.Text) (ended-line line [] free ∙ ap (λ ls. line ∷ ls) (ended-free [] tt))

-- Appending a kind, and a text after it.
module _ (xs kind text ys zs : List ℕ) (put_kind : ys ≡ xs ++ kind) (put_text : zs ≡ ys ++ text) (start middle from end : ℕ)
    (start_is : start ≡ length xs) (middle_is : middle ≡ length xs + length kind) (from_is : from ≡ length ys)
    (end_is : end ≡ length ys + length text) where
  meets : from ≡ middle
  meets = from_is ∙ reaches xs kind ys put_kind start middle start_is middle_is

  pub kind_is : slice_range zs start middle ≡ kind
  kind_is =
      let count = reaches xs kind ys put_kind start middle start_is middle_is in
      range_grown ys zs start middle (text, put_text) (in_order xs kind ys put_kind start middle start_is middle_is) (omega (arith, count))
      ∙ range_put xs kind ys put_kind start middle start_is middle_is

  pub text_is : slice_range zs middle end ≡ text
  text_is = ap (λ at. slice_range zs at end) (sym meets) ∙ range_put ys text zs put_text from end from_is end_is

  pub note_within : HasNoLineFeed kind → HasNoLineFeed text
      → (start ≤ middle) × (middle ≤ end) × (end ≤ length zs) × HasNoLineFeed (slice_range zs start middle)
      × HasNoLineFeed (slice_range zs middle end)
  note_within kind_free text_free =
      let first = reaches xs kind ys put_kind start middle start_is middle_is in
      let second = reaches ys text zs put_text from end from_is end_is in (
        in_order xs kind ys put_kind start middle start_is middle_is,
        omega (arith, first, end_is),
        omega (arith, second),
        subst HasNoLineFeed (sym kind_is) kind_free,
        subst HasNoLineFeed (sym text_is) text_free,
      )
