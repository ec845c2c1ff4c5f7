-- How a scan continues after the bytes that it consumed.
use Rattle.std.proofs.Common.{◌≡◌, ◌⊎◌, inl, inr, ℕ, ◌+◌, ◌-◌, ◌<◌, ◌≤◌, ◌^◌, Fits, w64, Bool, true, false, cond, List, [], ◌∷◌, ◌++◌, Option, None, Some, length, map, take, drop, get_or, refl, sym, ◌∙◌, ap, arith}
use Rattle.std.specs.List.{filter_map, cons_option}
use Rattle.std.proofs.lemmas.Bool.{le-ltb, lt-ltb}
use Rattle.std.proofs.lemmas.List.{append_assoc, append-nil, map-append, length-append, length-map, length-take, take_all}
use Rattle.std.proofs.lemmas.List.Elements.{filter_map-append}
use Rattle.std.proofs.Math.Seq.{take-append-add}
use Rattle.redo_line.specs.declared.entry.Entry.{Entry}
use Rattle.redo_line.specs.declared.stream_fault.StreamFault.{StreamFault}
use Rattle.redo_line.specs.declared.stream_fault.StreamFault.TheVariants.{BadRecord, AfterClose, TooLong}
use Rattle.redo_line.specs.Entry.{entry_of}
use Rattle.redo_line.specs.Fault.{end_fault}
use Rattle.redo_line.specs.Lines.{ended, rest}
use Rattle.redo_line.specs.Log.{closes, line_entries, entries_of, first_fault, line_fault, or_else, fault_of, lines_before, entries_before_fault}
use Rattle.redo_line.specs.Scan.{so_far, entries_so_far, EndLines, EndsNoLine}
use Rattle.redo_line.specs.Private.Progress.{Progress, closed_by, IsAfter, FailsWith}
use Rattle.redo_line.specs.Private.CutLine.{Cuts}
use Rattle.redo_line.proofs.EntryListLemmas.{first_fault-append-none, first_fault-front-none, closed_by-append, first_fault-bad, first_fault-fine, first_fault-nil, IsFaultAt}
use Rattle.redo_line.proofs.FaultLemmas.{rest_entries, entries_of-append, late_byte, lines_before-append, no_fault}
use Rattle.redo_line.proofs.LineLemmas.{ended-append, few_lines}

-- The entries of ended lines.
abbrev pub found : List ℕ → List (List ℕ) → List Entry
found target lines = filter_map (λ line. entry_of target line true) lines

-- Bytes within the limit, without an invalid line.
pub fine_is : (target : List ℕ) (max_bytes : ℕ) (bytes : List ℕ) → line_fault target bytes ≡ None → length bytes ≤ max_bytes
    → fault_of target max_bytes (so_far bytes) ≡ None
fine_is target max_bytes bytes none within =
    ap (λ f. or_else (line_fault target f) (end_fault max_bytes (so_far bytes))) (take_all max_bytes bytes within)
    ∙ ap (λ o. or_else o (end_fault max_bytes (so_far bytes))) none
    ∙ ap (λ b. cond b (Some TooLong) None) (le-ltb max_bytes (length bytes) within)

too_long : (target : List ℕ) (max_bytes : ℕ) (front bytes : List ℕ) → take max_bytes bytes ≡ front → line_fault target front ≡ None
    → max_bytes < length bytes
    → fault_of target max_bytes (so_far bytes) ≡ Some TooLong
too_long target max_bytes front bytes front_is none over =
    ap (λ f. or_else (line_fault target f) (end_fault max_bytes (so_far bytes))) front_is
    ∙ ap (λ o. or_else o (end_fault max_bytes (so_far bytes))) none
    ∙ ap (λ b. cond b (Some TooLong) None) (lt-ltb max_bytes (length bytes) over)

at_line : (target : List ℕ) (max_bytes : ℕ) (front bytes : List ℕ) (fault : StreamFault) → take max_bytes bytes ≡ front
    → line_fault target front ≡ Some fault
    → fault_of target max_bytes (so_far bytes) ≡ Some fault
at_line target max_bytes front bytes fault front_is some =
    ap (λ f. or_else (line_fault target f) (end_fault max_bytes (so_far bytes))) front_is
    ∙ ap (λ o. or_else o (end_fault max_bytes (so_far bytes))) some

pub fine_part : (target : List ℕ) (max_bytes : ℕ) (bytes : List ℕ) → fault_of target max_bytes (so_far bytes) ≡ None
    → length bytes ≤ max_bytes
    → entries_before_fault target max_bytes (so_far bytes) ≡ found target (ended bytes)
fine_part target max_bytes bytes none within =
    ap (λ o. found target (lines_before o (ended (take max_bytes bytes)))) none
    ∙ ap (λ f. found target (ended f)) (take_all max_bytes bytes within)

-- One line, if no entry closed the log.
pub one_fine : (closed : Bool) (line : ℕ) (entry : Entry) → closed ≡ false → first_fault closed line (Some entry ∷ []) ≡ None
one_fine closed line entry is =
    ap (λ c. first_fault c line (Some entry ∷ [])) is ∙ first_fault-fine line entry [] ∙ first_fault-nil (closes (Some entry)) (line + 1)

-- Lines that have these entries.
all_found : (target : List ℕ) (lines : List (List ℕ)) (entries : List Entry) → line_entries target lines ≡ map Some entries
    → found target lines ≡ entries
all_found target [] [] are = refl
all_found target [] (entry ∷ entries) are = absurd (cc)
all_found target (line ∷ lines) [] are = absurd (cc)
all_found target (line ∷ lines) (entry ∷ entries) are =
    ap (λ o. cons_option o (found target lines)) (ap (λ es. get_or es 0 None) are)
    ∙ ap (λ es. entry ∷ es) (all_found target lines entries (ap (drop 1) are))

-- A remainder alone has no fault.
rest_fine : (target : List ℕ) (line : ℕ) (last : List ℕ) → first_fault false line (rest_entries target last) ≡ None
unfolding first_fault entry_of
rest_fine target line [] = refl
rest_fine target line (byte ∷ last) = refl

-- Any byte after the line that closes the log, and after the bytes stored since, has a fault.
late_behind : (target : List ℕ) (line : ℕ) (kept : List ℕ) (byte : ℕ) (bytes : List ℕ)
    → first_fault true line (entries_of target (kept ++ byte ∷ bytes)) ≡ Some (AfterClose line)
late_behind target line [] byte bytes = late_byte target line byte bytes
late_behind target line (first ∷ kept) byte bytes = late_byte target line first (kept ++ byte ∷ bytes)

module _ (p : Progress) (u : List ℕ) (after : IsAfter p u) where
  abbrev before : List (Option Entry)
  before = line_entries p.target (ended u)

  fine_u : (line_fault p.target u ≡ None) × (length u ≤ p.max_bytes)
  fine_u = let none = no_fault p.target p.max_bytes (so_far u) after.no_fault in (none.0, none.1)

  lines_within : p.lines ≤ p.max_bytes
  lines_within = let lines = after.lines_are in let few = few_lines u in let within = fine_u.1 in omega (arith, lines, few, within)

  before_none : first_fault false 1 before ≡ None
  before_none = first_fault-front-none false 1 before (rest_entries p.target (rest u)) fine_u.0

  goes_on : (ys : List (Option Entry)) → first_fault false 1 (before ++ ys) ≡ first_fault p.closed (p.lines + 1) ys
  goes_on ys =
      let count : 1 + length before ≡ p.lines + 1 = let lines = after.lines_are in let each =
      length-map (ended u) (λ line. entry_of p.target line true) in omega (arith, lines, each) in
      first_fault-append-none false 1 before ys before_none ∙ ap (λ n. first_fault (closed_by false before) n ys) count
      ∙ ap (λ c. first_fault c (p.lines + 1) ys) (sym after.closed_is)

  -- The fault of bytes after the consumed ones.
  fault_behind : (a : List ℕ) → line_fault p.target (u ++ a) ≡ first_fault p.closed (p.lines + 1) (entries_of p.target (p.kept ++ a))
  fault_behind a =
      ap (first_fault false 1) (entries_of-append p.target u a) ∙ goes_on (entries_of p.target (rest u ++ a))
      ∙ ap (λ (k : List ℕ). first_fault p.closed (p.lines + 1) (entries_of p.target (k ++ a))) (sym after.kept_is)

  pub part_u : entries_so_far p.target p.max_bytes u ≡ found p.target (ended u)
  part_u = fine_part p.target p.max_bytes u after.no_fault fine_u.1

  module _ (left a : List ℕ) (a_is : a ≡ take (p.max_bytes - p.taken) left) where
    front_is : take p.max_bytes (u ++ left) ≡ u ++ a
    front_is =
        let count : p.max_bytes ≡ length u + (p.max_bytes - p.taken) = let taken = after.taken_is in let within = fine_u.1 in
        omega (arith, taken, within) in
        ap (λ n. take n (u ++ left)) count ∙ take-append-add u left (p.max_bytes - p.taken) ∙ ap (λ (b : List ℕ). u ++ b) (sym a_is)

    -- An invalid line directly after the lines of the consumed bytes.
    refuses_line : (fault : StreamFault) → IsFaultAt 1 p.lines fault → line_fault p.target (u ++ a) ≡ Some fault → (more : List (List ℕ))
        → ended (u ++ a) ≡ ended u ++ more → FailsWith p u left fault
    refuses_line fault at some more lines = record {
      fault_is = at_line p.target p.max_bytes (u ++ a) (u ++ left) fault front_is some;
      entries =
          ap (λ o. found p.target (lines_before o (ended (take p.max_bytes (u ++ left)))))
          (at_line p.target p.max_bytes (u ++ a) (u ++ left) fault front_is some)
          ∙ ap (λ (f : List ℕ). found p.target (lines_before (Some fault) (ended f))) front_is
          ∙ ap (λ ls. found p.target (lines_before (Some fault) ls)) lines
          ∙ ap (found p.target) (lines_before-append p.lines fault (ended u) more at (let count = after.lines_are in omega (arith, count)))
          ∙ ap (found p.target) (all_before fault at)
          ∙ sym part_u;
    }
      where
        all_before : (fault : StreamFault) → IsFaultAt 1 p.lines fault → lines_before (Some fault) (ended u) ≡ ended u
        all_before fault (inl is) = ap (λ f. lines_before (Some f) (ended u)) is
            ∙ take_all (1 + p.lines - 1) (ended u) (let count = after.lines_are in omega (arith, count))
        all_before fault (inr is) = ap (λ f. lines_before (Some f) (ended u)) is
            ∙ take_all (1 + p.lines - 1) (ended u) (let count = after.lines_are in omega (arith, count))

    a_within : length (u ++ a) ≤ p.max_bytes
    a_within =
        let taken = after.taken_is in
        let within = fine_u.1 in
        let size = length-append u a in
        let few = ap length a_is ∙ length-take (p.max_bytes - p.taken) left in
        omega (arith, taken, within, size, few)

    -- Bytes after the line that closes the log.
    pub late_refuses : p.closed ≡ true → (byte : ℕ) (bytes : List ℕ) → a ≡ byte ∷ bytes → FailsWith p u left (AfterClose (p.lines + 1))
    late_refuses closed byte bytes some =
        let number : p.lines + 1 ≡ 1 + p.lines = omega arith in
        refuses_line (AfterClose (p.lines + 1)) (inl (ap AfterClose number))
        (fault_behind a ∙ ap (λ c. first_fault c (p.lines + 1) (entries_of p.target (p.kept ++ a))) closed
        ∙ ap (λ (b : List ℕ). first_fault true (p.lines + 1) (entries_of p.target (p.kept ++ b))) some
        ∙ late_behind p.target (p.lines + 1) p.kept byte bytes)
        (ended (rest u ++ a)) (ended-append u a)

    -- Bytes whose first part ends lines.
    module _ (slice more : List ℕ) (lines : List (List ℕ)) (cut : Cuts p.kept slice lines []) (a_parts : a ≡ slice ++ more) where
      lines_then : ended (u ++ slice) ≡ ended u ++ lines
      lines_then = (cut u (sym after.kept_is)).0

      rest_then : rest (u ++ slice) ≡ []
      rest_then = (cut u (sym after.kept_is)).1

      entries_then : line_entries p.target (ended (u ++ slice)) ≡ before ++ line_entries p.target lines
      entries_then = ap (line_entries p.target) lines_then ∙ map-append (λ line. entry_of p.target line true) (ended u) lines

      parts : u ++ a ≡ (u ++ slice) ++ more
      parts = ap (λ (b : List ℕ). u ++ b) a_parts ∙ sym (append_assoc u slice more)

      -- A line without an entry.
      pub bad_refuses : (line : List ℕ) → lines ≡ line ∷ [] → p.closed ≡ false → entry_of p.target line true ≡ None
          → FailsWith p u left (BadRecord (p.lines + 1))
      bad_refuses line one closed none =
          let behind = entries_of p.target (rest (u ++ slice) ++ more) in
          let number : p.lines + 1 ≡ 1 + p.lines = omega arith in
          refuses_line (BadRecord (p.lines + 1)) (inr (ap BadRecord number))
          (ap (line_fault p.target) parts ∙ ap (first_fault false 1) (entries_of-append p.target (u ++ slice) more)
          ∙ ap (λ es. first_fault false 1 (es ++ behind))
          (entries_then ∙ ap (λ ls. before ++ line_entries p.target ls) one ∙ ap (λ e. before ++ e ∷ []) none)
          ∙ ap (first_fault false 1) (append_assoc before (None ∷ []) behind)
          ∙ goes_on (None ∷ behind) ∙ ap (λ c. first_fault c (p.lines + 1) (None ∷ behind)) closed ∙ first_fault-bad (p.lines + 1) behind)
          (lines ++ ended (rest (u ++ slice) ++ more))
          (ap ended parts ∙ ended-append (u ++ slice) more ∙ ap (λ ls. ls ++ ended (rest (u ++ slice) ++ more)) lines_then
          ∙ append_assoc (ended u) lines (ended (rest (u ++ slice) ++ more)))

      -- Lines with entries. None of them follows an entry that closes the log.
      module _ (entries : List Entry) (entries_are : line_entries p.target lines ≡ map Some entries)
          (fine : first_fault p.closed (p.lines + 1) (map Some entries) ≡ None) where
        slice_within : length (u ++ slice) ≤ p.max_bytes
        slice_within = let all = a_within in let size = ap length parts ∙ length-append (u ++ slice) more in omega (arith, all, size)

        lines_fine : line_fault p.target (u ++ slice) ≡ None
        lines_fine =
            ap (λ last. first_fault false 1 (line_entries p.target (ended (u ++ slice)) ++ rest_entries p.target last)) rest_then
            ∙ ap (first_fault false 1) (append-nil (line_entries p.target (ended (u ++ slice))) ∙ entries_then
            ∙ ap (λ es. before ++ es) entries_are)
            ∙ goes_on (map Some entries) ∙ fine

        fine_then : fault_of p.target p.max_bytes (so_far (u ++ slice)) ≡ None
        fine_then = fine_is p.target p.max_bytes (u ++ slice) lines_fine slice_within

        pub after_lines : (kept : List ℕ) (taken count : ℕ) (closed : Bool) → kept ≡ [] → taken ≡ p.taken + length slice
            → count ≡ p.lines + length lines → closed ≡ closed_by p.closed (map Some entries)
            → IsAfter (record { target = p.target; max_bytes = p.max_bytes; kept = kept; taken = taken; lines = count; closed = closed })
            (u ++ slice)
        after_lines kept taken count closed none taken_is count_is closed_is = record {
          no_fault = fine_then;
          kept_is = none ∙ sym rest_then;
          taken_is = taken_is ∙ ap (λ n. n + length slice) after.taken_is ∙ sym (length-append u slice);
          lines_are = count_is ∙ ap (λ n. n + length lines) after.lines_are ∙ sym (length-append (ended u) lines)
              ∙ ap length (sym lines_then);
          closed_is =
              closed_is ∙ ap (λ c. closed_by c (map Some entries)) after.closed_is
              ∙ sym (ap (closed_by false) (entries_then ∙ ap (λ es. before ++ es) entries_are)
              ∙ closed_by-append false before (map Some entries));
        }

        more_entries : entries_so_far p.target p.max_bytes (u ++ slice) ≡ entries_so_far p.target p.max_bytes u ++ entries
        more_entries =
            fine_part p.target p.max_bytes (u ++ slice) fine_then slice_within
            ∙ ap (found p.target) lines_then ∙ filter_map-append (λ line. entry_of p.target line true) (ended u) lines
            ∙ (λ i. sym part_u i ++ all_found p.target lines entries entries_are i)

        pub end_lines : EndLines p.target p.max_bytes u slice entries
        end_lines = record {
          no_fault = fine_then;
          lines = lines;
          lines_are = lines_then;
          no_rest = rest_then;
          entries_are = entries_are;
          entries = more_entries;
        }

    -- Bytes in which no line ends.
    module _ (kept : List ℕ) (cut : Cuts p.kept a [] kept) (open_log : (p.closed ≡ false) ⊎ (a ≡ [])) where
      no_line : ended (u ++ a) ≡ ended u
      no_line = (cut u (sym after.kept_is)).0 ∙ append-nil (ended u)

      rest_behind : rest (u ++ a) ≡ kept
      rest_behind = (cut u (sym after.kept_is)).1

      still_fine : line_fault p.target (u ++ a) ≡ None
      still_fine = by open_log
        where
          by : (p.closed ≡ false) ⊎ (a ≡ []) → line_fault p.target (u ++ a) ≡ None
          by (inl closed) =
              ap (λ ls. first_fault false 1 (line_entries p.target ls ++ rest_entries p.target (rest (u ++ a)))) no_line
              ∙ goes_on (rest_entries p.target (rest (u ++ a)))
              ∙ ap (λ c. first_fault c (p.lines + 1) (rest_entries p.target (rest (u ++ a)))) closed
              ∙ rest_fine p.target (p.lines + 1) (rest (u ++ a))
          by (inr none) = ap (λ (b : List ℕ). line_fault p.target (u ++ b)) none ∙ ap (line_fault p.target) (append-nil u) ∙ fine_u.0

      pub long_refuses : length a < length left → FailsWith p u left TooLong
      long_refuses fewer =
          let taken = after.taken_is in
          let within = fine_u.1 in
          let few = ap length a_is ∙ length-take (p.max_bytes - p.taken) left in
          let size = length-append u left in
          let over : p.max_bytes < length (u ++ left) = omega (arith, taken, within, few, size, fewer) in
          let fault = too_long p.target p.max_bytes (u ++ a) (u ++ left) front_is still_fine over in
          record {
            fault_is = fault;
            entries =
                ap (λ o. found p.target (lines_before o (ended (take p.max_bytes (u ++ left))))) fault
                ∙ ap (λ (f : List ℕ). found p.target (ended f)) front_is ∙ ap (found p.target) no_line ∙ sym part_u;
          }

      module _ (all : left ≡ a) where
        fine_all : fault_of p.target p.max_bytes (so_far (u ++ left)) ≡ None
        fine_all = ap (λ (b : List ℕ). fault_of p.target p.max_bytes (so_far (u ++ b))) all
            ∙ fine_is p.target p.max_bytes (u ++ a) still_fine a_within

        same_lines : ended (u ++ left) ≡ ended u
        same_lines = ap (λ (b : List ℕ). ended (u ++ b)) all ∙ no_line

        pub after_rest : (taken : ℕ) → taken ≡ p.taken + length left
            → IsAfter (record {
              target = p.target;
              max_bytes = p.max_bytes;
              kept = kept;
              taken = taken;
              lines = p.lines;
              closed = p.closed;
            }) (u ++ left)
        after_rest taken taken_is = record {
          no_fault = fine_all;
          kept_is = sym (ap (λ (b : List ℕ). rest (u ++ b)) all ∙ rest_behind);
          taken_is = taken_is ∙ ap (λ n. n + length left) after.taken_is ∙ sym (length-append u left);
          lines_are = after.lines_are ∙ ap length (sym same_lines);
          closed_is = after.closed_is ∙ ap (λ ls. closed_by false (line_entries p.target ls)) (sym same_lines);
        }

        same_entries : entries_so_far p.target p.max_bytes (u ++ left) ≡ entries_so_far p.target p.max_bytes u
        same_entries =
            let within = ap (λ (b : List ℕ). length (u ++ b)) all in let fits = a_within in
            fine_part p.target p.max_bytes (u ++ left) fine_all (omega (arith, within, fits)) ∙ ap (found p.target) same_lines ∙ sym part_u

        pub ends_none : EndsNoLine p.target p.max_bytes u left
        ends_none = record { no_fault = fine_all; lines = same_lines; entries = same_entries }

-- The numbers of the next lines, fewer than 2^16 lines further on, fit 64 bits.
pub next_lines_fit : (now p : Progress) → p ≡ now → (u : List ℕ) → IsAfter now u → now.max_bytes ≤ 2 ^ 40 → (more : ℕ) → more < 2 ^ 16
    → Fits w64 (p.lines + more)
next_lines_fit now p same u after limit more few =
    let within = lines_within now u after in
    let lines = ap (λ (q : Progress). q.lines) same in
    omega (arith, within, limit, lines, few)
