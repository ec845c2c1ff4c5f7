-- The tallies after the lines of some bytes.
use Rattle.std.proofs.Common.{◌≡◌, ℕ, ◌+◌, ◌-◌, List, [], ◌∷◌, ◌++◌, length, take, drop, take-add, refl, sym, ap, ◌∙◌, subst, arith}
use Rattle.std.proofs.lemmas.List.{append-nil, append_assoc, length-drop, take_all, take-append-drop}
use Rattle.std.proofs.lemmas.Grind.{flat_map-append}
use Rattle.memchr.specs.Find.{Nowhere, NoneBefore, Passes, is_byte}
use Rattle.redo_line.specs.Lines.{ended, line_feed, rest}
use Rattle.redo_line.specs.Record.{at_sign}
use Rattle.redo_line.proofs.CutLemmas.{line_in, none_in}
use Rattle.redo_line.proofs.LineLemmas.{ended-append, ended-free, rest-append}
use Rattle.redo_times.proofs.SkipLemmas.{HasNo, no_reports}
use Rattle.redo_times.specs.declared.report.Report.{Report}
use Rattle.redo_times.specs.Report.{line_reports, reports_in}
use Rattle.redo_times.specs.Private.Tally.{AreTallies, AreTalliesAfter, TallyValue}

reports-append : (log : List ℕ) (lines more : List (List ℕ)) → reports_in log (lines ++ more) ≡ reports_in log lines ++ reports_in log more
reports-append log lines more = flat_map-append (line_reports log) lines more

module _ (targets : List (List ℕ)) (log : List ℕ) (reports : List Report) where
  -- No bytes end no line.
  pub none_after : (tallies : List TallyValue) → AreTallies targets reports tallies → AreTalliesAfter targets log reports [] tallies
  none_after tallies are = subst (λ (lines : List (List ℕ)). AreTallies targets (reports ++ reports_in log lines) tallies)
      (sym (ended-free [] tt)) (subst (λ (rs : List Report). AreTallies targets rs tallies) (sym (append-nil reports)) are)

  -- Further bytes that end these lines.
  module _ (taken bytes : List ℕ) (lines : List (List ℕ)) (cut : ended (taken ++ bytes) ≡ ended taken ++ lines) where
    pub grown : (reports ++ reports_in log (ended taken)) ++ reports_in log lines ≡ reports ++ reports_in log (ended (taken ++ bytes))
    grown = append_assoc reports (reports_in log (ended taken)) (reports_in log lines)
        ∙ ap (λ rs. reports ++ rs) (sym (ap (reports_in log) cut ∙ reports-append log (ended taken) lines))

    pub after_lines : (tallies : List TallyValue)
        → AreTallies targets ((reports ++ reports_in log (ended taken)) ++ reports_in log lines) tallies
        → AreTalliesAfter targets log reports (taken ++ bytes) tallies
    after_lines tallies are = subst (λ (rs : List Report). AreTallies targets rs tallies) grown are

-- ---- the lines of some bytes, one after the other

-- The bytes from `upto` on, as a slice.
pub left_is : (bytes : List ℕ) (upto : ℕ) → take (length bytes - upto) (drop upto bytes) ≡ drop upto bytes
left_is bytes upto = take_all (length bytes - upto) (drop upto bytes) (omega (arith, length-drop upto bytes))

module _ (bytes hay : List ℕ) (upto : ℕ) (hay_is : hay ≡ drop upto bytes) (no_rest : rest (take upto bytes) ≡ []) where
  -- One more line ends, with a line feed at `at`.
  module _ (at : ℕ) (found : NoneBefore (Passes (is_byte line_feed) hay) 0 (length hay) at × Passes (is_byte line_feed) hay at) where
    cut_there : (ended (take upto bytes ++ take (at + 1) hay) ≡ ended (take upto bytes) ++ take at hay ∷ [])
        × (rest (take upto bytes ++ take (at + 1) hay) ≡ [])
    cut_there = line_in [] (take at hay) hay at found refl (take upto bytes) no_rest

    joined : take upto bytes ++ take (at + 1) hay ≡ take (upto + (at + 1)) bytes
    joined = ap (λ (h : List ℕ). take upto bytes ++ take (at + 1) h) hay_is ∙ sym (take-add upto (at + 1) bytes)

    pub next_rest : rest (take (upto + (at + 1)) bytes) ≡ []
    next_rest = ap rest (sym joined) ∙ cut_there.1

    pub next_lines : (targets : List (List ℕ)) (log : List ℕ) (reports : List Report) (tallies : List TallyValue) (line : List ℕ)
        → line ≡ take at hay
        → AreTallies targets ((reports ++ reports_in log (ended (take upto bytes))) ++ reports_in log (line ∷ [])) tallies
        → AreTalliesAfter targets log reports (take (upto + (at + 1)) bytes) tallies
    next_lines targets log reports tallies line line_is are =
        subst (λ (bs : List ℕ). AreTalliesAfter targets log reports bs tallies) joined
        (after_lines targets log reports (take upto bytes) (take (at + 1) hay) (line ∷ [])
        (cut_there.0 ∙ ap (λ (l : List ℕ). ended (take upto bytes) ++ l ∷ []) (sym line_is)) tallies are)

  -- Complete lines follow, none of which has an `@`.
  module _ (size : ℕ) (complete : rest (take size hay) ≡ []) (none : HasNo at_sign (take size hay)) where
    skipped : take (upto + size) bytes ≡ take upto bytes ++ take size hay
    skipped = take-add upto size bytes ∙ ap (λ (h : List ℕ). take upto bytes ++ take size h) (sym hay_is)

    pub skipped_rest : rest (take (upto + size) bytes) ≡ []
    skipped_rest = ap rest skipped ∙ rest-append (take upto bytes) (take size hay)
        ∙ ap (λ (last : List ℕ). rest (last ++ take size hay)) no_rest ∙ complete

    pub skipped_lines : (targets : List (List ℕ)) (log : List ℕ) (reports : List Report) (tallies : List TallyValue)
        → AreTalliesAfter targets log reports (take upto bytes) tallies
        → AreTalliesAfter targets log reports (take (upto + size) bytes) tallies
    skipped_lines targets log reports tallies are =
        subst (λ (more : List Report). AreTallies targets (reports ++ more) tallies) (sym same) are
      where
        cut : ended (take (upto + size) bytes) ≡ ended (take upto bytes) ++ ended (take size hay)
        cut = ap ended skipped ∙ ended-append (take upto bytes) (take size hay)
            ∙ ap (λ (last : List ℕ). ended (take upto bytes) ++ ended (last ++ take size hay)) no_rest

        same : reports_in log (ended (take (upto + size) bytes)) ≡ reports_in log (ended (take upto bytes))
        same = ap (reports_in log) cut ∙ reports-append log (ended (take upto bytes)) (ended (take size hay))
            ∙ ap (λ (more : List Report). reports_in log (ended (take upto bytes)) ++ more) (no_reports log (take size hay) none)
            ∙ append-nil (reports_in log (ended (take upto bytes)))

  -- No further line ends.
  module _ (nowhere : Nowhere (Passes (is_byte line_feed) hay) 0 (length hay)) where
    cut_last : (ended (take upto bytes ++ hay) ≡ ended (take upto bytes) ++ []) × (rest (take upto bytes ++ hay) ≡ hay)
    cut_last = none_in [] hay hay nowhere refl (take upto bytes) no_rest

    all_joined : take upto bytes ++ hay ≡ bytes
    all_joined = ap (λ (h : List ℕ). take upto bytes ++ h) hay_is ∙ take-append-drop upto bytes

    pub last_rest : drop upto bytes ≡ rest bytes
    last_rest = sym hay_is ∙ sym cut_last.1 ∙ ap rest all_joined

    pub all_lines_after : (targets : List (List ℕ)) (log : List ℕ) (reports : List Report) (tallies : List TallyValue)
        → AreTalliesAfter targets log reports (take upto bytes) tallies → AreTalliesAfter targets log reports bytes tallies
    all_lines_after targets log reports tallies are =
        subst (λ (lines : List (List ℕ)). AreTallies targets (reports ++ reports_in log lines) tallies)
        (sym (append-nil (ended (take upto bytes))) ∙ sym cut_last.0 ∙ ap ended all_joined) are

-- ---- the lines of a chunk, if the first one began before it

module _ (taken partial chunk : List ℕ) (kept : partial ≡ rest taken) where
  -- No line ends in the chunk.
  module _ (nowhere : Nowhere (Passes (is_byte line_feed) chunk) 0 (length chunk)) where
    pub partial_within : (after : List ℕ) → after ≡ partial ++ chunk → after ≡ rest (taken ++ chunk)
    partial_within after after_is = sym (none_in partial after chunk nowhere after_is taken (sym kept)).1

    pub tallies_within : (targets : List (List ℕ)) (log : List ℕ) (reports : List Report) (tallies : List TallyValue)
        → AreTalliesAfter targets log reports taken tallies → AreTalliesAfter targets log reports (taken ++ chunk) tallies
    tallies_within targets log reports tallies are =
        subst (λ (lines : List (List ℕ)). AreTallies targets (reports ++ reports_in log lines) tallies)
        (sym (append-nil (ended taken)) ∙ sym (none_in partial (partial ++ chunk) chunk nowhere refl taken (sym kept)).0) are

  -- A first line and others end in it.
  module _ (at : ℕ) (found : NoneBefore (Passes (is_byte line_feed) chunk) 0 (length chunk) at × Passes (is_byte line_feed) chunk at)
      (line others : List ℕ) (line_is : line ≡ partial ++ take at chunk) (others_are : others ≡ drop (at + 1) chunk) where
    abbrev head : List ℕ
    head = taken ++ take (at + 1) chunk

    cut_head : (ended head ≡ ended taken ++ line ∷ []) × (rest head ≡ [])
    cut_head = line_in partial line chunk at found line_is taken (sym kept)

    whole : head ++ others ≡ taken ++ chunk
    whole = append_assoc taken (take (at + 1) chunk) others
        ∙ ap (λ (bs : List ℕ). taken ++ bs) (ap (λ (bs : List ℕ). take (at + 1) chunk ++ bs) others_are ∙ take-append-drop (at + 1) chunk)

    lines_behind : ended (head ++ others) ≡ ended head ++ ended others
    lines_behind = ended-append head others ∙ ap (λ (last : List ℕ). ended head ++ ended (last ++ others)) cut_head.1

    pub partial_behind : (after : List ℕ) → after ≡ rest others → after ≡ rest (taken ++ chunk)
    partial_behind after after_is = after_is ∙ sym (rest-append head others ∙ ap (λ (last : List ℕ). rest (last ++ others)) cut_head.1)
        ∙ ap rest whole

    pub tallies_behind : (targets : List (List ℕ)) (log : List ℕ) (reports : List Report) (before first last : List TallyValue)
        → AreTalliesAfter targets log reports taken before
        → ((more : List Report) → AreTallies targets more before → AreTallies targets (more ++ reports_in log (line ∷ [])) first)
        → ((more : List Report) → AreTallies targets more first → AreTalliesAfter targets log more others last)
        → AreTalliesAfter targets log reports (taken ++ chunk) last
    tallies_behind targets log reports before first last are read_line read_others =
        let one : AreTalliesAfter targets log reports head first =
        after_lines targets log reports taken (take (at + 1) chunk) (line ∷ []) cut_head.0 first
        (read_line (reports ++ reports_in log (ended taken)) are) in
        subst (λ (bs : List ℕ). AreTalliesAfter targets log reports bs last) whole
        (after_lines targets log reports head others (ended others) lines_behind last
        (read_others (reports ++ reports_in log (ended head)) one))
