-- The laws about the items that are expected for a stream, and for a share.
use Rattle.std.proofs.Common.{◌≡◌, inl, inr, ℕ, List, [], ◌∷◌, ◌++◌, Option, None, Some, filter_map, refl, sym, ap, ◌∙◌, subst}
use Rattle.std.proofs.lemmas.List.{append_assoc, append-nil}
use Rattle.std.proofs.lemmas.Option.{none-some}
use Rattle.redo_line.specs.declared.entry.Entry.{Entry}
use Rattle.redo_line.specs.declared.stream_fault.StreamFault.{StreamFault}
use Rattle.redo_line.specs.declared.stream_fault.StreamFault.TheVariants.{OutOfMemory}
use Rattle.redo_device.specs.Feed.{Stream}
use Rattle.redo_line.specs.Log.{entries_of, unless_fault}
use Rattle.redo_line.specs.Source.{Source, source_fault, source_entries_before_fault}
use Rattle.redo_wire.specs.declared.item.Item.{Item}
use Rattle.redo_wire.specs.declared.item.What.{What}
use Rattle.redo_wire.specs.declared.item.What.TheVariants.{End, Fail, Line}
use Rattle.redo_gather.specs.Laws.{AreConcatenated, MayExpectAll, MayExpectPrefix, ExpectsFault, ExpectsInOrder, ExpectsConcatenation, ExpectsLog, ExpectsNothing, ExpectsOne}
use Rattle.redo_gather.specs.Expected.{IsExpectedFor, log_or_part, reported_entries}
use Rattle.redo_gather.specs.Sending.{AreExpected, NumberedSource, stream_items}
use Rattle.redo_gather.proofs.ExpectedLemmas.{log_known}

module _ (max_bytes : ℕ) (source : Source Stream) where
  -- The entries of a stream with a fault are the entries before it.
  part_known : (fault : StreamFault) → source_fault max_bytes source ≡ Some fault
      → reported_entries max_bytes source ≡ source_entries_before_fault max_bytes source
  part_known fault some =
      let all = filter_map (λ entry. entry) (entries_of source.target source.stream.bytes) in
      ap (λ found. log_or_part (unless_fault found all) (source_entries_before_fault max_bytes source)) some

  pub expects_in_order : ExpectsInOrder max_bytes source
  expects_in_order entries fault expected = elim expected [
    | inl whole ↦ ([], sym whole.0 ∙ sym (append-nil entries))
    | inr short ↦ short.0
  ]

  pub expects_log : ExpectsLog max_bytes source
  expects_log entries expected = elim expected [
    | inl whole ↦ log_known max_bytes source (sym whole.1) ∙ ap Some (sym whole.0)
    | inr short ↦ absurd (none-some OutOfMemory short.1)
  ]

  pub expects_fault : ExpectsFault max_bytes source
  expects_fault entries fault other expected = elim expected [
    | inl whole ↦ (sym whole.1, whole.0 ∙ part_known fault (sym whole.1))
    | inr short ↦ absurd (other (same short.1))
  ]
    where
      same : Some fault ≡ Some OutOfMemory → fault ≡ OutOfMemory
      same is = cc

  pub may_owe_all : MayExpectAll max_bytes source
  may_owe_all = inl (refl, refl)

  pub may_owe_prefix : MayExpectPrefix max_bytes source
  may_owe_prefix prefix is = inr (is, refl)

abbrev first_what : List Item → What
first_what [] = End
first_what (item ∷ items) = item.what

abbrev after_first : List Item → List Item
after_first [] = []
after_first (item ∷ items) = items

module _ (max_bytes sender : ℕ) where
  pub expects_nothing : ExpectsNothing max_bytes sender
  expects_nothing items = (λ is. is, λ is. is)

  abbrev all_of : List Entry → Option StreamFault → ℕ → List Item
  all_of entries fault stream = stream_items sender stream entries fault

  last_same : (stream : ℕ) (fault other : Option StreamFault) → all_of [] fault stream ≡ all_of [] other stream → fault ≡ other
  last_same stream None None is = refl
  last_same stream None (Some other) is = absurd (let whats : End ≡ Fail other = ap first_what is in cc)
  last_same stream (Some fault) None is = absurd (let whats : Fail fault ≡ End = ap first_what is in cc)
  last_same stream (Some fault) (Some other) is = let whats : Fail fault ≡ Fail other = ap first_what is in cc

  no_more : (stream : ℕ) (fault other : Option StreamFault) (entry : Entry) (entries : List Entry)
      → all_of [] fault stream ≡ all_of (entry ∷ entries) other stream → ⊥
  no_more stream None other entry entries is = absurd (let whats : End ≡ Line entry = ap first_what is in cc)
  no_more stream (Some fault) other entry entries is = absurd (let whats : Fail fault ≡ Line entry = ap first_what is in cc)

  known_same : (stream : ℕ) (entries others : List Entry) (fault other : Option StreamFault)
      → all_of entries fault stream ≡ all_of others other stream → (entries ≡ others) × (fault ≡ other)
  known_same stream [] [] fault other is = (refl, last_same stream fault other is)
  known_same stream [] (entry ∷ others) fault other is = absurd (no_more stream fault other entry others is)
  known_same stream (entry ∷ entries) [] fault other is = absurd (no_more stream other fault entry entries (sym is))
  known_same stream (entry ∷ entries) (one ∷ others) fault other is =
      let rest : all_of entries fault stream ≡ all_of others other stream = ap after_first is in
      let whats : Line entry ≡ Line one = ap first_what is in
      let first : entry ≡ one = cc in
      let same = known_same stream entries others fault other rest in
      (λ i. first i ∷ same.0 i, same.1)

  pub expects_one : ExpectsOne max_bytes sender
  expects_one stream given entries fault = (
    λ expected. by expected.0 expected.1 expected.2 expected.3 expected.4 expected.5,
    λ expected. (entries, fault, [], sym (append-nil (all_of entries fault stream)), expected, refl),
  )
    where
      by : (others : List Entry) (other : Option StreamFault) (suffix : List Item)
          → all_of entries fault stream ≡ all_of others other stream ++ suffix → IsExpectedFor max_bytes given others other
          → suffix ≡ [] → IsExpectedFor max_bytes given entries fault
      by others other suffix is expected none =
          let same = known_same stream entries others fault other
          (is ∙ ap (λ b. all_of others other stream ++ b) none ∙ append-nil (all_of others other stream)) in
          subst (λ f. IsExpectedFor max_bytes given entries f) (sym same.1)
          (subst (λ es. IsExpectedFor max_bytes given es other) (sym same.0) expected)

  in_order : (first others : List NumberedSource) (items : List Item) → AreExpected max_bytes sender (first ++ others) items
      → AreConcatenated max_bytes sender first others items
  in_order [] others items expected = ([], items, refl, refl, expected)
  in_order (stream ∷ first) others items (entries, fault, suffix, is, expected, more) =
      let parts = in_order first others suffix more in
      let known = all_of entries fault stream.0 in (
        known ++ parts.0,
        parts.1,
        is ∙ ap (λ b. known ++ b) parts.2 ∙ sym (append_assoc known parts.0 parts.1),
        (entries, fault, parts.0, refl, expected, parts.3),
        parts.4,
      )

  from_order : (first others : List NumberedSource) (items : List Item) → AreConcatenated max_bytes sender first others items
      → AreExpected max_bytes sender (first ++ others) items
  from_order [] others items (prefix, suffix, is, none, expected) =
      subst (AreExpected max_bytes sender others) (sym (is ∙ ap (λ f. f ++ suffix) none)) expected
  from_order (stream ∷ first) others items (prefix, suffix, is, (entries, fault, left, known_is, expected, more), last) =
      let known = all_of entries fault stream.0 in (
        entries,
        fault,
        left ++ suffix,
        is ∙ ap (λ f. f ++ suffix) known_is ∙ append_assoc known left suffix,
        expected,
        from_order first others (left ++ suffix) (left, suffix, refl, more, last),
      )

  pub expects_concatenation : ExpectsConcatenation max_bytes sender
  expects_concatenation first others items = (in_order first others items, from_order first others items)
