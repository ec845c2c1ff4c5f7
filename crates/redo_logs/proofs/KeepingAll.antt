-- Storing several entries: first all their texts, then one entry after another.
use Rattle.std.proofs.Common.{◌≡◌, ℕ, zero, suc, ◌+◌, ◌<◌, ◌≤◌, ◌^◌, List, [], ◌∷◌, ◌++◌, length, take, drop, get_or, refl, sym, ap, ◌∙◌, subst, arith}
use Rattle.std.specs.List.{AllByRecursion, flat_map}
use Rattle.std.proofs.lemmas.Grind.{flat_map-append}
use Rattle.std.proofs.lemmas.List.{append-nil, take_all, take_more}
use Rattle.redo_line.specs.declared.entries.EntryAt.{EntryAt}
use Rattle.redo_line.specs.declared.entry.Entry.{Entry}
use Rattle.redo_line.specs.Entries.{AreStoredAt, IsWithin, entries_at, entries_at_place}
use Rattle.redo_logs.specs.declared.store.PackedEntries.{PackedEntries}
use Rattle.redo_logs.specs.Private.Store.{Extends, Parts, Within, block_of, denotes}
use Rattle.redo_logs.proofs.Keeping.{all_seen_grown, all_within_grown, block_same, grows_more}

-- Appending one element to the list.
flat_push : {A B : Type 0} (f : A → List B) (xs : List A) (x : A) → flat_map f (xs ++ x ∷ []) ≡ flat_map f xs ++ f x
flat_push f xs x = flat_map-append f xs (x ∷ []) ∙ ap (λ ys. flat_map f xs ++ ys) (append-nil (f x))

module _ (begun : Parts) (entries : List Entry) (names : List ℕ) (places : List EntryAt) (block shift : ℕ) where
  -- The state after the first `done` elements of `places`: all texts are stored, and `records` denote the entries of these
  -- elements.
  pub record Keeps (now : Parts) (records : List PackedEntries) (done : ℕ) : Type 0 where
    pub grows : Extends begun now
    pub there : block ≤ length now.taken
    pub behind : shift ≤ length (block_of now block)
    pub fits : length (block_of now block) < 2 ^ 64
    pub all : AreStoredAt (drop shift (block_of now block)) names places entries
    pub within : AllByRecursion (Within now) records
    pub seen_are : flat_map (denotes now) records ≡ entries_at (drop shift (block_of now block)) names (take done places)

  pub none_kept : (texts : List ℕ) (now : Parts) → AreStoredAt texts names places entries → Extends begun now → block ≤ length now.taken
      → shift ≤ length (block_of now block)
      → drop shift (block_of now block) ≡ texts → length (block_of now block) < 2 ^ 64 → Keeps now [] 0
  none_kept texts now all grows there behind are fits = record {
    grows = grows;
    there = there;
    behind = behind;
    fits = fits;
    all = subst (λ (t : List ℕ). AreStoredAt t names places entries) (sym are) all;
    within = tt;
    seen_are = refl;
  }

  module _ (now : Parts) (records : List PackedEntries) (done : ℕ) (keeps : Keeps now records done) where
    push_within : (parts : Parts) (rs : List PackedEntries) (r : PackedEntries) → AllByRecursion (Within parts) rs → Within parts r
        → AllByRecursion (Within parts) (rs ++ r ∷ [])
    push_within parts [] r all one = (one, tt)
    push_within parts (first ∷ rs) r all one = (all.0, push_within parts rs r all.1 one)

    -- The texts of the next element of `places` exist.
    pub next_within : (place : EntryAt) → done < length places → get_or places done place ≡ place
        → IsWithin (drop shift (block_of now block)) names place
    next_within place below is = subst (IsWithin (drop shift (block_of now block)) names) is (at places done keeps.all.within below)
      where
        at : (ps : List EntryAt) (n : ℕ) → AllByRecursion (IsWithin (drop shift (block_of now block)) names) ps → n < length ps
            → IsWithin (drop shift (block_of now block)) names (get_or ps n place)
        at [] n all below = absurd (omega (arith, below))
        at (p ∷ ps) zero all below = all.0
        at (p ∷ ps) (suc n) all below = at ps n all.1 (omega (arith, below))

    -- One more element of `places` is stored, which adds no text.
    pub one_kept : (new : Parts) (more : List PackedEntries) (record' : PackedEntries) (place : EntryAt) (shown : List ℕ) → Extends now new
        → (new.bytes ≡ now.bytes) × (new.taken ≡ now.taken) → Within new record'
        → shown ≡ names → denotes new record' ≡ entries_at_place (drop shift (block_of now block)) shown place
        → more ≡ records ++ record' ∷ [] → done < length places → get_or places done place ≡ place
        → Keeps new more (done + 1)
    one_kept new more record' place shown grows same within shown_is seen_is more_are below place_is =
        let block_is = block_same now new block same in
        let texts = drop shift (block_of now block) in
        record {
          grows = grows_more begun now new keeps.grows grows;
          there = subst (λ (blocks : List (List ℕ)). block ≤ length blocks) (sym same.1) keeps.there;
          behind = subst (λ (b : List ℕ). shift ≤ length b) (sym block_is) keeps.behind;
          fits = subst (λ (b : List ℕ). length b < 2 ^ 64) (sym block_is) keeps.fits;
          all = subst (λ (b : List ℕ). AreStoredAt (drop shift b) names places entries) (sym block_is) keeps.all;
          within = subst (AllByRecursion (Within new)) (sym more_are)
              (push_within new records record' (all_within_grown now new records grows keeps.within) within);
          seen_are =
              ap (flat_map (denotes new)) more_are ∙ flat_push (denotes new) records record'
              ∙ (λ i. (all_seen_grown now new records grows keeps.within ∙ keeps.seen_are) i
              ++ (seen_is ∙ ap (λ (ns : List ℕ). entries_at_place texts ns place) shown_is) i)
              ∙ sym (flat_push (entries_at_place texts names) (take done places) place)
              ∙ ap (λ p. entries_at texts names (take done places ++ p ∷ [])) (sym place_is)
              ∙ ap (entries_at texts names) (sym (take_more places done place below))
              ∙ ap (λ (b : List ℕ). entries_at (drop shift b) names (take (done + 1) places)) (sym block_is);
        }

    -- After all elements of `places`, all entries are stored.
    pub all_kept : length places ≤ done → flat_map (denotes now) records ≡ entries
    all_kept end = keeps.seen_are ∙ ap (entries_at (drop shift (block_of now block)) names) (take_all done places end) ∙ keeps.all.are
