-- The number of entries before a `PackedEntries`, and checkpoints.
use Rattle.std.proofs.Common.{◌≡◌, ◌⊎◌, inl, inr, ℕ, zero, suc, ◌+◌, ◌*◌, ◌/◌, ◌-◌, ◌^◌, ◌≤◌, ◌<◌, Bool, true, false, ltb, List, [], ◌∷◌, ◌++◌, length, take, drop, get_or, refl, sym, ap, ◌∙◌, subst, arith}
use Rattle.std.proofs.lemmas.Bool.{ltb-true, ltb-false}
use Rattle.std.proofs.lemmas.List.{append_assoc, get_or_append_left, get_or-take, length-append, length-take, take-append-drop, take-append-le, take-take, take_all, take_more}
use Rattle.redo_logs.specs.declared.store.PackedEntries.{PackedEntries}
use Rattle.redo_logs.specs.Private.Store.{count_in}
use Rattle.redo_logs.specs.Private.PackedLog.{AreCheckpoints, AreNumbered, IsBefore, IsLocated, count_of}

pub count_append : (first others : List PackedEntries) → count_of (first ++ others) ≡ count_of first + count_of others
count_append [] others = omega arith
count_append (one ∷ first) others = ap (λ n. count_in one + n) (count_append first others) ∙ (omega arith)

-- ---- appending

checkpoints_stay : (records more : List PackedEntries) (checkpoints : List ℕ) → AreCheckpoints records checkpoints
    → AreCheckpoints (records ++ more) checkpoints
checkpoints_stay records more checkpoints are number below =
    let before = are number below in
    record {
      within = omega (arith, before.within, length-append records more);
      is = before.is ∙ ap count_of (sym (take-append-le (number * 8) records more before.within));
    }

get_pushed : (xs : List ℕ) (x : ℕ) → get_or (xs ++ x ∷ []) (length xs) 0 ≡ x
get_pushed [] x = refl
get_pushed (y ∷ xs) x = get_pushed xs x

-- A new checkpoint.
pub checkpointed : (records : List PackedEntries) (checkpoints : List ℕ) (entries : ℕ) → AreNumbered records checkpoints entries
    → length records ≡ length checkpoints * 8 → AreCheckpoints records (checkpoints ++ entries ∷ [])
checkpointed records checkpoints entries are size number below = by (ltb number (length checkpoints)) refl
  where
    by : (known : Bool) → ltb number (length checkpoints) ≡ known
        → IsBefore records (number * 8) (get_or (checkpoints ++ entries ∷ []) number 0)
    by true known =
        let there = ltb-true number (length checkpoints) known in
        subst (IsBefore records (number * 8)) (sym (get_or_append_left checkpoints (entries ∷ []) 0 number there))
        (are.checkpoints_are number there)
    by false known =
        let last : number ≡ length checkpoints = let behind = ltb-false number (length checkpoints) known in let all =
        length-append checkpoints (entries ∷ []) in omega (arith, behind, below, all) in
        let place : number * 8 ≡ length records = ap (λ n. n * 8) last ∙ sym size in
        let count : get_or (checkpoints ++ entries ∷ []) number 0 ≡ entries =
        ap (λ n. get_or (checkpoints ++ entries ∷ []) n 0) last ∙ get_pushed checkpoints entries in
        record {
          within = omega (arith, place);
          is = count ∙ are.entries_are ∙ ap count_of (sym (take_all (number * 8) records (omega (arith, place))));
        }

pub with_checkpoints : (records : List PackedEntries) (checkpoints others : List ℕ) (entries : ℕ) → AreNumbered records checkpoints entries
    → AreCheckpoints records others → AreNumbered records others entries
with_checkpoints records checkpoints others entries are checkpointed =
    record { entries_are = are.entries_are; few = are.few; checkpoints_are = checkpointed }

pub pushed : (records new : List PackedEntries) (checkpoints : List ℕ) (entries count : ℕ) (one : PackedEntries)
    → AreNumbered records checkpoints entries → new ≡ records ++ one ∷ [] → count ≡ count_in one → count ≤ 2 ^ 62 - entries
    → AreNumbered new checkpoints (entries + count)
pushed records new checkpoints entries count one are put count_is few =
    subst (λ rs. AreNumbered rs checkpoints (entries + count)) (sym put)
    (record {
      entries_are = (λ i. are.entries_are i + count_is i) ∙ sym (count_append records (one ∷ []) ∙ (omega arith));
      few = let old = are.few in omega (arith, old, few);
      checkpoints_are = checkpoints_stay records (one ∷ []) checkpoints are.checkpoints_are;
    })

pub checkpointed_next : (records : List PackedEntries) (checkpoints others : List ℕ) (entries : ℕ) → AreNumbered records checkpoints entries
    → (others ≡ checkpoints) ⊎ ((others ≡ checkpoints ++ entries ∷ []) × (length records ≡ length checkpoints * 8))
    → AreNumbered records others entries
checkpointed_next records checkpoints others entries are (inl same) =
    with_checkpoints records checkpoints others entries are (subst (AreCheckpoints records) (sym same) are.checkpoints_are)
checkpointed_next records checkpoints others entries are (inr more) =
    with_checkpoints records checkpoints others entries are
    (subst (AreCheckpoints records) (sym more.0) (checkpointed records checkpoints entries are more.1))

-- One of several `PackedEntries` values is appended.
pub one_appended : (old now new records : List PackedEntries) (index : ℕ) (one : PackedEntries) → now ≡ old ++ take index records
    → new ≡ now ++ one ∷ [] → index < length records → one ≡ get_or records index one
    → new ≡ old ++ take (index + 1) records
one_appended old now new records index one so_far put below is =
    put ∙ ap (λ all. all ++ one ∷ []) so_far ∙ append_assoc old (take index records) (one ∷ [])
    ∙ ap (λ r. old ++ (take index records ++ r ∷ [])) is
    ∙ ap (λ more. old ++ more) (sym (take_more records index one below))

-- ---- removing

pub cut_back : (old more now : List PackedEntries) (count : ℕ) → now ≡ old ++ more → count ≡ length old → take count now ≡ old
cut_back old more now count put count_is =
    (λ i. take (count_is i) (put i)) ∙ take-append-le (length old) old more (omega arith) ∙ take_all (length old) old (omega arith)

-- The entries before the `PackedEntries` values that were appended.
pub still_before : (old more now : List PackedEntries) (count entries : ℕ) → now ≡ old ++ more → count ≡ length old → entries ≡ count_of old
    → IsBefore now count entries
still_before old more now count entries put count_is entries_are = record {
  within = omega (arith, ap length put, length-append old more, count_is);
  is = entries_are ∙ ap count_of (sym (cut_back old more now count put count_is));
}

pub cut : (records : List PackedEntries) (checkpoints : List ℕ) (old count entries : ℕ) → AreNumbered records checkpoints old
    → IsBefore records count entries → entries ≤ 2 ^ 62 → AreNumbered (take count records) (take (count / 8 + 1) checkpoints) entries
cut records checkpoints old count entries are before few = record {
  entries_are = before.is;
  few = few;
  checkpoints_are = λ number below.
      let size = length-take (count / 8 + 1) checkpoints in
      let there : number < length checkpoints = omega (arith, below, size) in
      let low : number < count / 8 + 1 = omega (arith, below, size) in
      let place : number * 8 ≤ count = omega (arith, low) in
      let checkpoint = are.checkpoints_are number there in
      record {
        within = (let all = length-take count records in let whole = before.within in omega (arith, place, all, whole));
        is = get_or-take (count / 8 + 1) checkpoints number 0 low ∙ checkpoint.is
            ∙ ap count_of (sym (take-take (number * 8) count records place));
      };
}

-- A prefix has no more entries than the whole.
pub fewer_before : (records : List PackedEntries) (place count : ℕ) → IsBefore records place count → count ≤ count_of records
fewer_before records place count before =
    let all : count_of records ≡ count_of (take place records) + count_of (drop place records) =
    ap count_of (sym (take-append-drop place records)) ∙ count_append (take place records) (drop place records) in
    omega (arith, all, before.is)

-- ---- one after another

pub next_before : (records : List PackedEntries) (place count : ℕ) (one : PackedEntries) → IsBefore records place count
    → place < length records → one ≡ get_or records place one → IsBefore records (place + 1) (count + count_in one)
next_before records place count one before below is =
    record {
      within = omega (arith, below);
      is = (λ i. before.is i + count_in one)
          ∙ sym (ap count_of (take_more records place one below) ∙ count_append (take place records) (get_or records place one ∷ [])
          ∙ ap (λ n. count_of (take place records) + n) (omega arith ∙ ap count_in (sym is)));
    }

pub found_here : (records : List PackedEntries) (place count number : ℕ) (one : PackedEntries) → IsBefore records place count
    → place < length records → one ≡ get_or records place one → count ≤ number → number - count < count_in one
    → IsLocated records number one (number - count)
found_here records place count number one before below is low within = record {
  before = take place records;
  behind = drop (suc place) records;
  are = split records place one below ∙ ap (λ r. take place records ++ r ∷ drop (suc place) records) (sym is);
  number_is = (let parts : number ≡ count + (number - count) = omega (arith, low) in parts ∙ ap (λ n. n + (number - count)) before.is);
  place_within = within;
}
  where
    split : (records : List PackedEntries) (place : ℕ) (one : PackedEntries) → place < length records
        → records ≡ take place records ++ get_or records place one ∷ drop (suc place) records
    split [] place one below = absurd (omega (arith, below))
    split (first ∷ records) zero one below = refl
    split (first ∷ records) (suc place) one below = ap (λ rs. first ∷ rs) (split records place one (omega (arith, below)))

pub none_behind : (records : List PackedEntries) (place count number : ℕ) → IsBefore records place count → length records ≤ place
    → count ≤ number → count_of records ≤ number
none_behind records place count number before end low =
    let all = before.is ∙ ap count_of (take_all place records end) in
    omega (arith, all, low)
