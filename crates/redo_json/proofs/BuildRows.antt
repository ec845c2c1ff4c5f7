-- Rows of builds: logs, and the values of the objects that they have, or the JSON.
use Rattle.std.proofs.Common.{◌≡◌, ℕ, ℤ, pos, negsuc, Bool, true, false, List, [], ◌∷◌, ◌++◌, Option, None, Some, Bor, map, refl}
use Rattle.std.specs.Char.{encode_utf8}
use Rattle.std.specs.Fmt.{digits}
use Rattle.std.specs.Prelude.{codes}
use Rattle.std.specs.List.{AllByRecursion}
use Rattle.std.specs.Str.{chars, is_utf8}
use Rattle.base64.specs.Rfc4648.{encode_symbols}
use Rattle.bstr.specs.Utf8.{pieces_from}
use Rattle.json.specs.Print.{escape_byte, print_from}
use Rattle.redo_line.specs.Decimal as decimal
use Rattle.redo_line.specs.Parts.{after_prefix, split_once}
use Rattle.redo_line.specs.declared.entry.Entry.{Entry}
use Rattle.redo_line.specs.declared.entry.Entry.TheVariants.{Text, Mention, Done, Closing, Note}
use Rattle.redo_line.specs.declared.entry.How.TheVariants.{Made, Waiting, Locked, Unlocked, Unchanged}
use Rattle.redo_logs.specs.Logs.{Log}
use Rattle.redo_logs.specs.declared.log_state.LogState.TheVariants.{Ended}
use Rattle.redo_view.specs.Expansion.{show_log, show_log_within}
use Rattle.redo_diagnostics.specs.Diagnostic.{before_bracket, diagnostic_of, first_place, masked_after, place_of, split_flag}
use Rattle.redo_diagnostics.specs.Plain.{plain_after}
use Rattle.redo_html.specs.Symbols.{is_sequence, sequence_len}
use Rattle.redo_facts.specs.Facts.{RecipeFacts, nothing}
use Rattle.redo_times.specs.declared.times.Times.{Times}
use Rattle.redo_name.specs.declared.hash_keys.HashKeys.{HashKeys}
use Rattle.redo_compare.specs.Baseline.{BaselineValue, ChangesValue, baseline_of}
use Rattle.redo_compare.specs.Source.{source_of}
use Rattle.redo_json.specs.Build.{Request, build_json, build_values, json_options, request_of}
use Rattle.redo_json.specs.Every.{every_target}
use Rattle.redo_json.specs.Object.{LogValues}

record Row : Type 0 where
  request : Request
  logs : List Log
  requested : List (List ℕ)
  values : List LogValues

abbrev row : Request → List Log → List (List ℕ) → List LogValues → Row
row request logs requested values = record { request = request; logs = logs; requested = requested; values = values }

abbrev log : List ℕ → List Entry → Log
log target entries = record { target = target; entries = entries; state = Ended }

abbrev asks : Bool → List Times → List RecipeFacts → Request
asks unchanged times facts = record { unchanged = unchanged; times = times; facts = facts; baseline = None }

abbrev time : Option ℕ → Option ℕ → Times
time began ended = record { began = began; ended = ended; ran_others = false }

-- The values of a log of which nothing is known but these.
abbrev values : List ℕ → Option (List ℕ) → Option ℤ → List (List ℕ) → List (List ℕ) → LogValues
values target parent status needs lines = record {
  target = target;
  parent = parent;
  status = status;
  start_ms = None;
  end_ms = None;
  cpu_ms = None;
  peak_kb = None;
  directory = None;
  commands = [];
  needs = needs;
  lines = lines;
  changes = None;
}

abbrev a : List ℕ
a = codes "a"

abbrev b : List ℕ
b = codes "b"

abbrev c : List ℕ
c = codes "c"

abbrev d : List ℕ
d = codes "d"

-- Logs in logs: `b` mentions `d`, which was opened before, and `a`, in which it is.
abbrev nested : List Log
nested =
    log c (Text (codes "z") ∷ Closing 3 (negsuc 1) ∷ [])
    ∷ log a (Mention 7 Made b ∷ Text (codes "one") ∷ Done 7 (pos 3) (codes "x") ∷ Text [] ∷ Mention 7 Made c ∷ Mention 7 Made b ∷ [])
    ∷ log b (Mention 7 Waiting d ∷ Done 7 (pos 3) d ∷ Mention 7 Made a ∷ Text (codes "two") ∷ Closing 7 (pos 0) ∷ [])
    ∷ log d (Note 7 (codes "check") a ∷ [])
    ∷ log (codes "e") (Text (codes "never") ∷ [])
    ∷ []

-- Each kind of mention, and names without logs.
abbrev mentions : List Log
mentions =
    log a (Mention 1 Unchanged b ∷ Mention 2 Locked c ∷ Mention 3 Unlocked c ∷ Mention 4 Made d ∷ Mention 5 Waiting b ∷ Mention 6 Made (codes "bb") ∷ [])
    ∷ log b (Mention 1 Made b ∷ [])
    ∷ []

abbrev some_facts : RecipeFacts
some_facts = record {
  has_log = true;
  directory = Some (codes "d e");
  commands = record { text = codes "cc x"; is_whole = true } ∷ record { text = codes "cut"; is_whole = false } ∷ record { text = codes "ld y"; is_whole = true } ∷ [];
  usage = Some (record { user_ms = 30; system_ms = 50; peak_kb = 7 });
}

abbrev large_facts : RecipeFacts
large_facts = record {
  has_log = true;
  directory = None;
  commands = [];
  usage = Some (record { user_ms = 0xFFFFFFFFFFFFFFFE; system_ms = 2; peak_kb = 0 });
}

abbrev rows : List Row
rows =
    row (asks false [] []) nested (d ∷ a ∷ b ∷ []) (
    values d None (Some (pos 3)) [] []
    ∷ values a None None (b ∷ c ∷ []) (codes "one" ∷ [] ∷ [])
    ∷ values b (Some a) (Some (pos 0)) (d ∷ a ∷ []) (codes "two" ∷ [])
    ∷ values c (Some a) (Some (negsuc 1)) [] (codes "z" ∷ [])
    ∷ []) ∷
    row (asks false [] []) nested (b ∷ []) (
    values b None (Some (pos 0)) (d ∷ a ∷ []) (codes "two" ∷ [])
    ∷ values d (Some b) (Some (pos 3)) [] []
    ∷ values a (Some b) None (b ∷ c ∷ []) (codes "one" ∷ [] ∷ [])
    ∷ values c (Some a) (Some (negsuc 1)) [] (codes "z" ∷ [])
    ∷ []) ∷
    row (asks false [] []) nested [] [] ∷
    row (asks false (time (Some 5) None ∷ time None (Some 9) ∷ time (Some 1) (Some 2) ∷ []) (nothing ∷ some_facts ∷ large_facts ∷ []))
    nested (a ∷ []) (
    record (values a None None (b ∷ c ∷ []) (codes "one" ∷ [] ∷ [])) {
      end_ms = Some 9;
      cpu_ms = Some 80;
      peak_kb = Some 7;
      directory = Some (codes "d e");
      commands = codes "cc x" ∷ codes "ld y" ∷ [];
    }
    ∷ record (values b (Some a) (Some (pos 0)) (d ∷ a ∷ []) (codes "two" ∷ [])) {
      start_ms = Some 1;
      end_ms = Some 2;
      cpu_ms = Some 0xFFFFFFFFFFFFFFFF;
      peak_kb = Some 0;
    }
    ∷ values d (Some b) (Some (pos 3)) [] []
    ∷ record (values c (Some a) (Some (negsuc 1)) [] (codes "z" ∷ [])) { start_ms = Some 5 }
    ∷ []) ∷
    row (asks false [] []) mentions (a ∷ []) (
    values a None None (b ∷ c ∷ d ∷ codes "bb" ∷ []) []
    ∷ values b (Some a) None [] []
    ∷ []) ∷
    row (asks false [] []) (log a (Mention 1 Unchanged b ∷ []) ∷ log b [] ∷ []) (a ∷ []) (values a None None (b ∷ []) [] ∷ []) ∷
    row (asks true [] []) (log a (Mention 1 Unchanged b ∷ []) ∷ log b [] ∷ []) (a ∷ []) (
    values a None None (b ∷ []) []
    ∷ values b (Some a) None [] []
    ∷ []) ∷
    row (asks true [] []) (log a (Mention 1 Unchanged b ∷ []) ∷ log b (Text (codes "x" ++ 13 ∷ []) ∷ Text (9 ∷ codes "y") ∷ []) ∷ []) [] [] ∷
    []

these_values : AllByRecursion (λ r. build_values r.request r.logs r.requested ≡ r.values) rows
unfolding show_log show_log_within
these_values = (refl, (refl, (refl, (refl, (refl, (refl, (refl, (refl, tt))))))))

-- ---- builds with a baseline

abbrev asks_since : BaselineValue → Request
asks_since baseline = record { unchanged = false; times = []; facts = some_facts ∷ []; baseline = Some baseline }

-- An earlier build. `e` isn't made any more.
abbrev earlier : List Log
earlier =
    log (codes "e") (Text (codes "error: e") ∷ Closing 3 (pos 1) ∷ [])
    ∷ log b (Text (codes "b.c:1: error: z") ∷ Closing 4 (pos 2) ∷ [])
    ∷ log a (Text (codes "a.c:1: warning: x") ∷ Text (codes "   1 | int x;") ∷ Text (codes "a.c:2: warning: y") ∷ Text (codes "a.c:9: warning: x") ∷ [])
    ∷ log d (Mention 5 Made a ∷ Mention 5 Made b ∷ Closing 5 (pos 2) ∷ [])
    ∷ []

abbrev earlier_build : BaselineValue
earlier_build = baseline_of earlier (json_options false) (d ∷ [])

-- Its target `a` fails now, `b` is fixed, `c` is new, and `d` fails as before, because of a target below it.
abbrev later : List Log
later =
    log d (Mention 6 Made a ∷ Mention 6 Made b ∷ Mention 6 Made c ∷ Closing 6 (pos 2) ∷ [])
    ∷ log a (Text (codes "a.c:3: warning: x") ∷ Text (codes "in f:") ∷ Text (codes "a.c:4: warning: x") ∷ Text (codes "   4 | int x;") ∷ Text (codes "a.c:5: warning: x") ∷ Closing 7 (pos 1) ∷ [])
    ∷ log b (Closing 8 (pos 0) ∷ [])
    ∷ log c (Text (codes "error: c") ∷ Closing 9 (pos 0) ∷ [])
    ∷ []

abbrev changes : Bool → List Bool → ℕ → Bool → Bool → Option ChangesValue
changes was_built new gone newly_fails is_fixed = Some (record {
  was_built = was_built;
  new = new;
  gone = gone;
  newly_fails = newly_fails;
  is_fixed = is_fixed;
})

-- Of the warnings of `a`, the first two have the source lines of earlier ones, and the third one is new. The one with `y` is gone.
later_values : AllByRecursion (λ r. build_values r.request r.logs r.requested ≡ r.values) (
    row (record (asks_since earlier_build) { facts = [] }) later (d ∷ []) (
    record (values d None (Some (pos 2)) (a ∷ b ∷ c ∷ []) []) { changes = changes true [] 0 false false }
    ∷ record (values a (Some d) (Some (pos 1)) [] (codes "a.c:3: warning: x" ∷ codes "in f:" ∷ codes "a.c:4: warning: x" ∷ codes "   4 | int x;" ∷ codes "a.c:5: warning: x" ∷ []))
    { changes = changes true (false ∷ false ∷ true ∷ []) 1 true false }
    ∷ record (values b (Some d) (Some (pos 0)) [] []) { changes = changes true [] 1 false true }
    ∷ record (values c (Some d) (Some (pos 0)) [] (codes "error: c" ∷ [])) { changes = changes false (true ∷ []) 0 false false }
    ∷ []) ∷
    row (record (asks_since (baseline_of later (json_options false) (d ∷ []))) { facts = [] }) later (c ∷ a ∷ []) (
    record (values c None (Some (pos 0)) [] (codes "error: c" ∷ [])) { changes = changes true (false ∷ []) 0 false false }
    ∷ record (values a None (Some (pos 1)) [] (codes "a.c:3: warning: x" ∷ codes "in f:" ∷ codes "a.c:4: warning: x" ∷ codes "   4 | int x;" ∷ codes "a.c:5: warning: x" ∷ []))
    { changes = changes true (false ∷ false ∷ false ∷ []) 0 false false }
    ∷ []) ∷
    row (record (asks_since (baseline_of (log b [] ∷ []) (json_options false) (d ∷ []))) { facts = [] }) later (d ∷ []) (
    record (values d None (Some (pos 2)) (a ∷ b ∷ c ∷ []) []) { changes = changes false [] 0 false false }
    ∷ record (values a (Some d) (Some (pos 1)) [] (codes "a.c:3: warning: x" ∷ codes "in f:" ∷ codes "a.c:4: warning: x" ∷ codes "   4 | int x;" ∷ codes "a.c:5: warning: x" ∷ []))
    { changes = changes false (true ∷ true ∷ true ∷ []) 0 true false }
    ∷ record (values b (Some d) (Some (pos 0)) [] []) { changes = changes true [] 0 false false }
    ∷ record (values c (Some d) (Some (pos 0)) [] (codes "error: c" ∷ [])) { changes = changes false (true ∷ []) 0 false false }
    ∷ []) ∷
    [])
unfolding show_log show_log_within after_prefix split_once decimal.number is_sequence sequence_len plain_after first_place place_of before_bracket split_flag masked_after diagnostic_of source_of
later_values = (refl, (refl, (refl, tt)))

-- What changed in each target.
later_changes : map (λ (one : LogValues). one.changes) (build_values (record (asks_since earlier_build) { facts = [] }) later (d ∷ []))
    ≡ changes true [] 0 false false
    ∷ changes true (false ∷ false ∷ true ∷ []) 1 true false
    ∷ changes true [] 1 false true
    ∷ changes false (true ∷ []) 0 false false
    ∷ []
unfolding show_log show_log_within after_prefix split_once decimal.number is_sequence sequence_len plain_after first_place place_of before_bracket split_flag masked_after diagnostic_of source_of
later_changes = refl

-- Each object is a line.
record JsonRow : Type 0 where
  logs : List Log
  json : List ℕ

these_lines : AllByRecursion (λ (r : JsonRow). build_json (asks false [] []) r.logs (a ∷ []) ≡ r.json) (
    record { logs = log a [] ∷ []; json = codes "{\"target\":\"a\",\"parent\":null,\"status\":null,\"start_ms\":null,\"end_ms\":null,\"cpu_ms\":null,\"peak_kb\":null,\"directory\":null,\"commands\":[],\"needs\":[],\"lines\":[],\"diagnostics\":[],\"baseline\":null}" ++ (10 ∷ []) } ∷
    [])
unfolding chars digits encode_symbols encode_utf8 escape_byte is_utf8 pieces_from print_from after_prefix split_once decimal.number is_sequence sequence_len plain_after first_place place_of before_bracket split_flag masked_after diagnostic_of show_log show_log_within
these_lines = (refl, tt)

-- Borrowed values.
abbrev at : {A : Type 0} → A → Bor A
at value = record { ref_ptr = (0, 0); now = value }

these_requests : (keys : HashKeys)
    → (request_of (record {
      unchanged = true;
      times = at (time (Some 1) None ∷ []);
      facts = at (nothing ∷ []);
      baseline = None;
      keys =
          keys;
    })
    ≡ asks true (time (Some 1) None ∷ []) (nothing ∷ []))
    × (request_of (record {
      unchanged = false;
      times = at [];
      facts = at (some_facts ∷ []);
      baseline = Some (at earlier_build);
      keys =
          keys;
    })
    ≡ asks_since earlier_build)
these_requests keys = (refl, refl)

these_baselines : (keys : HashKeys)
    → ((request_of (record { unchanged = true; times = at []; facts = at []; baseline = Some (at earlier_build); keys = keys })).baseline
    ≡ Some earlier_build)
    × ((request_of (record { unchanged = true; times = at []; facts = at []; baseline = None; keys = keys })).baseline ≡ None)
these_baselines keys = (refl, refl)

-- The requested targets, and then the targets of all logs.
record TargetsRow : Type 0 where
  requested : List (List ℕ)
  targets : List (List ℕ)

these_targets : AllByRecursion (λ (r : TargetsRow). every_target (log b [] ∷ log a [] ∷ []) r.requested ≡ r.targets) (
    record { requested = []; targets = b ∷ a ∷ [] } ∷
    record { requested = a ∷ []; targets = a ∷ b ∷ a ∷ [] } ∷
    record { requested = b ∷ a ∷ []; targets = b ∷ a ∷ b ∷ a ∷ [] } ∷
    [])
these_targets = (refl, (refl, (refl, tt)))
