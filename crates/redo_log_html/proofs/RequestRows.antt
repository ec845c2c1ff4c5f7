-- Rows of what the page of a job is asked: each option reaches its own part of the request.
use Rattle.std.proofs.Common.{◌≡◌, ℕ, Bool, true, false, List, [], ◌∷◌, ◌++◌, Option, None, Some, length, replicate, refl}
use Rattle.std.specs.Prelude.{codes}
use Rattle.std.specs.List.{AllByRecursion}
use Rattle.redo_compare.specs.Baseline.{BaselineValue, baseline_of}
use Rattle.redo_facts.specs.Facts.{RecipeFacts, nothing}
use Rattle.redo_args.specs.HtmlJob.{PageParts}
use Rattle.redo_log_html.specs.Request.{baseline_for, request_for}
use Rattle.redo_logs.specs.Logs.{Log}
use Rattle.redo_logs.specs.declared.log_state.LogState.TheVariants.{Ended}
use Rattle.redo_page.specs.Page.{Request, page_options}
use Rattle.redo_times.specs.declared.times.Times.{Times}

record Row : Type 0 where
  job : PageParts
  times : List Times
  baseline : Option BaselineValue
  request : Request

abbrev times : List Times
times =
    record { began = Some 1600000000000; ended = Some 1600000001000; ran_others = false }
    ∷ record { began = None; ended = None; ran_others = false } ∷ []

abbrev recipes : List RecipeFacts
recipes = record { has_log = true; directory = Some (codes "x"); commands = []; usage = None } ∷ nothing ∷ []

-- An earlier build with one log.
abbrev earlier : List Log
earlier = record { target = codes "a"; entries = []; state = Ended } ∷ []

abbrev baseline : BaselineValue
baseline = record { logs = earlier; nodes = [] }

-- `redo-log-html --dir d --baseline e --title t --output f --senders 5 a`, and these options.
abbrev row : Option (List ℕ) → List ℕ → Bool → Bool → ℕ → List Times → Option BaselineValue → Row
row title title_is unchanged debug_locks max_bytes times baseline = record {
  job =
      record {
        dir = codes "d";
        baseline = Some (codes "e");
        output = Some (codes "f");
        title = title;
        unchanged = unchanged;
        debug_locks = debug_locks;
        max_bytes = max_bytes;
        senders = 5;
        targets = codes "a" ∷ [];
      };
  times = times;
  baseline = baseline;
  request =
      record {
        title = title_is;
        dir = codes "d";
        unchanged = unchanged;
        debug_locks = debug_locks;
        max_bytes = max_bytes;
        times = times;
        recipes = recipes;
        baseline = baseline;
      };
}

-- Neither of two options, each of them, and both. The largest number of bytes, and none.
abbrev rows : List Row
rows =
    row (Some (codes "t")) (codes "t") false false 16000000 times None
    ∷ row (Some (codes "t")) (codes "t") true false 16000000 [] None
    ∷ row (Some (codes "t")) (codes "t") false true 16000000 times (Some baseline)
    ∷ row (Some []) [] true true 0 times None
    ∷ row None [] false false 18446744073709551615 times None
    ∷ []

these_requests : AllByRecursion (λ r. request_for r.job r.times recipes r.baseline ≡ r.request) rows
these_requests = (refl, (refl, (refl, (refl, (refl, tt)))))

-- A long title, a long directory, and the times of 301 targets.
abbrev long : ℕ → List ℕ
long count = replicate count 97 ++ codes "x"

abbrev many_times : List Times
many_times =
    replicate 300 (record { began = None; ended = None; ran_others = false })
    ++ record { began = Some 5; ended = Some 7; ran_others = false } ∷ []

abbrev long_job : PageParts
long_job = record {
  dir = long 5000;
  baseline = None;
  output = None;
  title = Some (long 1000);
  unchanged = false;
  debug_locks = false;
  max_bytes = 16000000;
  senders = 5;
  targets = [];
}

long_request : (length (request_for long_job many_times [] None).title ≡ 1001)
    × (length (request_for long_job many_times [] None).dir ≡ 5001)
    × (length (request_for long_job many_times [] None).times ≡ 301)
long_request = (refl, refl, refl)

-- Without an earlier build there is no baseline. With one, it has the options of the page.
these_baselines :
    (baseline_for long_job None (codes "a" ∷ []) ≡ None)
    × (baseline_for long_job (Some earlier) (codes "a" ∷ []) ≡ Some (baseline_of earlier (page_options false false) (codes "a" ∷ [])))
    × (baseline_for (record long_job { unchanged = true }) (Some earlier) (codes "a" ∷ [])
    ≡ Some (baseline_of earlier (page_options true false) (codes "a" ∷ [])))
    × (baseline_for (record long_job { debug_locks = true }) (Some earlier) []
    ≡ Some (baseline_of earlier (page_options false true) []))
these_baselines = (refl, refl, refl, refl)
