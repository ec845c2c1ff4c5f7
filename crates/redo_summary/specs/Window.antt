-- The time that all shown targets took together.
use Rattle.std.specs.Prelude.{ℕ, ◌-◌, max, min, List, ◌++◌, Option, flat_map, option_map, option_to_list, unwrap_or}
use Rattle.redo_timeline.specs.declared.span.Window.{Window}
use Rattle.redo_times.specs.Times.{first_time, last_time}
use Rattle.redo_summary.specs.declared.target.Target.{Target}

-- All times that are known: each beginning and each end.
abbrev pub known_times : List Target → List ℕ
known_times targets = flat_map (λ (target : Target). option_to_list target.times.began ++ option_to_list target.times.ended) targets

-- A duration as it is shown: one that is longer than 2^44 - 1 milliseconds, some 557 years, is cut.
abbrev pub cut : ℕ → ℕ
cut duration = min duration 0xFFFFFFFFFFF

-- How long it is from the first of some times to the last. It is 0 if there are none.
abbrev pub time_over : List ℕ → ℕ
time_over times = cut (unwrap_or (last_time times) 0 - unwrap_or (first_time times) 0)

-- The window over some times. There is none if there are no times.
abbrev pub window_over : List ℕ → Option Window
window_over times = option_map (λ first. record { began = first; width = max 1 (time_over times) }) (first_time times)
