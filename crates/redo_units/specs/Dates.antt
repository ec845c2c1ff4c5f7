-- Dates as HTTP writes them.
use Rattle.std.specs.Prelude.{◌≡◌, ℕ, zero, suc, ◌+◌, ◌-◌, ◌/◌, ◌%◌, true, false, nat_lt, List, Option, Some, None, if◌then◌else◌}
use Rattle.httpdate.specs.declared.parts.Parts.{Parts}
use Rattle.httpdate.specs.Calendar.{IsCivilDate, IsTimeOfDay, days_from_civil, days_in_month, days_in_year, seconds_from_civil, weekday}
use Rattle.httpdate.specs.Text.{imf_fixdate}

-- Periods, such as years, have consecutive numbers, and `days_in` is the length of each. The period in which a day is, and how many days of the
-- period are before that day, if `days` days are between the beginning of the period `first` and that day. At most `more` later periods are
-- tried; `elim` computes only one case, so the search ends at the right one.
unfoldable pub period_of : (ℕ → ℕ) → ℕ → ℕ → ℕ → ℕ × ℕ
period_of days_in zero first days = (first, days)
period_of days_in (suc more) first days = elim (nat_lt days (days_in first)) [ true ↦ (first, days) | false ↦ period_of days_in more (suc first) (days - days_in first) ]

-- The year in which a day is, and how many days of the year are before it, from the days since 1970. The last year is 9999.
abbrev pub year_of : ℕ → ℕ × ℕ
year_of days = period_of days_in_year 8029 1970 days

-- The month in which a day is, and how many days of the month are before it, from a year and the days since it began.
abbrev pub month_of : ℕ × ℕ → ℕ × ℕ
month_of year = period_of (days_in_month year.0) 11 1 year.1

-- The parts of a date, from the seconds since 1970.
unfoldable pub date_parts : ℕ → Parts
date_parts secs =
    let days = secs / 86400 in
    let year = year_of days in
    let month = month_of year in
    record {
      year = year.0;
      mon = month.0;
      day = month.1 + 1;
      hour = secs / 3600 % 24;
      min = secs / 60 % 60;
      sec = secs % 60;
      wday = weekday days;
    }

-- A date, from the seconds since 1970. The year 10000 begins after 253,402,300,800 seconds.
unfoldable pub date_text_of : ℕ → Option (List ℕ)
date_text_of secs = if nat_lt secs 253402300800 then Some (imf_fixdate (date_parts secs)) else None

-- Whether these are the parts of the date and the time of day of a second, by the calendar alone.
pub record IsDateOf (secs : ℕ) (parts : Parts) : Type 0 where
  pub civil : IsCivilDate parts.year parts.mon parts.day
  pub time : IsTimeOfDay parts.hour parts.min parts.sec
  pub second : seconds_from_civil parts.year parts.mon parts.day parts.hour parts.min parts.sec ≡ secs
  pub weekday_is : parts.wday ≡ weekday (days_from_civil parts.year parts.mon parts.day)
