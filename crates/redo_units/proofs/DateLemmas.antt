-- The date of a second.
use Rattle.std.proofs.Common.{◌≡◌, ℕ, zero, suc, ◌+◌, ◌-◌, ◌*◌, ◌/◌, ◌%◌, ◌<◌, ◌≤◌, Bool, true, false, Some, None, refl, sym, ap, ◌∙◌, subst, arith}
use Rattle.std.specs.Prelude.{nat_lt}
use Rattle.std.proofs.lemmas.Bool.{cond-false, cond-true, le-ltb, lt-ltb, ltb-false, ltb-true}
use Rattle.httpdate.specs.declared.date.HttpDate.{HttpDate}
use Rattle.httpdate.specs.declared.parts.Parts.{Parts}
use Rattle.httpdate.specs.Calendar.{IsCivilDate, days_from_civil, days_in_month, days_in_year, days_of_months, days_of_years, weekday}
use Rattle.httpdate.specs.Date.{date_text, unix_secs}
use Rattle.httpdate.specs.Text.{imf_fixdate}
use Rattle.httpdate.proofs.CalendarLemmas.{days_of_months_all, days_of_months_more}
use Rattle.redo_units.specs.Dates.{IsDateOf, date_parts, date_text_of, month_of, period_of, year_of}

abbrev pair : ℕ → ℕ → ℕ × ℕ
pair a b = (a, b)

-- ---- periods

module _ (days_in before : ℕ → ℕ) (first : ℕ) (each : (n : ℕ) → before (suc n) ≡ before n + days_in (first + n)) where
  grows_by : (k n : ℕ) → before n ≤ before (k + n)
  grows_by zero n = let same : 0 + n ≡ n = omega arith in rw same (omega arith)
  grows_by (suc k) n = let le = grows_by k n in let next : suc k + n ≡ suc (k + n) = omega arith in
      rw next (omega (arith, le, each (k + n)))

  grows : (m n : ℕ) → m ≤ n → before m ≤ before n
  grows m n le = let same : n - m + m ≡ n = omega arith in let more = grows_by (n - m) m in subst (λ (k : ℕ). before m ≤ before k) same more

  -- The search is at the period `here`, and `n` is the one that is searched. Both are counted from the first one.
  module _ (n rest : ℕ) (inside : rest < days_in (first + n)) where
    end_reached : (i here days : ℕ) → here ≡ first + i → i ≡ n → before i + days ≡ before n + rest → pair here days ≡ pair (first + n) rest
    end_reached i here days at end sums =
        let place : here ≡ first + n = omega (arith, at, end) in
        let same = ap before end in
        let left : days ≡ rest = omega (arith, same, sums) in ap (λ (k : ℕ). pair k days) place ∙ ap (pair (first + n)) left

    is_end : (i here days : ℕ) (b : Bool) → nat_lt i n ≡ b → here ≡ first + i → i ≤ n → before i + days ≡ before n + rest
        → days < days_in here → i ≡ n
    is_end i here days true lt at le sums less =
        let later = grows (suc i) n (ltb-true i n lt) in
        let length = ap days_in at in absurd (omega (arith, later, each i, length, sums, less))
    is_end i here days false ge at le sums less = let back = ltb-false i n ge in omega (arith, back, le)

    is_before_end : (i here days : ℕ) (b : Bool) → nat_lt i n ≡ b → here ≡ first + i → i ≤ n → before i + days ≡ before n + rest
        → days_in here ≤ days → i < n
    is_before_end i here days true lt at le sums enough = ltb-true i n lt
    is_before_end i here days false ge at le sums enough =
        let back = ltb-false i n ge in
        let end : i ≡ n = omega (arith, back, le) in
        let same = ap before end in
        let place : here ≡ first + n = omega (arith, at, end) in
        let length = ap days_in place in absurd (omega (arith, same, sums, length, enough, inside))

    tried : (i here days : ℕ) (later : ℕ × ℕ) (b : Bool) → nat_lt days (days_in here) ≡ b → here ≡ first + i → i ≤ n
        → before i + days ≡ before n + rest → (i < n → days_in here ≤ days → later ≡ pair (first + n) rest)
        → ◌≡◌ {A = ℕ × ℕ} (elim b [ true ↦ (here, days) | false ↦ later ]) (first + n, rest)
    tried i here days later true less at le sums next =
        end_reached i here days at (is_end i here days (nat_lt i n) refl at le sums (ltb-true days (days_in here) less)) sums
    tried i here days later false more at le sums next =
        let enough = ltb-false days (days_in here) more in next (is_before_end i here days (nat_lt i n) refl at le sums enough) enough

    pub found : (more i here days : ℕ) → here ≡ first + i → i ≤ n → n ≤ i + more → before i + days ≡ before n + rest
        → period_of days_in more here days ≡ pair (first + n) rest
    unfolding period_of
    found zero i here days at le ge sums = end_reached i here days at (omega (arith, le, ge)) sums
    found (suc more) i here days at le ge sums =
        tried i here days (period_of days_in more (suc here) (days - days_in here)) (nat_lt days (days_in here)) refl at le sums
        (λ lt enough.
        let length = ap days_in at in
        found more (suc i) (suc here) (days - days_in here) (omega (arith, at)) lt (omega (arith, ge))
        (omega (arith, each i, length, sums, enough)))

  -- A day before the end of the period `first + more` is in one of the periods up to that.
  pub record Found (result : ℕ × ℕ) (days last : ℕ) : Type 0 where
    pub n : ℕ
    pub rest : ℕ
    pub is : result ≡ pair (first + n) rest
    pub sums : before n + rest ≡ days
    pub inside : rest < days_in (first + n)
    pub limit : n ≤ last

  here_found : (i here days last : ℕ) → here ≡ first + i → days < days_in here → i ≤ last
      → Found (pair here days) (before i + days) last
  here_found i here days last at less limit =
      let length = ap days_in at in
      record { n = i; rest = days; is = ap (λ (k : ℕ). pair k days) at; sums = refl; inside = omega (arith, less, length); limit = limit }

  step_finds : (i here days last : ℕ) (later : ℕ × ℕ) (b : Bool) → nat_lt days (days_in here) ≡ b → here ≡ first + i → i ≤ last
      → (days_in here ≤ days → before (suc i) + (days - days_in here) ≡ before i + days
      → Found later (before (suc i) + (days - days_in here)) last)
      → Found (elim b [ true ↦ (here, days) | false ↦ later ]) (before i + days) last
  step_finds i here days last later true less at limit next = here_found i here days last at (ltb-true days (days_in here) less) limit
  step_finds i here days last later false enough at limit next =
      let rest = ltb-false days (days_in here) enough in
      let length : days_in here ≡ days_in (first + i) = ap days_in at in
      let same : before (suc i) + (days - days_in here) ≡ before i + days = omega (arith, each i, length, rest) in
      subst (λ (sum : ℕ). Found later sum last) same (next rest same)

  search_finds : (more i here days last : ℕ) → here ≡ first + i → i + more ≡ last → before i + days < before (suc last)
      → Found (period_of days_in more here days) (before i + days) last
  unfolding period_of
  search_finds zero i here days last at end below =
      let same : last ≡ i = omega (arith, end) in
      let next = ap (λ (k : ℕ). before (suc k)) same in
      let length = ap days_in at in
      here_found i here days last at (omega (arith, below, next, each i, length)) (omega (arith, end))
  search_finds (suc more) i here days last at end below =
      step_finds i here days last (period_of days_in more (suc here) (days - days_in here)) (nat_lt days (days_in here)) refl at
      (omega (arith, end))
      (λ rest same.
      search_finds more (suc i) (suc here) (days - days_in here) last (omega (arith, at)) (omega (arith, end)) (omega (arith, same, below)))

-- ---- years and months

year_grows : (n : ℕ) → days_of_years (suc n) ≡ days_of_years n + days_in_year (1970 + n)
unfolding days_of_years
year_grows n = refl

month_grows : (y n : ℕ) → days_of_months y (suc n) ≡ days_of_months y n + days_in_month y (1 + n)
unfolding days_of_months
month_grows y n = let same : suc n ≡ 1 + n = omega arith in ap (λ (k : ℕ). days_of_months y n + days_in_month y k) same

no_years : days_of_years 0 ≡ 0
unfolding days_of_years
no_years = refl

no_months : (y : ℕ) → days_of_months y 0 ≡ 0
unfolding days_of_months
no_months y = refl

module _ (y m d : ℕ) (civil : IsCivilDate y m d) where
  abbrev days_before : ℕ
  days_before = days_of_months y (m - 1) + (d - 1)

  before_next_year : days_before < days_in_year y
  before_next_year =
      let more = days_of_months_more y m civil.1.0 in
      let later = grows (days_in_month y) (days_of_months y) 1 (month_grows y) m 12 civil.1.1 in
      let all = days_of_months_all y in omega (arith, more, later, all, civil.2.0, civil.2.1)

  year_is : year_of (days_from_civil y m d) ≡ pair y days_before
  year_is =
      let same : 1970 + (y - 1970) ≡ y = omega (arith, civil.0.0) in
      let inside = subst (λ (k : ℕ). days_before < days_in_year k) (sym same) before_next_year in
      let is = found days_in_year days_of_years 1970 year_grows (y - 1970) days_before inside 8029 0 1970 (days_from_civil y m d)
      (omega arith) (omega arith) (omega (arith, civil.0.1)) (omega (arith, no_years)) in
      is ∙ ap (λ (k : ℕ). pair k days_before) same

  month_is : month_of (y, days_before) ≡ pair m (d - 1)
  month_is =
      let same : 1 + (m - 1) ≡ m = omega (arith, civil.1.0) in
      let inside = subst (λ (k : ℕ). d - 1 < days_in_month y k) (sym same) (omega (arith, civil.2.0, civil.2.1)) in
      let is = found (days_in_month y) (days_of_months y) 1 (month_grows y) (m - 1) (d - 1) inside 11 0 1 days_before (omega arith)
      (omega arith) (omega (arith, civil.1.1)) (omega (arith, no_months y)) in
      is ∙ ap (λ (k : ℕ). pair k (d - 1)) same

all_years : days_of_years 8030 ≡ 2932897
unfolding days_of_years
all_years = refl

year_found : (days : ℕ) → days < 2932897 → Found days_in_year days_of_years 1970 year_grows (year_of days) days 8029
year_found days below =
    let same : days_of_years 0 + days ≡ days = omega (arith, no_years) in
    subst (λ (sum : ℕ). Found days_in_year days_of_years 1970 year_grows (year_of days) sum 8029) same
    (search_finds days_in_year days_of_years 1970 year_grows 8029 0 1970 days 8029 refl refl (omega (arith, same, all_years, below)))

month_found : (y days : ℕ) → days < days_in_year y
    → Found (days_in_month y) (days_of_months y) 1 (month_grows y) (month_of (y, days)) days 11
month_found y days below =
    let same : days_of_months y 0 + days ≡ days = omega (arith, no_months y) in
    let all = days_of_months_all y in
    subst (λ (sum : ℕ). Found (days_in_month y) (days_of_months y) 1 (month_grows y) (month_of (y, days)) sum 11) same
    (search_finds (days_in_month y) (days_of_months y) 1 (month_grows y) 11 0 1 days 11 refl refl (omega (arith, same, all, below)))

-- ---- dates

pub date_of_second : (secs : ℕ) → secs < 253402300800 → IsDateOf secs (date_parts secs)
unfolding date_parts
date_of_second secs below =
    let days = secs / 86400 in
    let year = year_found days (omega (arith, below)) in
    let y = 1970 + year.n in
    let month = month_found y year.rest year.inside in
    let month_is = ap month_of year.is ∙ month.is in
    let before_year : y - 1970 ≡ year.n = omega arith in
    let before_month : 1 + month.n - 1 ≡ month.n = omega arith in
    let years = ap days_of_years before_year in
    let months = ap (days_of_months y) before_month in
    let all : days_from_civil y (1 + month.n) (month.rest + 1) ≡ days = omega (arith, years, months, year.sums, month.sums) in
    subst (IsDateOf secs)
    (λ i. record {
      year = (sym year.is i).0;
      mon = (sym month_is i).0;
      day = (sym month_is i).1 + 1;
      hour = secs / 3600 % 24;
      min = secs / 60 % 60;
      sec = secs % 60;
      wday = weekday days;
    })
    (record {
      civil = (
        (omega arith, omega (arith, year.limit)),
        (omega arith, omega (arith, month.limit)),
        (omega arith, omega (arith, month.inside)),
      );
      time = (omega arith, omega arith, omega arith);
      second = omega (arith, all);
      weekday_is = ap weekday (sym all);
    })

clock : (days hour minute second secs : ℕ) → hour < 24 → minute < 60 → second < 60
    → days * 86400 + hour * 3600 + minute * 60 + second ≡ secs
    → (secs / 86400 ≡ days) × (secs / 3600 % 24 ≡ hour) × (secs / 60 % 60 ≡ minute) × (secs % 60 ≡ second)
clock days hour minute second secs a b c is = (omega arith, omega arith, omega arith, omega arith)

pub parts_are : (secs : ℕ) (parts : Parts) → IsDateOf secs parts → date_parts secs ≡ parts
unfolding date_parts
parts_are secs parts date =
    let t = clock (days_from_civil parts.year parts.mon parts.day) parts.hour parts.min parts.sec secs date.time.0 date.time.1
    date.time.2 date.second in
    let year = ap year_of t.0 ∙ year_is parts.year parts.mon parts.day date.civil in
    let month = ap month_of year ∙ month_is parts.year parts.mon parts.day date.civil in
    let back : parts.day - 1 + 1 ≡ parts.day = omega (arith, date.civil.2.0) in
    let day = ap (λ (q : ℕ × ℕ). q.1 + 1) month ∙ back in
    let weekday = ap weekday t.0 ∙ sym date.weekday_is in
    λ i. record { year = (year i).0; mon = (month i).0; day = day i; hour = t.1 i; min = t.2 i; sec = t.3 i; wday = weekday i }

module _ (date : HttpDate) (secs : ℕ) (is : unix_secs date ≡ secs) where
  is_date : IsDateOf secs date.parts
  is_date = record { civil = date.civil; time = date.time; second = is; weekday_is = date.right_day }

  pub date_is : secs < 253402300800 → Some (date_text date) ≡ date_text_of secs
  unfolding date_text_of
  date_is below = ap (λ (p : Parts). Some (imf_fixdate p)) (sym (parts_are secs date.parts is_date))
      ∙ sym (cond-true _ _ _ (lt-ltb secs 253402300800 below))

not_below : (secs end : ℕ) (b : Bool) → nat_lt secs end ≡ b → (secs < end → false ≡ true) → end ≤ secs
not_below secs end true less never = let wrong = never (ltb-true secs end less) in absurd (cc)
not_below secs end false more never = ltb-false secs end more

pub no_date : (secs : ℕ) → (secs < 253402300800 → false ≡ true) → None ≡ date_text_of secs
unfolding date_text_of
no_date secs never = sym (cond-false _ _ _ (le-ltb secs 253402300800 (not_below secs 253402300800 (nat_lt secs 253402300800) refl never)))
