-- Rows of dates. Python's `email.utils.formatdate` gives the same texts.
use Rattle.std.proofs.Common.{◌≡◌, ℕ, List, [], ◌∷◌, Option, Some, None, refl}
use Rattle.std.specs.Prelude.{codes}
use Rattle.std.specs.List.{AllByRecursion}
use Rattle.redo_units.specs.Dates.{date_parts, date_text_of, period_of}

record Row : Type 0 where
  secs : ℕ
  text : Option (List ℕ)

abbrev dates : ℕ → List ℕ → Row
dates secs text = record { secs = secs; text = Some text }

abbrev none_at : ℕ → Row
none_at secs = record { secs = secs; text = None }

abbrev place : ℕ → ℕ → ℕ × ℕ
place period days = (period, days)

-- A period of two days, then one of three, and so on.
periods :
    (period_of (λ n. n) 9 2 0 ≡ place 2 0) × (period_of (λ n. n) 9 2 1 ≡ place 2 1) × (period_of (λ n. n) 9 2 2 ≡ place 3 0)
    × (period_of (λ n. n) 9 2 4 ≡ place 3 2) × (period_of (λ n. n) 9 2 5 ≡ place 4 0) × (period_of (λ n. n) 1 2 9 ≡ place 3 7)
    × (period_of (λ n. n) 0 2 9 ≡ place 2 9)
unfolding period_of
periods = (refl, refl, refl, refl, refl, refl, refl)

-- Ends of months, leap days, and other dates until 2400.
abbrev early_dates : List Row
early_dates =
    dates 0 (codes "Thu, 01 Jan 1970 00:00:00 GMT") ∷
    dates 86399 (codes "Thu, 01 Jan 1970 23:59:59 GMT") ∷
    dates 86400 (codes "Fri, 02 Jan 1970 00:00:00 GMT") ∷
    dates 31535999 (codes "Thu, 31 Dec 1970 23:59:59 GMT") ∷
    dates 31536000 (codes "Fri, 01 Jan 1971 00:00:00 GMT") ∷
    dates 68126400 (codes "Mon, 28 Feb 1972 12:00:00 GMT") ∷
    dates 68169600 (codes "Tue, 29 Feb 1972 00:00:00 GMT") ∷
    dates 68256000 (codes "Wed, 01 Mar 1972 00:00:00 GMT") ∷
    dates 94611723 (codes "Sun, 31 Dec 1972 01:02:03 GMT") ∷
    dates 94694400 (codes "Mon, 01 Jan 1973 00:00:00 GMT") ∷
    dates 99705600 (codes "Wed, 28 Feb 1973 00:00:00 GMT") ∷
    dates 99792000 (codes "Thu, 01 Mar 1973 00:00:00 GMT") ∷
    dates 946684799 (codes "Fri, 31 Dec 1999 23:59:59 GMT") ∷
    dates 951827696 (codes "Tue, 29 Feb 2000 12:34:56 GMT") ∷
    dates 951868800 (codes "Wed, 01 Mar 2000 00:00:00 GMT") ∷
    dates 978220800 (codes "Sun, 31 Dec 2000 00:00:00 GMT") ∷
    dates 1000000000 (codes "Sun, 09 Sep 2001 01:46:40 GMT") ∷
    dates 1777538977 (codes "Thu, 30 Apr 2026 08:49:37 GMT") ∷
    dates 1780185600 (codes "Sun, 31 May 2026 00:00:00 GMT") ∷
    dates 1782777600 (codes "Tue, 30 Jun 2026 00:00:00 GMT") ∷
    dates 1785456000 (codes "Fri, 31 Jul 2026 00:00:00 GMT") ∷
    dates 1788134400 (codes "Mon, 31 Aug 2026 00:00:00 GMT") ∷
    dates 1790726400 (codes "Wed, 30 Sep 2026 00:00:00 GMT") ∷
    dates 1793404800 (codes "Sat, 31 Oct 2026 00:00:00 GMT") ∷
    dates 1795829211 (codes "Sat, 28 Nov 2026 01:26:51 GMT") ∷
    dates 2147483648 (codes "Tue, 19 Jan 2038 03:14:08 GMT") ∷
    dates 2466565567 (codes "Sat, 29 Feb 2048 05:06:07 GMT") ∷
    dates 3981311999 (codes "Tue, 28 Feb 2096 23:59:59 GMT") ∷
    dates 3981312000 (codes "Wed, 29 Feb 2096 00:00:00 GMT") ∷
    dates 3981398400 (codes "Thu, 01 Mar 2096 00:00:00 GMT") ∷
    dates 4007836799 (codes "Mon, 31 Dec 2096 23:59:59 GMT") ∷
    dates 4007836800 (codes "Tue, 01 Jan 2097 00:00:00 GMT") ∷
    dates 4107542399 (codes "Sun, 28 Feb 2100 23:59:59 GMT") ∷
    dates 4107542400 (codes "Mon, 01 Mar 2100 00:00:00 GMT") ∷
    dates 7263215999 (codes "Fri, 28 Feb 2200 23:59:59 GMT") ∷
    dates 7263216000 (codes "Sat, 01 Mar 2200 00:00:00 GMT") ∷
    dates 9999999999 (codes "Sat, 20 Nov 2286 17:46:39 GMT") ∷
    dates 10000000000 (codes "Sat, 20 Nov 2286 17:46:40 GMT") ∷
    dates 13574563200 (codes "Tue, 29 Feb 2400 00:00:00 GMT") ∷
    []

these_dates : AllByRecursion (λ row. date_text_of row.secs ≡ row.text) early_dates
unfolding date_text_of date_parts period_of
these_dates = (
  refl,
  (
    refl,
    (
      refl,
      (
        refl,
        (
          refl,
          (
            refl,
            (
              refl,
              (
                refl,
                (
                  refl,
                  (
                    refl,
                    (
                      refl,
                      (
                        refl,
                        (
                          refl,
                          (
                            refl,
                            (
                              refl,
                              (
                                refl,
                                (
                                  refl,
                                  (
                                    refl,
                                    (
                                      refl,
                                      (
                                        refl,
                                        (
                                          refl,
                                          (
                                            refl,
                                            (
                                              refl,
                                              (
                                                refl,
                                                (
                                                  refl,
                                                  (
                                                    refl,
                                                    (
                                                      refl,
                                                      (
                                                        refl,
                                                        (
                                                          refl,
                                                          (
                                                            refl,
                                                            (
                                                              refl,
                                                              (refl, (refl, (refl, (refl, (refl, (refl, (refl, (refl, tt)))))))),
                                                            ),
                                                          ),
                                                        ),
                                                      ),
                                                    ),
                                                  ),
                                                ),
                                              ),
                                            ),
                                          ),
                                        ),
                                      ),
                                    ),
                                  ),
                                ),
                              ),
                            ),
                          ),
                        ),
                      ),
                    ),
                  ),
                ),
              ),
            ),
          ),
        ),
      ),
    ),
  ),
)

-- The last date, and no date from the year 10000 on. 2^64 - 1 is the largest number of seconds.
abbrev late_dates : List Row
late_dates =
    dates 253402300799 (codes "Fri, 31 Dec 9999 23:59:59 GMT") ∷
    none_at 253402300800 ∷
    none_at 18446744073709551615 ∷
    []

those_dates : AllByRecursion (λ row. date_text_of row.secs ≡ row.text) late_dates
unfolding date_text_of date_parts period_of
those_dates = (refl, (refl, (refl, tt)))
