-- Rows of lines and their diagnostics. A program in another language gave the expected values.
use Rattle.std.proofs.Common.{◌≡◌, ℕ, List, [], ◌∷◌, ◌++◌, Option, None, Some, refl}
use Rattle.std.specs.Prelude.{codes}
use Rattle.std.specs.List.{AllByRecursion}
use Rattle.redo_line.specs.Decimal.{number}
use Rattle.redo_line.specs.Parts.{after_prefix, split_once}
use Rattle.redo_html.specs.Symbols.{is_sequence, sequence_len}
use Rattle.redo_diagnostics.specs.declared.severity.Severity.{Severity}
use Rattle.redo_diagnostics.specs.declared.severity.Severity.TheVariants.{Warning, Error, FatalError}
use Rattle.redo_diagnostics.specs.Diagnostic.{DiagnosticValue, PlaceValue, before_bracket, diagnostic_of, first_place, masked_after, place_of, split_flag}
use Rattle.redo_diagnostics.specs.Plain.{plain_after}

record Row : Type 0 where
  line : List ℕ
  value : Option DiagnosticValue

abbrev at : List ℕ → ℕ → Option ℕ → Option PlaceValue
at file row column = Some (record { file = file; row = row; column = column })

abbrev gives : List ℕ → Severity → Option PlaceValue → List ℕ → Option (List ℕ) → List ℕ → Row
gives line severity place message flag key =
    record { line = line; value = Some (record { severity = severity; place = place; message = message; flag = flag; key = key }) }

abbrev none : List ℕ → Row
none line = record { line = line; value = None }

abbrev HasValue : Row → Type 0
HasValue row = diagnostic_of row.line ≡ row.value

-- Words, and lines without one.
abbrev words : List Row
words =
    gives (codes "a.c:1:10: fatal error: missing.h: No such file or directory")
    FatalError (at (codes "a.c") 1 (Some 10)) (codes "missing.h: No such file or directory")
    None (codes "a.c: fatal error: missing.h: No such file or directory") ∷
    none (codes "b.c:1:80: note: each undeclared identifier is reported only once") ∷
    gives (codes "warning: x")
    Warning None (codes "x") None (codes ": warning: x") ∷
    gives (codes "error:")
    Error None [] None (codes ": error:") ∷
    none (codes "error:x") ∷
    none (codes "xwarning: y") ∷
    gives (codes "warning:y warning: z")
    Warning None (codes "z") None (codes "warning: warning: z") ∷
    gives (codes "a:  warning: b")
    Warning None (codes "b") None (codes "a: warning: b") ∷
    gives (codes "a warning:")
    Warning None [] None (codes ": warning:") ∷
    gives (codes "a: xfatal error: m")
    Error None (codes "m") None (codes "a: error: m") ∷
    gives (codes "a: fatal error: m")
    FatalError None (codes "m") None (codes "a: fatal error: m") ∷
    gives (codes "a: warning: error: m")
    Warning None (codes "error: m") None (codes "a: warning: error: m") ∷
    gives (codes "a: error: warning: m")
    Error None (codes "warning: m") None (codes "a: error: warning: m") ∷
    none [] ∷
    []

these_words : AllByRecursion HasValue words
unfolding after_prefix split_once number is_sequence sequence_len plain_after first_place place_of before_bracket
    split_flag masked_after diagnostic_of
these_words = (refl, (refl, (refl, (refl, (refl, (refl, (refl, (refl, (refl, (refl, (refl, (refl, (refl, (refl, tt))))))))))))))

-- Places.
abbrev places : List Row
places =
    gives (codes "collect2: error: ld returned 1 exit status")
    Error None (codes "ld returned 1 exit status") None (codes "collect2: error: ld returned 1 exit status") ∷
    gives (codes "Makefile:3: warning: overriding recipe for target 'a'")
    Warning (at (codes "Makefile") 3 None) (codes "overriding recipe for target 'a'")
    None (codes "Makefile: warning: overriding recipe for target 'a'") ∷
    gives (codes "x:1234567890: error: m")
    Error None (codes "m") None (codes "x: error: m") ∷
    gives (codes "x:1:1234567890: error: m")
    Error None (codes "m") None (codes "x: error: m") ∷
    gives (codes "x:123456789:123456789: error: m")
    Error (at (codes "x") 123456789 (Some 123456789)) (codes "m") None (codes "x: error: m") ∷
    gives (codes ":1: error: m")
    Error None (codes "m") None (codes ": error: m") ∷
    gives (codes "x:a:1: warning: m")
    Warning None (codes "m") None (codes "x: warning: m") ∷
    gives (codes "x:1:a: warning: m")
    Warning None (codes "m") None (codes "x: warning: m") ∷
    gives (codes "x:1:2:3: error: m")
    Error None (codes "m") None (codes "x: error: m") ∷
    gives (codes "x:1:  error: m")
    Error None (codes "m") None (codes "x: error: m") ∷
    gives (codes "x:: error: m")
    Error None (codes "m") None (codes "x: error: m") ∷
    gives (codes "x:12: error:")
    Error (at (codes "x") 12 None) [] None (codes "x: error:") ∷
    []

these_places : AllByRecursion HasValue places
unfolding after_prefix split_once number is_sequence sequence_len plain_after first_place place_of before_bracket
    split_flag masked_after diagnostic_of
these_places = (refl, (refl, (refl, (refl, (refl, (refl, (refl, (refl, (refl, (refl, (refl, (refl, tt))))))))))))

-- Flags.
abbrev flags : List Row
flags =
    gives (codes "ld: warning: a.o: x [y] z")
    Warning None (codes "a.o: x [y] z") None (codes "ld: warning: a.o: x [y] z") ∷
    gives (codes "x:1:2: warning: m [-W] ")
    Warning (at (codes "x") 1 (Some 2)) (codes "m [-W] ") None (codes "x: warning: m [-W] ") ∷
    gives (codes "a: error: m [b] [c]")
    Error None (codes "m [b]") (Some (codes "c")) (codes "a: error: m [b] [c]") ∷
    gives (codes "a: error: m [b]c]")
    Error None (codes "m [b]c]") None (codes "a: error: m [b]c]") ∷
    gives (codes "a: error: m [b[c]")
    Error None (codes "m [b[c]") None (codes "a: error: m [b[c]") ∷
    gives (codes "a: error: m[b]")
    Error None (codes "m[b]") None (codes "a: error: m[b]") ∷
    gives (codes "a: error: m []")
    Error None (codes "m []") None (codes "a: error: m []") ∷
    gives (codes "a: error: [b]")
    Error None (codes "[b]") None (codes "a: error: [b]") ∷
    gives (codes "a: error:  [b]")
    Error None [] (Some (codes "b")) (codes "a: error:  [b]") ∷
    gives (codes "a: error: m [b")
    Error None (codes "m [b") None (codes "a: error: m [b") ∷
    []

these_flags : AllByRecursion HasValue flags
unfolding after_prefix split_once number is_sequence sequence_len plain_after first_place place_of before_bracket
    split_flag masked_after diagnostic_of
these_flags = (refl, (refl, (refl, (refl, (refl, (refl, (refl, (refl, (refl, (refl, tt))))))))))

-- Origins and names of temporary files.
abbrev keys : List Row
keys =
    gives (codes "/usr/bin/ld: /tmp/ccVGBeAi.o: warning: in /tmp/cc123456.o /cc1234567. /cc12345.o")
    Warning None (codes "in /tmp/cc123456.o /cc1234567. /cc12345.o")
    None (codes "/usr/bin/ld: warning: in /tmp/cc*.o /cc1234567. /cc12345.o") ∷
    gives (codes "/tmp/cc123456.o: error: m")
    Error None (codes "m") None (codes "/tmp/cc*.o: error: m") ∷
    gives (codes "/cc123456.o: warning: /cc12/456.o")
    Warning None (codes "/cc12/456.o") None (codes "/cc*.o: warning: /cc12/456.o") ∷
    gives (codes "a: error: /tmp/cc123456.o/tmp/ccabcdef.o /cc/ccaaaaaa. /xc123456.o /cx123456.o tcc123456.o /cc123456-o")
    Error None (codes "/tmp/cc123456.o/tmp/ccabcdef.o /cc/ccaaaaaa. /xc123456.o /cx123456.o tcc123456.o /cc123456-o")
    None (codes "a: error: /tmp/cc*.o/tmp/cc*.o /cc/cc*. /xc123456.o /cx123456.o tcc123456.o /cc123456-o") ∷
    gives (codes "[ 3%] warning: m")
    Warning None (codes "m") None (codes ": warning: m") ∷
    gives (codes "a.c:7: b.h: error: m")
    Error None (codes "m") None (codes "a.c: error: m") ∷
    []

these_keys : AllByRecursion HasValue keys
unfolding after_prefix split_once number is_sequence sequence_len plain_after first_place place_of before_bracket
    split_flag masked_after diagnostic_of
these_keys = (refl, (refl, (refl, (refl, (refl, (refl, tt))))))

-- Colours.
abbrev colours : List Row
colours =
    gives (27 ∷ codes "[01m" ++ 27 ∷ codes "[Kb.c:1:66:" ++ 27 ∷ codes "[m" ++ 27 ∷ codes "[K " ++ 27 ∷ codes "[01;35m" ++
    27 ∷ codes "[Kwarning: " ++ 27 ∷ codes "[m" ++ 27 ∷ codes "[Kunused p [" ++ 27 ∷ codes "[01;35m" ++
    27 ∷ codes "[K-Wunused-variable" ++ 27 ∷ codes "[m" ++ 27 ∷ codes "[K]")
    Warning (at (codes "b.c") 1 (Some 66)) (codes "unused p")
    (Some (codes "-Wunused-variable")) (codes "b.c: warning: unused p [-Wunused-variable]") ∷
    gives (27 ∷ codes "[1ma: war" ++ 27 ∷ codes "[0mning: m")
    Warning None (codes "m") None (codes "a: warning: m") ∷
    gives (codes "a[1m: error: m")
    Error None (codes "m") None (codes "a[1m: error: m") ∷
    gives (codes "a: error: m" ++ 27 ∷ codes "[1")
    Error None (codes "m" ++ 27 ∷ codes "[1") None (codes "a: error: m" ++ 27 ∷ codes "[1") ∷
    gives (27 ∷ codes "[xa: error: m")
    Error None (codes "m") None (27 ∷ codes "[xa: error: m") ∷
    gives (27 ∷ codes "[1;2Ka: error: m")
    Error None (codes "m") None (codes "a: error: m") ∷
    gives (27 ∷ 27 ∷ codes "[ma: error: m")
    Error None (codes "m") None (27 ∷ codes "a: error: m") ∷
    gives (27 ∷ 27 ∷ codes "[m[1ma: error: m")
    Error None (codes "m") None (27 ∷ codes "[1ma: error: m") ∷
    []

these_colours : AllByRecursion HasValue colours
unfolding after_prefix split_once number is_sequence sequence_len plain_after first_place place_of before_bracket
    split_flag masked_after diagnostic_of
these_colours = (refl, (refl, (refl, (refl, (refl, (refl, (refl, (refl, tt))))))))

-- Links, as compilers write them: with BEL or `ESC \` at their ends, with and without parameters.
abbrev links : List Row
links =
    gives (27 ∷ codes "]8;;file://host/src/b.c" ++ 7 ∷ codes "b.c" ++ 27 ∷ codes "]8;;" ++ 7 ∷ codes ":1:2: error: m")
    Error (at (codes "b.c") 1 (Some 2)) (codes "m")
    None (codes "b.c: error: m") ∷
    gives (27 ∷ codes "[01m" ++ 27 ∷ codes "[K" ++ 27 ∷ codes "]8;;file://host/src/b.c" ++ 7 ∷ codes "b.c" ++
    27 ∷ codes "]8;;" ++ 7 ∷ codes ":1:2:" ++ 27 ∷ codes "[m" ++ 27 ∷ codes "[K " ++ 27 ∷ codes "[01;31m" ++
    27 ∷ codes "[Kerror: " ++ 27 ∷ codes "[m" ++ 27 ∷ codes "[Km")
    Error (at (codes "b.c") 1 (Some 2)) (codes "m")
    None (codes "b.c: error: m") ∷
    gives (27 ∷ codes "]8;;file://host/src/b.c" ++ 27 ∷ codes "\\b.c" ++ 27 ∷ codes "]8;;" ++ 27 ∷ codes "\\:1:2: error: m")
    Error (at (codes "b.c") 1 (Some 2)) (codes "m")
    None (codes "b.c: error: m") ∷
    gives (27 ∷ codes "]8;id=x;file://host/src/b.c" ++ 7 ∷ codes "b.c" ++ 27 ∷ codes "]8;;" ++ 7 ∷ codes ":1: warning: m")
    Warning (at (codes "b.c") 1 None) (codes "m")
    None (codes "b.c: warning: m") ∷
    gives (27 ∷ codes "]8;id=x:y=z;file://host/src/b.c" ++ 27 ∷ codes "\\b.c" ++ 27 ∷ codes "]8;;" ++
    27 ∷ codes "\\:1:2: fatal error: m")
    FatalError (at (codes "b.c") 1 (Some 2)) (codes "m")
    None (codes "b.c: fatal error: m") ∷
    gives (codes "a: warning: m [" ++ 27 ∷ codes "]8;;https://gcc.gnu.org/-W;x" ++ 7 ∷ codes "-Wx" ++ 27 ∷ codes "]8;;" ++
    27 ∷ codes "\\]")
    Warning None (codes "m")
    (Some (codes "-Wx")) (codes "a: warning: m [-Wx]") ∷
    gives (codes "a: war" ++ 27 ∷ codes "]8;;" ++ 27 ∷ codes "\\ning: m")
    Warning None (codes "m")
    None (codes "a: warning: m") ∷
    []

these_links : AllByRecursion HasValue links
unfolding after_prefix split_once number is_sequence sequence_len plain_after first_place place_of before_bracket
    split_flag masked_after diagnostic_of
these_links = (refl, (refl, (refl, (refl, (refl, (refl, (refl, tt)))))))

-- What looks like the start of a link, but is none.
abbrev others : List Row
others =
    gives (27 ∷ codes "]8;;file://host/src/b.c b.c:1:2: error: m")
    Error None (codes "m")
    None (27 ∷ codes "]8;;file: error: m") ∷
    gives (27 ∷ codes "]8;;u" ++ 27 ∷ codes "[1m" ++ 7 ∷ codes "a: error: m")
    Error None (codes "m")
    None (27 ∷ codes "]8;;u" ++ 7 ∷ codes "a: error: m") ∷
    gives (27 ∷ codes "]8;;u" ++ 27 ∷ codes "]a: error: m")
    Error None (codes "m")
    None (27 ∷ codes "]8;;u" ++ 27 ∷ codes "]a: error: m") ∷
    gives (27 ∷ codes "]8;;u" ++ 7 ∷ 27 ∷ codes "]8;;u x" ++ 7 ∷ codes "a: error: m")
    Error None (codes "m")
    None (27 ∷ codes "]8;;u x" ++ 7 ∷ codes "a: error: m") ∷
    gives (27 ∷ codes "]8;;" ++ 195 ∷ 169 ∷ 7 ∷ codes "a: error: m")
    Error None (codes "m")
    None (27 ∷ codes "]8;;" ++ 195 ∷ 169 ∷ 7 ∷ codes "a: error: m") ∷
    gives (27 ∷ codes "]8;;" ++ 127 ∷ 7 ∷ codes "a: error: m")
    Error None (codes "m")
    None (27 ∷ codes "]8;;" ++ 127 ∷ 7 ∷ codes "a: error: m") ∷
    gives (27 ∷ codes "]8;u" ++ 7 ∷ codes "a: error: m")
    Error None (codes "m")
    None (27 ∷ codes "]8;u" ++ 7 ∷ codes "a: error: m") ∷
    gives (27 ∷ codes "]9;;u" ++ 7 ∷ codes "a: error: m")
    Error None (codes "m")
    None (27 ∷ codes "]9;;u" ++ 7 ∷ codes "a: error: m") ∷
    gives (27 ∷ codes "]8;;u" ++ 7 ∷ codes "a: error: m" ++ 27 ∷ codes "]8;;u" ++ 27 ∷ [])
    Error None (codes "m" ++ 27 ∷ codes "]8;;u" ++ 27 ∷ [])
    None (codes "a: error: m" ++ 27 ∷ codes "]8;;u" ++ 27 ∷ []) ∷
    gives (255 ∷ 27 ∷ codes "[m" ++ 195 ∷ 27 ∷ codes "]8;;" ++ 7 ∷ 169 ∷ codes ": error: m")
    Error None (codes "m")
    None (255 ∷ 195 ∷ 169 ∷ codes ": error: m") ∷
    []

these_others : AllByRecursion HasValue others
unfolding after_prefix split_once number is_sequence sequence_len plain_after first_place place_of before_bracket
    split_flag masked_after diagnostic_of
these_others = (refl, (refl, (refl, (refl, (refl, (refl, (refl, (refl, (refl, (refl, tt))))))))))
