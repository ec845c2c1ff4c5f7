-- Rows of outputs, and of the lines that tell best why their targets failed.
use Rattle.std.proofs.Common.{◌≡◌, ℕ, List, [], ◌∷◌, ◌++◌, Option, None, Some, refl}
use Rattle.std.specs.Prelude.{codes}
use Rattle.std.specs.List.{AllByRecursion}
use Rattle.redo_html.specs.Symbols.{is_sequence, sequence_len}
use Rattle.redo_diagnostics.specs.Plain.{plain_after}
use Rattle.redo_page.specs.Errors.{begins_with, cause_of}

record Row : Type 0 where
  lines : List (List ℕ)
  cause : Option (List ℕ)

abbrev found : List (List ℕ) → List ℕ → Row
found lines cause = record { lines = lines; cause = Some cause }

abbrev esc : List ℕ → List ℕ
esc text = 27 ∷ text

-- A compiler, with colours and without. Echoed commands report no error.
abbrev compilers : List Row
compilers =
    found (codes "cc -Werror -c error_list.c" ∷ codes "a.c: In function 'main':" ∷ codes "a.c:3:5: error: 'x' undeclared"
    ∷ codes "make: *** [a.o] Error 1" ∷ [])
    (codes "a.c:3:5: error: 'x' undeclared")
    ∷ found ((esc (codes "[01m") ++ (esc (codes "[K") ++ codes "a.c:"))
    ∷ (esc (codes "[01;31m") ++ (esc (codes "[K") ++ (codes "error: " ++ esc (codes "[m")))) ∷ codes "last" ∷ [])
    (esc (codes "[01;31m") ++ (esc (codes "[K") ++ (codes "error: " ++ esc (codes "[m"))))
    ∷ found (codes "error[E0425]: cannot find value" ∷ codes "last" ∷ []) (codes "error[E0425]: cannot find value")
    ∷ found (codes "x.java:1: cannot find symbol" ∷ codes "last" ∷ []) (codes "x.java:1: cannot find symbol")
    ∷ found (codes "ERROR in ./a.js" ∷ codes "last" ∷ []) (codes "ERROR in ./a.js")
    ∷ found (codes "a.c:1:5: warning: unused 'x'" ∷ codes "a.c:2:5: note: in 'f'" ∷ codes "a.c:3:5: error: 'y' undeclared" ∷ codes "last"
    ∷ []) (codes "a.c:3:5: error: 'y' undeclared")
    ∷ found (codes "a.c:1:10: fatal error: b.h" ∷ codes "last" ∷ []) (codes "a.c:1:10: fatal error: b.h")
    ∷ found (codes "fatal: not a git repository" ∷ codes "last" ∷ []) (codes "fatal: not a git repository")
    ∷ []

abbrev linkers : List Row
linkers =
    found (codes "/usr/bin/ld: a.o: in function `main':" ∷ codes "a.c:(.text+0x5): undefined reference to `f'"
    ∷ codes "collect2: error: ld returned 1 exit status" ∷ [])
    (codes "a.c:(.text+0x5): undefined reference to `f'")
    ∷ found (codes "/usr/bin/ld: cannot find -lm" ∷ codes "last" ∷ []) (codes "/usr/bin/ld: cannot find -lm")
    ∷ []

abbrev shells : List Row
shells =
    found (codes "sh: 1: cc: not found" ∷ codes "last" ∷ []) (codes "sh: 1: cc: not found")
    ∷ found (codes "cp: 'a': No such file or directory" ∷ codes "last" ∷ []) (codes "cp: 'a': No such file or directory")
    ∷ []

abbrev tests : List Row
tests =
    found (codes "PASS: a" ∷ codes "FAIL: b" ∷ codes "# FAIL:  1" ∷ []) (codes "FAIL: b")
    ∷ found (codes "=== RUN   TestA" ∷ codes "--- FAIL: TestA (0.00s)" ∷ codes "exit status 1" ∷ []) (codes "--- FAIL: TestA (0.00s)")
    ∷ found (codes "test a ... FAILED" ∷ codes "last" ∷ []) (codes "test a ... FAILED")
    ∷ []

-- Outputs in which no line reports an error: the last line that isn't blank. Words count as a whole, at any position in a line.
abbrev others : List Row
others =
    found (codes "Traceback (most recent call last):" ∷ codes "ModuleNotFoundError: No module named 'x'" ∷ [])
    (codes "ModuleNotFoundError: No module named 'x'")
    ∷ found (codes "no errors, terror, error_1, 1error, fatally, cannots, no such files" ∷ codes "last" ∷ []) (codes "last")
    ∷ found (codes "failed, Fail" ∷ codes "last" ∷ []) (codes "last")
    ∷ found (codes "warning: x" ∷ codes "note: y" ∷ codes "failed: z" ∷ codes "last" ∷ []) (codes "last")
    ∷ found (codes "no such" ∷ codes "not foun" ∷ codes "last" ∷ []) (codes "last")
    ∷ found (codes "last" ∷ [] ∷ (32 ∷ 9 ∷ 13 ∷ []) ∷ (esc (codes "[0m") ++ 32 ∷ []) ∷ []) (codes "last")
    ∷ found (codes "first" ∷ codes "  last" ∷ []) (codes "  last")
    ∷ found (codes "an error" ∷ codes "last" ∷ []) (codes "an error")
    ∷ found (esc (codes "[1merror") ∷ codes "last" ∷ []) (esc (codes "[1merror"))
    ∷ found (esc (codes "error") ∷ codes "last" ∷ []) (esc (codes "error"))
    ∷ record { lines = []; cause = None }
    ∷ record { lines = (32 ∷ []) ∷ []; cause = None }
    ∷ []

causes_are : AllByRecursion (λ row. cause_of row.lines ≡ row.cause) (compilers ++ (linkers ++ (shells ++ (tests ++ others))))
unfolding begins_with is_sequence plain_after sequence_len
causes_are = (
  refl,
  (
    refl,
    (
      refl,
      (
        refl,
        (
          refl,
          (
            refl,
            (
              refl,
              (
                refl,
                (
                  refl,
                  (
                    refl,
                    (
                      refl,
                      (
                        refl,
                        (
                          refl,
                          (
                            refl,
                            (refl, (refl, (refl, (refl, (refl, (refl, (refl, (refl, (refl, (refl, (refl, (refl, (refl, tt))))))))))))),
                          ),
                        ),
                      ),
                    ),
                  ),
                ),
              ),
            ),
          ),
        ),
      ),
    ),
  ),
)
