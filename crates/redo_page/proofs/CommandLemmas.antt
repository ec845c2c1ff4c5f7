-- Lemmas about the command that writes the same logs as one text.
use Rattle.std.proofs.Common.{◌≡◌, ℕ, ◌+◌, ◌/◌, ◌<◌, Bool, true, false, cond, List, [], ◌∷◌, ◌++◌, refl, ◌∙◌, arith}
use Rattle.std.specs.Prelude.{◌==◌, ◌||◌, ◌&&◌, not, nat_eq, codes}
use Rattle.std.specs.List.{flat_map, list_all, starts_with}
use Rattle.std.proofs.lemmas.Bool.{agree_below_at, and_parts, and_from, cond_both, ltb-true}
use Rattle.std.proofs.lemmas.Bool.Decides.{nat_tests}
use Rattle.std.proofs.lemmas.List.Folds.{list_all-append}
use Rattle.redo_html.specs.declared.text_kind.TextKind.TheVariants.{Monochrome}
use Rattle.redo_html.specs.Laws.{is_byte, is_printable_ascii}
use Rattle.redo_html.specs.Shown.{is_printable, shown_text}
use Rattle.redo_options.specs.declared.options.Options.{Options}
use Rattle.redo_page.specs.Command.{argument, command, command_in, format_byte, in_quotes, is_safe, is_safe_word, octal, printed, quoted, quoted_byte, text_if}

append_all : (test : ℕ → Bool) (one other : List ℕ) → list_all test one ≡ true → list_all test other ≡ true
    → list_all test (one ++ other) ≡ true
append_all test one other first second = list_all-append test one other ∙ and_from (list_all test one) (list_all test other) first second

flat_map_all : {X : Type 0} (test : ℕ → Bool) (has : X → Bool) (f : X → List ℕ) → ((x : X) → has x ≡ true → list_all test (f x) ≡ true)
    → (xs : List X) → list_all has xs ≡ true → list_all test (flat_map f xs) ≡ true
flat_map_all test has f each [] all = refl
flat_map_all test has f each (x ∷ xs) all =
    let parts = and_parts (has x) (list_all has xs) all in
    append_all test (f x) (flat_map f xs) (each x parts.0) (flat_map_all test has f each xs parts.1)

-- ---- the command, by a test of its bytes

-- What makes all bytes of a command pass a test: its fixed texts do, and so do its words.
module _ (test : ℕ → Bool) (ascii : Bool) (fixed : (byte : ℕ) → is_printable_ascii byte ≡ true → test byte ≡ true)
    (words : (word : List ℕ) → list_all is_byte word ≡ true → list_all test (quoted ascii word) ≡ true) where
  fixed_all : (text : List ℕ) → list_all is_printable_ascii text ≡ true → list_all test text ≡ true
  fixed_all [] all = refl
  fixed_all (byte ∷ bytes) all =
      let parts = and_parts (is_printable_ascii byte) (list_all is_printable_ascii bytes) all in
      and_from (test byte) (list_all test bytes) (fixed byte parts.0) (fixed_all bytes parts.1)

  text_if_all : (condition : Bool) (text : List ℕ) → list_all is_printable_ascii text ≡ true → list_all test (text_if condition text) ≡ true
  text_if_all true text all = fixed_all text all
  text_if_all false text all = refl

  argument_all : (name : List ℕ) → list_all is_byte name ≡ true → list_all test (argument ascii name) ≡ true
  argument_all name bytes =
      append_all test (codes " ") _ (fixed_all (codes " ") refl)
      (append_all test (cond (starts_with nat_eq name (codes "-")) (codes "./") []) (quoted ascii name)
      (text_if_all (starts_with nat_eq name (codes "-")) (codes "./") refl) (words name bytes))

  command_all : (dir : List ℕ) (options : Options) (requested : List (List ℕ)) → list_all is_byte dir ≡ true
      → list_all (λ name. list_all is_byte name) requested ≡ true → list_all test (command_in ascii dir options requested) ≡ true
  command_all dir options requested of_dir of_names =
      append_all test (codes "redo-log -r") _ (fixed_all (codes "redo-log -r") refl)
      (append_all test (text_if options.unchanged (codes " -u")) _ (text_if_all options.unchanged (codes " -u") refl)
      (append_all test (text_if options.debug_locks (codes " --debug-locks")) _
      (text_if_all options.debug_locks (codes " --debug-locks") refl)
      (append_all test (codes " --dir=") _ (fixed_all (codes " --dir=") refl)
      (append_all test (quoted ascii dir) (flat_map (argument ascii) requested) (words dir of_dir)
      (flat_map_all test (λ name. list_all is_byte name) (argument ascii) argument_all requested of_names)))))

-- ---- words

-- What holds of each number below 128 that passes one test.
ascii_below : (byte : ℕ) → is_printable_ascii byte ≡ true → byte < 127
ascii_below byte ascii = grind (arith, nat_tests)

safe_below : (byte : ℕ) → is_safe byte ≡ true → byte < 128
unfolding is_safe
safe_below byte safe = grind (arith, nat_tests)

safe_ascii : (byte : ℕ) → is_safe byte ≡ true → is_printable_ascii byte ≡ true
unfolding is_safe
safe_ascii byte safe = grind (arith, nat_tests)

ascii_byte : (byte : ℕ) → is_printable_ascii byte ≡ true → is_byte byte ≡ true
ascii_byte byte ascii = grind (arith, nat_tests)

weaker : (test other : ℕ → Bool) → ((byte : ℕ) → test byte ≡ true → other byte ≡ true) → (bytes : List ℕ) → list_all test bytes ≡ true
    → list_all other bytes ≡ true
weaker test other each [] all = refl
weaker test other each (byte ∷ bytes) all =
    let parts = and_parts (test byte) (list_all test bytes) all in
    and_from (other byte) (list_all other bytes) (each byte parts.0) (weaker test other each bytes parts.1)

-- A word in quotes passes a test if the word does, and ASCII does.
quotes_all : (test : ℕ → Bool) → ((byte : ℕ) → is_printable_ascii byte ≡ true → test byte ≡ true) → (word : List ℕ)
    → list_all test word ≡ true → list_all test (in_quotes word) ≡ true
quotes_all test fixed word all =
    and_from (test 39) (list_all test (flat_map quoted_byte word ++ 39 ∷ [])) (fixed 39 refl)
    (append_all test (flat_map quoted_byte word) (39 ∷ []) (flat_map_all test test quoted_byte each word all)
    (weaker is_printable_ascii test fixed (39 ∷ []) refl))
  where
    each : (byte : ℕ) → test byte ≡ true → list_all test (quoted_byte byte) ≡ true
    each byte passes = cond_both (byte == 39) (codes "'\\''") (byte ∷ []) (λ text. list_all test text ≡ true)
        (λ quote. weaker is_printable_ascii test fixed (codes "'\\''") refl) (λ other. and_from (test byte) true passes refl)

octal_ascii : (byte : ℕ) → is_byte byte ≡ true → list_all is_printable_ascii (octal byte) ≡ true
octal_ascii byte is =
    agree_below_at (λ b. list_all is_printable_ascii (octal b)) (λ b. true) 256 byte refl (ltb-true byte 256 is)

format_ascii : (byte : ℕ) → is_byte byte ≡ true → list_all is_printable_ascii (format_byte byte) ≡ true
format_ascii byte is = cond_both (is_safe byte && not (byte == 37 || byte == 45)) (byte ∷ []) (octal byte)
    (λ text. list_all is_printable_ascii text ≡ true)
    (λ literal. and_from (is_printable_ascii byte) true
    (safe_ascii byte (and_parts (is_safe byte) (not (byte == 37 || byte == 45)) literal).0) refl) (λ other. octal_ascii byte is)

printed_ascii : (word : List ℕ) → list_all is_byte word ≡ true → list_all is_printable_ascii (printed word) ≡ true
printed_ascii word bytes =
    append_all is_printable_ascii (codes "\"$(printf '") (flat_map format_byte word ++ codes "')\"") refl
    (append_all is_printable_ascii (flat_map format_byte word) (codes "')\"")
    (flat_map_all is_printable_ascii is_byte format_byte format_ascii word bytes) refl)

safe_word : (test : ℕ → Bool) → ((byte : ℕ) → is_printable_ascii byte ≡ true → test byte ≡ true) → (word : List ℕ)
    → is_safe_word word ≡ true → list_all test word ≡ true
safe_word test fixed word safe =
    weaker is_safe test (λ byte is. fixed byte (safe_ascii byte is)) word (and_parts _ (list_all is_safe word) safe).1

-- If any bytes are allowed, a word stays as it is, or is in quotes.
bytes_quoted : (word : List ℕ) → list_all is_byte word ≡ true → list_all is_byte (quoted false word) ≡ true
bytes_quoted word bytes = cond_both (is_safe_word word) word (in_quotes word) (λ text. list_all is_byte text ≡ true) (λ safe. bytes)
    (λ other. quotes_all is_byte ascii_byte word bytes)

ascii_quoted : (word : List ℕ) → list_all is_byte word ≡ true → list_all is_printable_ascii (quoted true word) ≡ true
ascii_quoted word bytes = cond_both (is_safe_word word) word _ (λ text. list_all is_printable_ascii text ≡ true)
    (λ safe. safe_word is_printable_ascii (λ byte is. is) word safe)
    (λ other. cond_both (not (list_all is_printable_ascii word)) (printed word) (in_quotes word)
    (λ text. list_all is_printable_ascii text ≡ true) (λ is. printed_ascii word bytes)
    (λ is. quotes_all is_printable_ascii (λ byte is. is) word (double (list_all is_printable_ascii word) is)))
  where
    double : (b : Bool) → not b ≡ false → b ≡ true
    double true is = refl
    double false is = absurd (cc)

-- ---- the law

module _ (shown : (name : List ℕ) → list_all is_byte name ≡ true → is_printable name ≡ true → shown_text Monochrome name ≡ name)
    (ascii : (name : List ℕ) → list_all is_printable_ascii name ≡ true → is_printable name ≡ true) where
  pub command_shown : (dir : List ℕ) (options : Options) (requested : List (List ℕ)) → list_all is_byte dir ≡ true
      → list_all (λ name. list_all is_byte name) requested ≡ true
      → shown_text Monochrome (command dir options requested) ≡ command dir options requested
  command_shown dir options requested of_dir of_names =
      cond_both (is_printable (command_in false dir options requested)) (command_in false dir options requested)
      (command_in true dir options requested) (λ text. shown_text Monochrome text ≡ text)
      (λ printable. shown (command_in false dir options requested)
      (command_all is_byte false ascii_byte bytes_quoted dir options requested of_dir of_names) printable)
      (λ other.
      let all = command_all is_printable_ascii true (λ byte is. is) ascii_quoted dir options requested of_dir of_names in
      shown (command_in true dir options requested)
      (weaker is_printable_ascii is_byte ascii_byte (command_in true dir options requested) all)
      (ascii (command_in true dir options requested) all))
