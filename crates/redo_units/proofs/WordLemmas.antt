-- The texts of words.
use Rattle.std.proofs.Common.{◌≡◌, ℕ, ◌+◌, ◌<◌, ◌^◌, List, [], ◌∷◌, ◌++◌, length, map, get_or, take, sym, ap, ◌∙◌, append_assoc, append-nil}
use Rattle.std.specs.Prelude.{decimal}
use Rattle.std.proofs.lemmas.Bool.{cond-true, lt-ltb}
use Rattle.std.proofs.lemmas.List.{map_more}
use Rattle.std.proofs.lemmas.List.Concat.{flat_map-append}
use Rattle.redo_units.specs.declared.words.Word.{Word}
use Rattle.redo_units.specs.Words.{decimal_text, word_of, word_text, words_text}

pub decimal_is : (number : ℕ) → number < 2 ^ 64 → decimal number ≡ decimal_text number
unfolding decimal_text
decimal_is number below = sym (cond-true _ _ _ (lt-ltb number 0x10000000000000000 below))

one_more : (words : List Word) (i : ℕ) (d : Word) → i < length words
    → words_text (map word_of (take (i + 1) words)) ≡ words_text (map word_of (take i words)) ++ word_text (word_of (get_or words i d))
one_more words i d below =
    ap words_text (map_more word_of words i d below)
    ∙ flat_map-append word_text (map word_of (take i words)) (word_of (get_or words i d) ∷ [])
    ∙ ap (λ (t : List ℕ). words_text (map word_of (take i words)) ++ t) (append-nil (word_text (word_of (get_or words i d))))

pub word_pushed : (words : List Word) (i : ℕ) (d : Word) (old text new : List ℕ) → i < length words
    → text ≡ old ++ words_text (map word_of (take i words)) → new ≡ text ++ word_text (word_of (get_or words i d))
    → new ≡ old ++ words_text (map word_of (take (i + 1) words))
word_pushed words i d old text new below before now =
    now ∙ ap (λ (t : List ℕ). t ++ word_text (word_of (get_or words i d))) before
    ∙ append_assoc old (words_text (map word_of (take i words))) (word_text (word_of (get_or words i d)))
    ∙ ap (λ (t : List ℕ). old ++ t) (sym (one_more words i d below))
