-- Texts that are written in parts.
use Rattle.std.proofs.Common.{◌≡◌, ℕ, zero, suc, ◌<◌, List, [], ◌∷◌, ◌++◌, Option, Result, Ok, Err, length, take, drop, get_or, map, refl, sym, ◌∙◌, ap, subst, arith}
use Rattle.std.specs.List.{flat_map}
use Rattle.std.specs.Result.{IsErr}
use Rattle.std.proofs.lemmas.List.{append_assoc, append-nil}
use Rattle.redo_device.specs.declared.feed.Broken.{Broken}
use Rattle.redo_device.specs.Sink.{Output, append_output, Writes}
use Rattle.redo_device.proofs.WritesLemmas.{at_first, in_middle, at_last, one_more, append_nothing}
use Rattle.redo_html.specs.declared.text_kind.TextKind.{TextKind}
use Rattle.redo_html.specs.declared.look.Look.{Look}
use Rattle.redo_html.specs.declared.style.Style.{Style}
use Rattle.redo_html.specs.Passage.{passage_html}
use Rattle.redo_html.specs.Private.Highlighting.{html_from}
use Rattle.redo_html.specs.Private.Writing.{WroteUpTo, WroteSomeOrFailed, WrotePassage}

-- One more part of the remaining text was written.
pub wrote_more : (before middle after : Option Output) (text part rest : List ℕ) → WroteUpTo before middle text (part ++ rest)
    → after ≡ append_output middle part 0 → WroteUpTo before after text rest
wrote_more before middle after text part rest so_far wrote =
    record {
      prefix = so_far.prefix ++ part;
      wrote = one_more before middle after so_far.prefix part so_far.wrote wrote;
      splits = append_assoc so_far.prefix part rest ∙ so_far.splits;
    }

-- More of the remaining text was written.
pub wrote_on : (before middle after : Option Output) (text rest left : List ℕ) → WroteUpTo before middle text rest
    → WroteUpTo middle after rest left → WroteUpTo before after text left
wrote_on before middle after text rest left so_far more =
    wrote_more before middle after text more.prefix left
    (record { prefix = so_far.prefix; wrote = so_far.wrote; splits = ap (λ r. so_far.prefix ++ r) more.splits ∙ so_far.splits }) more.wrote

-- The rest was written, or writing it failed.
pub wrote_rest : (before middle after : Option Output) (text rest : List ℕ) (done : Result (Unit {0}) Broken)
    → WroteUpTo before middle text rest → Writes middle after rest done → Writes before after text done
wrote_rest before middle after text rest done so_far wrote =
    at_last before text middle after so_far.prefix rest done so_far.wrote wrote so_far.splits

-- Nothing is left.
pub wrote_all : (before after : Option Output) (text : List ℕ) → WroteUpTo before after text [] → after ≡ append_output before text 0
wrote_all before after text so_far =
    so_far.wrote ∙ ap (λ (t : List ℕ). append_output before t 0) (sym (append-nil so_far.prefix) ∙ so_far.splits)

-- The failed write returned the error.
pub same_error : (before after : Option Output) (text : List ℕ) (broken : Broken) (done : Result (Unit {0}) Broken) → IsErr done
    → Writes before after text (Err broken) → Writes before after text done
same_error before after text broken done failed wrote = at_first before text after text [] broken done failed wrote (append-nil text)

-- The pieces before one, that one, and those after it.
pub one_among : {X Y : Type 0} (f : Y → List ℕ) (seen : X → Y) (xs : List X) (i : ℕ) (d : X) → i < length xs
    → (flat_map f (map seen (take i xs)) ++ f (seen (get_or xs i d))) ++ flat_map f (map seen (drop (suc i) xs)) ≡ flat_map f (map seen xs)
one_among f seen [] i d below = absurd (omega (arith, below))
one_among f seen (x ∷ xs) zero d below = refl
one_among f seen (x ∷ xs) (suc i) d below =
    let front = flat_map f (map seen (take i xs)) in
    let one = f (seen (get_or xs i d)) in
    let behind = flat_map f (map seen (drop (suc i) xs)) in
    ap (λ (t : List ℕ). t ++ behind) (append_assoc (f (seen x)) front one) ∙ append_assoc (f (seen x)) (front ++ one) behind
    ∙ ap (λ (t : List ℕ). f (seen x) ++ t) (one_among f seen xs i d (omega (arith, below)))

-- ---- texts in several parts

-- Nothing of these parts of a text was written yet.
pub begin_parts : (before : Option Output) (text parts : List ℕ) → parts ≡ text → WroteUpTo before before text parts
begin_parts before text parts is = record { prefix = []; wrote = append_nothing before; splits = is }

-- The next part of a text failed.
pub failed_part : (before middle after : Option Output) (text part rest : List ℕ) (broken : Broken) (done : Result (Unit {0}) Broken)
    → IsErr done → WroteUpTo before middle text (part ++ rest) → Writes middle after part (Err broken) → Writes before after text done
failed_part before middle after text part rest broken done failed so_far wrote =
    in_middle before text middle after so_far.prefix part rest broken done failed so_far.wrote wrote
    (append_assoc so_far.prefix part rest ∙ so_far.splits)

-- A write of some of a passage failed.
pub some_failed : (before after : Option Output) (kind : TextKind) (look : Look) (bytes : List ℕ) (broken : Broken) (next : Look)
    (done : Result ℕ Broken) → IsErr done → Writes before after (html_from kind look bytes) (Err broken)
    → WroteSomeOrFailed before after kind look bytes next done
some_failed before after kind look bytes broken next (Ok count) failed wrote = absurd (cc)
some_failed before after kind look bytes broken next (Err other) failed wrote = wrote

pub passage_failed : (before after : Option Output) (kind : TextKind) (style : Style) (bytes : List ℕ) (broken : Broken)
    (done : Result Style Broken) → IsErr done → Writes before after (passage_html kind style bytes) (Err broken)
    → WrotePassage before after kind style bytes done
passage_failed before after kind style bytes broken (Ok last) failed wrote = absurd (cc)
passage_failed before after kind style bytes broken (Err other) failed wrote = wrote

-- The writes of an equal text.
pub writes_as : (before after : Option Output) (text other : List ℕ) (done : Result (Unit {0}) Broken) → text ≡ other
    → Writes before after text done → Writes before after other done
writes_as before after text other done is wrote = subst (λ (t : List ℕ). Writes before after t done) is wrote

-- A text in four parts.
module _ (before : Option Output) (text a b c d : List ℕ) (is : a ++ (b ++ (c ++ d)) ≡ text) where
  start : WroteUpTo before before text (a ++ (b ++ (c ++ d)))
  start = begin_parts before text (a ++ (b ++ (c ++ d))) is

  after_first : (one : Option Output) → one ≡ append_output before a 0 → WroteUpTo before one text (b ++ (c ++ d))
  after_first one wrote_a = wrote_more before before one text a (b ++ (c ++ d)) start wrote_a

  after_second : (one two : Option Output) → one ≡ append_output before a 0 → two ≡ append_output one b 0
      → WroteUpTo before two text (c ++ d)
  after_second one two wrote_a wrote_b = wrote_more before one two text b (c ++ d) (after_first one wrote_a) wrote_b

  pub first_failed : (after : Option Output) (broken : Broken) (done : Result (Unit {0}) Broken) → IsErr done
      → Writes before after a (Err broken) → Writes before after text done
  first_failed after broken done failed wrote = failed_part before before after text a (b ++ (c ++ d)) broken done failed start wrote

  pub second_failed : (one after : Option Output) (broken : Broken) (done : Result (Unit {0}) Broken) → IsErr done
      → one ≡ append_output before a 0 → Writes one after b (Err broken) → Writes before after text done
  second_failed one after broken done failed wrote_a wrote =
      failed_part before one after text b (c ++ d) broken done failed (after_first one wrote_a) wrote

  pub third_failed : (one two after : Option Output) (broken : Broken) (done : Result (Unit {0}) Broken) → IsErr done
      → one ≡ append_output before a 0 → two ≡ append_output one b 0 → Writes two after c (Err broken) → Writes before after text done
  third_failed one two after broken done failed wrote_a wrote_b wrote =
      failed_part before two after text c d broken done failed (after_second one two wrote_a wrote_b) wrote

  pub fourth_done : (one two three after : Option Output) (done : Result (Unit {0}) Broken) → one ≡ append_output before a 0
      → two ≡ append_output one b 0 → three ≡ append_output two c 0 → Writes three after d done → Writes before after text done
  fourth_done one two three after done wrote_a wrote_b wrote_c wrote =
      wrote_rest before three after text d done (wrote_more before two three text c d (after_second one two wrote_a wrote_b) wrote_c) wrote
