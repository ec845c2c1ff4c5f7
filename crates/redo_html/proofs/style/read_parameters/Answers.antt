use Rattle.std.proofs.Common.{◌≡◌, ◌+◌, ◌-◌, ◌<◌, ℕ, List, [], ◌∷◌, ◌++◌, take, drop, length, slice_index, refl, sym, ap, subst, ◌∙◌, arith}
use Rattle.std.specs.Prelude.{◌≤◌, Bool, true, fold, ◌==◌, ◌||◌}
use Rattle.std.specs.List.{prefix_len}
use Rattle.std.proofs.lemmas.List.{append-nil, take_rest}
use Rattle.std.proofs.lemmas.List.Sums.{prefix_len-drop_yes}
use Rattle.redo_html.specs.declared.style.Setting.{Setting}
use Rattle.redo_html.specs.declared.style.Style.{Style}
use Rattle.redo_html.specs.Style.{setting_after, restyled}
use Rattle.redo_html.specs.Symbols.{is_parameter, numbers_from}
use Rattle.redo_html.proofs.SequenceLemmas.{one_more_taken, read_to_end}
use Rattle.redo_html.proofs.style.read_parameters.Goals.{then-is_digit, else-is_digit+then-byte-eq59}
use Rattle.redo_html.proofs.style.read_parameters.Goals as goal

abbrev start : Style → Setting
start style = record { style = style; ahead = 0 }

pub loop-at-preserved : goal.loop-at-preserved
loop-at-preserved c =
    let parameters = take (length c.args.bytes.now - 2) (drop 2 c.args.bytes.now) in
    let at = c.loop-at.at in
    let setting = c.loop-at.setting in
    let inside : at < length parameters = c.loop-at-test.true in
    let byte = slice_index parameters at in
    let count : is_parameter byte ≡ true
    → prefix_len is_parameter parameters ≡ (at + 1) + prefix_len is_parameter (drop (at + 1) parameters) =
    λ is. c.loop-at.invariant.count
    ∙ ap (λ (n : ℕ). at + n) (prefix_len-drop_yes is_parameter parameters at 0 inside is) ∙ omega arith in
    let same : (rest : List ℕ) → fold setting_after setting (numbers_from c.loop-at.value (byte ∷ rest))
    ≡ fold setting_after (start c.args.style) (numbers_from 0 (take (at + 1) parameters ++ rest)) =
    λ rest. c.loop-at.invariant.same (byte ∷ rest)
    ∙ ap (λ (l : List ℕ). fold setting_after (start c.args.style) (numbers_from 0 l)) (one_more_taken parameters rest at inside) in
    elim c.if-is_digit.branch [
      | then-is_digit w ↦ record {
        bound = subst (λ (v : ℕ). v ≤ 999) (sym w.value-is) w.after_digit-value.ensures.bound;
        count = count (ap (λ (digit : Bool). digit || byte == 59) (sym c.is_digit.ensures ∙ w.if-is_digit.true));
        same = λ rest. ap (λ (s : Setting). fold setting_after s (numbers_from c.if-is_digit.value rest)) w.setting-is
            ∙ ap (λ (v : ℕ). fold setting_after setting (numbers_from v rest)) w.value-is
            ∙ ap (fold setting_after setting) (sym (w.after_digit-value.ensures.same rest)) ∙ same rest;
      }
      | else-is_digit+then-byte-eq59 w ↦ record {
        bound = subst (λ (v : ℕ). v ≤ 999) (sym w.value-is) (omega arith);
        count = count (ap is_parameter w.if-byte-eq59.true);
        same = λ rest. ap (λ (s : Setting). fold setting_after s (numbers_from c.if-is_digit.value rest)) w.setting-is
            ∙ ap (λ (v : ℕ). fold setting_after w.after_number-setting.result (numbers_from v rest)) w.value-is
            ∙ ap (λ (s : Setting). fold setting_after s (numbers_from 0 rest)) w.after_number-setting.ensures
            ∙ ap (λ (b : ℕ). fold setting_after setting (numbers_from c.loop-at.value (b ∷ rest))) (sym w.if-byte-eq59.true) ∙ same rest;
      }
    ]

pub returns-then-byte-eq109 : goal.returns-then-byte-eq109
returns-then-byte-eq109 c = λ some.
    let bytes = c.args.bytes.now in
    let parameters = take (length bytes - 2) (drop 2 bytes) in
    let read = read_to_end bytes parameters 109 c.loop-at.at (take_rest bytes 2) c.requires.escape c.requires.bracket
    c.loop-at-test.true c.loop-at.invariant.count c.if-byte-eq109.true refl refl in (
      read.0,
      ap (λ (s : Setting). s.style) (c.after_number.ensures ∙ c.loop-at.invariant.same []
          ∙ ap (λ (l : List ℕ). fold setting_after (start c.args.style) (numbers_from 0 l))
          (append-nil (take c.loop-at.at parameters))) ∙ sym (ap (restyled c.args.style) read.1),
    )

pub returns-then-byte-eq75 : goal.returns-then-byte-eq75
returns-then-byte-eq75 c = λ some.
    let bytes = c.args.bytes.now in
    let read = read_to_end bytes (take (length bytes - 2) (drop 2 bytes)) 75 c.loop-at.at (take_rest bytes 2) c.requires.escape
    c.requires.bracket c.loop-at-test.true c.loop-at.invariant.count c.if-byte-eq75.true refl refl in
    (read.0, sym (ap (restyled c.args.style) read.1))
