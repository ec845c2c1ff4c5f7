-- Colours and links are in no plain line, whatever follows them.
use Rattle.std.proofs.Common.{◌≡◌, ℕ, ◌+◌, Bool, true, false, cond, List, [], ◌∷◌, ◌++◌, length, slice_index, refl, sym, ◌∙◌, ap, arith, ⊎_elim}
use Rattle.std.specs.Prelude.{◌==◌, ◌||◌, ◌&&◌, nat_lt, option_map}
use Rattle.std.specs.List.{list_all, list_any, prefix_len}
use Rattle.std.proofs.Math.Bool.{or-true}
use Rattle.std.proofs.lemmas.Bool.{and_parts}
use Rattle.std.proofs.lemmas.List.{append_assoc, get_or-append-add, length-append, take_at}
use Rattle.std.proofs.lemmas.List.Folds.{list_any-append}
use Rattle.redo_line.proofs.PartLemmas.{HasNo}
use Rattle.redo_html.specs.Laws.{IsLink}
use Rattle.redo_html.specs.Symbols.{end_len, final_byte, is_link_byte, is_parameter, link_end_len, link_len, link_text, link_text_len, parameter_count, sequence_len}
use Rattle.redo_diagnostics.specs.Diagnostic.{diagnostic_from, diagnostic_of, parts_in}
use Rattle.redo_diagnostics.specs.Laws.{IsColour}
use Rattle.redo_diagnostics.specs.Plain.{plain_line}
use Rattle.redo_diagnostics.proofs.PlainLemmas.{escape, plain-free, plain-start}

passed : (test : ℕ → Bool) (text : List ℕ) (byte : ℕ) (behind : List ℕ) → list_all test text ≡ true → test byte ≡ false
    → prefix_len test (text ++ byte ∷ behind) ≡ length text
passed test [] byte behind all stops = rw stops refl
passed test (first ∷ text) byte behind all stops =
    let parts = and_parts (test first) (list_all test text) all in
    let later = passed test text byte behind parts.1 stops in
    ap (λ (is : Bool). cond is (1 + prefix_len test (text ++ byte ∷ behind)) 0) parts.0 ∙ omega (arith, later)

-- The byte `n` places after a front.
byte_after : (front behind : List ℕ) (place n : ℕ) → place ≡ length front + n → slice_index (front ++ behind) place ≡ slice_index behind n
byte_after front behind place n is = ap (slice_index (front ++ behind)) is ∙ get_or-append-add front behind n 0

-- ---- a colour

module _ (parameters : List ℕ) (end : ℕ) (more : List ℕ) (all : list_all is_parameter parameters ≡ true)
    (stops : is_parameter end ≡ false) (ends : (end == 109 || end == 75) ≡ true) where
  abbrev colour : List ℕ
  colour = escape ∷ 91 ∷ (parameters ++ end ∷ more)

  count : parameter_count colour ≡ length parameters
  count = passed is_parameter parameters end more all stops

  last : final_byte colour ≡ end
  last = byte_after (escape ∷ 91 ∷ parameters) (end ∷ more) (2 + parameter_count colour) 0 (let is = count in omega (arith, is))

  colour_length : sequence_len colour ≡ 3 + length parameters
  unfolding sequence_len
  colour_length =
      ap (λ (byte : ℕ). cond (byte == 109 || byte == 75) (3 + parameter_count colour) (link_len colour)) last
      ∙ ap (λ (is : Bool). cond is (3 + parameter_count colour) (link_len colour)) ends ∙ ap (λ (n : ℕ). 3 + n) count

colour_gone : (colour more : List ℕ) → IsColour colour → plain_line (colour ++ more) ≡ plain_line more
colour_gone colour more is =
    ap (λ (bytes : List ℕ). plain_line (bytes ++ more)) is.whole
    ∙ plain-start (91 ∷ (is.parameters ++ is.end ∷ [])) more
    (ap (λ (bytes : List ℕ). sequence_len (escape ∷ 91 ∷ bytes)) (append_assoc is.parameters (is.end ∷ []) more)
    ∙ ⊎_elim (λ m. sized 109 m refl refl) (λ k. sized 75 k refl refl) is.ends)
  where
    sized : (end : ℕ) → is.end ≡ end → is_parameter end ≡ false → (end == 109 || end == 75) ≡ true
        → sequence_len (escape ∷ 91 ∷ (is.parameters ++ is.end ∷ more)) ≡ 1 + length (91 ∷ (is.parameters ++ is.end ∷ []))
    sized end same stops ends =
        let size = length-append is.parameters (is.end ∷ []) in
        ap (λ (end : ℕ). sequence_len (escape ∷ 91 ∷ (is.parameters ++ end ∷ more))) same
        ∙ colour_length is.parameters end more is.are_parameters stops ends ∙ omega (arith, size)

-- ---- a link

-- `ESC ] 8 ;` and these bytes.
abbrev start : List ℕ → List ℕ
start bytes = escape ∷ 93 ∷ 56 ∷ 59 ∷ bytes

-- Its text, the byte after it, and the number of bytes that end it.
module _ (text : List ℕ) (byte : ℕ) (behind : List ℕ) (size : ℕ) (all : list_all is_link_byte text ≡ true)
    (semicolon : list_any (λ byte. byte == 59) text ≡ true) (stops : is_link_byte byte ≡ false) (some : nat_lt 0 size ≡ true)
    (ends : end_len byte (slice_index behind 0) ≡ size) where
  abbrev link : List ℕ
  link = start (text ++ byte ∷ behind)

  abbrev front : List ℕ
  front = start text

  text_length : link_text_len link ≡ length text
  text_length = passed is_link_byte text byte behind all stops

  text_is : link_text link ≡ text
  text_is = take_at text (byte ∷ behind) (link_text_len link) (sym text_length)

  end_is : link_end_len link ≡ size
  end_is =
      let is = text_length in
      ap (λ (b : ℕ). end_len b (slice_index link (5 + link_text_len link)))
      (byte_after front (byte ∷ behind) (4 + link_text_len link) 0 (omega (arith, is)))
      ∙ ap (end_len byte) (byte_after front (byte ∷ behind) (5 + link_text_len link) 1 (omega (arith, is))) ∙ ends

  -- The length of a link, by its parts.
  abbrev length_by : Bool → ℕ → ℕ → ℕ
  length_by url end text = cond (url && nat_lt 0 end) (4 + text + end) 0

  link_length : sequence_len link ≡ 4 + length text + size
  unfolding sequence_len
  link_length =
      ap (λ (text : List ℕ). length_by (list_any (λ byte. byte == 59) text) (link_end_len link) (link_text_len link)) text_is
      ∙ ap (λ (url : Bool). length_by url (link_end_len link) (link_text_len link)) semicolon
      ∙ ap (λ (end : ℕ). length_by true end (link_text_len link)) end_is
      ∙ ap (λ (is : Bool). cond is (4 + link_text_len link + size) 0) some ∙ ap (λ (n : ℕ). 4 + n + size) text_length

link_gone : (link more : List ℕ) → IsLink link → plain_line (link ++ more) ≡ plain_line more
link_gone link more is =
    ap (λ (bytes : List ℕ). plain_line (bytes ++ more)) is.whole
    ∙ plain-start (93 ∷ 56 ∷ 59 ∷ (text ++ is.end)) more
    (ap (λ (bytes : List ℕ). sequence_len (start bytes)) (append_assoc text is.end more)
    ∙ ⊎_elim (λ bell. sized (7 ∷ []) bell (link_length text 7 more 1 is.are_link_bytes semicolon refl refl refl))
    (λ back. sized (27 ∷ 92 ∷ []) back (link_length text 27 (92 ∷ more) 2 is.are_link_bytes semicolon refl refl refl)) is.ends)
  where
    text : List ℕ
    text = is.parameters ++ 59 ∷ is.url

    semicolon : list_any (λ byte. byte == 59) text ≡ true
    semicolon =
        list_any-append (λ byte. byte == 59) is.parameters (59 ∷ is.url) ∙ or-true (list_any (λ byte. byte == 59) is.parameters)

    sized : (end : List ℕ) → is.end ≡ end → sequence_len (start (text ++ (end ++ more))) ≡ 4 + length text + length end
        → sequence_len (start (text ++ (is.end ++ more))) ≡ 1 + length (93 ∷ 56 ∷ 59 ∷ (text ++ is.end))
    sized end same counted =
        let size = length-append text is.end in
        let end_size = ap length same in
        ap (λ (end : List ℕ). sequence_len (start (text ++ (end ++ more)))) same ∙ counted ∙ omega (arith, size, end_size)

-- ---- the laws

gone : (front sequence more : List ℕ) → HasNo escape front → plain_line (sequence ++ more) ≡ plain_line more
    → diagnostic_of (front ++ sequence ++ more) ≡ diagnostic_of (front ++ more)
unfolding diagnostic_of
gone front sequence more free is =
    ap (λ (plain : List ℕ). option_map diagnostic_from (parts_in plain))
    (ap plain_line (append_assoc front sequence more) ∙ plain-free front (sequence ++ more) free
    ∙ ap (λ (bytes : List ℕ). front ++ bytes) is ∙ sym (plain-free front more free))

pub without_colour : (front colour more : List ℕ) → HasNo escape front → IsColour colour
    → diagnostic_of (front ++ colour ++ more) ≡ diagnostic_of (front ++ more)
without_colour front colour more free is = gone front colour more free (colour_gone colour more is)

pub without_link : (front link more : List ℕ) → HasNo escape front → IsLink link
    → diagnostic_of (front ++ link ++ more) ≡ diagnostic_of (front ++ more)
without_link front link more free is = gone front link more free (link_gone link more is)
