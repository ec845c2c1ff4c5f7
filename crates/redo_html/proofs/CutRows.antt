-- Where texts may be cut.
use Rattle.std.proofs.Common.{◌≡◌, ℕ, true, false, [], List, ◌∷◌, ◌++◌, refl}
use Rattle.std.specs.Prelude.{◌==◌, codes, Bool, map}
use Rattle.redo_html.specs.Cut.{begins_at, last_where, may_cut}
use Rattle.redo_html.specs.Symbols.{code_point_len, sequence_len, is_sequence, symbol_len}

abbrev esc : ℕ
esc = 27

-- The indices, from 0 on, at which a text of `count` bytes may be cut.
abbrev cuts : List ℕ → List ℕ → List Bool
cuts indices bytes = map (may_cut bytes) indices

-- A character of two bytes, and one of three.
characters_are : cuts (0 ∷ 1 ∷ 2 ∷ 3 ∷ 4 ∷ 5 ∷ 6 ∷ 7 ∷ []) (97 ∷ 0xC3 ∷ 0xA9 ∷ 0xE2 ∷ 0x82 ∷ 0xAC ∷ [])
    ≡ true ∷ true ∷ false ∷ true ∷ false ∷ false ∷ true ∷ false ∷ []
unfolding begins_at symbol_len is_sequence sequence_len code_point_len
characters_are = refl

-- Bytes that are no part of a character are symbols of their own.
bytes_are : cuts (0 ∷ 1 ∷ 2 ∷ 3 ∷ 4 ∷ []) (0x80 ∷ 0xBF ∷ 0xE2 ∷ 0x82 ∷ []) ≡ true ∷ true ∷ true ∷ true ∷ true ∷ []
unfolding begins_at symbol_len is_sequence sequence_len code_point_len
bytes_are = refl

-- A sequence that sets colours.
sequences_are : cuts (0 ∷ 1 ∷ 2 ∷ 3 ∷ 4 ∷ 5 ∷ 6 ∷ []) (esc ∷ codes "[1;m") ++ cuts (4 ∷ 5 ∷ 6 ∷ []) (esc ∷ codes "[1;ma")
    ≡ (true ∷ false ∷ false ∷ false ∷ false ∷ true ∷ false ∷ []) ++ false ∷ true ∷ true ∷ []
unfolding begins_at symbol_len is_sequence sequence_len code_point_len
sequences_are = refl

-- A sequence without its last byte is no sequence.
rests_are : cuts (1 ∷ 2 ∷ 3 ∷ []) (esc ∷ codes "[1") ≡ true ∷ true ∷ true ∷ []
unfolding begins_at symbol_len is_sequence sequence_len code_point_len
rests_are = refl

-- A link, and one that doesn't end.
links_are : cuts (1 ∷ 4 ∷ 5 ∷ 6 ∷ 7 ∷ 8 ∷ []) (esc ∷ codes "]8;;a" ++ 7 ∷ 98 ∷ []) ++ cuts (1 ∷ 4 ∷ 5 ∷ []) (esc ∷ codes "]8;;a")
    ≡ (false ∷ false ∷ false ∷ false ∷ true ∷ true ∷ []) ++ true ∷ true ∷ true ∷ []
unfolding begins_at symbol_len is_sequence sequence_len code_point_len
links_are = refl

last_are : (last_where (λ at. at == 2) 5 ≡ 2) × (last_where (λ at. true) 5 ≡ 5) × (last_where (λ at. at == 9) 5 ≡ 0)
last_are = (refl, refl, refl)
