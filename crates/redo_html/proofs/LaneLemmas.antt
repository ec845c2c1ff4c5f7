-- From the mask of one load to the bytes that pass a test.
use Rattle.std.proofs.Common.{◌≡◌, ℕ, ◌+◌, ◌%◌, ◌^◌, ◌≤◌, Bool, true, not, ◌||◌, List, [], ◌∷◌, ◌++◌, map, length, take, drop, get_or, replicate, Fits, w8, refl, sym, ap, ap₂, ◌∙◌, arith}
use Rattle.std.proofs.lemmas.Bool.{agree_below, agree_below_at}
use Rattle.std.proofs.lemmas.Simd.{map-map, mask_l-mod, length-chunk, length-put_chunk, put_chunk_is, get_or-chunk, first_set_mask_l, run_in_chunk_le, run_in_chunk_fails, zip2-map}
use Rattle.std.proofs.lemmas.List.{length-map, length-take-le, take-append-le, take-take, take_at, drop_at}
use Rattle.std.proofs.lemmas.List.Sums.{list_all-from_AllPass}
use Rattle.std.proofs.lemmas.List.Elements.{All-from_get_or}
use Rattle.std.specs.List.{prefix_len, list_all}
use borrow.Rule.Slice.PartMut.{put_mid, post_of}
use lib.Lanes.{chunk, put_chunk, zip2, mask_l, top}
use lib.Seq.{take-add}
use Rattle.redo_html.specs.Private.Writing.{first_set}

-- An operation on two vectors that were computed lane by lane from another one.
pub joined : (h : ℕ → ℕ → ℕ) (f g : ℕ → ℕ) (v : List ℕ) {a b : List ℕ} → a ≡ map f v → b ≡ map g v → zip2 h a b ≡ map (λ x. h (f x) (g x)) v
joined h f g v p q = ap₂ (zip2 h) p q ∙ zip2-map h f g v

pub splat_is : (v : List ℕ) (n y : ℕ) → length v ≡ n → replicate n y ≡ map (λ _. y) v
splat_is [] n y e = ap (λ k. replicate k y) (sym e)
splat_is (x ∷ xs) n y e = ap (λ k. replicate k y) (sym e) ∙ ap (λ r. y ∷ r) (splat_is xs (length xs) y refl)

-- `r` of the `n` bytes of `d` from `i` on come before the first one at which a lane stops.
module _ (q : ℕ → Bool) (d : List ℕ) (i n r : ℕ) (z : List ℕ) (room : i + n ≤ length d) (few : n ≤ 64)
    (fits : (k : ℕ) → Fits w8 (get_or d k 0)) (found : r ≡ first_set (mask_l (map (top 7) z) % 2 ^ 64) n)
    (f : ℕ → ℕ) (lanes : z ≡ map f (chunk i n d)) where
  abbrev stops : ℕ → Bool
  stops x = top 7 (f x)

  long : length (chunk i n d) ≡ n
  long = length-chunk i n d room

  counted : r ≡ prefix_len (λ x. not (stops x)) (chunk i n d)
  counted =
      let v = chunk i n d in
      let mask = ap (λ l. mask_l l % 2 ^ 64) (ap (map (top 7)) lanes ∙ map-map (top 7) f v)
      ∙ mask_l-mod (map stops v) 64 (omega (arith, length-map v stops, long)) in
      found ∙ ap (λ m. first_set m n) mask ∙ first_set_mask_l stops v n long few

  within : r ≤ n
  within = run_in_chunk_le stops d i n r 0 room counted

  -- Each byte at which no lane stops passes the test.
  pub passing_run : agree_below (λ x. stops x || q x) (λ _. true) 256 ≡ true → (r ≤ n) × (list_all q (take r (drop i d)) ≡ true)
  passing_run all = (
    within,
    list_all-from_AllPass q (take r (drop i d)) (All-from_get_or (λ x. q x ≡ true) (take r (drop i d)) 0 (λ k inside.
        let size = length-chunk i r d (omega (arith, within, room)) in
        let at = get_or-chunk i r d k 0 (omega (arith, inside, size)) in
        ap q at
        ∙ sym (ap (λ b. b || q (get_or d (i + k) 0))
        (run_in_chunk_fails stops d i n r 0 room counted (i + k) (omega arith) (omega (arith, inside, size))))
        ∙ agree_below_at (λ x. stops x || q x) (λ _. true) 256 (get_or d (i + k) 0) all (fits (i + k)).fits)),
  )

-- ---- stores

-- Lanes were stored after the first `to` bytes.
pub stored : (xs zs bytes : List ℕ) (to k at count : ℕ) → to ≤ length xs → 16 ≤ length zs → at + 16 ≤ length bytes → count ≤ 16
    → take (to + count) (put_mid to k xs (put_chunk 0 zs (chunk at 16 bytes))) ≡ take to xs ++ take count (drop at bytes)
stored xs zs bytes to k at count within room long few =
    take-add to count (front ++ (ys ++ post))
    ∙ (rw (take_at front (ys ++ post) _ front_len, drop_at front (ys ++ post) _ front_len, take-append-le count ys post fits) refl)
    ∙ ap (λ (t : List ℕ). front ++ t) ys_front
  where
    lanes : List ℕ
    lanes = chunk at 16 bytes

    ys : List ℕ
    ys = put_chunk 0 zs lanes

    front : List ℕ
    front = take to xs

    post : List ℕ
    post = post_of to k xs

    front_len : length front ≡ to
    front_len = length-take-le to xs within

    lanes_len : length lanes ≡ 16
    lanes_len = length-chunk at 16 bytes long

    fits : count ≤ length ys
    fits = let size = length-put_chunk 0 zs lanes in omega (arith, size, room, few)

    ys_front : take count ys ≡ take count (drop at bytes)
    ys_front = ap (take count) (put_chunk_is 0 zs lanes (omega (arith, lanes_len, room)))
        ∙ take-append-le count lanes (drop (length lanes) (drop 0 zs)) (omega (arith, lanes_len, few))
        ∙ take-take count 16 (drop at bytes) few
