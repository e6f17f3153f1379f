-- Groups of 64 lanes.
use Rattle.std.proofs.Common.{◌≡◌, ℕ, zero, suc, ◌+◌, ◌%◌, ◌^◌, ◌<◌, ◌≤◌, cond, ltb, List, [], ◌∷◌, drop, map, length, get_or, replicate, sym, ap, ◌∙◌, arith, w8}
use Rattle.std.proofs.lemmas.Bool.{ltb-false}
use Rattle.std.proofs.lemmas.List.{length-map}
use Rattle.std.proofs.lemmas.Simd.{tops_compared, zip2_splat_left, mask_l-mod, length-chunk, none_from_empty_mask}
use lib.Lanes.{zip2, mask_l, top, chunk}

-- if no lane is above 127, all bytes of the group are below 128
pub low_of_mask : (xs : List ℕ) (at : ℕ) → at + 64 ≤ length xs → mask_l (map (top 7) (zip2 (λ a b. cond (ltb a b) 255 0) (replicate 64 127) (chunk at 64 xs))) % 2 ^ 64 ≡ 0 → (k : ℕ) → at ≤ k → k < at + 64 → get_or xs k 0 < 128
low_of_mask xs at fits e k lo hi =
    let part = chunk at 64 xs in
    let long : length part ≡ 64 = length-chunk at 64 xs fits in
    let lanes : map (top 7) (zip2 (λ a b. cond (ltb a b) 255 0) (replicate 64 127) part) ≡ map (λ y. ltb 127 y) part =
    tops_compared w8 ltb (replicate 64 127) part ∙ zip2_splat_left ltb 127 64 part long in
    let whole : mask_l (map (λ y. ltb 127 y) part) % 2 ^ 64 ≡ mask_l (map (λ y. ltb 127 y) part) =
    mask_l-mod (map (λ y. ltb 127 y) part) 64 (omega (arith, length-map part (λ y. ltb 127 y), long)) in
    let empty : mask_l (map (λ y. ltb 127 y) part) ≡ 0 = sym whole ∙ ap (λ ms. mask_l ms % 2 ^ 64) (sym lanes) ∙ e in
    let low : get_or xs k 0 ≤ 127 = ltb-false 127 (get_or xs k 0) (none_from_empty_mask (λ y. ltb 127 y) xs at 64 0 fits empty k lo hi) in
    omega (arith, low)

-- low bytes followed by low bytes
pub joined_low : (xs : List ℕ) (front : ℕ) → ((k : ℕ) → k < front → get_or xs k 0 < 128) → ((k : ℕ) → k < length (drop front xs) → get_or (drop front xs) k 0 < 128) → (k : ℕ) → k < length xs → get_or xs k 0 < 128
joined_low xs zero low rest k lt = rest k lt
joined_low [] (suc front) low rest k lt = low k (omega arith)
joined_low (x ∷ xs) (suc front) low rest zero lt = low 0 (omega arith)
joined_low (x ∷ xs) (suc front) low rest (suc k) lt = joined_low xs front (λ j h. low (suc j) (omega arith)) rest k (omega arith)
