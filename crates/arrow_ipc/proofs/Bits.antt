-- Bitmaps, eight bits a byte.
use Rattle.std.proofs.Common.{◌≡◌, ℕ, ◌+◌, ◌*◌, ◌-◌, ◌≤◌, ◌⊎◌, Bool, List, [], ◌∷◌, ◌++◌, length, min, take, drop, map, arith, ap, ◌∙◌, sym, ⊎_elim, length-drop}
use Rattle.std.specs.List.{range_with_len}
use Rattle.std.proofs.lemmas.List.{append_assoc, take_all}
use Rattle.std.proofs.lemmas.List.FromFn.{map-range_with_len_more}
use Rattle.arrow_ipc.specs.Columns.{number_of}

-- the bits of a byte, which may be the last
chunk : (bits : List Bool) (at end : ℕ) → end ≡ min (length bits) (8 * at + 8) → take (end - 8 * at) (drop (8 * at) bits) ≡ take 8 (drop (8 * at) bits)
chunk bits at end e = by_cases (either (length bits) (8 * at + 8))
  where
    either : (a b : ℕ) → (a ≤ b) ⊎ (b ≤ a)
    either a b = grind arith

    by_cases : (length bits ≤ 8 * at + 8) ⊎ (8 * at + 8 ≤ length bits) → take (end - 8 * at) (drop (8 * at) bits) ≡ take 8 (drop (8 * at) bits)
    by_cases = ⊎_elim
        (λ (h : length bits ≤ 8 * at + 8).
        let long : length (drop (8 * at) bits) ≤ 8 = omega (arith, length-drop (8 * at) bits) in
        let short : length (drop (8 * at) bits) ≤ end - 8 * at = omega (arith, length-drop (8 * at) bits) in
        take_all (end - 8 * at) (drop (8 * at) bits) short ∙ sym (take_all 8 (drop (8 * at) bits) long))
        (λ (h : 8 * at + 8 ≤ length bits).
        let same : end - 8 * at ≡ 8 = omega arith in
        ap (λ (n : ℕ). take n (drop (8 * at) bits)) same)

-- one more byte
pub bitmap_step : (bits : List Bool) (old out new : List ℕ) (at end byte : ℕ) → end ≡ min (length bits) (8 * at + 8)
    → out ≡ old ++ map (λ k. number_of (take 8 (drop (8 * k) bits))) (range_with_len 0 at) → byte ≡ number_of (take (end - 8 * at) (drop (8 * at) bits)) → new ≡ out ++ byte ∷ []
    → new ≡ old ++ map (λ k. number_of (take 8 (drop (8 * k) bits))) (range_with_len 0 (at + 1))
bitmap_step bits old out new at end byte e so_far b n =
    let one : byte ≡ number_of (take 8 (drop (8 * at) bits)) = b ∙ ap number_of (chunk bits at end e) in
    let more : map (λ (k : ℕ). number_of (take 8 (drop (8 * k) bits))) (range_with_len 0 (at + 1)) ≡ map (λ (k : ℕ). number_of (take 8 (drop (8 * k) bits))) (range_with_len 0 at) ++ number_of (take 8 (drop (8 * at) bits)) ∷ []
    = map-range_with_len_more (λ (k : ℕ). number_of (take 8 (drop (8 * k) bits))) 0 at at (omega arith) in
    n ∙ ap (λ (xs : List ℕ). xs ++ byte ∷ []) so_far ∙ append_assoc old (map (λ (k : ℕ). number_of (take 8 (drop (8 * k) bits))) (range_with_len 0 at)) (byte ∷ [])
    ∙ ap (λ (x : ℕ). old ++ (map (λ (k : ℕ). number_of (take 8 (drop (8 * k) bits))) (range_with_len 0 at) ++ x ∷ [])) one ∙ ap (λ (xs : List ℕ). old ++ xs) (sym more)
