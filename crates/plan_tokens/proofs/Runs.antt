-- What a part of a text is, and runs of bytes in it.
use Rattle.std.proofs.Common.{◌≡◌, ℕ, ◌+◌, ◌-◌, List, length, take, drop, Bool, ap, refl, ◌∙◌, arith, length-drop}
use Rattle.std.specs.List.{prefix_len}
use Rattle.std.proofs.lemmas.List.{take_all}

-- all bytes from a place on
pub all_taken : (text : List ℕ) (at : ℕ) → take (length text - at) (drop at text) ≡ drop at text
all_taken text at = let left : length (drop at text) ≡ length text - at = length-drop _ _ in take_all (length text - at) (drop at text) (omega (arith, left))

-- a run that was counted in the bytes from a place on
pub of_rest : (test : ℕ → Bool) (text : List ℕ) (at count : ℕ) → count ≡ prefix_len test (take (length text - at) (drop at text)) → at + count ≡ at + prefix_len test (drop at text)
of_rest test text at count is = ap (λ (n : ℕ). at + n) (is ∙ ap (prefix_len test) (all_taken text at))

-- a run that begins at a place, as a part of the bytes from that place on
pub part_of_rest : (text : List ℕ) (at end size : ℕ) → end ≡ at + size → take (end - at) (drop at text) ≡ take size (drop at text)
part_of_rest text at end size is = let e : end - at ≡ size = omega (arith, is) in rw e refl
