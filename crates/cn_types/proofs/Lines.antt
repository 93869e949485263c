-- How a line grows by one part.
use Rattle.std.proofs.Common.{◌≡◌, ℕ, zero, suc, ◌<◌, List, [], ◌∷◌, ◌++◌, length, map, take, get_or, refl, ap, sym, ◌∙◌, arith, append_assoc, ◌+◌, add-one}
use Rattle.std.specs.List.{join_with_byte}
use Rattle.cn_types.specs.Printed.{separator}

-- the parts up to a place, and the next one behind its separator
pub join-take-suc : {X : Type 0} (f : X → List ℕ) (xs : List X) (i : ℕ) (d : X) → i < length xs → join_with_byte 9 (map f (take (suc i) xs)) ≡ (join_with_byte 9 (map f (take i xs)) ++ separator i) ++ f (get_or xs i d)
join-take-suc f [] i d within = absurd (omega arith)
join-take-suc f (x ∷ xs) zero d within = refl
join-take-suc f (x ∷ []) (suc i) d within = absurd (omega arith)
join-take-suc f (x ∷ y ∷ xs) (suc zero) d within = sym (append_assoc (f x) (9 ∷ []) (f y))
join-take-suc f (x ∷ y ∷ xs) (suc (suc i)) d within =
    ap (λ (back : List ℕ). f x ++ 9 ∷ back) (join-take-suc f (y ∷ xs) (suc i) d (omega arith)) ∙ simp append_assoc

-- the same, as a loop over the parts has it
pub join-take-more : {X : Type 0} (f : X → List ℕ) (xs : List X) (i : ℕ) (y : X) → i < length xs → y ≡ get_or xs i y → join_with_byte 9 (map f (take (i + 1) xs)) ≡ (join_with_byte 9 (map f (take i xs)) ++ separator i) ++ f y
join-take-more f xs i y within is =
    rw add-one (join-take-suc f xs i y within ∙ ap (λ (last : _). (join_with_byte 9 (map f (take i xs)) ++ separator i) ++ f last) (sym is))
