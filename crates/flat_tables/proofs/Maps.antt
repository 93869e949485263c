-- A table of its own is the same, whatever its slots name.
use Rattle.std.proofs.Common.{◌≡◌, ℕ, suc, ◌+◌, ◌*◌, ◌%◌, ◌-◌, List, [], ◌∷◌, ◌++◌, length, take, map, cond, eqb, arith, refl, sym, ap, ◌∙◌}
use Rattle.std.specs.Prelude.{Bool, ◌&&◌}
use Rattle.std.specs.List.{flat_map}
use Rattle.std.specs.Int.{w16, w32, to_le_bytes, next_multiple_of}
use Rattle.std.proofs.lemmas.List.{take-map}
use Rattle.flat_tables.specs.declared.object.FlatSlot.{FlatSlot}
use Rattle.flat_tables.specs.declared.object.FlatSlot.TheVariants.{Absent, U8, I16, I32, I64, Object}
use Rattle.flat_tables.specs.Layout.{Block, zeros, padded, size_of, place_of, end_of, table_size, is_absent, used, entries, vtable_bytes, fields, slot_map}
use Rattle.flat_tables.specs.Building.{blank_table, blank}

pub place_of-map : {O P : Type 0} (f : O → P) (end : ℕ) (slot : FlatSlot O) → place_of end (slot_map f slot) ≡ place_of end slot
place_of-map f end Absent = refl
place_of-map f end (U8 n) = refl
place_of-map f end (I16 z) = refl
place_of-map f end (I32 z) = refl
place_of-map f end (I64 z) = refl
place_of-map f end (Object o) = refl

pub size_of-map : {O P : Type 0} (f : O → P) (slot : FlatSlot O) → size_of (slot_map f slot) ≡ size_of slot
size_of-map f Absent = refl
size_of-map f (U8 n) = refl
size_of-map f (I16 z) = refl
size_of-map f (I32 z) = refl
size_of-map f (I64 z) = refl
size_of-map f (Object o) = refl

pub end_of-map : {O P : Type 0} (f : O → P) (end : ℕ) (slot : FlatSlot O) → end_of end (slot_map f slot) ≡ end_of end slot
end_of-map f end slot = omega (arith, place_of-map f end slot, size_of-map f slot)

is_absent-map : {O P : Type 0} (f : O → P) (slot : FlatSlot O) → is_absent (slot_map f slot) ≡ is_absent slot
is_absent-map f Absent = refl
is_absent-map f (U8 n) = refl
is_absent-map f (I16 z) = refl
is_absent-map f (I32 z) = refl
is_absent-map f (I64 z) = refl
is_absent-map f (Object o) = refl

blank-map : {O P : Type 0} (f : O → P) (slot : FlatSlot O) → blank (slot_map f slot) ≡ blank slot
blank-map f Absent = refl
blank-map f (U8 n) = refl
blank-map f (I16 z) = refl
blank-map f (I32 z) = refl
blank-map f (I64 z) = refl
blank-map f (Object o) = refl

blanks-map : {O P : Type 0} (f : O → P) (slots : List (FlatSlot O)) → map blank (map (slot_map f) slots) ≡ map blank slots
blanks-map f [] = refl
blanks-map f (slot ∷ slots) = ap (λ b. b ∷ map blank (map (slot_map f) slots)) (blank-map f slot) ∙ ap (λ bs. blank slot ∷ bs) (blanks-map f slots)

pub table_size-map : {O P : Type 0} (f : O → P) (end : ℕ) (slots : List (FlatSlot O)) → table_size end (map (slot_map f) slots) ≡ table_size end slots
table_size-map f end [] = refl
table_size-map f end (slot ∷ slots) = ap (λ (e : ℕ). table_size e (map (slot_map f) slots)) (end_of-map f end slot) ∙ table_size-map f (end_of end slot) slots

pub used-map : {O P : Type 0} (f : O → P) (slots : List (FlatSlot O)) → used (map (slot_map f) slots) ≡ used slots
used-map f [] = refl
used-map f (slot ∷ slots) =
    ap (λ (b : Bool). cond (b && eqb (used (map (slot_map f) slots)) 0) 0 (used (map (slot_map f) slots) + 1)) (is_absent-map f slot)
    ∙ ap (λ (n : ℕ). cond (is_absent slot && eqb n 0) 0 (n + 1)) (used-map f slots)

pub entries-map : {O P : Type 0} (f : O → P) (end : ℕ) (slots : List (FlatSlot O)) → entries end (map (slot_map f) slots) ≡ entries end slots
entries-map f end [] = refl
entries-map f end (slot ∷ slots) =
    ap (λ (b : Bool). cond b 0 (place_of end (slot_map f slot)) ∷ entries (end_of end (slot_map f slot)) (map (slot_map f) slots)) (is_absent-map f slot)
    ∙ ap (λ (n : ℕ). cond (is_absent slot) 0 n ∷ entries (end_of end (slot_map f slot)) (map (slot_map f) slots)) (place_of-map f end slot)
    ∙ ap (λ (n : ℕ). cond (is_absent slot) 0 (place_of end slot) ∷ entries n (map (slot_map f) slots)) (end_of-map f end slot)
    ∙ ap (λ (ns : List ℕ). cond (is_absent slot) 0 (place_of end slot) ∷ ns) (entries-map f (end_of end slot) slots)

pub vtable-map : {O P : Type 0} (f : O → P) (slots : List (FlatSlot O)) → vtable_bytes (map (slot_map f) slots) ≡ vtable_bytes slots
vtable-map f slots =
    ap (λ (n : ℕ). vtable (used (map (slot_map f) slots)) n (entries 4 (take (used (map (slot_map f) slots)) (map (slot_map f) slots)))) (table_size-map f 4 slots)
    ∙ ap (λ (n : ℕ). vtable n (table_size 4 slots) (entries 4 (take n (map (slot_map f) slots)))) (used-map f slots)
    ∙ ap (vtable (used slots) (table_size 4 slots)) (ap (entries 4) (take-map (slot_map f) (used slots) slots) ∙ entries-map f 4 (take (used slots) slots))
  where
    vtable : ℕ → ℕ → List ℕ → List ℕ
    vtable count size places = padded (to_le_bytes w16 (4 + 2 * count) ++ to_le_bytes w16 size ++ flat_map (to_le_bytes w16) places)

pub blank_table-map : {O P : Type 0} (f : O → P) (slots : List (FlatSlot O)) → blank_table (map (slot_map f) slots) ≡ blank_table slots
blank_table-map f slots =
    ap (λ (xs : List ℕ). xs ++ padded (to_le_bytes w32 (length xs) ++ fields 4 0 (map blank (map (slot_map f) slots)))) (vtable-map f slots)
    ∙ ap (λ (ss : List (FlatSlot Block)). vtable_bytes slots ++ padded (to_le_bytes w32 (length (vtable_bytes slots)) ++ fields 4 0 ss)) (blanks-map f slots)

-- ---- offsets of tables: fields of 4 bytes with nothing between them

pub table_size-offsets : {O : Type 0} (end : ℕ) (os : List O) → end % 4 ≡ 0 → table_size end (map Object os) ≡ end + 4 * length os
table_size-offsets end [] h = omega arith
table_size-offsets end (o ∷ os) h =
    let exact : next_multiple_of end 4 ≡ end = omega arith in
    let rest : table_size (next_multiple_of end 4 + 4) (map Object os) ≡ next_multiple_of end 4 + 4 + 4 * length os = table_size-offsets (next_multiple_of end 4 + 4) os (omega arith) in
    omega arith

pub fields-offsets : (end : ℕ) (bs : List Block) → end % 4 ≡ 0 → fields end 0 (map blank (map Object bs)) ≡ zeros (4 * length bs)
fields-offsets end [] h = refl
fields-offsets end (b ∷ bs) h =
    let none : next_multiple_of end 4 - end ≡ 0 = omega arith in
    let rest : fields (next_multiple_of end 4 + 4) 0 (map blank (map Object bs)) ≡ zeros (4 * length bs) = fields-offsets (next_multiple_of end 4 + 4) bs (omega arith) in
    let longer : 4 * length (b ∷ bs) ≡ suc (suc (suc (suc (4 * length bs)))) = omega arith in
    ap (λ (n : ℕ). zeros n ++ (0 ∷ 0 ∷ 0 ∷ 0 ∷ fields (next_multiple_of end 4 + 4) 0 (map blank (map Object bs)))) none
    ∙ ap (λ (xs : List ℕ). 0 ∷ 0 ∷ 0 ∷ 0 ∷ xs) rest ∙ ap zeros (sym longer)
