-- How long the parts of a layout are.
use Rattle.std.proofs.Common.{◌≡◌, ℕ, suc, ◌+◌, ◌*◌, ◌-◌, ◌%◌, ◌≤◌, List, [], ◌∷◌, ◌++◌, length, take, map, cond, eqb, arith, refl, length-append, ◌∙◌, ap}
use Rattle.std.specs.Prelude.{ℤ, Bool, true, false, ◌&&◌}
use Rattle.std.specs.List.{flat_map}
use Rattle.std.specs.Int.{w16, w32, to_le_bytes, next_multiple_of}
use Rattle.std.proofs.lemmas.List.{length-replicate, length-take-le, append_assoc}
use Rattle.flat_tables.specs.declared.object.FlatPair.{FlatPair}
use Rattle.flat_tables.specs.declared.object.FlatSlot.{FlatSlot}
use Rattle.flat_tables.specs.declared.object.FlatSlot.TheVariants.{Object}
use Rattle.flat_tables.specs.Layout.{Block, table_size, fields, named, table_block, tables_block, used, is_absent, end_of, entries, vtable_bytes, zeros, padded, i64_bytes, pair_bytes, vector_bytes}

pub length-padded : (xs : List ℕ) → length (padded xs) ≡ next_multiple_of (length xs) 8
length-padded xs = omega (arith, length-append xs (zeros (next_multiple_of (length xs) 8 - length xs)), length-replicate (next_multiple_of (length xs) 8 - length xs) (let z : ℕ = 0 in z))

pub padded_aligned : (xs : List ℕ) → length (padded xs) % 8 ≡ 0
padded_aligned xs = omega (arith, length-padded xs)

-- where the bytes before are a multiple of 8, the zeros up to the next one are those of what comes after
pub padded_after : (base xs : List ℕ) → length base % 8 ≡ 0 → (base ++ xs) ++ zeros (next_multiple_of (length (base ++ xs)) 8 - length (base ++ xs)) ≡ base ++ padded xs
padded_after base xs h = let same : next_multiple_of (length (base ++ xs)) 8 - length (base ++ xs) ≡ next_multiple_of (length xs) 8 - length xs = omega (arith, length-append base xs) in
    rw same (append_assoc base xs (zeros (next_multiple_of (length xs) 8 - length xs)))

pub length-vector : (count : ℕ) (items : List ℕ) → length (vector_bytes count items) ≡ next_multiple_of (8 + length items) 8
length-vector count items =
    let head : length (zeros 4 ++ (to_le_bytes w32 count ++ items)) ≡ 8 + length items = omega arith in
    length-padded (zeros 4 ++ (to_le_bytes w32 count ++ items)) ∙ ap (λ (n : ℕ). next_multiple_of n 8) head

pub length-i64 : (z : ℤ) → length (i64_bytes z) ≡ 8
unfolding i64_bytes
length-i64 z = refl

pub length-pairs : (ps : List FlatPair) → length (flat_map pair_bytes ps) ≡ 16 * length ps
length-pairs [] = refl
length-pairs (p ∷ ps) = omega (arith, length-append (pair_bytes p) (flat_map pair_bytes ps), length-append (i64_bytes p.first) (i64_bytes p.second), length-i64 p.first, length-i64 p.second, length-pairs ps)

-- ---- vtables

pub used_within : {O : Type 0} (slots : List (FlatSlot O)) → used slots ≤ length slots
used_within [] = omega arith
used_within (slot ∷ slots) = step (is_absent slot) (used slots) (length slots) (used_within slots)
  where
    step : (absent : Bool) (n m : ℕ) → n ≤ m → cond (absent && eqb n 0) 0 (n + 1) ≤ suc m
    step true n m h = grind arith
    step false n m h = omega arith

pub length-entries : {O : Type 0} (end : ℕ) (slots : List (FlatSlot O)) → length (entries end slots) ≡ length slots
length-entries end [] = refl
length-entries end (slot ∷ slots) = ap suc (length-entries (end_of end slot) slots)

pub length-u16s : (ns : List ℕ) → length (flat_map (to_le_bytes w16) ns) ≡ 2 * length ns
length-u16s [] = refl
length-u16s (n ∷ ns) = omega (arith, length-u16s ns)

pub length-vtable : {O : Type 0} (slots : List (FlatSlot O)) → length (vtable_bytes slots) ≡ next_multiple_of (4 + 2 * used slots) 8
length-vtable slots =
    let listed : length (entries 4 (take (used slots) slots)) ≡ used slots = length-entries 4 (take (used slots) slots) ∙ length-take-le (used slots) slots (used_within slots) in
    let head : length (to_le_bytes w16 (4 + 2 * used slots) ++ to_le_bytes w16 (table_size 4 slots) ++ flat_map (to_le_bytes w16) (entries 4 (take (used slots) slots))) ≡ 4 + 2 * used slots
    = omega (arith, length-u16s (entries 4 (take (used slots) slots))) in
    length-padded (to_le_bytes w16 (4 + 2 * used slots) ++ to_le_bytes w16 (table_size 4 slots) ++ flat_map (to_le_bytes w16) (entries 4 (take (used slots) slots))) ∙ ap (λ (n : ℕ). next_multiple_of n 8) head

-- ---- the place that an offset names lies in the object

pub table_inside : (slots : List (FlatSlot Block)) → (table_block slots).entry ≤ length (table_block slots).bytes
unfolding table_block
table_inside slots = omega (arith, length-append (vtable_bytes slots) (padded (to_le_bytes w32 (length (vtable_bytes slots)) ++ fields 4 (next_multiple_of (table_size 4 slots) 8) slots) ++ flat_map named slots))

pub tables_inside : (blocks : List Block) → (tables_block blocks).entry ≤ length (tables_block blocks).bytes
unfolding tables_block
tables_inside blocks = omega (arith, length-append (vector_bytes (length blocks) items) (flat_map named (map Object blocks)), length-vector (length blocks) items)
  where
    items : List ℕ
    items = fields 8 (next_multiple_of (8 + 4 * length blocks) 8) (map Object blocks)
