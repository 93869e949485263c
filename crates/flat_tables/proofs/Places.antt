-- Where the fields, the entries and the named objects of a table stand.
use Rattle.std.proofs.Common.{◌≡◌, ℕ, zero, suc, ◌+◌, ◌*◌, ◌-◌, ◌<◌, ◌≤◌, List, [], ◌∷◌, ◌++◌, length, take, map, cond, eqb, Some, arith, refl, ap, subst, length-append}
use Rattle.std.specs.Prelude.{Bool, true, false, ◌&&◌, slice_get}
use Rattle.std.specs.List.{flat_map}
use Rattle.std.proofs.lemmas.List.{length-replicate}
use Rattle.flat_tables.specs.declared.object.FlatSlot.{FlatSlot}
use Rattle.flat_tables.specs.declared.object.FlatSlot.TheVariants.{Absent, U8, I16, I32, I64, Object}
use Rattle.flat_tables.specs.Layout.{Block, zeros, place_of, end_of, table_size, field_bytes, fields, named, is_absent, used, entries}
use Rattle.flat_tables.proofs.Standing.{Stands, first, second}
use Rattle.flat_tables.proofs.Filling.{end_after, length-field, table_size_after}

-- ---- lists

pub same_item : {X : Type 0} (x y : X) → Some x ≡ Some y → x ≡ y
same_item x y e = cc

pub no_item : {X P : Type 0} (x : X) (i : ℕ) → slice_get [] i ≡ Some x → P
no_item x i e = absurd (cc)

pub slice_get-map : {X Y : Type 0} (f : X → Y) (xs : List X) (i : ℕ) (x : X) → slice_get xs i ≡ Some x → slice_get (map f xs) i ≡ Some (f x)
slice_get-map f [] i x e = no_item x i e
slice_get-map f (y ∷ ys) zero x e = ap (λ z. Some (f z)) (same_item y x e)
slice_get-map f (y ∷ ys) (suc i) x e = slice_get-map f ys i x e

pub slice_get-take : {X : Type 0} (xs : List X) (n i : ℕ) → i < n → slice_get (take n xs) i ≡ slice_get xs i
slice_get-take xs zero i h = absurd (omega arith)
slice_get-take [] (suc n) i h = refl
slice_get-take (x ∷ xs) (suc n) zero h = refl
slice_get-take (x ∷ xs) (suc n) (suc i) h = slice_get-take xs n i (omega arith)

-- ---- fields

-- how many bytes the table has before a slot
abbrev pub end_at : {O : Type 0} → ℕ → List (FlatSlot O) → ℕ → ℕ
end_at end slots i = table_size end (take i slots)

-- where a slot's object begins, if it names one
abbrev pub next_at : ℕ → List (FlatSlot Block) → ℕ → ℕ
next_at next slots i = next + length (flat_map named (take i slots))

pub field_there : (slots : List (FlatSlot Block)) (end next : ℕ) (b : List ℕ) (t i : ℕ) (s : FlatSlot Block) → Stands b (t + end) (fields end next slots) → slice_get slots i ≡ Some s
    → Stands b (t + place_of (end_at end slots i) s) (field_bytes (place_of (end_at end slots i) s) (next_at next slots i) s)
field_there [] end next b t i s h e = no_item s i e
field_there (y ∷ ys) end next b t zero s h e =
    let gap : length (zeros (place_of end y - end)) ≡ place_of end y - end = length-replicate _ _ in
    let place : t + end + length (zeros (place_of end y - end)) ≡ t + place_of end y = omega (arith, gap, end_after end y) in
    let stays : next ≡ next + 0 = omega arith in
    subst (λ z. Stands b (t + place_of end z) (field_bytes (place_of end z) (next + 0) z)) (same_item y s e)
    (subst (λ (n : ℕ). Stands b (t + place_of end y) (field_bytes (place_of end y) n y)) stays
    (subst (λ (n : ℕ). Stands b n (field_bytes (place_of end y) next y)) place
    (first b _ (field_bytes (place_of end y) next y) (fields (end_of end y) (next + length (named y)) ys)
    (second b (t + end) (zeros (place_of end y - end)) (field_bytes (place_of end y) next y ++ fields (end_of end y) (next + length (named y)) ys) h))))
field_there (y ∷ ys) end next b t (suc i) s h e =
    let gap : length (zeros (place_of end y - end)) ≡ place_of end y - end = length-replicate _ _ in
    let place : t + end + length (zeros (place_of end y - end)) + length (field_bytes (place_of end y) next y) ≡ t + end_of end y = omega (arith, gap, end_after end y, length-field (place_of end y) next y) in
    let rest : Stands b (t + end_of end y) (fields (end_of end y) (next + length (named y)) ys) = subst (λ (n : ℕ). Stands b n (fields (end_of end y) (next + length (named y)) ys)) place
    (second b _ (field_bytes (place_of end y) next y) (fields (end_of end y) (next + length (named y)) ys)
    (second b (t + end) (zeros (place_of end y - end)) (field_bytes (place_of end y) next y ++ fields (end_of end y) (next + length (named y)) ys) h)) in
    let more : next + length (named y) + length (flat_map named (take i ys)) ≡ next + length (named y ++ flat_map named (take i ys)) = omega (arith, length-append (named y) (flat_map named (take i ys))) in
    subst (λ (n : ℕ). Stands b (t + place_of (end_at (end_of end y) ys i) s) (field_bytes (place_of (end_at (end_of end y) ys i) s) n s)) more
    (field_there ys (end_of end y) (next + length (named y)) b t i s rest e)

pub named_there : (slots : List (FlatSlot Block)) (b : List ℕ) (at i : ℕ) (s : FlatSlot Block) → Stands b at (flat_map named slots) → slice_get slots i ≡ Some s → Stands b (next_at at slots i) (named s)
named_there [] b at i s h e = no_item s i e
named_there (y ∷ ys) b at zero s h e =
    let stays : at ≡ at + 0 = omega arith in
    subst (λ z. Stands b (at + 0) (named z)) (same_item y s e) (subst (λ (n : ℕ). Stands b n (named y)) stays (first b at (named y) (flat_map named ys) h))
named_there (y ∷ ys) b at (suc i) s h e =
    let more : at + length (named y) + length (flat_map named (take i ys)) ≡ at + length (named y ++ flat_map named (take i ys)) = omega (arith, length-append (named y) (flat_map named (take i ys))) in
    subst (λ (n : ℕ). Stands b n (named s)) more (named_there ys b (at + length (named y)) i s (second b at (named y) (flat_map named ys) h) e)

-- a field ends before the table does
pub field_inside : {O : Type 0} (slots : List (FlatSlot O)) (end i : ℕ) (s : FlatSlot O) → slice_get slots i ≡ Some s → end_of (end_at end slots i) s ≤ table_size end slots
field_inside [] end i s e = no_item s i e
field_inside (y ∷ ys) end zero s e = subst (λ z. end_of end z ≤ table_size (end_of end y) ys) (same_item y s e) (table_size_after (end_of end y) ys)
field_inside (y ∷ ys) end (suc i) s e = field_inside ys (end_of end y) i s e

pub start_before : {O : Type 0} (slots : List (FlatSlot O)) (end i : ℕ) → end ≤ end_at end slots i
start_before slots end i = table_size_after end (take i slots)

slot_near : {O : Type 0} (end : ℕ) (s : FlatSlot O) → end_of end s ≤ end + 15
slot_near end Absent = omega arith
slot_near end (U8 n) = omega arith
slot_near end (I16 z) = omega arith
slot_near end (I32 z) = omega arith
slot_near end (I64 z) = omega arith
slot_near end (Object o) = omega arith

pub table_size_near : {O : Type 0} (slots : List (FlatSlot O)) (end : ℕ) → table_size end slots ≤ end + 15 * length slots
table_size_near [] end = omega arith
table_size_near (y ∷ ys) end = omega (arith, slot_near end y, table_size_near ys (end_of end y))

-- ---- entries

pub entry_there : {O : Type 0} (slots : List (FlatSlot O)) (end i : ℕ) (s : FlatSlot O) → slice_get slots i ≡ Some s → slice_get (entries end slots) i ≡ Some (cond (is_absent s) 0 (place_of (end_at end slots i) s))
entry_there [] end i s e = no_item s i e
entry_there (y ∷ ys) end zero s e = ap (λ z. Some (cond (is_absent z) 0 (place_of end z))) (same_item y s e)
entry_there (y ∷ ys) end (suc i) s e = entry_there ys (end_of end y) i s e

-- a slot past the used ones is absent
pub absent_past : {O : Type 0} (slots : List (FlatSlot O)) (i : ℕ) (s : FlatSlot O) → used slots ≤ i → slice_get slots i ≡ Some s → is_absent s ≡ true
absent_past [] i s h e = no_item s i e
absent_past (y ∷ ys) zero s h e = subst (λ z. is_absent z ≡ true) (same_item y s e) (none (is_absent y) (used ys) h)
  where
    none : (a : Bool) (n : ℕ) → cond (a && eqb n 0) 0 (n + 1) ≤ 0 → a ≡ true
    none true n k = refl
    none false n k = absurd (omega arith)
absent_past (y ∷ ys) (suc i) s h e = absent_past ys i s (fewer (is_absent y) (used ys) i h) e
  where
    fewer : (a : Bool) (n m : ℕ) → cond (a && eqb n 0) 0 (n + 1) ≤ suc m → n ≤ m
    fewer true n m k = grind arith
    fewer false n m k = omega arith
