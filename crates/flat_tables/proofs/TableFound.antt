-- A built table, read slot by slot.
use Rattle.std.proofs.Common.{◌≡◌, ℕ, ◌+◌, ◌*◌, ◌-◌, ◌^◌, ◌<◌, ◌≤◌, List, ◌++◌, length, take, cond, eqb, ltb, Some, None, Ok, Result, Option, arith, rules, inl, inr, refl, ap, ◌∙◌, subst, length-append}
use Rattle.std.specs.Prelude.{pos, ◌-ℤ◌, Bool, true, false, slice_get, FitsSigned}
use Rattle.std.specs.List.{flat_map}
use Rattle.std.specs.Int.{w16, w32, to_le_bytes, next_multiple_of}
use Rattle.std.proofs.lemmas.Bool.{cases_lt}
use Rattle.std.proofs.lemmas.Int.{ints}
use Rattle.flat_tables.specs.declared.fault.FlatFault.{FlatFault}
use Rattle.flat_tables.specs.declared.object.FlatSlot.{FlatSlot}
use Rattle.flat_tables.specs.declared.object.FlatSlot.TheVariants.{Absent}
use Rattle.flat_tables.specs.Layout.{Block, zeros, padded, place_of, table_size, field_bytes, fields, named, is_absent, used, entries, vtable_bytes, table_block}
use Rattle.flat_tables.specs.Reading.{u16_at, i32_at, counted, place_before, vtable_at, entry_at, field_at}
use Rattle.flat_tables.proofs.Standing.{Stands, first, second, u16_there, i32_there, uniform}
use Rattle.flat_tables.proofs.Places.{end_at, next_at, field_there, named_there, field_inside, start_before, table_size_near, entry_there, absent_past, slice_get-take}
use Rattle.flat_tables.proofs.Sizes.{length-vtable, used_within, length-padded}
use Rattle.flat_tables.proofs.Filling.{length-fields, end_after}
use Rattle.std.proofs.lemmas.List.{take-take}

-- a table's own bytes
abbrev pub own_bytes : List (FlatSlot Block) → List ℕ
own_bytes slots = padded (to_le_bytes w32 (length (vtable_bytes slots)) ++ fields 4 (next_multiple_of (table_size 4 slots) 8) slots)

-- where its parts stand, if its block stands at a place
pub record Built (b : List ℕ) (at : ℕ) (slots : List (FlatSlot Block)) : Type 0 where
  pub few : length slots ≤ 4096
  pub short : length b < 2 ^ 31
  pub vtable : Stands b at (vtable_bytes slots)
  pub own : Stands b (at + length (vtable_bytes slots)) (own_bytes slots)
  pub kids : Stands b (at + length (vtable_bytes slots) + next_multiple_of (table_size 4 slots) 8) (flat_map named slots)

pub length-own : (slots : List (FlatSlot Block)) → length (own_bytes slots) ≡ next_multiple_of (table_size 4 slots) 8
length-own slots =
    let size : length (to_le_bytes w32 (length (vtable_bytes slots)) ++ fields 4 (next_multiple_of (table_size 4 slots) 8) slots) ≡ table_size 4 slots
    = omega (arith, length-fields 4 (next_multiple_of (table_size 4 slots) 8) slots, length-append (to_le_bytes w32 (length (vtable_bytes slots))) (fields 4 (next_multiple_of (table_size 4 slots) 8) slots)) in
    length-padded (to_le_bytes w32 (length (vtable_bytes slots)) ++ fields 4 (next_multiple_of (table_size 4 slots) 8) slots) ∙ ap (λ (n : ℕ). next_multiple_of n 8) size

pub built : (b : List ℕ) (at : ℕ) (slots : List (FlatSlot Block)) → length slots ≤ 4096 → length b < 2 ^ 31 → Stands b at (table_block slots).bytes → Built b at slots
unfolding table_block
built b at slots few short s = record {
  few = few;
  short = short;
  vtable = first b at (vtable_bytes slots) (own_bytes slots ++ flat_map named slots) s;
  own = first b _ (own_bytes slots) (flat_map named slots) rest;
  kids = subst (λ (n : ℕ). Stands b (at + length (vtable_bytes slots) + n) (flat_map named slots)) (length-own slots) (second b _ (own_bytes slots) (flat_map named slots) rest);
}
  where
    rest : Stands b (at + length (vtable_bytes slots)) (own_bytes slots ++ flat_map named slots)
    rest = second b at (vtable_bytes slots) (own_bytes slots ++ flat_map named slots) s

-- ---- the vtable

before : (t at n : ℕ) → t ≡ at + n → place_before t (pos n) ≡ Ok at
before t at n e = subst (λ z. counted t z ≡ Ok at) (let same : pos at ≡ pos t -ℤ pos n = omega (arith, ints, e) in same) refl

small : (n : ℕ) → n < 2 ^ 31 → FitsSigned w32 (pos n)
small n h = search rules

-- the vtable's own size, and its entries
size_stands : (b : List ℕ) (at : ℕ) (slots : List (FlatSlot Block)) → Stands b at (vtable_bytes slots) → Stands b at (to_le_bytes w16 (4 + 2 * used slots)) × Stands b (at + 4) (flat_map (to_le_bytes w16) (entries 4 (take (used slots) slots)))
size_stands b at slots s = (first b at head table (first b at (head ++ table) places whole), second b at (head ++ table) places whole)
  where
    head : List ℕ
    head = to_le_bytes w16 (4 + 2 * used slots)

    table : List ℕ
    table = to_le_bytes w16 (table_size 4 slots)

    places : List ℕ
    places = flat_map (to_le_bytes w16) (entries 4 (take (used slots) slots))

    whole : Stands b at (head ++ table ++ places)
    whole = first b at (head ++ table ++ places) (zeros (next_multiple_of (length (head ++ table ++ places)) 8 - length (head ++ table ++ places))) s

own_stands : (b : List ℕ) (at : ℕ) (slots : List (FlatSlot Block)) → Stands b at (own_bytes slots) → Stands b at (to_le_bytes w32 (length (vtable_bytes slots))) × Stands b (at + 4) (fields 4 (next_multiple_of (table_size 4 slots) 8) slots)
own_stands b at slots s = (first b at head rest whole, second b at head rest whole)
  where
    head : List ℕ
    head = to_le_bytes w32 (length (vtable_bytes slots))

    rest : List ℕ
    rest = fields 4 (next_multiple_of (table_size 4 slots) 8) slots

    whole : Stands b at (head ++ rest)
    whole = first b at (head ++ rest) (zeros (next_multiple_of (length (head ++ rest)) 8 - length (head ++ rest))) s

pub vtable_found : (b : List ℕ) (at : ℕ) (slots : List (FlatSlot Block)) → Built b at slots → vtable_at b (at + length (vtable_bytes slots)) ≡ Ok (at, 4 + 2 * used slots)
unfolding vtable_at
vtable_found b at slots h =
    let distance : i32_at b (at + length (vtable_bytes slots)) ≡ Ok (pos (length (vtable_bytes slots))) =
    i32_there b _ (pos (length (vtable_bytes slots))) (small _ (omega (arith, h.few, used_within slots, length-vtable slots))) (own_stands b _ slots h.own).0 in
    let size : u16_at b at ≡ Ok (4 + 2 * used slots) = u16_there b at (4 + 2 * used slots) (omega (arith, h.few, used_within slots)) (size_stands b at slots h.vtable).0 in
    rw (distance, before (at + length (vtable_bytes slots)) at (length (vtable_bytes slots)) refl, size) refl

-- ---- the slots

-- a slot past the used ones
past : (b : List ℕ) (t v used slot : ℕ) → used ≤ slot → entry_at b t slot (v, 4 + 2 * used) ≡ Ok None
unfolding entry_at
past b t v used slot h = grind arith

-- a slot among them
among : (b : List ℕ) (t v used slot e : ℕ) → slot < used → u16_at b (v + (4 + 2 * slot)) ≡ Ok e → entry_at b t slot (v, 4 + 2 * used) ≡ Ok (cond (eqb e 0) None (Some (t + e)))
unfolding entry_at
among b t v used slot e h r = let reached : ltb (4 + 2 * used) (6 + 2 * slot) ≡ false = grind arith in rw (reached, r) refl

entry_found : (b : List ℕ) (at : ℕ) (slots : List (FlatSlot Block)) (i : ℕ) (s : FlatSlot Block) → Built b at slots → i < used slots → slice_get slots i ≡ Some s
    → u16_at b (at + (4 + 2 * i)) ≡ Ok (cond (is_absent s) 0 (place_of (end_at 4 slots i) s))
entry_found b at slots i s h l e = u16_there b (at + (4 + 2 * i)) value fits (subst (λ (n : ℕ). Stands b n (to_le_bytes w16 value)) place
    (uniform (to_le_bytes w16) 2 (λ _. refl) b (at + 4) (entries 4 (take (used slots) slots)) i value (size_stands b at slots h.vtable).1 listed))
  where
    value : ℕ
    value = cond (is_absent s) 0 (place_of (end_at 4 slots i) s)

    same : end_at 4 (take (used slots) slots) i ≡ end_at 4 slots i
    same = ap (table_size 4) (take-take i (used slots) slots (omega (arith, l)))

    listed : slice_get (entries 4 (take (used slots) slots)) i ≡ Some value
    listed = entry_there (take (used slots) slots) 4 i s (slice_get-take slots (used slots) i l ∙ e) ∙ ap (λ (n : ℕ). Some (cond (is_absent s) 0 (place_of n s))) same

    place : at + 4 + i * 2 ≡ at + (4 + 2 * i)
    place = omega arith

    below : (a : Bool) (n : ℕ) → n < 2 ^ 16 → cond a 0 n < 2 ^ 16
    below true n k = omega arith
    below false n k = k

    fits : value < 2 ^ 16
    fits = below (is_absent s) (place_of (end_at 4 slots i) s) (omega (arith, h.few, field_inside slots 4 i s e, table_size_near slots 4))

pub absent_found : (b : List ℕ) (at : ℕ) (slots : List (FlatSlot Block)) (i : ℕ) → Built b at slots → slice_get slots i ≡ Some Absent → field_at b (at + length (vtable_bytes slots)) i ≡ Ok None
unfolding field_at
absent_found b at slots i h e = rw (vtable_found b at slots h) (elim (cases_lt i (used slots)) [
  | inl l ↦ among b (at + length (vtable_bytes slots)) at (used slots) i 0 l (entry_found b at slots i Absent h l e)
  | inr g ↦ past b (at + length (vtable_bytes slots)) at (used slots) i g
])

pub beyond_found : (b : List ℕ) (at : ℕ) (slots : List (FlatSlot Block)) (i : ℕ) → Built b at slots → length slots ≤ i → field_at b (at + length (vtable_bytes slots)) i ≡ Ok None
unfolding field_at
beyond_found b at slots i h g = rw (vtable_found b at slots h) (past b (at + length (vtable_bytes slots)) at (used slots) i (omega (arith, used_within slots)))

pub present_found : (b : List ℕ) (at : ℕ) (slots : List (FlatSlot Block)) (i : ℕ) (s : FlatSlot Block) → Built b at slots → slice_get slots i ≡ Some s → is_absent s ≡ false
    → field_at b (at + length (vtable_bytes slots)) i ≡ Ok (Some (at + length (vtable_bytes slots) + place_of (end_at 4 slots i) s))
unfolding field_at
present_found b at slots i s h e p = rw (vtable_found b at slots h) (elim (cases_lt i (used slots)) [
  | inl l ↦ among b t at (used slots) i (cond (is_absent s) 0 place) l (entry_found b at slots i s h l e) ∙ ap (λ (a : Bool). Ok (cond (eqb (cond a 0 place) 0) None (Some (t + cond a 0 place)))) p ∙ not_zero place far
  | inr g ↦ absurd (let a : is_absent s ≡ true = absent_past slots i s g e in cc)
])
  where
    t : ℕ
    t = at + length (vtable_bytes slots)

    place : ℕ
    place = place_of (end_at 4 slots i) s

    far : 4 ≤ place
    far = omega (arith, start_before slots 4 i, end_after (end_at 4 slots i) s)

    not_zero : (n : ℕ) → 4 ≤ n → (let r : Result (Option ℕ) FlatFault = Ok (cond (eqb n 0) None (Some (t + n))) in r) ≡ Ok (Some (t + n))
    not_zero n k = grind arith

pub field_stands : (b : List ℕ) (at : ℕ) (slots : List (FlatSlot Block)) (i : ℕ) (s : FlatSlot Block) → Built b at slots → slice_get slots i ≡ Some s
    → Stands b (at + length (vtable_bytes slots) + place_of (end_at 4 slots i) s) (field_bytes (place_of (end_at 4 slots i) s) (next_at (next_multiple_of (table_size 4 slots) 8) slots i) s)
field_stands b at slots i s h e = field_there slots 4 (next_multiple_of (table_size 4 slots) 8) b (at + length (vtable_bytes slots)) i s (own_stands b _ slots h.own).1 e

pub named_stands : (b : List ℕ) (at : ℕ) (slots : List (FlatSlot Block)) (i : ℕ) (s : FlatSlot Block) → Built b at slots → slice_get slots i ≡ Some s
    → Stands b (at + length (vtable_bytes slots) + next_at (next_multiple_of (table_size 4 slots) 8) slots i) (named s)
named_stands b at slots i s h e =
    let same : at + length (vtable_bytes slots) + next_multiple_of (table_size 4 slots) 8 + length (flat_map named (take i slots)) ≡ at + length (vtable_bytes slots) + (next_multiple_of (table_size 4 slots) 8 + length (flat_map named (take i slots))) = omega arith in
    subst (λ (n : ℕ). Stands b n (named s)) same (named_there slots b (at + length (vtable_bytes slots) + next_multiple_of (table_size 4 slots) 8) i s h.kids e)
