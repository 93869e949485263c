-- What is built is aligned.
use Rattle.std.proofs.Common.{◌≡◌, ℕ, ◌+◌, ◌%◌, false, List, [], ◌∷◌, map, arith, refl, ap, ◌∙◌, subst, sym}
use Rattle.std.specs.List.{sum_by}
use Rattle.std.proofs.lemmas.List.Sums.{sum_by-cons}
use Rattle.flat_tables.specs.declared.object.FlatObject.{FlatObject}
use Rattle.flat_tables.specs.declared.object.FlatPair.{FlatPair}
use Rattle.flat_tables.specs.declared.object.FlatSlot.{FlatSlot}
use Rattle.flat_tables.specs.declared.object.FlatSlot.TheVariants.{Absent, U8, I16, I32, I64, Object}
use Rattle.flat_tables.specs.declared.object.FlatObject.TheVariants as V
use Rattle.flat_tables.specs.declared.object.FlatObject.TheOpen as O
use Rattle.flat_tables.specs.declared.object.FlatObject.TheOpen.{FlatObject-F}
use Rattle.flat_tables.specs.declared.object.FlatObject.TheViews.{roll-FlatObject}
use Rattle.flat_tables.specs.declared.object.FlatObject.TheFolds.{map-FlatObject, ind-FlatObject}
use Rattle.flat_tables.specs.Layout.{is_absent, size_of, place_of, block, slot_map, table_block, tables_block, pairs_block, text_block}
use Rattle.flat_tables.specs.ObjectSizes.{size, size_named}
use Rattle.flat_tables.specs.ObjectLaws.{block-Table, block-Tables, block-Pairs, block-Text, slots_in, slots_of-map}
use Rattle.flat_tables.specs.Alignment.{Is8, LayoutsAreAligned}
use Rattle.flat_tables.proofs.Sizes.{length-vtable}
use Rattle.flat_tables.proofs.Bounds.{sizes_add_up}

-- ---- objects

abbrev IsAligned : FlatObject → Type 0
IsAligned object = Is8 (size object)

abbrev With : Type 0
With = (object : FlatObject) × IsAligned object

abbrev bare : With → FlatObject
bare e = e.0

tables_sum : (tables : List With) → Is8 (sum_by size (map bare tables))
tables_sum [] = refl
tables_sum (table ∷ tables) = let e : sum_by size (map bare (table ∷ tables)) ≡ size table.0 + sum_by size (map bare tables) = sum_by-cons size table.0 (map bare tables) in
    rw e (omega (arith, table.1, tables_sum tables))

named_aligned : (slot : FlatSlot With) → Is8 (size_named (slot_map bare slot))
named_aligned Absent = refl
named_aligned (U8 n) = refl
named_aligned (I16 z) = refl
named_aligned (I32 z) = refl
named_aligned (I64 z) = refl
named_aligned (Object o) = o.1

slots_sum : (slots : List (FlatSlot With)) → Is8 (sum_by size_named (map (slot_map bare) slots))
slots_sum [] = refl
slots_sum (slot ∷ slots) =
    let e : sum_by size_named (map (slot_map bare) (slot ∷ slots)) ≡ size_named (slot_map bare slot) + sum_by size_named (map (slot_map bare) slots)
    = sum_by-cons size_named (slot_map bare slot) (map (slot_map bare) slots) in
    rw e (omega (arith, named_aligned slot, slots_sum slots))

at_layer : (y : FlatObject-F With) → IsAligned (roll-FlatObject (map-FlatObject With FlatObject bare y))
unfolding slots_in
at_layer (O.Table slots) =
    let here : roll-FlatObject (map-FlatObject With FlatObject bare (O.Table slots)) ≡ V.Table (map (slot_map bare) slots)
    = ap (λ (ss : List (FlatSlot FlatObject)). roll-FlatObject (O.Table ss)) (slots_of-map bare slots) ∙ V.rolls-Table (map (slot_map bare) slots) in
    subst IsAligned (sym here) (table_aligned (map (slot_map bare) slots) (slots_sum slots))
  where
    table_aligned : (slots : List (FlatSlot FlatObject)) → Is8 (sum_by size_named slots) → IsAligned (V.Table slots)
    table_aligned slots h = rw (sizes_add_up.table slots) (omega (arith, h))
at_layer (O.Tables tables) = subst IsAligned (sym (V.rolls-Tables (map bare tables))) (tables_aligned (map bare tables) (tables_sum tables))
  where
    tables_aligned : (tables : List FlatObject) → Is8 (sum_by size tables) → IsAligned (V.Tables tables)
    tables_aligned tables h = rw (sizes_add_up.tables tables) (omega (arith, h))
at_layer (O.Pairs pairs) = subst IsAligned (sym (V.rolls-Pairs pairs)) (rw (sizes_add_up.pairs pairs) (omega arith))
at_layer (O.Text text) = subst IsAligned (sym (V.rolls-Text text)) (rw (sizes_add_up.text text) (omega arith))

objects_aligned : (object : FlatObject) → IsAligned object
objects_aligned = ind-FlatObject IsAligned (λ x y is. subst (λ (z : FlatObject-F FlatObject). IsAligned (roll-FlatObject z)) is (at_layer y))

-- ---- fields and items

field_places : (end : ℕ) (slot : FlatSlot FlatObject) → is_absent slot ≡ false → place_of end slot % size_of slot ≡ 0
field_places end Absent h = absurd (cc)
field_places end (U8 n) h = omega arith
field_places end (I16 z) h = omega arith
field_places end (I32 z) h = omega arith
field_places end (I64 z) h = omega arith
field_places end (Object o) h = omega arith

table_places : (slots : List (FlatSlot FlatObject)) → Is8 (block (V.Table slots)).entry
unfolding table_block
table_places slots = rw (block-Table slots, length-vtable (map (slot_map block) slots)) (omega arith)

offset_places : (tables : List FlatObject) → Is8 ((block (V.Tables tables)).entry + 4)
unfolding tables_block
offset_places tables = rw (block-Tables tables) refl

pair_places : (ps : List FlatPair) → Is8 ((block (V.Pairs ps)).entry + 4)
unfolding pairs_block
pair_places ps = rw (block-Pairs ps) refl

text_places : (text : List ℕ) → Is8 ((block (V.Text text)).entry + 4)
unfolding text_block
text_places text = rw (block-Text text) refl

pub layouts_are_aligned : LayoutsAreAligned
layouts_are_aligned = record {
  objects = objects_aligned;
  buffers = λ object. omega (arith, objects_aligned object, sizes_add_up.whole object);
  tables = table_places;
  fields = field_places;
  offsets = offset_places;
  pairs = pair_places;
  texts = text_places;
}
