-- How long objects are, counted up to a limit.
use Rattle.std.proofs.Common.{◌≡◌, ℕ, ◌+◌, ◌*◌, ◌<◌, ◌≤◌, List, [], ◌∷◌, ◌++◌, length, drop, map, get_or, arith, refl, sym, ap, ◌∙◌, length-append}
use Rattle.std.specs.List.{flat_map, sum_by}
use Rattle.std.specs.Int.{next_multiple_of}
use Rattle.std.proofs.lemmas.List.{length-map, drop_all}
use Rattle.std.proofs.lemmas.List.Sums.{sum_by-cons}
use Rattle.flat_tables.specs.declared.object.FlatObject.{FlatObject}
use Rattle.flat_tables.specs.declared.object.FlatPair.{FlatPair}
use Rattle.flat_tables.specs.ObjectLaws.{block-Table, block-Tables, block-Pairs, block-Text}
use Rattle.flat_tables.specs.ObjectSizes.{size, size_named, SizesAddUp}
use Rattle.flat_tables.specs.declared.object.FlatSlot.{FlatSlot}
use Rattle.flat_tables.specs.declared.object.FlatSlot.TheVariants.{Absent, U8, I16, I32, I64, Object}
use Rattle.flat_tables.specs.Layout.{Block, block, layout, used, table_size, named, fields, slot_map, vtable_bytes, vector_bytes, table_block, tables_block, pairs_block, text_block, pair_bytes}
use Rattle.flat_tables.proofs.Sizes.{length-vector, length-vtable, length-pairs}
use Rattle.flat_tables.proofs.TableFound.{own_bytes, length-own}
use Rattle.flat_tables.proofs.Filling.{length-fields}
use Rattle.flat_tables.proofs.Maps.{used-map, table_size-map, table_size-offsets}
use Rattle.flat_tables.proofs.Steps.{next_slot, next_table}

-- ---- all but what is named

pub length-table : (slots : List (FlatSlot FlatObject)) → length (table_block (map (slot_map block) slots)).bytes
    ≡ next_multiple_of (4 + 2 * used slots) 8 + next_multiple_of (table_size 4 slots) 8 + length (flat_map named (map (slot_map block) slots))
unfolding table_block
length-table slots = omega (
  arith,
  length-append (vtable_bytes seen) (own_bytes seen ++ flat_map named seen),
  length-append (own_bytes seen) (flat_map named seen),
  length-own seen,
  length-vtable seen ∙ ap (λ (n : ℕ). next_multiple_of (4 + 2 * n) 8) (used-map block slots),
  ap (λ (n : ℕ). next_multiple_of n 8) (table_size-map block 4 slots),
)
  where
    seen : List (FlatSlot Block)
    seen = map (slot_map block) slots

pub length-tables : (tables : List FlatObject) → length (tables_block (map block tables)).bytes ≡ next_multiple_of (8 + 4 * length tables) 8 + length (flat_map named (map Object (map block tables)))
unfolding tables_block
length-tables tables = length-append (vector_bytes (length blocks) items) (flat_map named (map Object blocks)) ∙ ap (λ (n : ℕ). n + length (flat_map named (map Object blocks))) own
  where
    blocks : List Block
    blocks = map block tables

    items : List ℕ
    items = fields 8 (next_multiple_of (8 + 4 * length blocks) 8) (map Object blocks)

    size : 8 + length items ≡ 8 + 4 * length tables
    size = length-fields 8 (next_multiple_of (8 + 4 * length blocks) 8) (map Object blocks) ∙ table_size-offsets 8 blocks refl ∙ ap (λ (n : ℕ). 8 + 4 * n) (length-map tables block)

    own : length (vector_bytes (length blocks) items) ≡ next_multiple_of (8 + 4 * length tables) 8
    own = length-vector (length blocks) items ∙ ap (λ (n : ℕ). next_multiple_of n 8) size

pub length-pairs_block : (pairs : List FlatPair) → length (pairs_block pairs).bytes ≡ next_multiple_of (8 + 16 * length pairs) 8
unfolding pairs_block
length-pairs_block pairs = length-vector (length pairs) (flat_map pair_bytes pairs) ∙ ap (λ (n : ℕ). next_multiple_of (8 + n) 8) (length-pairs pairs)

pub length-text_block : (text : List ℕ) → length (text_block text).bytes ≡ next_multiple_of (8 + 1 * (length text + 1)) 8
unfolding text_block
length-text_block text = length-vector (length text) (text ++ 0 ∷ []) ∙ ap (λ (n : ℕ). next_multiple_of (8 + n) 8) (let e : length (text ++ 0 ∷ []) ≡ 1 * (length text + 1) = omega (arith, length-append text (0 ∷ [])) in e)

-- ---- counting up to a limit

-- what is left to count of the objects that slots, or a vector's tables, name
abbrev pub slots_left : List (FlatSlot FlatObject) → ℕ → ℕ
slots_left slots i = length (flat_map named (map (slot_map block) (drop i slots)))

abbrev pub tables_left : List FlatObject → ℕ → ℕ
tables_left tables i = length (flat_map named (map Object (map block (drop i tables))))

pub slot_counted : (slots : List (FlatSlot FlatObject)) (i : ℕ) (slot : FlatSlot FlatObject) → i < length slots → slot ≡ get_or slots i slot → slots_left slots i ≡ length (named (slot_map block slot)) + slots_left slots (i + 1)
slot_counted slots i slot l is = ap (λ ss. length (flat_map named ss)) (next_slot slots i slot l is) ∙ length-append (named (slot_map block slot)) (flat_map named (map (slot_map block) (drop (i + 1) slots)))

pub table_counted : (tables : List FlatObject) (i : ℕ) (table : FlatObject) → i < length tables → table ≡ get_or tables i table → tables_left tables i ≡ length (block table).bytes + tables_left tables (i + 1)
table_counted tables i table l is = ap (λ ss. length (flat_map named ss)) (next_table tables i table l is) ∙ length-append (block table).bytes (flat_map named (map Object (map block (drop (i + 1) tables))))

pub slots_counted : (slots : List (FlatSlot FlatObject)) (i : ℕ) → length slots ≤ i → slots_left slots i ≡ 0
slots_counted slots i l = ap (λ ss. length (flat_map named (map (slot_map block) ss))) (drop_all i slots l)

pub tables_counted : (tables : List FlatObject) (i : ℕ) → length tables ≤ i → tables_left tables i ≡ 0
tables_counted tables i l = ap (λ ts. length (flat_map named (map Object (map block ts)))) (drop_all i tables l)

-- a slot that names no object adds nothing
pub nothing_named : (slot : FlatSlot FlatObject) → ((x : FlatObject) → slot ≡ Object x → ⊥) → length (named (slot_map block slot)) ≡ 0
nothing_named Absent no_object = refl
nothing_named (U8 n) no_object = refl
nothing_named (I16 z) no_object = refl
nothing_named (I32 z) no_object = refl
nothing_named (I64 z) no_object = refl
nothing_named (Object o) no_object = absurd (no_object o refl)

-- ---- the law of sizes

size_named_is : (slot : FlatSlot FlatObject) → length (named (slot_map block slot)) ≡ size_named slot
size_named_is Absent = refl
size_named_is (U8 n) = refl
size_named_is (I16 z) = refl
size_named_is (I32 z) = refl
size_named_is (I64 z) = refl
size_named_is (Object o) = refl

sum_named : (slots : List (FlatSlot FlatObject)) → length (flat_map named (map (slot_map block) slots)) ≡ sum_by size_named slots
sum_named [] = refl
sum_named (slot ∷ slots) = length-append (named (slot_map block slot)) (flat_map named (map (slot_map block) slots))
    ∙ ap (λ (n : ℕ). n + length (flat_map named (map (slot_map block) slots))) (size_named_is slot) ∙ ap (λ (n : ℕ). size_named slot + n) (sum_named slots) ∙ sym (sum_by-cons size_named slot slots)

sum_tables : (tables : List FlatObject) → length (flat_map named (map Object (map block tables))) ≡ sum_by size tables
sum_tables [] = refl
sum_tables (table ∷ tables) = length-append (block table).bytes (flat_map named (map Object (map block tables)))
    ∙ ap (λ (n : ℕ). size table + n) (sum_tables tables) ∙ sym (sum_by-cons size table tables)

pub sizes_add_up : SizesAddUp
sizes_add_up = record {
  table = λ slots. ap (λ b. length b.bytes) (block-Table slots) ∙ length-table slots ∙ ap (λ (n : ℕ). next_multiple_of (4 + 2 * used slots) 8 + next_multiple_of (table_size 4 slots) 8 + n) (sum_named slots);
  tables = λ tables. ap (λ b. length b.bytes) (block-Tables tables) ∙ length-tables tables ∙ ap (λ (n : ℕ). next_multiple_of (8 + 4 * length tables) 8 + n) (sum_tables tables);
  pairs = λ pairs. ap (λ b. length b.bytes) (block-Pairs pairs) ∙ length-pairs_block pairs;
  text = λ text. ap (λ b. length b.bytes) (block-Text text) ∙ length-text_block text ∙ ap (λ (n : ℕ). next_multiple_of n 8) (let e : 8 + 1 * (length text + 1) ≡ 8 + length text + 1 = omega arith in e);
  whole = λ object. let e : length (layout object) ≡ 8 + size object = omega arith in e;
}
