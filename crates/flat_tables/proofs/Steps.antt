-- The steps of a builder's walk over objects.
use Rattle.std.proofs.Common.{◌≡◌, ℕ, ◌+◌, ◌*◌, ◌%◌, ◌^◌, ◌<◌, ◌≤◌, List, [], ◌∷◌, ◌++◌, length, drop, map, get_or, arith, refl, sym, ap, ◌∙◌, subst, length-append, Result}
use Rattle.std.specs.Prelude.{IfOk}
use Rattle.std.specs.List.{flat_map}
use Rattle.std.proofs.lemmas.List.{drop_more, drop_all, length-map}
use Rattle.std.specs.Int.{w32, to_le_bytes, next_multiple_of}
use Rattle.flat_tables.specs.declared.object.FlatObject.{FlatObject}
use Rattle.flat_tables.specs.declared.object.FlatObject.TheVariants as V
use Rattle.flat_tables.specs.declared.object.FlatPair.{FlatPair}
use Rattle.flat_tables.specs.declared.object.FlatSlot.{FlatSlot}
use Rattle.flat_tables.specs.declared.object.FlatSlot.TheVariants.{Absent, U8, I16, I32, I64, Object}
use Rattle.flat_tables.specs.Layout.{Block, block, table_block, tables_block, pairs_block, text_block, slot_map, place_of, end_of, fields, zeros, padded, named, vtable_bytes, vector_bytes}
use Rattle.flat_tables.specs.Building.{HasRoom, Adds, Names, blank_table, blank}
use Rattle.flat_tables.specs.ObjectLaws.{block-Table, block-Tables, block-Pairs, block-Text}
use Rattle.flat_tables.proofs.Filling.{Filling, plain, object_step, object_fits, offset_inside, filled, start_table, start_tables, length-fields}
use Rattle.flat_tables.proofs.Maps.{vtable-map, table_size-offsets}
use Rattle.flat_tables.proofs.Sizes.{length-vector, length-vtable, length-padded}

-- ---- one kind of object

pub room_at : (out : List ℕ) (o : FlatObject) (b : Block) → block o ≡ b → HasRoom out (block o) → HasRoom out b
room_at out o b e h = subst (HasRoom out) e h

pub adds_at : {E : Type 0} (old new : List ℕ) (o : FlatObject) (b : Block) (r : Result ℕ E) → block o ≡ b → IfOk r (Adds old new b) → IfOk r (Adds old new (block o))
adds_at old new o b r e h = subst (λ x. IfOk r (Adds old new x)) (sym e) h

pub is_Table : (o : FlatObject) (slots xs : List (FlatSlot FlatObject)) → o ≡ V.Table slots → xs ≡ slots → block o ≡ table_block (map (slot_map block) xs)
is_Table o slots xs e f = ap block e ∙ block-Table slots ∙ ap (λ ss. table_block (map (slot_map block) ss)) (sym f)

pub is_Tables : (o : FlatObject) (tables xs : List FlatObject) → o ≡ V.Tables tables → xs ≡ tables → block o ≡ tables_block (map block xs)
is_Tables o tables xs e f = ap block e ∙ block-Tables tables ∙ ap (λ ts. tables_block (map block ts)) (sym f)

pub is_Pairs : (o : FlatObject) (pairs xs : List FlatPair) → o ≡ V.Pairs pairs → xs ≡ pairs → block o ≡ pairs_block xs
is_Pairs o pairs xs e f = ap block e ∙ block-Pairs pairs ∙ ap pairs_block (sym f)

pub is_Text : (o : FlatObject) (text xs : List ℕ) → o ≡ V.Text text → xs ≡ text → block o ≡ text_block xs
is_Text o text xs e f = ap block e ∙ block-Text text ∙ ap text_block (sym f)

-- ---- the slot, and the table, that comes next

pub next_slot : (slots : List (FlatSlot FlatObject)) (i : ℕ) (slot : FlatSlot FlatObject) → i < length slots → slot ≡ get_or slots i slot
    → map (slot_map block) (drop i slots) ≡ slot_map block slot ∷ map (slot_map block) (drop (i + 1) slots)
next_slot slots i slot l is = ap (map (slot_map block)) (drop_more slots i slot l ∙ ap (λ s. s ∷ drop (i + 1) slots) (sym is))

pub next_table : (tables : List FlatObject) (i : ℕ) (table : FlatObject) → i < length tables → table ≡ get_or tables i table
    → map Object (map block (drop i tables)) ≡ Object (block table) ∷ map Object (map block (drop (i + 1) tables))
next_table tables i table l is = ap (λ ts. map Object (map block ts)) (drop_more tables i table l ∙ ap (λ s. s ∷ drop (i + 1) tables) (sym is))

-- a slot that names no object stays as it was written
pub plain_slot : (slot : FlatSlot FlatObject) (rest : List (FlatSlot Block)) (final : List ℕ) (table end : ℕ) (out : List ℕ) → ((x : FlatObject) → slot ≡ Object x → ⊥)
    → Filling (slot_map block slot ∷ rest) final table end out → Filling rest final table (end_of end slot) out
plain_slot Absent rest final table end out not f = plain Absent rest final table end out (λ _. refl) refl f
plain_slot (U8 n) rest final table end out not f = plain (U8 n) rest final table end out (λ _. refl) refl f
plain_slot (I16 z) rest final table end out not f = plain (I16 z) rest final table end out (λ _. refl) refl f
plain_slot (I32 z) rest final table end out not f = plain (I32 z) rest final table end out (λ _. refl) refl f
plain_slot (I64 z) rest final table end out not f = plain (I64 z) rest final table end out (λ _. refl) refl f
plain_slot (Object o) rest final table end out not f = absurd (not o refl)

-- there is room for the object that comes next
pub room_next : (b : Block) (rest : List (FlatSlot Block)) (base : List ℕ) (whole : Block) (table end : ℕ) (out : List ℕ) → HasRoom base whole → length out % 8 ≡ 0
    → Filling (Object b ∷ rest) (base ++ whole.bytes) table end out → HasRoom out b
room_next b rest base whole table end out room aligned f = record {
  aligned = aligned;
  short = omega (arith, room.short, object_fits b rest (base ++ whole.bytes) table end out f, length-append base whole.bytes);
}

-- all slots are filled in
pub all_filled : (base : List ℕ) (whole : Block) (table end entry : ℕ) (out : List ℕ) → length out % 8 ≡ 0 → entry ≡ length base + whole.entry → whole.entry ≤ length whole.bytes
    → Filling [] (base ++ whole.bytes) table end out → Adds base out whole entry
all_filled base whole table end entry out aligned is inside f = record {
  bytes = filled (base ++ whole.bytes) table end out f;
  entry_is = is;
  inside = omega (arith, is, inside, ap length (filled (base ++ whole.bytes) table end out f), length-append base whole.bytes);
  aligned = aligned;
}

-- ---- the beginning of a table and of a vector of tables

pub entry_of_table : (slots : List (FlatSlot FlatObject)) → (table_block (map (slot_map block) slots)).entry ≡ length (vtable_bytes slots)
unfolding table_block
entry_of_table slots = ap length (vtable-map block slots)

pub blank_aligned : {O : Type 0} (base : List ℕ) (slots : List (FlatSlot O)) → length base % 8 ≡ 0 → length (base ++ blank_table slots) % 8 ≡ 0
blank_aligned base slots h = omega (arith, h, length-append base (blank_table slots), length-append (vtable_bytes slots) own, length-padded (to_le_bytes w32 (length (vtable_bytes slots)) ++ fields 4 0 (map blank slots)), length-vtable slots)
  where
    own : List ℕ
    own = padded (to_le_bytes w32 (length (vtable_bytes slots)) ++ fields 4 0 (map blank slots))

pub table_begun : (base new : List ℕ) (slots : List (FlatSlot FlatObject)) (table : ℕ) → new ≡ base ++ blank_table slots → table ≡ length base + length (vtable_bytes slots)
    → Filling (map (slot_map block) slots) (base ++ (table_block (map (slot_map block) slots)).bytes) table 4 new
table_begun base new slots table is at =
    subst (λ (xs : List ℕ). Filling seen (base ++ (table_block seen).bytes) table 4 xs) (sym is)
    (subst (λ (n : ℕ). Filling seen (base ++ (table_block seen).bytes) n 4 (base ++ blank_table slots)) (ap (λ (n : ℕ). length base + n) (entry_of_table slots) ∙ sym at) (start_table base slots block))
  where
    seen : List (FlatSlot Block)
    seen = map (slot_map block) slots

pub tables_begun : (base new : List ℕ) (tables : List FlatObject) (vector : ℕ) → new ≡ base ++ vector_bytes (length tables) (zeros (4 * length tables)) → vector ≡ length base
    → Filling (map Object (map block tables)) (base ++ (tables_block (map block tables)).bytes) vector 8 new
tables_begun base new tables vector is at =
    subst (λ (xs : List ℕ). Filling (map Object blocks) (base ++ (tables_block blocks).bytes) vector 8 xs) (ap (λ (n : ℕ). base ++ vector_bytes n (zeros (4 * n))) (length-map tables block) ∙ sym is)
    (subst (λ (n : ℕ). Filling (map Object blocks) (base ++ (tables_block blocks).bytes) n 8 (base ++ vector_bytes (length blocks) (zeros (4 * length blocks)))) (sym at) (start_tables base blocks))
  where
    blocks : List Block
    blocks = map block tables

pub tables_aligned : (base : List ℕ) (n : ℕ) (items : List ℕ) → length base % 8 ≡ 0 → length (base ++ vector_bytes n items) % 8 ≡ 0
tables_aligned base n items h = omega (arith, h, length-append base (vector_bytes n items), length-vector n items)

-- so few tables that their offsets fit
pub tables_few : (base : List ℕ) (tables : List FlatObject) → HasRoom base (tables_block (map block tables)) → length tables < 2 ^ 29
unfolding tables_block
tables_few base tables room = omega (
  arith,
  room.short,
  length-append (vector_bytes (length blocks) items) (flat_map named (map Object blocks)),
  length-vector (length blocks) items,
  length-fields 8 (next_multiple_of (8 + 4 * length blocks) 8) (map Object blocks),
  table_size-offsets 8 blocks refl,
  length-map tables block,
)
  where
    blocks : List Block
    blocks = map block tables

    items : List ℕ
    items = fields 8 (next_multiple_of (8 + 4 * length blocks) 8) (map Object blocks)

-- ---- one slot, and one table, more

pub named_slot : (slots : List (FlatSlot FlatObject)) (i : ℕ) (slot : FlatSlot FlatObject) (o : FlatObject) (final : List ℕ) (table end : ℕ) (out : List ℕ) → i < length slots → slot ≡ get_or slots i slot → slot ≡ Object o
    → Filling (map (slot_map block) (drop i slots)) final table end out → Filling (Object (block o) ∷ map (slot_map block) (drop (i + 1) slots)) final table end out
named_slot slots i slot o final table end out l is e f =
    subst (λ ss. Filling ss final table end out) (next_slot slots i slot l is ∙ ap (λ s. slot_map block s ∷ map (slot_map block) (drop (i + 1) slots)) e) f

pub slot_done : (slots : List (FlatSlot FlatObject)) (i : ℕ) (slot : FlatSlot FlatObject) (o : FlatObject) (final : List ℕ) (table end place after : ℕ) (out new : List ℕ) → i < length slots → slot ≡ get_or slots i slot → slot ≡ Object o
    → place ≡ place_of end slot → after ≡ end_of end slot → Names out new (block o) (table + place)
    → Filling (map (slot_map block) (drop i slots)) final table end out → Filling (map (slot_map block) (drop (i + 1) slots)) final table after new
slot_done slots i slot o final table end place after out new l is e at stop names f =
    subst (λ (n : ℕ). Filling (map (slot_map block) (drop (i + 1) slots)) final table n new) (sym (stop ∙ ap (end_of end) e))
    (object_step (block o) (map (slot_map block) (drop (i + 1) slots)) final table end (table + place) out new (ap (λ (n : ℕ). table + n) (at ∙ ap (place_of end) e)) names (named_slot slots i slot o final table end out l is e f))

pub slot_kept : (slots : List (FlatSlot FlatObject)) (i : ℕ) (slot : FlatSlot FlatObject) (final : List ℕ) (table end after : ℕ) (out : List ℕ) → i < length slots → slot ≡ get_or slots i slot → ((x : FlatObject) → slot ≡ Object x → ⊥)
    → after ≡ end_of end slot → Filling (map (slot_map block) (drop i slots)) final table end out → Filling (map (slot_map block) (drop (i + 1) slots)) final table after out
slot_kept slots i slot final table end after out l is not stop f =
    subst (λ (n : ℕ). Filling (map (slot_map block) (drop (i + 1) slots)) final table n out) (sym stop)
    (plain_slot slot (map (slot_map block) (drop (i + 1) slots)) final table end out not (subst (λ ss. Filling ss final table end out) (next_slot slots i slot l is) f))

pub named_table : (tables : List FlatObject) (i : ℕ) (table : FlatObject) (final : List ℕ) (vector end : ℕ) (out : List ℕ) → i < length tables → table ≡ get_or tables i table
    → Filling (map Object (map block (drop i tables))) final vector end out → Filling (Object (block table) ∷ map Object (map block (drop (i + 1) tables))) final vector end out
named_table tables i table final vector end out l is f = subst (λ ss. Filling ss final vector end out) (next_table tables i table l is) f

pub table_done : (tables : List FlatObject) (i : ℕ) (table : FlatObject) (final : List ℕ) (vector place : ℕ) (out new : List ℕ) → i < length tables → table ≡ get_or tables i table → place ≡ vector + (8 + 4 * i)
    → Names out new (block table) place → Filling (map Object (map block (drop i tables))) final vector (8 + 4 * i) out → Filling (map Object (map block (drop (i + 1) tables))) final vector (8 + 4 * (i + 1)) new
table_done tables i table final vector place out new l is at names f =
    let stop : next_multiple_of (8 + 4 * i) 4 + 4 ≡ 8 + 4 * (i + 1) = omega arith in
    subst (λ (n : ℕ). Filling (map Object (map block (drop (i + 1) tables))) final vector n new) stop
    (object_step (block table) (map Object (map block (drop (i + 1) tables))) final vector (8 + 4 * i) place out new (omega (arith, at)) names (named_table tables i table final vector (8 + 4 * i) out l is f))

pub offset_of_table : (tables : List FlatObject) (i : ℕ) (table : FlatObject) (final : List ℕ) (vector place : ℕ) (out : List ℕ) → i < length tables → table ≡ get_or tables i table → place ≡ vector + (8 + 4 * i)
    → Filling (map Object (map block (drop i tables))) final vector (8 + 4 * i) out → place + 4 ≤ length out
offset_of_table tables i table final vector place out l is at f =
    offset_inside (Object (block table)) (map Object (map block (drop (i + 1) tables))) final vector (8 + 4 * i) place out (omega (arith, at)) refl (named_table tables i table final vector (8 + 4 * i) out l is f)

pub slots_over : (slots : List (FlatSlot FlatObject)) (i : ℕ) (final : List ℕ) (table end : ℕ) (out : List ℕ) → length slots ≤ i → Filling (map (slot_map block) (drop i slots)) final table end out → Filling [] final table end out
slots_over slots i final table end out l f = subst (λ ss. Filling (map (slot_map block) ss) final table end out) (drop_all i slots l) f

pub tables_over : (tables : List FlatObject) (i : ℕ) (final : List ℕ) (vector end : ℕ) (out : List ℕ) → length tables ≤ i → Filling (map Object (map block (drop i tables))) final vector end out → Filling [] final vector end out
tables_over tables i final vector end out l f = subst (λ ts. Filling (map Object (map block ts)) final vector end out) (drop_all i tables l) f

pub entry_of_tables : (blocks : List Block) → (tables_block blocks).entry ≡ 4
unfolding tables_block
entry_of_tables blocks = refl
