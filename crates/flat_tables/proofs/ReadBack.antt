-- What is built is read back, one kind of object at a time.
use Rattle.std.proofs.Common.{◌≡◌, ℕ, zero, suc, ◌+◌, ◌*◌, ◌-◌, ◌^◌, ◌<◌, ◌≤◌, List, [], ◌∷◌, ◌++◌, length, take, map, Some, Ok, arith, refl, sym, ap, ◌∙◌, subst, length-append}
use Rattle.std.specs.Prelude.{slice_get, All}
use Rattle.std.specs.List.{flat_map}
use Rattle.std.specs.Int.{w32, to_le_bytes, next_multiple_of}
use Rattle.std.proofs.lemmas.List.{length-map, take-map, length-take-le, append-nil}
use Rattle.std.proofs.Math.Nat.{mul_comm}
use Rattle.std.proofs.lemmas.Option.{slice_get_within, get_or_from_slice_get}
use Rattle.flat_tables.specs.declared.object.FlatObject.{FlatObject}
use Rattle.flat_tables.specs.declared.object.FlatObject.TheVariants as V
use Rattle.flat_tables.specs.declared.object.FlatObject.TheOpen as O
use Rattle.flat_tables.specs.declared.object.FlatObject.TheOpen.{FlatObject-F}
use Rattle.flat_tables.specs.declared.object.FlatObject.TheViews.{out-FlatObject, roll-FlatObject, roll-out-FlatObject}
use Rattle.flat_tables.specs.declared.object.FlatPair.{FlatPair}
use Rattle.flat_tables.specs.declared.object.FlatSlot.{FlatSlot}
use Rattle.flat_tables.specs.declared.object.FlatSlot.TheVariants.{Absent, U8, I16, I32, I64, Object}
use Rattle.flat_tables.specs.Layout.{Block, block, layout, zeros, place_of, table_size, fields, named, vtable_bytes, vector_bytes, table_block, tables_block, pairs_block, text_block, pair_bytes, i64_bytes, slot_map, OnNamed, IsBuildable}
use Rattle.flat_tables.specs.Views.{TableView, VectorView}
use Rattle.flat_tables.specs.Reading.{target_at, table_at, named_table, items_from, named_vector, named_text}
use Rattle.flat_tables.specs.Found.{Finding, SlotReads, Found, FoundTo, NumberFits, HasFittingNumbers, ReadsBack}
use Rattle.flat_tables.proofs.Blocks.{entry_inside}
use Rattle.flat_tables.specs.ObjectLaws.{block-Table, block-Tables, block-Pairs, block-Text, slots_are_few, slots_are_buildable, tables_are_buildable, numbers_here, numbers_in_slots, numbers_in_tables}
use Rattle.flat_tables.proofs.Standing.{Stands, first, second, within, taken, u8_there, u32_there, i16_there, i32_there, i64_there, uniform}
use Rattle.flat_tables.proofs.Places.{end_at, next_at, field_there, named_there, field_inside, slice_get-map}
use Rattle.flat_tables.proofs.TableFound.{Built, built, vtable_found, absent_found, beyond_found, present_found, field_stands, named_stands}
use Rattle.flat_tables.proofs.Sizes.{length-vector, length-i64}
use Rattle.flat_tables.proofs.Maps.{table_size-offsets}
use Rattle.flat_tables.proofs.Filling.{length-fields}

-- the offset at a place leads to the object's bytes
pub record IsAt (b : List ℕ) (place : ℕ) (bk : Block) : Type 0 where
  pub at : ℕ
  pub stands : Stands b at bk.bytes
  pub leads : target_at b place ≡ Ok (at + bk.entry)

-- an offset that is written as a distance leads there
leads_to : (b : List ℕ) (place distance target : ℕ) → distance < 2 ^ 32 → place + distance ≡ target → Stands b place (to_le_bytes w32 distance) → target_at b place ≡ Ok target
unfolding target_at
leads_to b place distance target fits e s = rw (u32_there b place distance fits s) (ap (λ (n : ℕ). Ok n) e)

-- an offset and the object that it names, both counted from one place
named_at : (b : List ℕ) (t place next : ℕ) (bk : Block) → length b < 2 ^ 31 → bk.entry ≤ length bk.bytes → place ≤ next → Stands b (t + place) (to_le_bytes w32 (next + bk.entry - place)) → Stands b (t + next) bk.bytes → IsAt b (t + place) bk
named_at b t place next bk short inside order offset s = record {
  at = t + next;
  stands = s;
  leads = leads_to b (t + place) (next + bk.entry - place) (t + next + bk.entry) (omega (arith, within b (t + next) bk.bytes s)) (omega arith) offset;
}

-- ---- tables

item_holds : {X : Type 0} (P : X → Type 0) (xs : List X) (i : ℕ) (x : X) → All P xs → slice_get xs i ≡ Some x → P x
item_holds P xs i x all e = subst P (get_or_from_slice_get xs i x x e) (all i x (slice_get_within xs i x e))

table_reached : (b : List ℕ) (at place : ℕ) (slots : List (FlatSlot Block)) → Built b at slots → target_at b place ≡ Ok (at + length (vtable_bytes slots)) → named_table b place ≡ Ok (record { buffer = b; place = at + length (vtable_bytes slots) })
unfolding named_table table_at
table_reached b at place slots h leads = rw (leads, vtable_found b at slots h) refl

abbrev seen : List (FlatSlot FlatObject) → List (FlatSlot Block)
seen slots = map (slot_map block) slots

slot_read : (finds : Finding) (b : List ℕ) (at : ℕ) (slots : List (FlatSlot FlatObject)) → Built b at (seen slots)
    → ((i : ℕ) (o : FlatObject) → slice_get slots i ≡ Some (Object o) → (place : ℕ) → IsAt b place (block o) → finds o b place)
    → (i : ℕ) (s : FlatSlot FlatObject) → slice_get slots i ≡ Some s → NumberFits s → SlotReads finds (record { buffer = b; place = at + length (vtable_bytes (seen slots)) }) i s
slot_read finds b at slots h found i Absent e n = absent_found b at (seen slots) i h (slice_get-map (slot_map block) slots i Absent e)
slot_read finds b at slots h found i (U8 n) e fits =
    let item : slice_get (seen slots) i ≡ Some (U8 n) = slice_get-map (slot_map block) slots i (U8 n) e in
    rw (present_found b at (seen slots) i (U8 n) h item refl, u8_there b _ n (field_stands b at (seen slots) i (U8 n) h item)) refl
slot_read finds b at slots h found i (I16 z) e fits =
    let item : slice_get (seen slots) i ≡ Some (I16 z) = slice_get-map (slot_map block) slots i (I16 z) e in
    rw (present_found b at (seen slots) i (I16 z) h item refl, i16_there b _ z fits (field_stands b at (seen slots) i (I16 z) h item)) refl
slot_read finds b at slots h found i (I32 z) e fits =
    let item : slice_get (seen slots) i ≡ Some (I32 z) = slice_get-map (slot_map block) slots i (I32 z) e in
    rw (present_found b at (seen slots) i (I32 z) h item refl, i32_there b _ z fits (field_stands b at (seen slots) i (I32 z) h item)) refl
slot_read finds b at slots h found i (I64 z) e fits =
    let item : slice_get (seen slots) i ≡ Some (I64 z) = slice_get-map (slot_map block) slots i (I64 z) e in
    rw (present_found b at (seen slots) i (I64 z) h item refl, i64_there b _ z fits (field_stands b at (seen slots) i (I64 z) h item)) refl
slot_read finds b at slots h found i (Object o) e fits =
    let item : slice_get (seen slots) i ≡ Some (Object (block o)) = slice_get-map (slot_map block) slots i (Object o) e in (
      at + length (vtable_bytes (seen slots)) + place_of (end_at 4 (seen slots) i) (Object (block o)),
      present_found b at (seen slots) i (Object (block o)) h item refl,
      found i o e _ (named_at b (at + length (vtable_bytes (seen slots))) (place_of (end_at 4 (seen slots) i) (Object (block o))) (next_at (next_multiple_of (table_size 4 (seen slots)) 8) (seen slots) i) (block o) h.short (entry_inside o)
          (omega (arith, field_inside (seen slots) 4 i (Object (block o)) item)) (field_stands b at (seen slots) i (Object (block o)) h item) (named_stands b at (seen slots) i (Object (block o)) h item)),
    )

abbrev Reading_is : ℕ → Type 0
Reading_is depth = (o : FlatObject) (b : List ℕ) (place : ℕ) → IsBuildable o → HasFittingNumbers o → length b < 2 ^ 31 → IsAt b place (block o) → FoundTo depth o b place

table_entry : (slots : List (FlatSlot Block)) → (table_block slots).entry ≡ length (vtable_bytes slots)
unfolding table_block
table_entry slots = refl

table_read : (depth : ℕ) → Reading_is depth → (slots : List (FlatSlot FlatObject)) (b : List ℕ) (place : ℕ) → IsBuildable (V.Table slots) → HasFittingNumbers (V.Table slots) → length b < 2 ^ 31
    → IsAt b place (table_block (seen slots)) → Found (FoundTo depth) (O.Table slots) b place
table_read depth below slots b place can fits short is = (
  t,
  table_reached b is.at place (seen slots) parts leads,
  record {
    each = λ i s e. slot_read (FoundTo depth) b is.at slots parts (λ j o f p at. below o b p (item_holds (OnNamed IsBuildable) slots j (Object o) (slots_are_buildable slots can) f) (item_holds (OnNamed HasFittingNumbers) slots j (Object o) (numbers_in_slots slots fits) f) short at)
        i s e (item_holds NumberFits slots i s (numbers_here slots fits) e);
    beyond = λ i g. beyond_found b is.at (seen slots) i parts (omega (arith, g, length-map slots (slot_map block)));
  },
)
  where
    t : TableView
    t = record { buffer = b; place = is.at + length (vtable_bytes (seen slots)) }

    parts : Built b is.at (seen slots)
    parts = built b is.at (seen slots) (omega (arith, slots_are_few slots can, length-map slots (slot_map block))) short is.stands

    leads : target_at b place ≡ Ok (is.at + length (vtable_bytes (seen slots)))
    leads = is.leads ∙ ap (λ (n : ℕ). Ok (is.at + n)) (table_entry (seen slots))

-- ---- vectors

-- the head of a vector: its number of items stands where an offset points, and the items after it
vector_stands : (b : List ℕ) (at count : ℕ) (items : List ℕ) → Stands b at (vector_bytes count items) → Stands b (at + 4) (to_le_bytes w32 count) × Stands b (at + 4 + 4) items
vector_stands b at count items s = (first b (at + 4) (to_le_bytes w32 count) items rest, second b (at + 4) (to_le_bytes w32 count) items rest)
  where
    rest : Stands b (at + 4) (to_le_bytes w32 count ++ items)
    rest = second b at (zeros 4) (to_le_bytes w32 count ++ items) (first b at (zeros 4 ++ (to_le_bytes w32 count ++ items)) (zeros (next_multiple_of (length (zeros 4 ++ (to_le_bytes w32 count ++ items))) 8 - length (zeros 4 ++ (to_le_bytes w32 count ++ items)))) s)

abbrev vector_at : List ℕ → ℕ → ℕ → ℕ → VectorView
vector_at b at count width = record { buffer = b; start = at + 4 + 4; count = count; width = width }

vector_reached : (b : List ℕ) (place at count width : ℕ) → count < 2 ^ 32 → target_at b place ≡ Ok (at + 4) → Stands b (at + 4) (to_le_bytes w32 count) → at + 4 + 4 + count * width ≤ length b
    → named_vector b width place ≡ Ok (vector_at b at count width)
unfolding named_vector items_from
vector_reached b place at count width fits leads s room = rw (leads, u32_there b (at + 4) count fits s) (held b (at + 4 + 4) count width room)
  where
    held : (b : List ℕ) (start count width : ℕ) → start + count * width ≤ length b → items_from b start count width ≡ Ok (record { buffer = b; start = start; count = count; width = width })
    held b start count width h = grind arith

-- so many items of one width lie in the buffer
items_within : (b : List ℕ) (start count width : ℕ) (items : List ℕ) → length items ≡ count * width → Stands b start items → start + count * width ≤ length b
items_within b start count width items size s = omega (arith, size, within b start items s)

length-uniform : {X : Type 0} (f : X → List ℕ) (w : ℕ) → ((x : X) → length (f x) ≡ w) → (xs : List X) → length (flat_map f xs) ≡ length xs * w
length-uniform f w size [] = omega arith
length-uniform f w size (x ∷ xs) = omega (arith, size x, length-uniform f w size xs, length-append (f x) (flat_map f xs))

length-pair : (p : FlatPair) → length (pair_bytes p) ≡ 16
length-pair p = omega (arith, length-append (i64_bytes p.first) (i64_bytes p.second), length-i64 p.first, length-i64 p.second)

pairs_read : (finds : Finding) (pairs : List FlatPair) (b : List ℕ) (place : ℕ) → length b < 2 ^ 31 → IsAt b place (pairs_block pairs) → Found finds (O.Pairs pairs) b place
unfolding pairs_block
pairs_read finds pairs b place short is = (
  vector_at b is.at (length pairs) 16,
  vector_reached b place is.at (length pairs) 16 (omega (arith, short, room)) is.leads parts.0 room,
  record {
    count = refl;
    each = λ i p e. taken b (is.at + 4 + 4 + i * 16) 16 (pair_bytes p) (length-pair p) (uniform pair_bytes 16 length-pair b (is.at + 4 + 4) pairs i p parts.1 e);
  },
)
  where
    parts : Stands b (is.at + 4) (to_le_bytes w32 (length pairs)) × Stands b (is.at + 4 + 4) (flat_map pair_bytes pairs)
    parts = vector_stands b is.at (length pairs) (flat_map pair_bytes pairs) is.stands

    room : is.at + 4 + 4 + length pairs * 16 ≤ length b
    room = items_within b (is.at + 4 + 4) (length pairs) 16 (flat_map pair_bytes pairs) (length-uniform pair_bytes 16 length-pair pairs) parts.1

text_read : (finds : Finding) (text : List ℕ) (b : List ℕ) (place : ℕ) → length b < 2 ^ 31 → IsAt b place (text_block text) → Found finds (O.Text text) b place
unfolding text_block named_text
text_read finds text b place short is = rw (vector_reached b place is.at (length text) 1 (omega (arith, short, room)) is.leads parts.0 room) (ap (λ (xs : List ℕ). Ok xs) (taken b (is.at + 4 + 4) (length text * 1) text (omega arith) stands))
  where
    parts : Stands b (is.at + 4) (to_le_bytes w32 (length text)) × Stands b (is.at + 4 + 4) (text ++ 0 ∷ [])
    parts = vector_stands b is.at (length text) (text ++ 0 ∷ []) is.stands

    stands : Stands b (is.at + 4 + 4) text
    stands = first b (is.at + 4 + 4) text (0 ∷ []) parts.1

    room : is.at + 4 + 4 + length text * 1 ≤ length b
    room = items_within b (is.at + 4 + 4) (length text) 1 text (omega arith) stands

-- ---- vectors of tables

offsets_before : (tables : List FlatObject) (i : ℕ) → i < length tables → end_at 8 (map Object (map block tables)) i ≡ 8 + 4 * i
offsets_before tables i l =
    ap (table_size 8) (take-map Object i (map block tables)) ∙ table_size-offsets 8 (take i (map block tables)) refl
    ∙ ap (λ (n : ℕ). 8 + 4 * n) (length-take-le i (map block tables) (omega (arith, l, length-map tables block)))

abbrev offsets : List FlatObject → List (FlatSlot Block)
offsets tables = map Object (map block tables)

tables_read : (depth : ℕ) → Reading_is depth → (tables : List FlatObject) (b : List ℕ) (place : ℕ) → IsBuildable (V.Tables tables) → HasFittingNumbers (V.Tables tables) → length b < 2 ^ 31
    → IsAt b place (tables_block (map block tables)) → Found (FoundTo depth) (O.Tables tables) b place
unfolding tables_block
tables_read depth below tables b place can fits short is = (
  vector_at b is.at (length blocks) 4,
  vector_reached b place is.at (length blocks) 4 (omega (arith, short, room)) is.leads parts.0 room,
  record {
    count = length-map tables block;
    each = λ i o e. below o b (is.at + 4 + 4 + i * 4) (item_holds IsBuildable tables i o (tables_are_buildable tables can) e) (item_holds HasFittingNumbers tables i o (numbers_in_tables tables fits) e) short (item i o e);
  },
)
  where
    blocks : List Block
    blocks = map block tables

    next : ℕ
    next = next_multiple_of (8 + 4 * length blocks) 8

    items : List ℕ
    items = fields 8 next (offsets tables)

    own : Stands b is.at (vector_bytes (length blocks) items)
    own = first b is.at (vector_bytes (length blocks) items) (flat_map named (offsets tables)) is.stands

    parts : Stands b (is.at + 4) (to_le_bytes w32 (length blocks)) × Stands b (is.at + 4 + 4) items
    parts = vector_stands b is.at (length blocks) items own

    size : length items ≡ length blocks * 4
    size = omega (arith, length-fields 8 next (offsets tables), table_size-offsets 8 blocks refl)

    room : is.at + 4 + 4 + length blocks * 4 ≤ length b
    room = items_within b (is.at + 4 + 4) (length blocks) 4 items size parts.1

    kids : Stands b (is.at + next) (flat_map named (offsets tables))
    kids = subst (λ (n : ℕ). Stands b n (flat_map named (offsets tables))) (let e : is.at + length (vector_bytes (length blocks) items) ≡ is.at + next = ap (λ (n : ℕ). is.at + n) (length-vector (length blocks) items ∙ ap (λ (n : ℕ). next_multiple_of (8 + n) 8) (size ∙ mul_comm (length blocks) 4)) in e)
        (second b is.at (vector_bytes (length blocks) items) (flat_map named (offsets tables)) is.stands)

    item : (i : ℕ) (o : FlatObject) → slice_get tables i ≡ Some o → IsAt b (is.at + 4 + 4 + i * 4) (block o)
    item i o e =
        let slot : slice_get (offsets tables) i ≡ Some (Object (block o)) = slice_get-map Object blocks i (block o) (slice_get-map block tables i o e) in
        let here : end_at 8 (offsets tables) i ≡ 8 + 4 * i = offsets_before tables i (slice_get_within tables i o e) in
        let at : is.at + place_of (end_at 8 (offsets tables) i) (Object (block o)) ≡ is.at + 4 + 4 + i * 4 = omega (arith, here) in
        subst (λ (n : ℕ). IsAt b n (block o)) at
        (named_at b is.at (place_of (end_at 8 (offsets tables) i) (Object (block o))) (next_at next (offsets tables) i) (block o) short (entry_inside o)
        (omega (arith, here, slice_get_within tables i o e, length-map tables block))
        (field_there (offsets tables) 8 next b is.at i (Object (block o)) (subst (λ (n : ℕ). Stands b n items) (let f : is.at + 4 + 4 ≡ is.at + 8 = omega arith in f) parts.1) slot)
        (subst (λ (n : ℕ). Stands b n (block o).bytes) (let g : is.at + next + length (flat_map named (take i (offsets tables))) ≡ is.at + (next + length (flat_map named (take i (offsets tables)))) = omega arith in g) (named_there (offsets tables) b (is.at + next) i (Object (block o)) kids slot)))

-- ---- all objects

object_read : (depth : ℕ) → Reading_is depth → (x : FlatObject-F FlatObject) (b : List ℕ) (place : ℕ) → IsBuildable (roll-FlatObject x) → HasFittingNumbers (roll-FlatObject x) → length b < 2 ^ 31
    → IsAt b place (block (roll-FlatObject x)) → Found (FoundTo depth) x b place
object_read depth below (O.Table slots) b place can fits short is =
    table_read depth below slots b place (subst IsBuildable (V.rolls-Table slots) can) (subst HasFittingNumbers (V.rolls-Table slots) fits) short (subst (IsAt b place) (ap block (V.rolls-Table slots) ∙ block-Table slots) is)
object_read depth below (O.Tables tables) b place can fits short is =
    tables_read depth below tables b place (subst IsBuildable (V.rolls-Tables tables) can) (subst HasFittingNumbers (V.rolls-Tables tables) fits) short (subst (IsAt b place) (ap block (V.rolls-Tables tables) ∙ block-Tables tables) is)
object_read depth below (O.Pairs pairs) b place can fits short is = pairs_read (FoundTo depth) pairs b place short (subst (IsAt b place) (ap block (V.rolls-Pairs pairs) ∙ block-Pairs pairs) is)
object_read depth below (O.Text text) b place can fits short is = text_read (FoundTo depth) text b place short (subst (IsAt b place) (ap block (V.rolls-Text text) ∙ block-Text text) is)

read_to : (depth : ℕ) → Reading_is depth
read_to zero o b place can fits short is = tt
read_to (suc depth) o b place can fits short is = object_read depth (read_to depth) (out-FlatObject o) b place (subst IsBuildable rolled can) (subst HasFittingNumbers rolled fits) short (subst (λ p. IsAt b place (block p)) rolled is)
  where
    rolled : o ≡ roll-FlatObject (out-FlatObject o)
    rolled = sym (roll-out-FlatObject o)

root_at : (o : FlatObject) → length (layout o) < 2 ^ 31 → IsAt (layout o) 0 (block o)
root_at o short = record {
  at = 8;
  stands = body;
  leads = leads_to (layout o) 0 (8 + (block o).entry) (8 + (block o).entry) (omega (arith, short, entry_inside o, within (layout o) 8 (block o).bytes body)) (omega arith) (first (layout o) 0 (to_le_bytes w32 (8 + (block o).entry)) (zeros 4 ++ (block o).bytes) whole);
}
  where
    whole : Stands (layout o) 0 (layout o)
    whole = record { before = []; after = []; is = sym (append-nil (layout o)); place = refl }

    body : Stands (layout o) 8 (block o).bytes
    body = second (layout o) 4 (zeros 4) (block o).bytes (second (layout o) 0 (to_le_bytes w32 (8 + (block o).entry)) (zeros 4 ++ (block o).bytes) whole)

pub reads_back : ReadsBack
reads_back o can fits depth = read_to depth o (layout o) 0 can.parts fits can.short (root_at o can.short)
