-- How the offsets of a table's fields, or of a vector's items, are filled in while the objects that they name are added.
use Rattle.std.proofs.Common.{◌≡◌, ℕ, ◌+◌, ◌*◌, ◌-◌, ◌≤◌, List, [], ◌∷◌, ◌++◌, length, take, drop, map, arith, refl, length-append, sym, ◌∙◌, ap, subst}
use Rattle.std.specs.List.{flat_map}
use Rattle.std.specs.Int.{w32, to_le_bytes, next_multiple_of}
use Rattle.std.proofs.lemmas.List.{length-replicate, append_assoc, append-nil, take_at, drop_at, length-take, length-drop}
use Rattle.flat_tables.specs.declared.object.FlatObject.{FlatObject}
use Rattle.flat_tables.specs.declared.object.FlatSlot.{FlatSlot}
use Rattle.flat_tables.specs.declared.object.FlatSlot.TheVariants.{Absent, U8, I16, I32, I64, Object}
use Rattle.flat_tables.specs.Layout.{Block, zeros, padded, size_of, place_of, end_of, table_size, field_bytes, fields, named, slot_map, vtable_bytes, vector_bytes, table_block, tables_block}
use Rattle.flat_tables.specs.Building.{with_offset, Names, blank_table, blank}
use Rattle.flat_tables.proofs.Sizes.{length-i64, length-padded}
use Rattle.flat_tables.proofs.Maps.{blank_table-map, table_size-offsets, fields-offsets}

-- ---- lengths

pub end_after : {O : Type 0} (end : ℕ) (slot : FlatSlot O) → end ≤ place_of end slot
end_after end Absent = omega arith
end_after end (U8 n) = omega arith
end_after end (I16 z) = omega arith
end_after end (I32 z) = omega arith
end_after end (I64 z) = omega arith
end_after end (Object o) = omega arith

pub length-field : (place next : ℕ) (slot : FlatSlot Block) → length (field_bytes place next slot) ≡ size_of slot
length-field place next Absent = refl
length-field place next (U8 n) = refl
length-field place next (I16 z) = refl
length-field place next (I32 z) = refl
length-field place next (I64 z) = length-i64 z
length-field place next (Object b) = refl

pub length-fields : (end next : ℕ) (slots : List (FlatSlot Block)) → end + length (fields end next slots) ≡ table_size end slots
length-fields end next [] = omega arith
length-fields end next (slot ∷ slots) =
    let rest : end_of end slot + length (fields (end_of end slot) (next + length (named slot)) slots) ≡ table_size (end_of end slot) slots = length-fields (end_of end slot) (next + length (named slot)) slots in
    let gap : length (zeros (place_of end slot - end)) ≡ place_of end slot - end = length-replicate _ _ in
    omega (
      arith,
      rest,
      gap,
      end_after end slot,
      length-field (place_of end slot) next slot,
      length-append (zeros (place_of end slot - end)) (field_bytes (place_of end slot) next slot ++ fields (end_of end slot) (next + length (named slot)) slots),
      length-append (field_bytes (place_of end slot) next slot) (fields (end_of end slot) (next + length (named slot)) slots),
    )

pub place_of-blank : {O : Type 0} (end : ℕ) (slot : FlatSlot O) → place_of end (blank slot) ≡ place_of end slot
place_of-blank end Absent = refl
place_of-blank end (U8 n) = refl
place_of-blank end (I16 z) = refl
place_of-blank end (I32 z) = refl
place_of-blank end (I64 z) = refl
place_of-blank end (Object o) = refl

pub size_of-blank : {O : Type 0} (slot : FlatSlot O) → size_of (blank slot) ≡ size_of slot
size_of-blank Absent = refl
size_of-blank (U8 n) = refl
size_of-blank (I16 z) = refl
size_of-blank (I32 z) = refl
size_of-blank (I64 z) = refl
size_of-blank (Object o) = refl

pub table_size-blank : {O : Type 0} (end : ℕ) (slots : List (FlatSlot O)) → table_size end (map blank slots) ≡ table_size end slots
table_size-blank end [] = refl
table_size-blank end (slot ∷ slots) =
    let same : end_of end (blank slot) ≡ end_of end slot = omega (arith, place_of-blank end slot, size_of-blank slot) in
    ap (λ (e : ℕ). table_size e (map blank slots)) same ∙ table_size-blank (end_of end slot) slots

pub table_size_after : {O : Type 0} (end : ℕ) (slots : List (FlatSlot O)) → end ≤ table_size end slots
table_size_after end [] = omega arith
table_size_after end (slot ∷ slots) = omega (arith, end_after end slot, table_size_after (end_of end slot) slots)

-- ---- filling in

-- The slots that are left still have the offset 0 where they name an object. Filled in, with the objects that they name at the end, the
-- bytes are the final ones.
pub record Filling (rest : List (FlatSlot Block)) (final : List ℕ) (table end : ℕ) (out : List ℕ) : Type 0 where
  pub done : List ℕ
  pub after : List ℕ
  pub now : out ≡ done ++ (fields end 0 (map blank rest) ++ after)
  pub later : done ++ (fields end (length out - table) rest ++ (after ++ flat_map named rest)) ≡ final
  pub place : length done ≡ table + end

pub filled : (final : List ℕ) (table end : ℕ) (out : List ℕ) → Filling [] final table end out → out ≡ final
filled final table end out f = f.now ∙ ap (λ xs. f.done ++ xs) (sym (append-nil f.after)) ∙ f.later

fields-blank : (end : ℕ) (slot : FlatSlot Block) (rest : List (FlatSlot Block)) → fields end 0 (map blank (slot ∷ rest)) ≡ zeros (place_of end slot - end) ++ (field_bytes (place_of end slot) 0 (blank slot) ++ fields (end_of end slot) 0 (map blank rest))
fields-blank end Absent rest = refl
fields-blank end (U8 n) rest = refl
fields-blank end (I16 z) rest = refl
fields-blank end (I32 z) rest = refl
fields-blank end (I64 z) rest = refl
fields-blank end (Object b) rest = refl

regroup : (d z v r a : List ℕ) → d ++ ((z ++ (v ++ r)) ++ a) ≡ (d ++ (z ++ v)) ++ (r ++ a)
regroup d z v r a = simp append_assoc

-- the bytes done with one more slot
length_done : (done : List ℕ) (table end : ℕ) (slot : FlatSlot Block) (v : List ℕ) → length done ≡ table + end → length v ≡ size_of slot → length (done ++ (zeros (place_of end slot - end) ++ v)) ≡ table + end_of end slot
length_done done table end slot v place size =
    let gap : length (zeros (place_of end slot - end)) ≡ place_of end slot - end = length-replicate _ _ in
    omega (arith, gap, end_after end slot, length-append done (zeros (place_of end slot - end) ++ v), length-append (zeros (place_of end slot - end)) v)

-- a slot that names no object is as it will be
pub plain : (slot : FlatSlot Block) (rest : List (FlatSlot Block)) (final : List ℕ) (table end : ℕ) (out : List ℕ)
    → ((next : ℕ) → field_bytes (place_of end slot) next slot ≡ field_bytes (place_of end slot) 0 (blank slot)) → named slot ≡ []
    → Filling (slot ∷ rest) final table end out → Filling rest final table (end_of end slot) out
plain slot rest final table end out same nothing f = record {
  done = f.done ++ (z ++ v);
  after = f.after;
  now = f.now ∙ ap (λ (xs : List ℕ). f.done ++ (xs ++ f.after)) (fields-blank end slot rest) ∙ regroup f.done z v (fields (end_of end slot) 0 (map blank rest)) f.after;
  later = sym (regroup f.done z v r (f.after ++ kids)) ∙ ap (λ (xs : List ℕ). f.done ++ (xs ++ (f.after ++ kids))) (sym (fields_plain (length out - table)))
      ∙ ap (λ (xs : List ℕ). f.done ++ (fields end (length out - table) (slot ∷ rest) ++ (f.after ++ (xs ++ kids)))) (sym nothing) ∙ f.later;
  place = length_done f.done table end slot v f.place (ap length (sym (same 0)) ∙ length-field (place_of end slot) 0 slot);
}
  where
    z : List ℕ
    z = zeros (place_of end slot - end)

    v : List ℕ
    v = field_bytes (place_of end slot) 0 (blank slot)

    r : List ℕ
    r = fields (end_of end slot) (length out - table) rest

    kids : List ℕ
    kids = flat_map named rest

    fields_plain : (n : ℕ) → fields end n (slot ∷ rest) ≡ z ++ (v ++ fields (end_of end slot) n rest)
    fields_plain n =
        let stays : n + length (named slot) ≡ n = omega (arith, ap length nothing) in
        ap (λ (xs : List ℕ). z ++ (xs ++ fields (end_of end slot) (n + length (named slot)) rest)) (same n) ∙ ap (λ (k : ℕ). z ++ (v ++ fields (end_of end slot) k rest)) stays

-- ---- an object is added, and the offset to it filled in

-- the bytes round the offset
split : (d z four r a out : List ℕ) (place : ℕ) (o : ℕ) (b : List ℕ) → out ≡ d ++ ((z ++ (four ++ r)) ++ a) → length (d ++ z) ≡ place → length four ≡ 4
    → with_offset out place o ++ b ≡ (d ++ (z ++ to_le_bytes w32 o)) ++ (r ++ (a ++ b))
split d z four r a out place o b now front size =
    ap (λ (xs : List ℕ). with_offset xs place o ++ b) (now ∙ regrouped) ∙ ap (λ (xs : List ℕ). xs ++ (to_le_bytes w32 o ++ drop (place + 4) ((d ++ z) ++ (four ++ (r ++ a)))) ++ b) (take_at (d ++ z) (four ++ (r ++ a)) place front)
    ∙ ap (λ (xs : List ℕ). (d ++ z) ++ (to_le_bytes w32 o ++ xs) ++ b) dropped ∙ simp append_assoc
  where
    regrouped : d ++ ((z ++ (four ++ r)) ++ a) ≡ (d ++ z) ++ (four ++ (r ++ a))
    regrouped = simp append_assoc

    dropped : drop (place + 4) ((d ++ z) ++ (four ++ (r ++ a))) ≡ r ++ a
    dropped = ap (drop (place + 4)) (sym (append_assoc (d ++ z) four (r ++ a))) ∙ drop_at ((d ++ z) ++ four) (r ++ a) (place + 4) (omega (arith, length-append (d ++ z) four))

length-with_offset : (out : List ℕ) (place o : ℕ) → place + 4 ≤ length out → length (with_offset out place o) ≡ length out
length-with_offset out place o h = omega (arith, length-append (take place out) (to_le_bytes w32 o ++ drop (place + 4) out), length-take place out, length-drop (place + 4) out)

-- the 4 bytes of an offset that is to be filled in are there
pub offset_inside : (slot : FlatSlot Block) (rest : List (FlatSlot Block)) (final : List ℕ) (table end place : ℕ) (out : List ℕ) → place ≡ table + place_of end slot → size_of slot ≡ 4
    → Filling (slot ∷ rest) final table end out → place + 4 ≤ length out
offset_inside slot rest final table end place out at size f = omega (
  arith,
  f.place,
  at,
  size,
  ap length f.now,
  length-append f.done (fields end 0 (map blank (slot ∷ rest)) ++ f.after),
  length-append (fields end 0 (map blank (slot ∷ rest))) f.after,
  length-fields end 0 (map blank (slot ∷ rest)),
  table_size-blank end (slot ∷ rest),
  table_size_after (end_of end slot) rest,
)

pub object_step : (b : Block) (rest : List (FlatSlot Block)) (final : List ℕ) (table end place : ℕ) (out new : List ℕ) → place ≡ table + place_of end (Object b)
    → Names out new b place → Filling (Object b ∷ rest) final table end out → Filling rest final table (end_of end (Object b)) new
object_step b rest final table end place out new at names f = record {
  done = f.done ++ (z ++ to_le_bytes w32 o);
  after = f.after ++ b.bytes;
  now = names.bytes ∙ split f.done z (zeros 4) (fields (end_of end slot) 0 (map blank rest)) f.after out place o b.bytes f.now front refl;
  later = sym (regroup f.done z (to_le_bytes w32 o) r ((f.after ++ b.bytes) ++ kids))
      ∙ ap (λ (xs : List ℕ). f.done ++ ((z ++ (to_le_bytes w32 o ++ r)) ++ xs)) (append_assoc f.after b.bytes kids)
      ∙ ap (λ (k : ℕ). f.done ++ ((z ++ (to_le_bytes w32 k ++ r)) ++ (f.after ++ (b.bytes ++ kids)))) offset
      ∙ ap (λ (k : ℕ). f.done ++ ((z ++ (to_le_bytes w32 (length out - table + b.entry - place_of end slot) ++ fields (end_of end slot) k rest)) ++ (f.after ++ (b.bytes ++ kids)))) next
      ∙ f.later;
  place = length_done f.done table end slot (to_le_bytes w32 o) f.place refl;
}
  where
    slot : FlatSlot Block
    slot = Object b

    z : List ℕ
    z = zeros (place_of end slot - end)

    o : ℕ
    o = length out + b.entry - place

    front : length (f.done ++ z) ≡ place
    front = let gap : length z ≡ place_of end slot - end = length-replicate _ _ in omega (arith, gap, at, f.place, end_after end slot, length-append f.done z)

    r : List ℕ
    r = fields (end_of end slot) (length new - table) rest

    kids : List ℕ
    kids = flat_map named rest

    start : table ≤ length out
    start = omega (arith, f.place, ap length f.now, length-append f.done (fields end 0 (map blank (slot ∷ rest)) ++ f.after))

    offset : o ≡ length out - table + b.entry - place_of end slot
    offset = omega (arith, start, at)

    next : length new - table ≡ length out - table + length b.bytes
    next = omega (arith, start, ap length names.bytes, length-append (with_offset out place o) b.bytes, length-with_offset out place o (offset_inside slot rest final table end place out at refl f))

-- the object that comes next fits before the final end
pub object_fits : (b : Block) (rest : List (FlatSlot Block)) (final : List ℕ) (table end : ℕ) (out : List ℕ) → Filling (Object b ∷ rest) final table end out → length out + length b.bytes ≤ length final
object_fits b rest final table end out f = omega (
  arith,
  ap length f.now,
  ap length f.later,
  length-append f.done (fields end 0 (map blank slots) ++ f.after),
  length-append (fields end 0 (map blank slots)) f.after,
  length-append f.done (fields end (length out - table) slots ++ (f.after ++ flat_map named slots)),
  length-append (fields end (length out - table) slots) (f.after ++ flat_map named slots),
  length-append f.after (flat_map named slots),
  length-append b.bytes (flat_map named rest),
  length-fields end 0 (map blank slots),
  length-fields end (length out - table) slots,
  table_size-blank end slots,
)
  where
    slots : List (FlatSlot Block)
    slots = Object b ∷ rest

-- ---- before anything is filled in

-- the parts of what is filled up with zeros
start_regroup : (base front v f z k : List ℕ) → (base ++ (front ++ v)) ++ (f ++ (z ++ k)) ≡ base ++ (front ++ (((v ++ f) ++ z) ++ k))
start_regroup base front v f z k = simp append_assoc

-- a front, then 4 or 8 bytes, then fields, padded: base, front and head are done
start : (base front head : List ℕ) (slots : List (FlatSlot Block)) (end : ℕ) → length head ≡ end
    → Filling slots (base ++ (front ++ (padded (head ++ fields end (next_multiple_of (table_size end slots) 8) slots) ++ flat_map named slots))) (length base + length front) end
    (base ++ (front ++ padded (head ++ fields end 0 (map blank slots))))
start base front head slots end size = record {
  done = base ++ (front ++ head);
  after = gap (head ++ blanks);
  now = simp append_assoc;
  later = ap (λ (n : ℕ). (base ++ (front ++ head)) ++ (fields end n slots ++ (gap (head ++ blanks) ++ flat_map named slots))) next
      ∙ ap (λ (k : ℕ). (base ++ (front ++ head)) ++ (offsets ++ (zeros (next_multiple_of k 8 - k) ++ flat_map named slots))) same
      ∙ start_regroup base front head offsets (gap (head ++ offsets)) (flat_map named slots);
  place = omega (arith, size, length-append base (front ++ head), length-append front head);
}
  where
    blanks : List ℕ
    blanks = fields end 0 (map blank slots)

    offsets : List ℕ
    offsets = fields end (next_multiple_of (table_size end slots) 8) slots

    gap : List ℕ → List ℕ
    gap xs = zeros (next_multiple_of (length xs) 8 - length xs)

    blank_size : length (head ++ blanks) ≡ table_size end slots
    blank_size = omega (arith, size, length-append head blanks, length-fields end 0 (map blank slots), table_size-blank end slots)

    same : length (head ++ blanks) ≡ length (head ++ offsets)
    same = omega (arith, size, blank_size, length-append head offsets, length-fields end (next_multiple_of (table_size end slots) 8) slots)

    next : length (base ++ (front ++ padded (head ++ blanks))) - (length base + length front) ≡ next_multiple_of (table_size end slots) 8
    next = omega (arith, blank_size, length-padded (head ++ blanks), length-append base (front ++ padded (head ++ blanks)), length-append front (padded (head ++ blanks)))

-- a table, when its own bytes are written
pub start_table : (base : List ℕ) (slots : List (FlatSlot FlatObject)) (f : FlatObject → Block)
    → Filling (map (slot_map f) slots) (base ++ (table_block (map (slot_map f) slots)).bytes) (length base + (table_block (map (slot_map f) slots)).entry) 4 (base ++ blank_table slots)
unfolding table_block
start_table base slots f = subst (λ (xs : List ℕ). Filling seen (base ++ (table_block seen).bytes) (length base + (table_block seen).entry) 4 (base ++ xs)) (blank_table-map f slots)
    (start base (vtable_bytes seen) (to_le_bytes w32 (length (vtable_bytes seen))) seen 4 refl)
  where
    seen : List (FlatSlot Block)
    seen = map (slot_map f) slots

-- a vector of tables, when its offsets are written as zeros
pub start_tables : (base : List ℕ) (blocks : List Block) → Filling (map Object blocks) (base ++ (tables_block blocks).bytes) (length base) 8 (base ++ vector_bytes (length blocks) (zeros (4 * length blocks)))
unfolding tables_block
start_tables base blocks =
    subst (λ (n : ℕ). Filling slots (base ++ (vector_bytes (length blocks) (fields 8 (next_multiple_of n 8) slots) ++ flat_map named slots)) (length base) 8 (base ++ vector_bytes (length blocks) (zeros (4 * length blocks)))) (table_size-offsets 8 blocks refl)
    (subst (λ (xs : List ℕ). Filling slots (base ++ (vector_bytes (length blocks) (fields 8 (next_multiple_of (table_size 8 slots) 8) slots) ++ flat_map named slots)) (length base) 8 (base ++ vector_bytes (length blocks) xs)) (fields-offsets 8 blocks refl)
    (subst (λ (n : ℕ). Filling slots (base ++ (vector_bytes (length blocks) (fields 8 (next_multiple_of (table_size 8 slots) 8) slots) ++ flat_map named slots)) n 8 (base ++ vector_bytes (length blocks) (fields 8 0 (map blank slots)))) (omega arith)
    (start base [] (zeros 4 ++ to_le_bytes w32 (length blocks)) slots 8 refl)))
  where
    slots : List (FlatSlot Block)
    slots = map Object blocks
