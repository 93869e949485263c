-- Groups of seven bits, as they are read one after the other.
use Rattle.std.proofs.Common.{◌≡◌, ℕ, zero, suc, ◌+◌, ◌*◌, ◌%◌, ◌^◌, ◌<◌, ◌≤◌, List, [], ◌∷◌, ◌++◌, length, get_or, take, drop, Ok, Err, refl, sym, ap, ◌∙◌, arith}
use Rattle.std.proofs.lemmas.List.{length-take-le, length-drop, take_more, get_or-drop, take_all, take-append-drop}
use Rattle.std.proofs.lemmas.Nat.{pow-add}
use Rattle.std.proofs.Math.Nat.{add-mod-mod, mod-add-mod}
use Rattle.std.proofs.lemmas.Bool.{lt-ltb, le-ltb}
use Rattle.proto_wire.specs.declared.fault.WireFault.{WireFault}
use Rattle.proto_wire.specs.declared.fault.WireFault.TheVariants.{Truncated, VarintTooLong}
use Rattle.proto_wire.specs.Varint.{group_sum, IsGroups}
use Rattle.proto_wire.specs.Faults.{AllContinue}
use Rattle.proto_wire.specs.Reading.{groups_in, varint_at}

-- one more group at the end
pub group_sum-push : (front : List ℕ) (b : ℕ) → group_sum (front ++ b ∷ []) ≡ group_sum front + (b % 128) * 2 ^ (7 * length front)
group_sum-push [] b = omega arith
group_sum-push (a ∷ front) b =
    let e = group_sum-push front b in
    let p : 2 ^ (7 * suc (length front)) ≡ 128 * 2 ^ (7 * length front) =
    let e : 7 * suc (length front) ≡ 7 + 7 * length front = omega arith in ap (λ (k : ℕ). 2 ^ k) e ∙ pow-add 2 7 (7 * length front) in
    rw (p, e) (omega arith)

pub AllContinue-push : (front : List ℕ) (b : ℕ) → AllContinue front → 128 ≤ b → b < 256 → AllContinue (front ++ b ∷ [])
AllContinue-push [] b all high fits = (high, fits, tt)
AllContinue-push (a ∷ front) b all high fits = (all.0, all.1, AllContinue-push front b all.2 high fits)

pub IsGroups-push : (front : List ℕ) (b : ℕ) → AllContinue front → b < 128 → IsGroups (front ++ b ∷ [])
IsGroups-push [] b all low = low
IsGroups-push (a ∷ []) b all low = (all.0, all.1, low)
IsGroups-push (a ∷ c ∷ front) b all low = (all.0, all.1, IsGroups-push (c ∷ front) b all.2 low)

-- groups that end are read, whatever follows them
pub groups_in-found : (short long : WireFault) (groups rest : List ℕ) (most : ℕ) → IsGroups groups → length groups ≤ most → groups_in short long most (groups ++ rest) ≡ Ok groups
unfolding groups_in
groups_in-found short long [] rest most is room = absurd is
groups_in-found short long (b ∷ []) rest zero is room = absurd (omega arith)
groups_in-found short long (b ∷ []) rest (suc most) is room = rw (lt-ltb b 128 is) refl
groups_in-found short long (b ∷ c ∷ groups) rest zero is room = absurd (omega arith)
groups_in-found short long (b ∷ c ∷ groups) rest (suc most) is room =
    rw (le-ltb b 128 is.0, groups_in-found short long (c ∷ groups) rest most is.2 (omega arith)) refl

-- bytes that all continue and are too few end too early
pub groups_in-short : (short long : WireFault) (bytes : List ℕ) (most : ℕ) → AllContinue bytes → length bytes < most → groups_in short long most bytes ≡ Err short
unfolding groups_in
groups_in-short short long bytes zero all room = absurd (omega arith)
groups_in-short short long [] (suc most) all room = refl
groups_in-short short long (b ∷ bytes) (suc most) all room =
    rw (le-ltb b 128 all.0, groups_in-short short long bytes most all.2 (omega arith)) refl

-- bytes that all continue and are as many as there may be are too many
pub groups_in-long : (short long : WireFault) (groups rest : List ℕ) (most : ℕ) → AllContinue groups → length groups ≡ most → groups_in short long most (groups ++ rest) ≡ Err long
unfolding groups_in
groups_in-long short long groups rest zero all room = refl
groups_in-long short long [] rest (suc most) all room = absurd (omega arith)
groups_in-long short long (b ∷ groups) rest (suc most) all room =
    rw (le-ltb b 128 all.0, groups_in-long short long groups rest most all.2 (omega arith)) refl

-- ---- the loop over the groups

-- the groups so far and the next byte
next_group : (bytes : List ℕ) (at index byte : ℕ) → at + index < length bytes → byte ≡ get_or bytes (at + index) 0 → take (index + 1) (drop at bytes) ≡ take index (drop at bytes) ++ byte ∷ []
next_group bytes at index byte room is =
    let inside : index < length (drop at bytes) = omega (arith, length-drop at bytes) in
    take_more (drop at bytes) index 0 inside ∙ ap (λ (x : ℕ). take index (drop at bytes) ++ x ∷ []) (get_or-drop at bytes index 0 ∙ sym is)

length-groups : (bytes : List ℕ) (at index : ℕ) → at + index ≤ length bytes → length (take index (drop at bytes)) ≡ index
length-groups bytes at index room = length-take-le index (drop at bytes) (omega (arith, length-drop at bytes))

pub next_continues : (bytes : List ℕ) (at index byte : ℕ) → at + index < length bytes → byte ≡ get_or bytes (at + index) 0 → byte < 256 → 128 ≤ byte → AllContinue (take index (drop at bytes)) → AllContinue (take (index + 1) (drop at bytes))
next_continues bytes at index byte room is fits high all =
    rw (next_group bytes at index byte room is) (AllContinue-push (take index (drop at bytes)) byte all high fits)

mod_sum : (value whole group : ℕ) → value ≡ whole % 2 ^ 64 → (value + group % 2 ^ 64) % 2 ^ 64 ≡ (whole + group) % 2 ^ 64
mod_sum value whole group is = rw (is, mod-add-mod whole (2 ^ 64) (group % 2 ^ 64), add-mod-mod whole group (2 ^ 64)) refl

pub next_value : (bytes : List ℕ) (at index byte value : ℕ) → at + index < length bytes → byte ≡ get_or bytes (at + index) 0 → value ≡ group_sum (take index (drop at bytes)) % 2 ^ 64 → (value + (byte % 128) * 2 ^ (7 * index) % 2 ^ 64) % 2 ^ 64 ≡ group_sum (take (index + 1) (drop at bytes)) % 2 ^ 64
next_value bytes at index byte value room is sum =
    let front = take index (drop at bytes) in
    let len : length front ≡ index = length-groups bytes at index (omega arith) in
    let whole : group_sum (take (index + 1) (drop at bytes)) ≡ group_sum front + (byte % 128) * 2 ^ (7 * index) =
    ap group_sum (next_group bytes at index byte room is) ∙ group_sum-push front byte ∙ ap (λ (n : ℕ). group_sum front + (byte % 128) * 2 ^ (7 * n)) len in
    mod_sum value (group_sum front) ((byte % 128) * 2 ^ (7 * index)) sum ∙ ap (λ (n : ℕ). n % 2 ^ 64) (sym whole)

pub varint_at-short : (bytes : List ℕ) (at index : ℕ) → at + index ≤ length bytes → length bytes ≤ at + index → index < 10 → AllContinue (take index (drop at bytes)) → varint_at bytes at ≡ Err (Truncated (length bytes))
unfolding varint_at
varint_at-short bytes at index low high few all =
    let whole : take index (drop at bytes) ≡ drop at bytes = take_all index (drop at bytes) (omega (arith, length-drop at bytes)) in
    let continued : AllContinue (drop at bytes) = rw (← whole) all in
    rw (groups_in-short (Truncated (length bytes)) (VarintTooLong at) (drop at bytes) 10 continued (omega (arith, length-drop at bytes))) refl

pub varint_at-long : (bytes : List ℕ) (at : ℕ) → at + 10 ≤ length bytes → AllContinue (take 10 (drop at bytes)) → varint_at bytes at ≡ Err (VarintTooLong at)
unfolding varint_at
varint_at-long bytes at room all =
    let long = groups_in-long (Truncated (length bytes)) (VarintTooLong at) (take 10 (drop at bytes)) (drop 10 (drop at bytes)) 10 all (length-groups bytes at 10 room) in
    let whole : take 10 (drop at bytes) ++ drop 10 (drop at bytes) ≡ drop at bytes = take-append-drop 10 (drop at bytes) in
    let read : groups_in (Truncated (length bytes)) (VarintTooLong at) 10 (drop at bytes) ≡ Err (VarintTooLong at) =
    ap (groups_in (Truncated (length bytes)) (VarintTooLong at) 10) (sym whole) ∙ long in
    rw read refl

pub varint_at-found : (bytes : List ℕ) (at index byte value : ℕ) → at + index < length bytes → index < 10 → byte ≡ get_or bytes (at + index) 0 → byte < 128 → AllContinue (take index (drop at bytes)) → value ≡ group_sum (take index (drop at bytes)) % 2 ^ 64 → varint_at bytes at ≡ Ok ((value + (byte % 128) * 2 ^ (7 * index) % 2 ^ 64) % 2 ^ 64, at + index + 1)
unfolding varint_at
varint_at-found bytes at index byte value room few is low all sum =
    let groups = take (index + 1) (drop at bytes) in
    let ended : IsGroups groups = rw (next_group bytes at index byte room is) (IsGroups-push (take index (drop at bytes)) byte all low) in
    let len : length groups ≡ index + 1 = length-groups bytes at (index + 1) (omega arith) in
    let found = groups_in-found (Truncated (length bytes)) (VarintTooLong at) groups (drop (index + 1) (drop at bytes)) 10 ended (omega arith) in
    let read : groups_in (Truncated (length bytes)) (VarintTooLong at) 10 (drop at bytes) ≡ Ok groups =
    ap (groups_in (Truncated (length bytes)) (VarintTooLong at) 10) (sym (take-append-drop (index + 1) (drop at bytes))) ∙ found in
    let value_is : (value + (byte % 128) * 2 ^ (7 * index) % 2 ^ 64) % 2 ^ 64 ≡ group_sum groups % 2 ^ 64 = next_value bytes at index byte value room is sum in
    let place_is : at + length groups ≡ at + index + 1 = omega arith in
    rw (read, value_is, place_is) refl
