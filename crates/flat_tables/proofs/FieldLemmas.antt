-- A look-up of a slot against the vtable's arithmetic.
use Rattle.std.proofs.Common.{◌≡◌, ◌≢◌, ℕ, ◌+◌, ◌*◌, ◌<◌, ◌≤◌, ◌⊎◌, inl, inr, List, length, Option, None, Some, Result, Ok, Err, arith, refl, sym, ap, ◌∙◌, subst, ltb, eqb, cond, zero, suc, true, false}
use Rattle.std.specs.Prelude.{ℤ, pos, negsuc, ◌<ℤ◌}
use Rattle.std.specs.Int.{w16, w32, cast_signed}
use Rattle.std.proofs.lemmas.Bool.{cases_lt}
use Rattle.std.proofs.lemmas.Int.{ints}
use Rattle.flat_tables.specs.declared.fault.FlatFault.{FlatFault}
use Rattle.flat_tables.specs.declared.fault.FlatFault.TheVariants.{OutOfRange}
use Rattle.flat_tables.specs.Reading.{u16_at, i32_at, counted, place_before, vtable_at, entry_at, field_at}
use Rattle.flat_tables.specs.Fields.{FindsFields, FailsOutside, number_in, vtable_place, IsVtable, vtable_size, entry_place, HasEntry, Entry, Says, FieldAt, FieldOutside, no_table, below, no_vtable, no_entry}

pub u16_inside : (b : List ℕ) (p : ℕ) → p + 2 ≤ length b → u16_at b p ≡ Ok (number_in w16 b p)
unfolding u16_at
u16_inside b p h = grind arith

pub u16_outside : (b : List ℕ) (p : ℕ) → length b < p + 2 → u16_at b p ≡ Err (OutOfRange p)
unfolding u16_at
u16_outside b p h = grind arith

pub i32_inside : (b : List ℕ) (p : ℕ) → p + 4 ≤ length b → i32_at b p ≡ Ok (cast_signed w32 (number_in w32 b p))
unfolding i32_at
i32_inside b p h = grind arith

pub i32_outside : (b : List ℕ) (p : ℕ) → length b < p + 4 → i32_at b p ≡ Err (OutOfRange p)
unfolding i32_at
i32_outside b p h = grind arith

-- ---- the vtable

pub before_inside : (b : List ℕ) (t v : ℕ) → vtable_place b t ≡ pos v → place_before t (cast_signed w32 (number_in w32 b t)) ≡ Ok v
before_inside b t v e = rw e refl

pub vtable_inside : (b : List ℕ) (t v : ℕ) → IsVtable b t v → vtable_at b t ≡ Ok (v, vtable_size b v)
unfolding vtable_at
vtable_inside b t v h = rw (i32_inside b t h.table_within, before_inside b t v h.place, u16_inside b v h.size_within) refl

-- ---- what stands is found

-- the test of a vtable's size
reaches : (size need : ℕ) → need ≤ size → ltb size need ≡ false
reaches size need h = grind arith

misses : (size need : ℕ) → size < need → ltb size need ≡ true
misses size need h = grind arith

pub entry_beyond : (b : List ℕ) (t v s : ℕ) → vtable_size b v < 4 + 2 * s + 2 → entry_at b t s (v, vtable_size b v) ≡ Ok None
unfolding entry_at
entry_beyond b t v s h = grind arith

pub entry_inside : (b : List ℕ) (t v s : ℕ) (e : ℕ) → Entry b v s e → entry_at b t s (v, vtable_size b v) ≡ Ok (cond (eqb e 0) None (Some (t + e)))
unfolding entry_at
entry_inside b t v s e h = let r : ltb (vtable_size b v) (6 + 2 * s) ≡ false = reaches _ _ (omega (arith, h.in_vtable)) in rw (r, u16_inside b (v + (4 + 2 * s)) h.within, h.value) refl

pub entry_outside : (b : List ℕ) (t v s : ℕ) → HasEntry b v s → length b < entry_place v s + 2 → entry_at b t s (v, vtable_size b v) ≡ Err (OutOfRange (entry_place v s))
unfolding entry_at
entry_outside b t v s h k = let r : ltb (vtable_size b v) (6 + 2 * s) ≡ false = reaches _ _ (omega (arith, h)) in rw (r, u16_outside b (v + (4 + 2 * s)) k) refl

present : (t e : ℕ) → e ≢ 0 → (let r : Result (Option ℕ) FlatFault = Ok (cond (eqb e 0) None (Some (t + e))) in r) ≡ Ok (Some (t + e))
present t e ne = grind arith

pub says_found : (b : List ℕ) (t v s : ℕ) (p : Option ℕ) → Says b t v s p → entry_at b t s (v, vtable_size b v) ≡ Ok p
says_found b t v s None (inl h) = entry_beyond b t v s h
says_found b t v s None (inr h) = entry_inside b t v s 0 h
says_found b t v s (Some p) (e, h, ne, is) = entry_inside b t v s e h ∙ present t e ne ∙ ap (λ (n : ℕ). Ok (Some n)) (sym is)

pub field_inside : (b : List ℕ) (t s : ℕ) (p : Option ℕ) → FieldAt b t s p → field_at b t s ≡ Ok p
unfolding field_at
field_inside b t s p h = rw (vtable_inside b t h.vtable h.is_vtable) (says_found b t h.vtable s p h.says)

-- ---- what lies outside is the fault

below_zero : (t : ℕ) (z : ℤ) → z <ℤ pos 0 → counted t z ≡ Err (OutOfRange t)
below_zero t (pos v) h = absurd (omega (arith, ints))
below_zero t (negsuc n) h = refl

pub field_outside : (b : List ℕ) (t s at : ℕ) → FieldOutside b t s at → field_at b t s ≡ Err (OutOfRange at)
unfolding field_at vtable_at
field_outside b t s at (no_table h) = rw (i32_outside b t h) refl
field_outside b t s at (below h z) = rw (i32_inside b t h, below_zero t (vtable_place b t) z) refl
field_outside b t s at (no_vtable v h e k) = rw (i32_inside b t h, before_inside b t v e, u16_outside b v k) refl
field_outside b t s at (no_entry v h e k) = rw (vtable_inside b t v h) (entry_outside b t v s e k)

-- ---- one of the two is so

abbrev Settled : List ℕ → ℕ → ℕ → Type 0
Settled b t s = ((p : Option ℕ) × FieldAt b t s p) ⊎ ((at : ℕ) × FieldOutside b t s at)

not_zero : (e : ℕ) → suc e ≢ 0
not_zero e h = absurd (omega arith)

entry_settled : (b : List ℕ) (t v s : ℕ) → IsVtable b t v → HasEntry b v s → entry_place v s + 2 ≤ length b → (e : ℕ) → number_in w16 b (entry_place v s) ≡ e → Settled b t s
entry_settled b t v s h has within zero is = inl (None, record { vtable = v; is_vtable = h; says = inr (record { in_vtable = has; within = within; value = is }) })
entry_settled b t v s h has within (suc e) is = inl (Some (t + suc e), record { vtable = v; is_vtable = h; says = (suc e, record { in_vtable = has; within = within; value = is }, not_zero e, refl) })

slot_settled : (b : List ℕ) (t v s : ℕ) → IsVtable b t v → Settled b t s
slot_settled b t v s h = elim (cases_lt (vtable_size b v) (4 + 2 * s + 2)) [
  | inl beyond ↦ inl (None, record { vtable = v; is_vtable = h; says = inl beyond })
  | inr has ↦ elim (cases_lt (length b) (entry_place v s + 2)) [
    | inl out ↦ inr (entry_place v s, no_entry v h has out)
    | inr within ↦ entry_settled b t v s h has within _ refl
  ]
]

vtable_settled : (b : List ℕ) (t s : ℕ) → t + 4 ≤ length b → (z : ℤ) → vtable_place b t ≡ z → Settled b t s
vtable_settled b t s h (pos v) e = elim (cases_lt (length b) (v + 2)) [
  | inl out ↦ inr (v, no_vtable v h e out)
  | inr within ↦ slot_settled b t v s (record { table_within = h; place = e; size_within = within })
]
vtable_settled b t s h (negsuc n) e = inr (t, below h (rw e (omega (arith, ints))))

pub field_settled : (b : List ℕ) (t s : ℕ) → Settled b t s
field_settled b t s = elim (cases_lt (length b) (t + 4)) [ inl out ↦ inr (t, no_table out) | inr within ↦ vtable_settled b t s within _ refl ]

-- ---- the laws

pub finds : FindsFields
finds b t s p = (found (field_settled b t s), field_inside b t s p)
  where
    found : Settled b t s → field_at b t s ≡ Ok p → FieldAt b t s p
    found (inl (q, h)) e = let same : q ≡ p = (let f = field_inside b t s q h in cc) in subst (FieldAt b t s) same h
    found (inr (at, h)) e = absurd (let f = field_outside b t s at h in cc)

pub fails : FailsOutside
fails b t s at = (out (field_settled b t s), field_outside b t s at)
  where
    out : Settled b t s → field_at b t s ≡ Err (OutOfRange at) → FieldOutside b t s at
    out (inl (q, h)) e = absurd (let f = field_inside b t s q h in cc)
    out (inr (k, h)) e = let same : k ≡ at = (let f = field_outside b t s k h in cc) in subst (FieldOutside b t s) same h
