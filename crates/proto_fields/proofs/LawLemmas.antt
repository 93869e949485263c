-- Soundness by the fields, and that a message is sound or has one fault.
use Rattle.std.proofs.Common.{◌≡◌, ℕ, suc, ◌⊎◌, inl, inr, List, [], ◌∷◌, map, Option, None, Some, refl, sym, subst}
use Rattle.std.specs.List.{AllByRecursion}
use Rattle.proto_wire.specs.Varint.{IsBytes}
use Rattle.proto_fields.specs.declared.fault.MessageFault.{MessageFault}
use Rattle.proto_fields.specs.declared.kind.MessageKind.{MessageKind}
use Rattle.proto_fields.specs.Fields.{field_in, fields_of, IsMessage}
use Rattle.proto_fields.specs.Faults.{IsSoundField, IsSound, HasFault, first_fault}
use Rattle.proto_fields.proofs.FieldLemmas.{fields_of-Records}
use Rattle.proto_fields.proofs.FaultLemmas.{sound_from_none, none_from_sound, fault_from_some, some_from_fault}

AllByRecursion-map : {A B : Type 0} (P : B → Type 0) (f : A → B) (xs : List A) → AllByRecursion (λ x. P (f x)) xs → AllByRecursion P (map f xs)
AllByRecursion-map P f [] all = tt
AllByRecursion-map P f (x ∷ xs) all = (all.0, AllByRecursion-map P f xs all.1)

AllByRecursion-from_map : {A B : Type 0} (P : B → Type 0) (f : A → B) (xs : List A) → AllByRecursion P (map f xs) → AllByRecursion (λ x. P (f x)) xs
AllByRecursion-from_map P f [] all = tt
AllByRecursion-from_map P f (x ∷ xs) all = (all.0, AllByRecursion-from_map P f xs all.1)

pub fields_from_sound : (levels : ℕ) (kind : MessageKind) (bytes : List ℕ) → IsSound (suc levels) kind bytes → IsMessage bytes × AllByRecursion (IsSoundField (IsSound levels) kind) (fields_of bytes)
unfolding IsSound
fields_from_sound levels kind bytes sound = (
  (sound.0, sound.1),
  subst (AllByRecursion (IsSoundField (IsSound levels) kind)) (sym (fields_of-Records bytes sound.0 sound.1))
      (AllByRecursion-map (IsSoundField (IsSound levels) kind) (field_in bytes) sound.0 sound.2),
)

pub sound_from_fields : (levels : ℕ) (kind : MessageKind) (bytes : List ℕ) → IsMessage bytes × AllByRecursion (IsSoundField (IsSound levels) kind) (fields_of bytes) → IsSound (suc levels) kind bytes
unfolding IsSound
sound_from_fields levels kind bytes both = (
  both.0.0,
  both.0.1,
  AllByRecursion-from_map (IsSoundField (IsSound levels) kind) (field_in bytes) both.0.0
      (subst (AllByRecursion (IsSoundField (IsSound levels) kind)) (fields_of-Records bytes both.0.0 both.0.1) both.1),
)

by_first : (levels : ℕ) (kind : MessageKind) (base : ℕ) (bytes : List ℕ) (found : Option MessageFault) → first_fault levels kind base bytes ≡ found → IsBytes bytes →
    IsSound levels kind bytes ⊎ ((fault : MessageFault) × HasFault levels kind base bytes fault)
by_first levels kind base bytes None is fits = inl (sound_from_none levels kind base bytes fits is)
by_first levels kind base bytes (Some fault) is fits = inr (fault, fault_from_some levels kind base bytes fault fits is)

pub sound_or_fault : (levels : ℕ) (kind : MessageKind) (base : ℕ) (bytes : List ℕ) → IsBytes bytes → IsSound levels kind bytes ⊎ ((fault : MessageFault) × HasFault levels kind base bytes fault)
sound_or_fault levels kind base bytes fits = by_first levels kind base bytes (first_fault levels kind base bytes) refl fits

pub one_fault : (levels : ℕ) (kind : MessageKind) (base : ℕ) (bytes : List ℕ) (fault other : MessageFault) → HasFault levels kind base bytes fault → HasFault levels kind base bytes other → fault ≡ other
one_fault levels kind base bytes fault other first second =
    let a = some_from_fault levels kind base bytes fault first in
    let b = some_from_fault levels kind base bytes other second in cc

pub sound_not_faulty : (levels : ℕ) (kind : MessageKind) (base : ℕ) (bytes : List ℕ) (fault : MessageFault) → IsSound levels kind bytes → HasFault levels kind base bytes fault → ⊥
sound_not_faulty levels kind base bytes fault sound has =
    let a = none_from_sound levels kind base bytes sound in
    let b = some_from_fault levels kind base bytes fault has in absurd cc
