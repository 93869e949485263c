-- Payloads that are sound messages of one kind, joined, are one message: what readers agree on for each sound message, they agree on for these.
use Rattle.std.proofs.Common.{◌≡◌, ℕ, zero, suc, ◌-◌, List, [], ◌∷◌, ◌++◌, sym, ap, ◌∙◌, subst, arith}
use Rattle.std.specs.List.{AllByRecursion}
use Rattle.proto_fields.specs.declared.kind.MessageKind.{MessageKind}
use Rattle.proto_fields.specs.Fields.{Field, fields_of, IsMessage}
use Rattle.proto_fields.specs.Faults.{IsSoundField, IsSound}
use Rattle.proto_fields.proofs.FieldLemmas.{IsMessage-append, fields_of-append}
use Rattle.proto_fields.proofs.LawLemmas.{fields_from_sound, sound_from_fields}
use Rattle.proto_fields.proofs.SpellLemmas.{spelled_message}
use Rattle.expression_messages.proofs.Written.{spell_nil}
use Rattle.expression_messages.proofs.Agreement.{sound_some, fields_in, joined_sound}

record Joined (payloads : List (List ℕ)) : Type 0 where
  bytes : List ℕ
  message : IsMessage bytes
  fields : fields_of bytes ≡ fields_in payloads

no_message : IsMessage [] × (fields_of [] ≡ [])
no_message = subst (λ (bytes : List ℕ). IsMessage bytes × (fields_of bytes ≡ [])) spell_nil (spelled_message [] tt)

joined : (levels : ℕ) (kind : MessageKind) (payloads : List (List ℕ)) → AllByRecursion (IsSound (suc levels) kind) payloads → Joined payloads
unfolding fields_in
joined levels kind [] sound = record { bytes = []; message = no_message.0; fields = no_message.1 }
joined levels kind (payload ∷ payloads) sound =
    let rest = joined levels kind payloads sound.1 in
    let first = (fields_from_sound levels kind payload sound.0).0 in
    record {
      bytes = payload ++ rest.bytes;
      message = IsMessage-append payload rest.bytes first rest.message;
      fields = fields_of-append payload rest.bytes first rest.message ∙ ap (λ (fields : List Field). fields_of payload ++ fields) rest.fields;
    }

-- where no level is left, there are no payloads
pub joined_agree : {A : Type 0} (level : ℕ) (kind : MessageKind) (read read_more : List Field → A) → read_more [] ≡ read [] →
    ((bytes : List ℕ) → IsSound level kind bytes → read_more (fields_of bytes) ≡ read (fields_of bytes)) →
    (payloads : List (List ℕ)) → AllByRecursion (IsSound level kind) payloads → read_more (fields_in payloads) ≡ read (fields_in payloads)
unfolding fields_in
joined_agree zero kind read read_more nothing agree [] sound = nothing
joined_agree zero kind read read_more nothing agree (payload ∷ payloads) sound = absurd (omega (arith, sound_some zero kind payload sound.0))
joined_agree (suc level) kind read read_more nothing agree payloads sound =
    let whole = joined level kind payloads sound in
    let left : suc level - 1 ≡ level = omega arith in
    let fields_sound : AllByRecursion (IsSoundField (IsSound level) kind) (fields_of whole.bytes) =
    subst (AllByRecursion (IsSoundField (IsSound level) kind)) (sym whole.fields)
    (subst (λ (n : ℕ). AllByRecursion (IsSoundField (IsSound n) kind) (fields_in payloads)) left (joined_sound (suc level) kind payloads sound)) in
    ap read_more (sym whole.fields)
    ∙ agree whole.bytes (sound_from_fields level kind whole.bytes (whole.message, fields_sound))
    ∙ ap read whole.fields
