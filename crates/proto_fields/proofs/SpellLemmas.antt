-- What fields are spelled as is read as these fields, and is sound where their payloads are.
use Rattle.std.proofs.Common.{◌≡◌, ℕ, suc, ◌+◌, ◌^◌, ◌<◌, ◌≤◌, ◌↔◌, List, [], ◌∷◌, ◌++◌, length, refl, sym, ap, ◌∙◌, subst}
use Rattle.std.specs.Prelude.{slice_range}
use Rattle.std.specs.List.{AllByRecursion}
use Rattle.std.proofs.lemmas.List.{append-nil}
use Rattle.proto_wire.specs.Records.{Records, number_record, span_record, number_field, payload_place, span_field}
use Rattle.proto_wire.proofs.Written.{number_first, span_first, payload_read}
use Rattle.proto_fields.specs.declared.kind.MessageKind.{MessageKind}
use Rattle.proto_fields.specs.Fields.{Content, Number, Eight, Payload, Four, Field, fields_of, IsMessage}
use Rattle.proto_fields.specs.Faults.{IsSoundField, IsSound}
use Rattle.proto_fields.specs.Spelling.{content_spelling, field_spelling, spell, IsWritableContent, IsWritable}
use Rattle.proto_fields.proofs.FieldLemmas.{fields_of-Records, IsMessage-append, fields_of-append}
use Rattle.proto_fields.proofs.LawLemmas.{fields_from_sound, sound_from_fields}

number_records : (number value : ℕ) → 1 ≤ number → number ≤ 536870911 → value < 2 ^ 64 → Records (number_record number value) (number_field 0 number value ∷ [])
number_records number value low high fits =
    subst (λ (b : List ℕ). Records b (number_field 0 number value ∷ [])) (append-nil (number_record number value)) (number_first 0 [] [] number value low high fits refl)

span_records : (number : ℕ) (payload : List ℕ) → 1 ≤ number → number ≤ 536870911 → length payload < 2 ^ 64 → Records (span_record number payload) (span_field 0 number payload ∷ [])
span_records number payload low high fits =
    subst (λ (b : List ℕ). Records b (span_field 0 number payload ∷ [])) (append-nil (span_record number payload)) (span_first 0 payload [] [] number low high fits refl)

span_payload : (number : ℕ) (payload : List ℕ) → slice_range (span_record number payload) (payload_place 0 number payload) (payload_place 0 number payload + length payload) ≡ payload
span_payload number payload =
    ap (λ (b : List ℕ). slice_range b (payload_place 0 number payload) (payload_place 0 number payload + length payload)) (sym (append-nil (span_record number payload))) ∙ payload_read [] [] payload number

-- the spelling of one field is a message of this field
one_message : (number : ℕ) (content : Content) → 1 ≤ number → number ≤ 536870911 → IsWritableContent content → IsMessage (content_spelling number content) × (fields_of (content_spelling number content) ≡ record { number = number; content = content } ∷ [])
one_message number (Number value) low high fits =
    let records = number_records number value low high fits in
    ((number_field 0 number value ∷ [], records), fields_of-Records (number_record number value) (number_field 0 number value ∷ []) records)
one_message number (Eight value) low high fits = absurd fits
one_message number (Payload payload) low high fits =
    let records = span_records number payload low high fits in
    let field : List ℕ → Field = λ (p : List ℕ). record { number = number; content = Payload p } in (
      (span_field 0 number payload ∷ [], records),
      fields_of-Records (span_record number payload) (span_field 0 number payload ∷ []) records ∙ ap (λ (p : List ℕ). field p ∷ []) (span_payload number payload),
    )
one_message number (Four value) low high fits = absurd fits

-- writable fields are spelled as a message of these fields
pub spelled_message : (fields : List Field) → AllByRecursion IsWritable fields → IsMessage (spell fields) × (fields_of (spell fields) ≡ fields)
unfolding spell
spelled_message [] writable = (([], refl), fields_of-Records [] [] refl)
spelled_message (field ∷ fields) writable =
    let first = one_message field.number field.content writable.0.low writable.0.high writable.0.content in
    let more = spelled_message fields writable.1 in
    let join = fields_of-append (field_spelling field) (spell fields) first.0 more.0 in (
      IsMessage-append (field_spelling field) (spell fields) first.0 more.0,
      join ∙ ap (λ (fs : List Field). fs ++ fields_of (spell fields)) first.1 ∙ ap (λ (fs : List Field). field ∷ fs) more.1,
    )

-- what is spelled is sound exactly where each payload is
pub spelled_sound : (levels : ℕ) (kind : MessageKind) (fields : List Field) → AllByRecursion IsWritable fields → IsSound (suc levels) kind (spell fields) ↔ AllByRecursion (IsSoundField (IsSound levels) kind) fields
spelled_sound levels kind fields writable =
    let spelled = spelled_message fields writable in (
      λ sound. subst (AllByRecursion (IsSoundField (IsSound levels) kind)) spelled.1 ((fields_from_sound levels kind (spell fields) sound).1),
      λ each. sound_from_fields levels kind (spell fields) (spelled.0, subst (AllByRecursion (IsSoundField (IsSound levels) kind)) (sym spelled.1) each),
    )
