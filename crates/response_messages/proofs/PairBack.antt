-- What pairs are spelled as is read as the pairs.
use Rattle.std.proofs.Common.{◌≡◌, ℕ, ◌-◌, ◌≤◌, List, ◌++◌, Option, refl, arith}
use Rattle.proto_fields.specs.declared.kind.MessageKind.TheVariants as kinds
use Rattle.proto_fields.specs.Fields.{Field}
use Rattle.proto_fields.specs.Kinds.{payload_of}
use Rattle.proto_fields.specs.Spelling.{text_fields, optional_payload_fields}
use Rattle.expression_messages.specs.Laws.{IsShort, IsReadBack}
use Rattle.expression_messages.proofs.Pieces.{Stands, two_stand, read_back, short_two, Piece, text_piece, optional_text_piece}
use Rattle.response_messages.specs.declared.key_value.KeyValue.{KeyValue}
use Rattle.response_messages.specs.KeyValues.{key_value_of, key_value_fields, HasKeyValueBits}
use Rattle.field_groups.proofs.Among.{are_others, alone, before, behind}
use Rattle.field_groups.proofs.Scalars.{is_1, is_2, text_read, optional_text_read}

same_pair : {key key2 : List ℕ} {value value2 : Option (List ℕ)} → key ≡ key2 → value ≡ value2 →
    ◌≡◌ {A = KeyValue} (record { key = key; value = value }) (record { key = key2; value = value2 })
same_pair key_is value_is = rw key_is (rw value_is refl)

pub key_value_read_back : (level : ℕ) (pair : KeyValue) → HasKeyValueBits pair → IsShort (key_value_fields pair) → 1 ≤ level →
    IsReadBack level kinds.KeyValue (key_value_fields pair) key_value_of pair
unfolding payload_of
key_value_read_back level pair bits short some = read_back level kinds.KeyValue (key ++ value) key_value_of pair (omega arith) stands same
  where
    key : List Field
    key = text_fields 1 pair.key

    value : List Field
    value = optional_payload_fields 2 pair.value

    shorts : IsShort key × IsShort value
    shorts = short_two key value short

    key_piece : Piece (level - 1) kinds.KeyValue 1 key
    key_piece = text_piece (level - 1) kinds.KeyValue 1 pair.key is_1 refl bits.key shorts.0

    value_piece : Piece (level - 1) kinds.KeyValue 2 value
    value_piece = optional_text_piece (level - 1) kinds.KeyValue 2 pair.value is_2 refl bits.value shorts.1

    stands : Stands (level - 1) kinds.KeyValue (key ++ value)
    stands = two_stand (level - 1) kinds.KeyValue key value key_piece.stands value_piece.stands

    same : key_value_of (key ++ value) ≡ pair
    same = same_pair
        (text_read 1 (key ++ value) pair.key (before 1 2 key key value (alone 1 key) value_piece.numbered (omega arith)) bits.key)
        (optional_text_read 2 (key ++ value) pair.value (behind 2 key value (are_others 2 1 key key_piece.numbered (omega arith))) bits.value)
