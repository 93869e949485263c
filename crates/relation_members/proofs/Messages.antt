-- Messages over inputs and then a rest: each is read back where its inputs and its rest are, and a member that is the field of such a message
-- is read back behind the field that all relations have.
use Rattle.std.proofs.Common.{◌≡◌, ℕ, ◌+◌, ◌-◌, ◌<◌, true, List, ◌++◌, Option, refl, ap, ◌∙◌, subst, arith}
use Rattle.std.specs.Prelude.{option_map, unwrap_or}
use Rattle.proto_fields.specs.declared.kind.MessageKind.{MessageKind}
use Rattle.proto_fields.specs.declared.kind.MessageKind.TheVariants as kinds
use Rattle.proto_fields.specs.declared.kind.PayloadKind.TheVariants.{Message}
use Rattle.proto_fields.specs.Fields.{Field, fields_of}
use Rattle.proto_fields.specs.Kinds.{is_payload_member, payload_of}
use Rattle.proto_fields.specs.Readings.{Member, latest}
use Rattle.proto_fields.specs.Spelling.{spell, payload_fields}
use Rattle.expression_messages.specs.Messages.{message_at}
use Rattle.expression_messages.specs.Laws.{IsShort, IsReadBack}
use Rattle.expression_messages.proofs.Pieces.{Stands, two_stand, read_back, HaveNumber, Piece, IsNumber, payload_piece, payloads_one, message_at-one}
use Rattle.field_groups.specs.Groups.{ReadsAs}
use Rattle.field_groups.proofs.Among.{are_others, alone, before, behind, before_others}
use Rattle.field_groups.proofs.Members.{no_members, latest_behind}
use Rattle.field_groups.proofs.Rests.{RestBack, others_above}
use Rattle.relation_members.specs.declared.member.RelationMember.{RelationMember}
use Rattle.relation_members.specs.declared.member.RelationMember.TheVariants as V
use Rattle.relation_members.specs.Members.{relation_member_of, member_at}
use Rattle.field_groups.proofs.Scalars.{is_1, is_2}

-- ---- messages over inputs

-- one level further out
outer : (level : ℕ) (kind : MessageKind) (fields : List Field) → Stands level kind fields → Stands (1 + level - 1) kind fields
outer level kind fields stands = let same : level ≡ 1 + level - 1 = omega arith in subst (λ (n : ℕ). Stands n kind fields) same stands

-- the field of an input that is read back
input_piece : {R : Type 0} (level : ℕ) (kind : MessageKind) (number : ℕ) (fields : List Field) (read : List Field → R) (input : R) → IsNumber number → payload_of kind number ≡ Message kinds.Relation →
    IsShort fields → IsReadBack level kinds.Relation fields read input → Piece level kind number (payload_fields number (spell fields))
input_piece level kind number fields read input is_number is short back = payload_piece level kind number (Message kinds.Relation) (spell fields) is_number is back.sound short

-- it is read where it reads as itself
input_read : {R : Type 0} (level number : ℕ) (whole fields : List Field) (read : List Field → R) (input : R) → IsReadBack level kinds.Relation fields read input →
    ReadsAs number whole (payload_fields number (spell fields)) → read (message_at number whole) ≡ input
input_read level number whole fields read input back reads =
    ap read (message_at-one number whole (spell fields) (reads.payloads_are ∙ payloads_one number (spell fields))) ∙ back.same

-- over one input
pub one_input : {R A : Type 0} (level : ℕ) (kind : MessageKind) (fields : List Field) (read : List Field → R) (input : R) (rest : List Field) (of : R → List Field → A) (value : A) →
    payload_of kind 1 ≡ Message kinds.Relation → IsShort fields → IsReadBack level kinds.Relation fields read input → RestBack level 1 kind rest (of input) value →
    IsReadBack (1 + level) kind (payload_fields 1 (spell fields) ++ rest) (λ found. of (read (message_at 1 found)) found) value
one_input {R} {A} level kind fields read input rest of value is short input_back back =
    read_back (1 + level) kind whole (λ found. of (read (message_at 1 found)) found) value (omega arith) (outer level kind whole stands) same
  where
    first : List Field
    first = payload_fields 1 (spell fields)

    whole : List Field
    whole = first ++ rest

    stands : Stands level kind whole
    stands = two_stand level kind first rest (input_piece level kind 1 fields read input is_1 is short input_back).stands back.stands

    reads : ReadsAs 1 whole first
    reads = before_others 1 first first rest (alone 1 first) (others_above 1 1 rest back.above (omega arith))

    same : of (read (message_at 1 whole)) whole ≡ value
    same = ap (λ (found : R). of found whole) (input_read level 1 whole fields read input input_back reads) ∙ back.same first (omega arith, tt)

-- over two inputs
pub two_inputs : {R A : Type 0} (level : ℕ) (kind : MessageKind) (fields fields2 : List Field) (read : List Field → R) (input input2 : R) (rest : List Field) (of : R → R → List Field → A) (value : A) →
    payload_of kind 1 ≡ Message kinds.Relation → payload_of kind 2 ≡ Message kinds.Relation → IsShort fields → IsShort fields2 → IsReadBack level kinds.Relation fields read input →
    IsReadBack level kinds.Relation fields2 read input2 → RestBack level 2 kind rest (of input input2) value →
    IsReadBack (1 + level) kind (payload_fields 1 (spell fields) ++ payload_fields 2 (spell fields2) ++ rest) (λ found. of (read (message_at 1 found)) (read (message_at 2 found)) found) value
two_inputs {R} {A} level kind fields fields2 read input input2 rest of value is is2 short short2 input_back input_back2 back =
    read_back (1 + level) kind whole (λ found. of (read (message_at 1 found)) (read (message_at 2 found)) found) value (omega arith) (outer level kind whole stands) same
  where
    first : List Field
    first = payload_fields 1 (spell fields)

    second : List Field
    second = payload_fields 2 (spell fields2)

    whole : List Field
    whole = first ++ second ++ rest

    first_piece : Piece level kind 1 first
    first_piece = input_piece level kind 1 fields read input is_1 is short input_back

    second_piece : Piece level kind 2 second
    second_piece = input_piece level kind 2 fields2 read input2 is_2 is2 short2 input_back2

    stands : Stands level kind whole
    stands = two_stand level kind (first ++ second) rest (two_stand level kind first second first_piece.stands second_piece.stands) back.stands

    first_reads : ReadsAs 1 whole first
    first_reads = before_others 1 (first ++ second) first rest (before 1 2 first first second (alone 1 first) second_piece.numbered (omega arith)) (others_above 2 1 rest back.above (omega arith))

    second_reads : ReadsAs 2 whole second
    second_reads = before_others 2 (first ++ second) second rest (behind 2 first second (are_others 2 1 first first_piece.numbered (omega arith))) (others_above 2 2 rest back.above (omega arith))

    same : of (read (message_at 1 whole)) (read (message_at 2 whole)) whole ≡ value
    same =
        ap (λ (found : R). of found (read (message_at 2 whole)) whole) (input_read level 1 whole fields read input input_back first_reads)
        ∙ ap (λ (found : R). of input found whole) (input_read level 2 whole fields2 read input2 input_back2 second_reads)
        ∙ back.same (first ++ second) (omega arith, (omega arith, tt))

-- ---- the field of a member

-- the fields stand in a relation's message, are of one number above 1, and are read as the member behind any fields of the number 1
pub record FieldBack {R : Type 0} (level : ℕ) (fields : List Field) (read : List Field → R) (member : RelationMember R) : Type 0 where
  pub number : ℕ
  pub above : 1 < number
  pub piece : Piece (1 + level) kinds.Relation number fields
  pub same : (front : List Field) → HaveNumber 1 front → unwrap_or (option_map (member_at read level) (latest kinds.Relation (front ++ fields))) (V.Other 0) ≡ member

-- the field of a message that is read back
pub field_back : {R A : Type 0} (level number : ℕ) (kind : MessageKind) (fields : List Field) (read : List Field → R) (of : List Field → A) (value : A) (made : A → RelationMember R) →
    1 < number → IsNumber number → payload_of kinds.Relation number ≡ Message kind → is_payload_member kinds.Relation number ≡ true → IsShort fields →
    ((found : List Field) → relation_member_of read level number found ≡ made (of found)) → IsReadBack (1 + level) kind fields of value →
    FieldBack level (payload_fields number (spell fields)) read (made value)
field_back {R} {A} level number kind fields read of value made above is_number is member short computes back =
    record { number = number; above = above; piece = piece; same = same }
  where
    payload : List ℕ
    payload = spell fields

    piece : Piece (1 + level) kinds.Relation number (payload_fields number payload)
    piece = payload_piece (1 + level) kinds.Relation number (Message kind) payload is_number is back.sound short

    same : (front : List Field) → HaveNumber 1 front → unwrap_or (option_map (member_at read level) (latest kinds.Relation (front ++ payload_fields number payload))) (V.Other 0) ≡ made value
    same front numbered =
        let whole = front ++ payload_fields number payload in
        let found = latest_behind kinds.Relation number front payload (no_members kinds.Relation 1 front (record { payload = refl; varint = refl }) numbered) member in
        let reads = behind number front (payload_fields number payload) (are_others number 1 front numbered (omega (arith, above))) in
        ap (λ (m : Option Member). unwrap_or (option_map (member_at read level) m) (V.Other 0)) found
        ∙ ap (relation_member_of read level number) (message_at-one number whole payload (reads.payloads_are ∙ payloads_one number payload))
        ∙ computes (fields_of payload)
        ∙ ap made back.same
