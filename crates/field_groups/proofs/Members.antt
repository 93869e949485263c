-- The member of a oneof that fields set: none, or one, whatever other fields stand before and behind.
use Rattle.std.proofs.Common.{◌≡◌, ℕ, ◌-◌, ◌<◌, ◌≤◌, Bool, true, false, List, [], ◌∷◌, ◌++◌, drop, get_or, length, None, Some, refl, ap, ◌∙◌, arith}
use Rattle.std.specs.Prelude.{not}
use Rattle.std.specs.List.{AllByRecursion, suffix_len, after_last}
use Rattle.std.proofs.lemmas.Bool.{eq-eqb}
use Rattle.std.proofs.lemmas.List.Elements.{All-get_or, All-from_recursion}
use Rattle.std.proofs.lemmas.List.Sums.{suffix_len_is}
use Rattle.proto_fields.specs.declared.kind.MessageKind.{MessageKind}
use Rattle.proto_fields.specs.Fields.{Content, Number, Eight, Payload, Four, Field}
use Rattle.proto_fields.specs.Kinds.{is_payload_member, is_number_member, is_member}
use Rattle.proto_fields.specs.Readings.{last_some, member_in, sets_other, Member, latest}
use Rattle.proto_fields.specs.Spelling.{payload_fields}
use Rattle.proto_fields.proofs.PieceLemmas.{AllByRecursion-append}
use Rattle.proto_fields.proofs.ReturnLemmas.{last_some-append}
use Rattle.expression_messages.proofs.Pieces.{HaveNumber}

-- ---- fields that set no member

abbrev pub AreNoMembers : MessageKind → List Field → Type 0
AreNoMembers kind fields = AllByRecursion (λ field. is_member kind field.number field.content ≡ false) fields

-- no record of this number is a member
pub record IsNoMember (kind : MessageKind) (number : ℕ) : Type 0 where
  pub payload : is_payload_member kind number ≡ false
  pub varint : is_number_member kind number ≡ false

content_no_member : (kind : MessageKind) (number : ℕ) (content : Content) → IsNoMember kind number → is_member kind number content ≡ false
unfolding is_member
content_no_member kind number (Number value) apart = apart.varint
content_no_member kind number (Eight value) apart = refl
content_no_member kind number (Payload payload) apart = apart.payload
content_no_member kind number (Four value) apart = refl

pub no_members : (kind : MessageKind) (number : ℕ) (fields : List Field) → IsNoMember kind number → HaveNumber number fields → AreNoMembers kind fields
no_members kind number [] apart numbered = tt
no_members kind number (field ∷ fields) apart numbered =
    (ap (λ (n : ℕ). is_member kind n field.content) numbered.0 ∙ content_no_member kind number field.content apart, no_members kind number fields apart numbered.1)

pub two_no_members : (kind : MessageKind) (a b : List Field) → AreNoMembers kind a → AreNoMembers kind b → AreNoMembers kind (a ++ b)
two_no_members kind a b first second = AllByRecursion-append (λ field. is_member kind field.number field.content ≡ false) a b first second

last_member-none : (kind : MessageKind) (fields : List Field) → AreNoMembers kind fields → last_some (member_in kind) fields ≡ None
unfolding last_some
last_member-none kind [] apart = refl
last_member-none kind (field ∷ fields) apart = rw (last_member-none kind fields apart.1) (rw apart.0 refl)

-- no member is set
pub latest_none : (kind : MessageKind) (fields : List Field) → AreNoMembers kind fields → latest kind fields ≡ None
unfolding latest
latest_none kind fields apart = rw (last_member-none kind fields apart) refl

-- ---- fields that set one

none_other : (kind : MessageKind) (number : ℕ) (fields : List Field) → AreNoMembers kind fields → AllByRecursion (λ field. sets_other kind number field ≡ false) fields
none_other kind number [] none = tt
none_other kind number (field ∷ fields) none = (rw none.0 refl, none_other kind number fields none.1)

-- the fields set this member and no other
pub record SetsOne (kind : MessageKind) (number : ℕ) (fields : List Field) : Type 0 where
  pub last : last_some (member_in kind) fields ≡ Some number
  pub no_other : AllByRecursion (λ field. sets_other kind number field ≡ false) fields

pub sets_one : (kind : MessageKind) (number : ℕ) (payload : List ℕ) → is_payload_member kind number ≡ true → SetsOne kind number (payload_fields number payload)
unfolding last_some is_member
sets_one kind number payload is = record {
  last = rw is refl;
  no_other = (rw is (rw (eq-eqb number number refl) refl), tt);
}

pub one_before : (kind : MessageKind) (number : ℕ) (front back : List Field) → SetsOne kind number front → AreNoMembers kind back → SetsOne kind number (front ++ back)
one_before kind number front back one none = record {
  last = rw (last_some-append (member_in kind) front back) (rw (last_member-none kind back none) one.last);
  no_other = AllByRecursion-append (λ field. sets_other kind number field ≡ false) front back one.no_other (none_other kind number back none);
}

pub one_behind : (kind : MessageKind) (number : ℕ) (front back : List Field) → AreNoMembers kind front → SetsOne kind number back → SetsOne kind number (front ++ back)
one_behind kind number front back none one = record {
  last = rw (last_some-append (member_in kind) front back) (rw one.last refl);
  no_other = AllByRecursion-append (λ field. sets_other kind number field ≡ false) front back (none_other kind number front none) one.no_other;
}

no_place : Field
no_place = record { number = 0; content = Number 0 }

all_since : (test : Field → Bool) (fields : List Field) → AllByRecursion (λ field. test field ≡ false) fields → after_last test fields ≡ fields
all_since test fields none =
    let keeps : Field → Bool = λ field. not (test field) in
    let at : (k : ℕ) → 0 ≤ k → k < length fields → keeps (get_or fields k no_place) ≡ true =
    λ k low within. ap not (All-get_or (λ field. test field ≡ false) fields k no_place within (All-from_recursion (λ field. test field ≡ false) fields none)) in
    let whole = suffix_len_is keeps fields 0 no_place (omega arith) at (λ some. absurd (omega arith)) in
    let place : length fields - suffix_len keeps fields ≡ 0 = omega (arith, whole) in
    ap (λ (n : ℕ). drop n fields) place

member_with : ℕ → List Field → Member
member_with number since = record { number = number; since = since }

-- the member that is set, with all fields
pub latest_one : (kind : MessageKind) (number : ℕ) (fields : List Field) → SetsOne kind number fields → latest kind fields ≡ Some (record { number = number; since = fields })
unfolding latest member_with
latest_one kind number fields one =
    rw one.last (ap (λ (since : List Field). Some (member_with number since)) (all_since (sets_other kind number) fields one.no_other))

-- a member behind fields that set none
pub latest_behind : (kind : MessageKind) (number : ℕ) (front : List Field) (payload : List ℕ) → AreNoMembers kind front → is_payload_member kind number ≡ true →
    latest kind (front ++ payload_fields number payload) ≡ Some (record { number = number; since = front ++ payload_fields number payload })
latest_behind kind number front payload apart member =
    latest_one kind number (front ++ payload_fields number payload) (one_behind kind number front (payload_fields number payload) apart (sets_one kind number payload member))
