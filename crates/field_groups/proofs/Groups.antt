-- Groups of fields with rising numbers, one after another: each is read by its number, each is short where the whole is, and all stand.
use Rattle.std.proofs.Common.{◌≡◌, ◌≢◌, ℕ, ◌<◌, List, ◌++◌, arith}
use Rattle.proto_fields.specs.declared.kind.MessageKind.{MessageKind}
use Rattle.proto_fields.specs.Fields.{Field}
use Rattle.expression_messages.specs.Laws.{IsShort}
use Rattle.expression_messages.proofs.Pieces.{Stands, two_stand, three_stand, short_two, HaveNumber, Piece}
use Rattle.field_groups.specs.Groups.{AreOthers, ReadsAs}
use Rattle.field_groups.proofs.Among.{are_others, two_others, alone, before, behind}
use Rattle.field_groups.proofs.Members.{IsNoMember, AreNoMembers, no_members, two_no_members}

-- ---- three groups

pub record ThreeRead (i j k : ℕ) (a b c : List Field) : Type 0 where
  pub first : ReadsAs i (a ++ b ++ c) a
  pub second : ReadsAs j (a ++ b ++ c) b
  pub third : ReadsAs k (a ++ b ++ c) c

pub three_read : (i j k : ℕ) (a b c : List Field) → HaveNumber i a → HaveNumber j b → HaveNumber k c → i < j → j < k → ThreeRead i j k a b c
three_read i j k a b c is_a is_b is_c low high = record {
  first = before i k (a ++ b) a c (before i j a a b (alone i a) is_b (omega arith)) is_c (omega arith);
  second = before j k (a ++ b) b c (behind j a b (are_others j i a is_a (omega arith))) is_c (omega arith);
  third = behind k (a ++ b) c (two_others k a b (are_others k i a is_a (omega arith)) (are_others k j b is_b (omega arith)));
}

pub record ThreeShort (a b c : List Field) : Type 0 where
  pub first : IsShort a
  pub second : IsShort b
  pub third : IsShort c

pub three_short : (a b c : List Field) → IsShort (a ++ b ++ c) → ThreeShort a b c
three_short a b c short =
    let last = short_two (a ++ b) c short in
    let front = short_two a b last.0 in
    record { first = front.0; second = front.1; third = last.1 }

-- ---- a fourth behind them, of a greater number

pub three_others : (number i j k : ℕ) (a b c : List Field) → HaveNumber i a → HaveNumber j b → HaveNumber k c → i ≢ number → j ≢ number → k ≢ number → AreOthers number (a ++ b ++ c)
three_others number i j k a b c is_a is_b is_c first second third =
    two_others number (a ++ b) c
    (two_others number a b (are_others number i a is_a first) (are_others number j b is_b second))
    (are_others number k c is_c third)

pub record FourRead (i j k l : ℕ) (a b c d : List Field) : Type 0 where
  pub first : ReadsAs i (a ++ b ++ c ++ d) a
  pub second : ReadsAs j (a ++ b ++ c ++ d) b
  pub third : ReadsAs k (a ++ b ++ c ++ d) c
  pub fourth : ReadsAs l (a ++ b ++ c ++ d) d

pub four_read : (i j k l : ℕ) (a b c d : List Field) → HaveNumber i a → HaveNumber j b → HaveNumber k c → HaveNumber l d → i < j → j < k → k < l → FourRead i j k l a b c d
four_read i j k l a b c d is_a is_b is_c is_d low middle high =
    let front = three_read i j k a b c is_a is_b is_c low middle in
    record {
      first = before i l (a ++ b ++ c) a d front.first is_d (omega arith);
      second = before j l (a ++ b ++ c) b d front.second is_d (omega arith);
      third = before k l (a ++ b ++ c) c d front.third is_d (omega arith);
      fourth = behind l (a ++ b ++ c) d (three_others l i j k a b c is_a is_b is_c (omega arith) (omega arith) (omega arith));
    }

pub record FourShort (a b c d : List Field) : Type 0 where
  pub first : IsShort a
  pub second : IsShort b
  pub third : IsShort c
  pub fourth : IsShort d

pub four_short : (a b c d : List Field) → IsShort (a ++ b ++ c ++ d) → FourShort a b c d
four_short a b c d short =
    let last = short_two (a ++ b ++ c) d short in
    let front = three_short a b c last.0 in
    record { first = front.first; second = front.second; third = front.third; fourth = last.1 }

pub four_stand : (levels : ℕ) (kind : MessageKind) (a b c d : List Field) → Stands levels kind a → Stands levels kind b → Stands levels kind c → Stands levels kind d → Stands levels kind (a ++ b ++ c ++ d)
four_stand levels kind a b c d first second third fourth =
    two_stand levels kind (a ++ b ++ c) d (three_stand levels kind a b c first second third) fourth

-- ---- the member of a oneof behind three groups that are none

-- a member that stands, and is read behind fields that are no members and of other numbers
pub record MemberBack {A : Type 0} (levels : ℕ) (kind : MessageKind) (low : ℕ) (fields : List Field) (read : List Field → A) (value : A) : Type 0 where
  pub number : ℕ
  pub above : low < number
  pub piece : Piece levels kind number fields
  pub same : (front : List Field) → AreNoMembers kind front → AreOthers number front → read (front ++ fields) ≡ value

pub three_no_members : (kind : MessageKind) (i j k : ℕ) (a b c : List Field) → HaveNumber i a → HaveNumber j b → HaveNumber k c → IsNoMember kind i → IsNoMember kind j → IsNoMember kind k → AreNoMembers kind (a ++ b ++ c)
three_no_members kind i j k a b c is_a is_b is_c first second third =
    two_no_members kind (a ++ b) c
    (two_no_members kind a b (no_members kind i a first is_a) (no_members kind j b second is_b))
    (no_members kind k c third is_c)

-- what is read of the member behind three groups
pub member_read : {A : Type 0} (levels : ℕ) (kind : MessageKind) (i j k : ℕ) (a b c d : List Field) (read : List Field → A) (value : A) (back : MemberBack levels kind k d read value) →
    HaveNumber i a → HaveNumber j b → HaveNumber k c → i < j → j < k → IsNoMember kind i → IsNoMember kind j → IsNoMember kind k → read (a ++ b ++ c ++ d) ≡ value
member_read levels kind i j k a b c d read value back is_a is_b is_c low high first second third =
    let above = back.above in
    back.same (a ++ b ++ c) (three_no_members kind i j k a b c is_a is_b is_c first second third)
    (three_others back.number i j k a b c is_a is_b is_c (omega arith) (omega arith) (omega arith))
