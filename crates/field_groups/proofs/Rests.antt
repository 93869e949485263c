-- A message over others: these as its first fields, and then its other fields, the rest.
use Rattle.std.proofs.Common.{◌≡◌, ℕ, ◌<◌, ◌≤◌, List, [], ◌∷◌, ◌++◌, arith}
use Rattle.std.specs.List.{AllByRecursion}
use Rattle.proto_fields.specs.declared.kind.MessageKind.{MessageKind}
use Rattle.proto_fields.specs.Fields.{Field}
use Rattle.proto_fields.proofs.PieceLemmas.{AllByRecursion-append}
use Rattle.expression_messages.proofs.Pieces.{Stands, two_stand, three_stand, HaveNumber, Piece}
use Rattle.field_groups.specs.Groups.{AreOthers, AreUpTo, ReadsAs}
use Rattle.field_groups.proofs.Among.{are_others, alone, before, behind, behind_others}
use Rattle.field_groups.proofs.Groups.{three_read, four_read, four_stand}

-- fields up to a number are none of a greater one
pub others_up_to : (most number : ℕ) (fields : List Field) → AreUpTo most fields → most < number → AreOthers number fields
others_up_to most number [] few above = tt
others_up_to most number (field ∷ fields) few above =
    let first : field.number ≤ most = few.0 in
    (λ e. omega (arith, e, first, above), others_up_to most number fields few.1 above)

-- so what is read of a greater number is read of the rest
pub behind_up_to : (most number : ℕ) (front part : List Field) → AreUpTo most front → most < number → ReadsAs number (front ++ part) part
behind_up_to most number front part few above = behind number front part (others_up_to most number front few above)

-- a number that is read in the rest is read behind them
pub in_rest : (most number : ℕ) (front whole part : List Field) → AreUpTo most front → most < number → ReadsAs number whole part → ReadsAs number (front ++ whole) part
in_rest most number front whole part few above reads = behind_others number front whole part reads (others_up_to most number front few above)

-- ---- fields above a number

-- all have numbers above this one
abbrev pub AreAbove : ℕ → List Field → Type 0
AreAbove most fields = AllByRecursion (λ field. most < field.number) fields

pub are_above : (most number : ℕ) (fields : List Field) → HaveNumber number fields → most < number → AreAbove most fields
are_above most number [] numbered above = tt
are_above most number (field ∷ fields) numbered above =
    let is : field.number ≡ number = numbered.0 in
    (omega (arith, is, above), are_above most number fields numbered.1 above)

pub two_above : (most : ℕ) (a b : List Field) → AreAbove most a → AreAbove most b → AreAbove most (a ++ b)
two_above most a b first second = AllByRecursion-append (λ field. most < field.number) a b first second

-- so they are none of that number or of a lower one
pub others_above : (most number : ℕ) (fields : List Field) → AreAbove most fields → number ≤ most → AreOthers number fields
others_above most number [] above upper = tt
others_above most number (field ∷ fields) above upper =
    let first : most < field.number = above.0 in
    (λ e. omega (arith, e, first, upper), others_above most number fields above.1 upper)

-- ---- rests of one to four groups

-- a rest stands, has greater numbers than the first fields may have, and is read as the value behind any such fields
pub record RestBack {A : Type 0} (level most : ℕ) (kind : MessageKind) (rest : List Field) (read : List Field → A) (value : A) : Type 0 where
  pub stands : Stands level kind rest
  pub above : AreAbove most rest
  pub same : (front : List Field) → AreUpTo most front → read (front ++ rest) ≡ value

pub one_rest : {A : Type 0} (level most number : ℕ) (kind : MessageKind) (a : List Field) (read : List Field → A) (value : A) → Piece level kind number a → most < number →
    ((whole : List Field) → ReadsAs number whole a → read whole ≡ value) → RestBack level most kind a read value
one_rest level most number kind a read value piece low same = record {
  stands = piece.stands;
  above = are_above most number a piece.numbered low;
  same = λ front few. same (front ++ a) (behind_up_to most number front a few low);
}

pub two_rest : {A : Type 0} (level most i j : ℕ) (kind : MessageKind) (a b : List Field) (read : List Field → A) (value : A) → Piece level kind i a → Piece level kind j b → most < i → i < j →
    ((whole : List Field) → ReadsAs i whole a → ReadsAs j whole b → read whole ≡ value) → RestBack level most kind (a ++ b) read value
two_rest level most i j kind a b read value is_a is_b low rising same = record {
  stands = two_stand level kind a b is_a.stands is_b.stands;
  above = two_above most a b (are_above most i a is_a.numbered low) (are_above most j b is_b.numbered (omega arith));
  same = λ front few. same (front ++ (a ++ b))
      (in_rest most i front (a ++ b) a few low (before i j a a b (alone i a) is_b.numbered (omega arith)))
      (in_rest most j front (a ++ b) b few (omega arith) (behind j a b (are_others j i a is_a.numbered (omega arith))));
}

pub three_rest : {A : Type 0} (level most i j k : ℕ) (kind : MessageKind) (a b c : List Field) (read : List Field → A) (value : A) → Piece level kind i a → Piece level kind j b → Piece level kind k c →
    most < i → i < j → j < k → ((whole : List Field) → ReadsAs i whole a → ReadsAs j whole b → ReadsAs k whole c → read whole ≡ value) → RestBack level most kind (a ++ b ++ c) read value
three_rest level most i j k kind a b c read value is_a is_b is_c low rising last same = record {
  stands = three_stand level kind a b c is_a.stands is_b.stands is_c.stands;
  above = two_above most (a ++ b) c
      (two_above most a b (are_above most i a is_a.numbered low) (are_above most j b is_b.numbered (omega arith)))
      (are_above most k c is_c.numbered (omega arith));
  same = λ front few.
      let reads = three_read i j k a b c is_a.numbered is_b.numbered is_c.numbered rising last in
      same (front ++ (a ++ b ++ c))
      (in_rest most i front (a ++ b ++ c) a few low reads.first)
      (in_rest most j front (a ++ b ++ c) b few (omega arith) reads.second)
      (in_rest most k front (a ++ b ++ c) c few (omega arith) reads.third);
}

pub four_rest : {A : Type 0} (level most i j k l : ℕ) (kind : MessageKind) (a b c d : List Field) (read : List Field → A) (value : A) → Piece level kind i a → Piece level kind j b → Piece level kind k c → Piece level kind l d →
    most < i → i < j → j < k → k < l → ((whole : List Field) → ReadsAs i whole a → ReadsAs j whole b → ReadsAs k whole c → ReadsAs l whole d → read whole ≡ value) → RestBack level most kind (a ++ b ++ c ++ d) read value
four_rest level most i j k l kind a b c d read value is_a is_b is_c is_d low rising higher last same = record {
  stands = four_stand level kind a b c d is_a.stands is_b.stands is_c.stands is_d.stands;
  above = two_above most (a ++ b ++ c) d
      (two_above most (a ++ b) c
      (two_above most a b (are_above most i a is_a.numbered low) (are_above most j b is_b.numbered (omega arith)))
      (are_above most k c is_c.numbered (omega arith)))
      (are_above most l d is_d.numbered (omega arith));
  same = λ front few.
      let reads = four_read i j k l a b c d is_a.numbered is_b.numbered is_c.numbered is_d.numbered rising higher last in
      same (front ++ (a ++ b ++ c ++ d))
      (in_rest most i front (a ++ b ++ c ++ d) a few low reads.first)
      (in_rest most j front (a ++ b ++ c ++ d) b few (omega arith) reads.second)
      (in_rest most k front (a ++ b ++ c ++ d) c few (omega arith) reads.third)
      (in_rest most l front (a ++ b ++ c ++ d) d few (omega arith) reads.fourth);
}
