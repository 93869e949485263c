-- Bytes that spell fields are sound and read back where the fields are.
use Rattle.std.proofs.Common.{◌≡◌, ℕ, ◌≤◌, ◌<◌, ◌^◌, List, length, sym, subst}
use Rattle.proto_fields.specs.declared.kind.MessageKind.{MessageKind}
use Rattle.proto_fields.specs.Fields.{Field}
use Rattle.proto_fields.specs.Spelling.{spell}
use Rattle.expression_messages.specs.Laws.{IsShort, IsReadAs, IsReadBack}

pub encoded : {A : Type 0} (level : ℕ) (kind : MessageKind) (fields : List Field) (read : List Field → A) (value : A) (bytes : List ℕ) → length bytes < 2 ^ 64 →
    (IsShort fields → IsReadBack level kind fields read value) → bytes ≡ spell fields → IsReadAs level kind bytes read value
encoded level kind fields read value bytes short back is =
    subst (λ (b : List ℕ). IsReadAs level kind b read value) (sym is) (back (subst (λ (b : List ℕ). length b < 2 ^ 64) is short))
