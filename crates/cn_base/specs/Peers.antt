-- What the outside beside bytes tells: connections, the time, pauses and ids.
use Rattle.std.specs.Prelude.{ℕ, ◌+◌, ◌%◌, ◌^◌, Bool, List, Option, None, Some, Result, Ok, Err}
use Rattle.cn_base.specs.Outside.{counted}

-- the count of given connections after an answer: one more where it is a connection
abbrev pub given_after : {A E : Type 0} → ℕ → Result (Option A) E → ℕ
given_after given (Ok (Some connection)) = counted given
given_after given (Ok None) = given
given_after given (Err e) = given

-- an acceptor in memory: the connections that are left, the numbers (from 1) of the calls that are to fail, how many calls were made,
-- how many of them failed, how many connections were given, and whether the last call told their end
pub record AcceptorState (Connection : Type 0) : Type 0 where
  pub left : List Connection
  pub failing : List ℕ
  pub calls : ℕ
  pub faults : ℕ
  pub given : ℕ
  pub ended : Bool

-- ids that count up: the next one, the last one and the one before it
pub record IdState : Type 0 where
  pub next : ℕ
  pub last : ℕ
  pub before : ℕ

-- the id after one of 128 bits; after the last comes 0
abbrev pub id_after : ℕ → ℕ
id_after id = (id + 1) % 2 ^ 128
