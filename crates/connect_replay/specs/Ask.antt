-- The line of an ask: `ask NAME range A B C`, with an LF or without.
use Rattle.std.specs.Prelude.{◌≡◌, ◌≢◌, ◌⊎◌, ℕ, ◌<◌, ◌≤◌, Bool, ◌&&◌, ◌||◌, ◌==◌, nat_le, IsTrue, pos, List, ◌∷◌, [], ◌++◌, length, All, codes, FitsSigned}
use Rattle.std.specs.Int.{w64}
use Rattle.std.specs.List.{join_with_byte}
use Rattle.std.specs.Fmt.{signed_decimal}
use Rattle.connect_replay.specs.declared.ask.Ask.{Ask}
use Rattle.connect_replay.specs.Range.{number_at, IsBefore}

-- an ASCII letter, a digit or `_`
abbrev pub is_word_byte : ℕ → Bool
is_word_byte b = (nat_le 48 b && nat_le b 57) || (nat_le 65 b && nat_le b 90) || (nat_le 97 b && nat_le b 122) || (b == 95)

-- the name of an ask: 1 to 32 letters, digits or `_`
pub record IsName (name : List ℕ) : Type 0 where
  pub some : 1 ≤ length name
  pub short : length name ≤ 32
  pub word : All (λ b. IsTrue (is_word_byte b)) name

-- what an ask's line may ask for: three numbers of 64 bits, a step that is not 0, and at most 10,000 numbers
pub record IsAsk (ask : Ask) : Type 0 where
  pub name_is : IsName ask.name
  pub start_fits : FitsSigned w64 ask.start
  pub end_fits : FitsSigned w64 ask.end
  pub step_fits : FitsSigned w64 ask.step
  pub moves : ask.step ≢ pos 0
  pub few : (place : ℕ) → IsBefore ask.step (number_at ask.start ask.step place) ask.end → place < 10000

-- the words of an ask's line; a number has one spelling: decimal, without leading zeros, and with `-` only before one below 0
abbrev pub words_of : Ask → List (List ℕ)
words_of ask = codes "ask" ∷ ask.name ∷ codes "range" ∷ signed_decimal ask.start ∷ signed_decimal ask.end ∷ signed_decimal ask.step ∷ []

-- the line: its words joined by single spaces
abbrev pub spelled : Ask → List ℕ
spelled ask = join_with_byte 32 (words_of ask)

-- a script of one ask: its line, whose LF may lack
pub record Spells (script : List ℕ) (ask : Ask) : Type 0 where
  pub valid : IsAsk ask
  pub line : (script ≡ spelled ask) ⊎ (script ≡ spelled ask ++ 10 ∷ [])

-- no ask has this line
abbrev pub IsNoLine : List ℕ → Type 0
IsNoLine line = (ask : Ask) → IsAsk ask → line ≡ spelled ask → ⊥

-- a text without spaces
abbrev pub IsPlain : List ℕ → Type 0
IsPlain text = All (λ b. b ≢ 32) text

-- no ask has this script
abbrev pub IsNoScript : List ℕ → Type 0
IsNoScript script = (ask : Ask) → Spells script ask → ⊥

-- a text's line is the text without an LF at its end
pub record IsLineOf (text line : List ℕ) : Type 0 where
  pub either : (text ≡ line) ⊎ (text ≡ line ++ 10 ∷ [])
  pub stripped : (front : List ℕ) → text ≡ front ++ 10 ∷ [] → line ≡ front
