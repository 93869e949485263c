-- What a run of `replay` leaves behind, by its answer.
use Rattle.std.specs.Prelude.{◌≡◌, ◌≢◌, ℕ, List, ◌∷◌, [], ◌++◌, Option, IfSome, codes, ℤ}
use Rattle.cn_base.specs.Outside.{Adds, AddsPart}
use Rattle.connect_replay.specs.declared.ask.Ask.{Ask}
use Rattle.connect_replay.specs.declared.status.ReplayStatus.{ReplayStatus}
use Rattle.connect_replay.specs.declared.status.ReplayStatus.TheVariants.{Done, BadWords, BadScript, ReadFault, WriteFault, OutOfMemory}
use Rattle.connect_replay.specs.Ask.{Spells, IsNoScript}
use Rattle.connect_replay.specs.Range.{IsRange}
use Rattle.connect_replay.specs.Section.{section}

-- what a run that ends with Done prints: the section of the ask that the script spells, with the numbers of its range in some order
pub record PrintsSection (script : Option (List ℕ)) (out : List ℕ) : Type 0 where
  pub ask : Ask
  pub read : IfSome script (λ bytes. Spells bytes ask)
  pub numbers : List ℤ
  pub rows : IsRange ask.start ask.end ask.step numbers
  pub out_is : out ≡ section ask numbers

-- these words and this script, where it is told, let a run print this and end with this answer
abbrev pub Prints : List (List ℕ) → Option (List ℕ) → ReplayStatus → List ℕ → Type 0
Prints words script Done out = (words ≡ []) × PrintsSection script out
Prints words script BadWords out = (words ≢ []) × (out ≡ codes "bad words" ++ 10 ∷ [])
Prints words script (BadScript line) out = (words ≡ []) × (line ≡ 1) × IfSome script IsNoScript × (out ≡ codes "bad script 1" ++ 10 ∷ [])
Prints words script ReadFault out = ⊥
Prints words script WriteFault out = ⊥
Prints words script OutOfMemory out = ⊥

-- the output, from what it told before to what it tells now: all of what the answer prints; after a fault of the output a beginning of
-- what some answer prints, which is not the whole; after another fault nothing
abbrev pub Leaves : List (List ℕ) → Option (List ℕ) → Option (List ℕ) → Option (List ℕ) → ReplayStatus → Type 0
Leaves words script before now ReadFault = Adds before now []
Leaves words script before now OutOfMemory = Adds before now []
Leaves words script before now WriteFault = (answer : ReplayStatus) × (out : List ℕ) × Prints words script answer out × AddsPart before now out
Leaves words script before now answer = (out : List ℕ) × Prints words script answer out × Adds before now out
