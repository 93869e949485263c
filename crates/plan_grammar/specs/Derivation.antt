-- What the tokens of a text are derived by, and where they are in no derivation.
use Rattle.std.specs.Prelude.{◌≡◌, ℕ, ◌+◌, ◌-◌, ◌^◌, min, List, [], ◌∷◌, ◌++◌, map, length, slice_get, Option, Some, None, unwrap_or}
use Rattle.cn_types.specs.declared.value.DataType.{DataType}
use Rattle.plan_tokens.specs.declared.token.Token.{Token}
use Rattle.plan_tokens.specs.declared.token.Token.TheVariants.{End}
use Rattle.plan_tokens.specs.declared.token.Placed.{Placed}
use Rattle.plan_tokens.specs.Tokens.{tokens_of}
use Rattle.plan_grammar.specs.declared.symbol.Columns.{Columns}
use Rattle.plan_grammar.specs.declared.symbol.Deed.{Deed}
use Rattle.plan_grammar.specs.declared.symbol.Deed.TheVariants as deed
use Rattle.plan_grammar.specs.declared.symbol.Use.{Use}
use Rattle.plan_grammar.specs.declared.symbol.Use.TheVariants as uses
use Rattle.plan_grammar.specs.declared.symbol.Symbol.{Symbol}
use Rattle.plan_grammar.specs.declared.symbol.Symbol.TheVariants as symbol
use Rattle.plan_grammar.specs.declared.symbol.PipelineSymbol.TheVariants.{Whole}
use Rattle.plan_grammar.specs.declared.reader.Turn.{Turn}
use Rattle.plan_grammar.specs.Grammar.{rule}

-- ---- the columns of `values`

-- no columns
abbrev pub no_columns : Columns
no_columns = record { kinds = []; cells = 0 }

-- the type of the column whose cell comes next in a row, where there is one
abbrev pub wanted_of : Columns → Option DataType
wanted_of columns = slice_get columns.kinds columns.cells

-- the columns behind a token that is taken: one cell more, and no more than there are columns
abbrev pub behind_use : Use → Columns → Columns
behind_use uses.NewColumns columns = no_columns
behind_use (uses.Cell cell) columns = record columns { cells = min (columns.cells + 1) (length columns.kinds) }
behind_use other columns = columns

-- the columns after a deed that takes no token
abbrev pub after_doing : Deed → Columns → Columns
after_doing (deed.Take used token) columns = columns
after_doing (deed.Act action) columns = columns
after_doing (deed.Column kind) columns = record columns { kinds = columns.kinds ++ kind ∷ [] }
after_doing deed.Row columns = record columns { cells = 0 }

-- ---- derivations

-- what is done where a symbol stands that is no token
abbrev pub deed_of : Symbol → Option Deed
deed_of (symbol.Act action) = Some (deed.Act action)
deed_of (symbol.Column kind) = Some (deed.Column kind)
deed_of symbol.Row = Some deed.Row
deed_of other = None

-- the deeds that are kept of a token that is taken: none where it is taken for nothing but its place
abbrev pub kept : Use → Token → List Deed
kept uses.Nothing token = []
kept used token = deed.Take used token ∷ []

-- the first of the tokens that are left, where there is one
abbrev pub head_of : List Token → Option Token
head_of [] = None
head_of (token ∷ tokens) = Some token

-- that token, or the end
abbrev pub next_of : List Token → Token
next_of tokens = unwrap_or (head_of tokens) End

-- The symbols stand for the tokens, and these are the deeds. Each production is the one that may stand before the next token.
pub data Derives : Columns → List Symbol → List Token → List Deed → Type 0 where
  over : (columns : Columns) → Derives columns [] [] []
  does : (columns : Columns) (one : Symbol) (symbols : List Symbol) (tokens : List Token) (deeds : List Deed) (done : Deed)
      → deed_of one ≡ Some done → Derives (after_doing done columns) symbols tokens deeds → Derives columns (one ∷ symbols) tokens (done ∷ deeds)
  goes : (columns : Columns) (one : Symbol) (symbols production : List Symbol) (tokens : List Token) (deeds : List Deed)
      → rule (wanted_of columns) one (next_of tokens) ≡ Some (None, production) → Derives columns (production ++ symbols) tokens deeds
      → Derives columns (one ∷ symbols) tokens deeds
  takes : (columns : Columns) (one : Symbol) (symbols production : List Symbol) (token : Token) (tokens : List Token) (deeds : List Deed) (used : Use)
      → rule (wanted_of columns) one token ≡ Some (Some used, production) → Derives (behind_use used columns) (production ++ symbols) tokens deeds
      → Derives columns (one ∷ symbols) (token ∷ tokens) (kept used token ++ deeds)

-- the symbol that a text stands for
abbrev pub whole : List Symbol
whole = symbol.Pipeline Whole ∷ []

-- the tokens are a pipeline, and these are its deeds
abbrev pub IsPipeline : List Token → List Deed → Type 0
IsPipeline tokens deeds = Derives no_columns whole tokens deeds

-- a pipeline begins with these tokens
abbrev pub BeginsPipeline : List Token → Type 0
BeginsPipeline before = (more : List Token) × ((deeds : List Deed) × IsPipeline (before ++ more) deeds)

-- a pipeline begins with these tokens and goes on with this one; without one, it is over
abbrev pub GoesOnWith : List Token → Option Token → Type 0
GoesOnWith before next = (more : List Token) × ((deeds : List Deed) × ((head_of more ≡ next) × IsPipeline (before ++ more) deeds))

-- tokens are a pipeline by one list of deeds
abbrev pub OneDerivation : Type 0
OneDerivation = (tokens : List Token) (one other : List Deed) → IsPipeline tokens one → IsPipeline tokens other → one ≡ other

-- From the whole, tokens have been read, and these are the deeds so far. There are columns, symbols that stand for what is left, and the tokens
-- that are left.
pub data Reads : List Token → List Deed → Columns → List Symbol → List Token → Type 0 where
  begins : (left : List Token) → Reads [] [] no_columns whole left
  has_done : (before : List Token) (deeds : List Deed) (columns : Columns) (one : Symbol) (symbols : List Symbol) (left : List Token) (done : Deed)
      → Reads before deeds columns (one ∷ symbols) left → deed_of one ≡ Some done → Reads before (deeds ++ done ∷ []) (after_doing done columns) symbols left
  has_gone : (before : List Token) (deeds : List Deed) (columns : Columns) (one : Symbol) (symbols production : List Symbol) (left : List Token)
      → Reads before deeds columns (one ∷ symbols) left → rule (wanted_of columns) one (next_of left) ≡ Some (None, production)
      → Reads before deeds columns (production ++ symbols) left
  has_taken : (before : List Token) (deeds : List Deed) (columns : Columns) (one : Symbol) (symbols production : List Symbol) (token : Token) (left : List Token) (used : Use)
      → Reads before deeds columns (one ∷ symbols) (token ∷ left) → rule (wanted_of columns) one token ≡ Some (Some used, production)
      → Reads (before ++ token ∷ []) (deeds ++ kept used token) (behind_use used columns) (production ++ symbols) left

-- ---- texts

abbrev pub only_tokens : List Placed → List Token
only_tokens placed = map (λ one. one.token) placed

-- the place of the first, or of the end of a text of this length
abbrev pub place_of : List Placed → ℕ → ℕ
place_of [] length = length
place_of (one ∷ placed) length = one.at

-- The token at a place is the first at which no continuation is in the grammar: a pipeline begins with the tokens before it, and none goes on
-- with it; at the end of the text, none is over there.
pub record IsUnexpected (text : List ℕ) (at : ℕ) : Type 0 where
  pub before : List Placed
  pub left : List Placed
  pub tokens_are : tokens_of text ≡ before ++ left
  pub at_is : at ≡ place_of left (length text)
  pub begun : BeginsPipeline (only_tokens before)
  pub none : ¬ GoesOnWith (only_tokens before) (head_of (only_tokens left))

-- a text has at most one such place, and then it is no pipeline
abbrev pub PlacesAreOne : Type 0
PlacesAreOne = (text : List ℕ) (one other : ℕ) → IsUnexpected text one → IsUnexpected text other → one ≡ other

abbrev pub PlacesRefuse : Type 0
PlacesRefuse = (text : List ℕ) (at : ℕ) (deeds : List Deed) → IsUnexpected text at → ¬ IsPipeline (only_tokens (tokens_of text)) deeds

-- ---- one step of a reader

-- what a reader holds
pub record Config : Type 0 where
  pub columns : Columns
  pub symbols : List Symbol
  pub left : List Placed
  pub deeds : List Deed

-- one step more, the end, or nothing that the symbols may stand for
pub data Outcome : Type 0 where
  More : Config → Outcome
  Over : Outcome
  Refused : Outcome

abbrev pub by_left : Config → List Symbol → List Symbol → Use → List Placed → Outcome
by_left config symbols production used [] = Refused
by_left config symbols production used (one ∷ left) =
    More (record { columns = behind_use used config.columns; symbols = production ++ symbols; left = left; deeds = config.deeds ++ kept used one.token })

abbrev pub by_rule : Config → List Symbol → Option (Option Use × List Symbol) → Outcome
by_rule config symbols None = Refused
by_rule config symbols (Some (None, production)) = More (record { columns = config.columns; symbols = production ++ symbols; left = config.left; deeds = config.deeds })
by_rule config symbols (Some (Some used, production)) = by_left config symbols production used config.left

abbrev pub by_deed : Config → Symbol → List Symbol → Option Deed → Outcome
by_deed config one symbols (Some done) = More (record { columns = after_doing done config.columns; symbols = symbols; left = config.left; deeds = config.deeds ++ done ∷ [] })
by_deed config one symbols None = by_rule config symbols (rule (wanted_of config.columns) one (next_of (only_tokens config.left)))

abbrev pub at_end : List Placed → Outcome
at_end [] = Over
at_end (one ∷ left) = Refused

abbrev pub by_symbols : Config → List Symbol → Outcome
by_symbols config [] = at_end config.left
by_symbols config (one ∷ symbols) = by_deed config one symbols (deed_of one)

unfoldable pub step_of : Config → Outcome
step_of config = by_symbols config config.symbols

-- the outcome that a turn says
abbrev pub said : Turn → Config → Outcome
said Turn.More config = More config
said Turn.Over config = Over
said Turn.Refused config = Refused
