-- Which plan a text is.
use Rattle.std.specs.Prelude.{◌≡◌, ◌⊎◌, ℕ, ◌<◌, ◌≤◌, List, length}
use Rattle.plan_tokens.specs.Tokens.{tokens_of}
use Rattle.plan_grammar.specs.declared.symbol.Deed.{Deed}
use Rattle.plan_grammar.specs.Derivation.{IsPipeline, only_tokens}
use Rattle.proto_fields.specs.Sizes.{size_of}
use Rattle.plan_messages.specs.declared.plan.Plan.{Plan}
use Rattle.plan_messages.specs.Depths.{plan_depth}
use Rattle.plan_messages.specs.Spelled.{plan_fields}
use Rattle.plan_text.specs.Drafts.{plan_of_deeds}

-- the tokens of the text are derived by deeds, of which the plan is built
pub record IsPlanOf (text : List ℕ) (plan : Plan) : Type 0 where
  pub deeds : List Deed
  pub derived : IsPipeline (only_tokens (tokens_of text)) deeds
  pub built : plan ≡ plan_of_deeds deeds

-- why a text is too long: it is longer than 1 MiB, or its plan's spelling is longer than 67,000,000 bytes
abbrev pub IsTooLong : List ℕ → ℕ → Type 0
IsTooLong text limit =
    ((limit ≡ 1048576) × (1048576 < length text))
    ⊎ ((limit ≡ 67000000) × ((plan : Plan) × IsPlanOf text plan × (67000000 < size_of (plan_fields plan)) × (plan_depth plan ≤ 199)))

-- the text is a plan that is nested deeper than 199 messages
abbrev pub IsTooDeep : List ℕ → Type 0
IsTooDeep text = (length text ≤ 1048576) × ((plan : Plan) × IsPlanOf text plan × (199 < plan_depth plan))

-- a text is at most one plan
abbrev pub ATextIsOnePlan : Type 0
ATextIsOnePlan = (text : List ℕ) (one other : Plan) → IsPlanOf text one → IsPlanOf text other → one ≡ other
