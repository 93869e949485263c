-- The place of a refusal: the first token at which no continuation is in the grammar, and the one such place.
use Rattle.std.proofs.Common.{◌≡◌, ℕ, List, [], ◌∷◌, ◌++◌, length, refl, sym, ap, subst, ◌∙◌, append_assoc, append-nil, drop}
use Rattle.std.specs.Prelude.{Option, Some, None}
use Rattle.std.proofs.lemmas.List.{map-append}
use Rattle.plan_tokens.specs.declared.token.Token.{Token}
use Rattle.plan_tokens.specs.declared.token.Placed.{Placed}
use Rattle.plan_tokens.specs.Tokens.{tokens_of}
use Rattle.plan_grammar.specs.declared.symbol.Deed.{Deed}
use Rattle.plan_grammar.specs.Derivation.{IsPipeline, BeginsPipeline, GoesOnWith, IsUnexpected, PlacesAreOne, PlacesRefuse, only_tokens, place_of, head_of, Config, Refused, step_of}
use Rattle.plan_grammar.proofs.Steps.{HasRead, none_goes_on}
use Rattle.plan_grammar.proofs.Viable.{begins_pipeline}

-- a reader that refuses stands at the first token at which no continuation is in the grammar
pub is_refused : (text : List ℕ) (config : Config) (at : ℕ) → HasRead text config → Refused ≡ step_of config → at ≡ place_of config.left (length text) → IsUnexpected text at
is_refused text config at held e place =
    record {
      before = held.before;
      left = config.left;
      tokens_are = held.tokens_are;
      at_is = place;
      begun = begins_pipeline held.read;
      none = none_goes_on text config held e;
    }

-- ---- two places

-- of two places in the same tokens, one is the other, or one stands in what is left at the other
pub data Beside (before left other more : List Placed) : Type 0 where
  same_place : left ≡ more → Beside before left other more
  is_before : (one : Placed) (between : List Placed) → other ≡ before ++ one ∷ between → left ≡ one ∷ (between ++ more) → Beside before left other more
  is_behind : (one : Placed) (between : List Placed) → before ≡ other ++ one ∷ between → more ≡ one ∷ (between ++ left) → Beside before left other more

same_one : {one another : Placed} {rest tail : List Placed} → one ∷ rest ≡ another ∷ tail → (one ≡ another) × (rest ≡ tail)
same_one e = (cc, cc)

beside : (before left other more : List Placed) → before ++ left ≡ other ++ more → Beside before left other more
beside [] left [] more e = same_place e
beside [] left (one ∷ between) more e = is_before one between refl e
beside (one ∷ between) left [] more e = is_behind one between refl (sym e)
beside (one ∷ before) left (another ∷ other) more e =
    let parts = same_one e in
    elim (beside before left other more parts.1) [
      | same_place f ↦ same_place f
      | is_before x between f g ↦ is_before x between (ap (λ (p : Placed). p ∷ other) (sym parts.0) ∙ ap (λ (ps : List Placed). one ∷ ps) f) g
      | is_behind x between f g ↦ is_behind x between (ap (λ (p : Placed). p ∷ before) parts.0 ∙ ap (λ (ps : List Placed). another ∷ ps) f) g
    ]

-- a pipeline that begins with more tokens goes on with the next of them
goes_on : (before left other more between : List Placed) (one : Placed) → other ≡ before ++ one ∷ between → left ≡ one ∷ (between ++ more) → BeginsPipeline (only_tokens other)
    → GoesOnWith (only_tokens before) (head_of (only_tokens left))
goes_on before left other more between one is rest begun =
    let tokens : only_tokens other ++ begun.0 ≡ only_tokens before ++ (one.token ∷ (only_tokens between ++ begun.0)) =
    ap (λ (ps : List Placed). only_tokens ps ++ begun.0) is
    ∙ ap (λ (ts : List Token). ts ++ begun.0) (map-append (λ (p : Placed). p.token) before (one ∷ between))
    ∙ append_assoc (only_tokens before) (one.token ∷ only_tokens between) begun.0 in (
      one.token ∷ (only_tokens between ++ begun.0),
      (begun.1.0, (ap (λ (ps : List Placed). head_of (only_tokens ps)) (sym rest), subst (λ (ts : List Token). IsPipeline ts begun.1.0) tokens begun.1.1)),
    )

pub places_are_one : PlacesAreOne
places_are_one text one other a b =
    elim (beside a.before a.left b.before b.left (sym a.tokens_are ∙ b.tokens_are)) [
      | same_place e ↦ a.at_is ∙ ap (λ (ps : List Placed). place_of ps (length text)) e ∙ sym b.at_is
      | is_before x between e f ↦ absurd (a.none (goes_on a.before a.left b.before b.left between x e f b.begun))
      | is_behind x between e f ↦ absurd (b.none (goes_on b.before b.left a.before a.left between x e f a.begun))
    ]

pub places_refuse : PlacesRefuse
places_refuse text at deeds a d =
    let tokens : only_tokens (tokens_of text) ≡ only_tokens a.before ++ only_tokens a.left = ap only_tokens a.tokens_are ∙ map-append (λ (p : Placed). p.token) a.before a.left in
    a.none (only_tokens a.left, (deeds, (refl, subst (λ (ts : List Token). IsPipeline ts deeds) tokens d)))
