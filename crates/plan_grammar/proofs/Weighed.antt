-- A reader comes to an end: each step takes weight from its symbols and the tokens that are left.
use Rattle.std.proofs.Common.{◌≡◌, ℕ, ◌+◌, ◌*◌, ◌<◌, List, [], ◌∷◌, ◌++◌, length, true, refl, sym, ap, subst, ◌∙◌, arith}
use Rattle.std.specs.Prelude.{Option, Some, None, nat_lt}
use Rattle.std.proofs.lemmas.Bool.{and_parts, ltb-true}
use Rattle.plan_tokens.specs.declared.token.Placed.{Placed}
use Rattle.plan_grammar.specs.declared.symbol.Columns.{Columns}
use Rattle.plan_grammar.specs.declared.symbol.Deed.{Deed}
use Rattle.plan_grammar.specs.declared.symbol.Use.{Use}
use Rattle.plan_grammar.specs.declared.symbol.Symbol.{Symbol}
use Rattle.plan_grammar.specs.declared.symbol.Symbol.TheVariants as symbol
use Rattle.plan_grammar.specs.Grammar.{rule}
use Rattle.plan_grammar.specs.Productions.{Production}
use Rattle.plan_grammar.specs.Derivation.{wanted_of, deed_of, next_of, only_tokens, Config, Outcome, More, Over, Refused, by_left, by_rule, by_deed, at_end, by_symbols, step_of}
use Rattle.plan_grammar.proofs.Stacks.{weight, weight_of_all, token_weight, keeps}
use Rattle.plan_grammar.proofs.Kept.{rule_keeps}

-- what the symbols and the tokens that are left weigh
abbrev pub weigh : Config → ℕ
weigh config = weight_of_all config.symbols + token_weight * length config.left

weight_joined : (production more : List Symbol) → weight_of_all (production ++ more) ≡ weight_of_all production + weight_of_all more
weight_joined [] more = omega arith
weight_joined (one ∷ production) more = let rest = weight_joined production more in omega arith

over_more : {config : Config} → Over ≡ More config → ⊥
over_more e = cc

refused_more : {config : Config} → Refused ≡ More config → ⊥
refused_more e = cc

none_some : {A : Type 0} {x : A} → ◌≡◌ {A = Option A} None (Some x) → ⊥
none_some e = cc

config_in : Config → Outcome → Config
config_in other (More config) = config
config_in other Over = other
config_in other Refused = other

same_next : (one next : Config) → More one ≡ More next → one ≡ next
unfolding config_in
same_next one next e = ap (config_in one) e

deed_weighs : (one : Symbol) (done : Deed) → deed_of one ≡ Some done → weight one ≡ 1
deed_weighs (symbol.Act action) done e = refl
deed_weighs (symbol.Column kind) done e = refl
deed_weighs symbol.Row done e = refl
deed_weighs (symbol.Pipeline one) done e = absurd (none_some e)
deed_weighs (symbol.Step one) done e = absurd (none_some e)
deed_weighs (symbol.Expression one) done e = absurd (none_some e)
deed_weighs (symbol.Unit one) done e = absurd (none_some e)
deed_weighs (symbol.Values one) done e = absurd (none_some e)
deed_weighs (symbol.Need test) done e = absurd (none_some e)

goes_lighter : (one : Symbol) (production : List Symbol) → keeps one (Some (None, production)) ≡ true → weight_of_all production < weight one
goes_lighter one production k = ltb-true _ _ (and_parts _ _ (and_parts _ _ k).1).0

takes_lighter : (one : Symbol) (used : Use) (production : List Symbol) → keeps one (Some (Some used, production)) ≡ true → weight_of_all production < weight one + token_weight
takes_lighter one used production k = ltb-true _ _ (and_parts _ _ (and_parts _ _ k).1).0

module _ (columns : Columns) (deeds : List Deed) (one : Symbol) (symbols : List Symbol) where
  abbrev here : List Placed → Config
  here left = record { columns = columns; symbols = one ∷ symbols; left = left; deeds = deeds }

  left_lost : (left : List Placed) (used : Use) (production : List Symbol) (next : Config) → keeps one (Some (Some used, production)) ≡ true
      → by_left (here left) symbols production used left ≡ More next → weigh next < weigh (here left)
  left_lost [] used production next k e = absurd (refused_more e)
  left_lost (x ∷ left) used production next k e =
      let lighter = takes_lighter one used production k in
      let joined = weight_joined production symbols in
      subst (λ (config : Config). weigh config < weigh (here (x ∷ left))) (same_next _ _ e) (omega arith)

  rule_lost : (left : List Placed) (found : Option Production) (next : Config) → keeps one found ≡ true → by_rule (here left) symbols found ≡ More next → weigh next < weigh (here left)
  rule_lost left None next k e = absurd (refused_more e)
  rule_lost left (Some (None, production)) next k e =
      let lighter = goes_lighter one production k in
      let joined = weight_joined production symbols in
      subst (λ (config : Config). weigh config < weigh (here left)) (same_next _ _ e) (omega arith)
  rule_lost left (Some (Some used, production)) next k e = left_lost left used production next k e

  deed_lost : (left : List Placed) (done : Option Deed) (next : Config) → deed_of one ≡ done → by_deed (here left) one symbols done ≡ More next → weigh next < weigh (here left)
  deed_lost left None next d e = rule_lost left _ next (rule_keeps (wanted_of columns) one (next_of (only_tokens left))) e
  deed_lost left (Some done) next d e =
      let one_less = deed_weighs one done d in
      subst (λ (config : Config). weigh config < weigh (here left)) (same_next _ _ e) (omega arith)

symbols_lost : (columns : Columns) (symbols : List Symbol) (left : List Placed) (deeds : List Deed) (next : Config)
    → by_symbols (record { columns = columns; symbols = symbols; left = left; deeds = deeds }) symbols ≡ More next → weigh next < weigh (record { columns = columns; symbols = symbols; left = left; deeds = deeds })
symbols_lost columns [] [] deeds next e = absurd (over_more e)
symbols_lost columns [] (x ∷ left) deeds next e = absurd (refused_more e)
symbols_lost columns (one ∷ symbols) left deeds next e = deed_lost columns deeds one symbols left (deed_of one) next refl e

-- a step takes weight
pub has_lost : (config next : Config) → More next ≡ step_of config → weigh next < weigh config
unfolding step_of
has_lost config next e = symbols_lost config.columns config.symbols config.left config.deeds next (sym e)
