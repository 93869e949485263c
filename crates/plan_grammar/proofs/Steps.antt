-- What one step of a reader says of derivations.
use Rattle.std.proofs.Common.{◌≡◌, ℕ, List, [], ◌∷◌, ◌++◌, refl, sym, ap, subst, ◌∙◌, append_assoc, append-nil, drop}
use Rattle.std.proofs.lemmas.Option.{same_Some}
use Rattle.std.specs.Prelude.{Option, Some, None, unwrap_or}
use Rattle.std.proofs.lemmas.List.{map-append}
use Rattle.cn_types.specs.declared.value.DataType.{DataType}
use Rattle.plan_tokens.specs.declared.token.Token.{Token}
use Rattle.plan_grammar.specs.declared.symbol.Columns.{Columns}
use Rattle.plan_grammar.specs.declared.symbol.Deed.{Deed}
use Rattle.plan_grammar.specs.declared.symbol.Use.{Use}
use Rattle.plan_grammar.specs.declared.symbol.Symbol.{Symbol}
use Rattle.plan_grammar.specs.declared.symbol.Symbol.TheVariants as symbol
use Rattle.std.specs.Prelude.{Result, Ok, Err}
use Rattle.plan_grammar.specs.declared.parsing.GrammarFault.{GrammarFault}
use Rattle.plan_grammar.specs.declared.parsing.GrammarFault.TheVariants.{Unexpected, OutOfMemory}
use Rattle.plan_grammar.specs.Grammar.{rule}
use Rattle.plan_grammar.specs.Derivation.{Derives, over, does, goes, takes, Reads, begins, has_done, has_gone, has_taken, IsPipeline, OneDerivation, wanted_of, behind_use, after_doing, deed_of, kept, head_of, next_of, no_columns, whole, Config, Outcome, More, Over, Refused, by_left, by_rule, by_deed, at_end, by_symbols, step_of, GoesOnWith, only_tokens}
use Rattle.plan_tokens.specs.declared.token.Placed.{Placed}
use Rattle.plan_tokens.specs.declared.token.Token.TheVariants.{End}
use Rattle.plan_tokens.specs.Tokens.{tokens_of}

-- a symbol at which something is done has no production
no_rule : (wanted : Option DataType) (one : Symbol) (token : Token) (done : Deed) → deed_of one ≡ Some done → rule wanted one token ≡ None
no_rule wanted (symbol.Pipeline one) token done e = cc
no_rule wanted (symbol.Step one) token done e = cc
no_rule wanted (symbol.Expression one) token done e = cc
no_rule wanted (symbol.Unit one) token done e = cc
no_rule wanted (symbol.Values one) token done e = cc
no_rule wanted (symbol.Need test) token done e = cc
no_rule wanted (symbol.Act action) token done e = refl
no_rule wanted (symbol.Column kind) token done e = refl
no_rule wanted symbol.Row token done e = refl

two : {A : Type 0} {o : Option A} {x : A} → o ≡ None → o ≡ Some x → ⊥
two e f = cc

none_some : {A B : Type 0} {o : Option A} {x : A} → o ≡ None → o ≡ Some x → B
none_some e f = absurd (two e f)

-- ---- what a derivation of a symbol and more begins with

pub data First (columns : Columns) (one : Symbol) (symbols : List Symbol) (tokens : List Token) (deeds : List Deed) : Type 0 where
  by_doing : (done : Deed) (more : List Deed) → deed_of one ≡ Some done → deeds ≡ done ∷ more → Derives (after_doing done columns) symbols tokens more → First columns one symbols tokens deeds
  by_going : (production : List Symbol) → rule (wanted_of columns) one (next_of tokens) ≡ Some (None, production) → Derives columns (production ++ symbols) tokens deeds → First columns one symbols tokens deeds
  by_taking : (used : Use) (production : List Symbol) (token : Token) (left : List Token) (more : List Deed) → tokens ≡ token ∷ left
      → rule (wanted_of columns) one token ≡ Some (Some used, production) → deeds ≡ kept used token ++ more → Derives (behind_use used columns) (production ++ symbols) left more
      → First columns one symbols tokens deeds

-- what a derivation begins with, by its symbols
FirstOf : Columns → List Symbol → List Token → List Deed → Type 0
FirstOf columns [] tokens deeds = (tokens ≡ []) × (deeds ≡ [])
FirstOf columns (one ∷ symbols) tokens deeds = First columns one symbols tokens deeds

first_of_derivation : {columns : Columns} {symbols : List Symbol} {tokens : List Token} {deeds : List Deed} → Derives columns symbols tokens deeds → FirstOf columns symbols tokens deeds
unfolding FirstOf
first_of_derivation (over columns) = (refl, refl)
first_of_derivation (does columns one symbols tokens deeds done is rest) = by_doing done deeds is refl rest
first_of_derivation (goes columns one symbols production tokens deeds is rest) = by_going production is rest
first_of_derivation (takes columns one symbols production token tokens deeds used is rest) = by_taking used production token tokens deeds refl is refl rest

pub first : (columns : Columns) (one : Symbol) (symbols : List Symbol) (tokens : List Token) (deeds : List Deed) → Derives columns (one ∷ symbols) tokens deeds → First columns one symbols tokens deeds
unfolding FirstOf
first columns one symbols tokens deeds d = first_of_derivation d

pub nothing_left : (columns : Columns) (tokens : List Token) (deeds : List Deed) → Derives columns [] tokens deeds → (tokens ≡ []) × (deeds ≡ [])
unfolding FirstOf
nothing_left columns tokens deeds d = first_of_derivation d

abbrev used_in : Option (Option Use × List Symbol) → Option Use
used_in None = None
used_in (Some production) = production.0

abbrev symbols_in : Option (Option Use × List Symbol) → List Symbol
symbols_in None = []
symbols_in (Some production) = production.1

same_production : {u v : Option Use} {p q : List Symbol} → ◌≡◌ {A = Option (Option Use × List Symbol)} (Some (u, p)) (Some (v, q)) → (u ≡ v) × (p ≡ q)
same_production {u} {v} {p} {q} e = (ap (λ (o : Option (Option Use × List Symbol)). used_in o) e, ap (λ (o : Option (Option Use × List Symbol)). symbols_in o) e)

not_both : {u : Use} → Some u ≡ None → ⊥
not_both e = cc

-- ---- a reader's steps

-- what is derived behind the tokens that were read is derived with them
pub read_with : {before : List Token} {deeds : List Deed} {columns : Columns} {symbols : List Symbol} {left : List Token} → Reads before deeds columns symbols left
    → (more : List Deed) → Derives columns symbols left more → IsPipeline (before ++ left) (deeds ++ more)
read_with (begins left) more d = d
read_with (has_done before deeds columns one symbols left done read is) more d =
    subst (λ (ds : List Deed). IsPipeline (before ++ left) ds) (sym (append_assoc deeds (done ∷ []) more)) (read_with read (done ∷ more) (does columns one symbols left more done is d))
read_with (has_gone before deeds columns one symbols production left read is) more d = read_with read more (goes columns one symbols production left more is d)
read_with (has_taken before deeds columns one symbols production token left used read is) more d =
    subst (λ (ts : List Token). IsPipeline ts ((deeds ++ kept used token) ++ more)) (sym (append_assoc before (token ∷ []) left))
    (subst (λ (ds : List Deed). IsPipeline (before ++ token ∷ left) ds) (sym (append_assoc deeds (kept used token) more)) (read_with read (kept used token ++ more) (takes columns one symbols production token left more used is d)))

-- tokens that go on as those that are left do are derived from the same symbols
pub read_forced : {before : List Token} {deeds : List Deed} {columns : Columns} {symbols : List Symbol} {left : List Token} → Reads before deeds columns symbols left
    → (more : List Token) (all : List Deed) → head_of more ≡ head_of left → IsPipeline (before ++ more) all → (rest : List Deed) × Derives columns symbols more rest
read_forced (begins left) more all same d = (all, d)
read_forced (has_done before deeds columns one symbols left done read is) more all same d =
    let there = read_forced read more all same d in
    elim (first columns one symbols more there.0 there.1) [
      | by_doing other rest e f g ↦ (rest, subst (λ (x : Deed). Derives (after_doing x columns) symbols more rest) (same_Some other done (sym e ∙ is)) g)
      | by_going production e g ↦ none_some (no_rule (wanted_of columns) one (next_of more) done is) e
      | by_taking used production token rest ds f e h g ↦ none_some (no_rule (wanted_of columns) one token done is) e
    ]
read_forced (has_gone before deeds columns one symbols production left read is) more all same d =
    let there = read_forced read more all same d in
    let here : rule (wanted_of columns) one (next_of more) ≡ Some (None, production) = ap (λ (o : Option Token). rule (wanted_of columns) one (unwrap_or o End)) same ∙ is in
    elim (first columns one symbols more there.0 there.1) [
      | by_doing other rest e f g ↦ none_some (no_rule (wanted_of columns) one (next_of more) other e) here
      | by_going found e g ↦ (there.0, subst (λ (p : List Symbol). Derives columns (p ++ symbols) more there.0) (same_production (sym e ∙ here)).1 g)
      | by_taking used found token rest ds f e h g ↦ absurd (not_both (same_production (sym e ∙ ap (rule (wanted_of columns) one) (sym (ap next_of f)) ∙ here)).0)
    ]
read_forced (has_taken before deeds columns one symbols production token left used read is) more all same d =
    let e_tokens : (before ++ token ∷ []) ++ more ≡ before ++ (token ∷ more) = append_assoc before (token ∷ []) more in
    let there = read_forced read (token ∷ more) all refl (subst (λ (ts : List Token). IsPipeline ts all) e_tokens d) in
    elim (first columns one symbols (token ∷ more) there.0 there.1) [
      | by_doing other rest e f g ↦ none_some (no_rule (wanted_of columns) one token other e) is
      | by_going found e g ↦ absurd (not_both (sym (same_production (sym e ∙ is)).0))
      | by_taking other found first_token rest ds f e h g ↦
          let same_token : first_token ≡ token = ap next_of (sym f) in
          let same_rest : rest ≡ more = ap (λ (ts : List Token). drop 1 ts) (sym f) in
          let there_rule : rule (wanted_of columns) one token ≡ Some (Some other, found) = ap (rule (wanted_of columns) one) (sym same_token) ∙ e in
          let same_found = same_production (sym there_rule ∙ is) in (
            ds,
            subst (λ (u : Use). Derives (behind_use u columns) (production ++ symbols) more ds) (same_Some other used same_found.0)
                (subst (λ (p : List Symbol). Derives (behind_use other columns) (p ++ symbols) more ds) same_found.1
                (subst (λ (ts : List Token). Derives (behind_use other columns) (found ++ symbols) ts ds) same_rest g)),
          )
    ]

-- ---- a reader's invariant

-- what a reader holds was read of a text
pub record HasRead (text : List ℕ) (config : Config) : Type 0 where
  pub before : List Placed
  pub tokens_are : tokens_of text ≡ before ++ config.left
  pub read : Reads (only_tokens before) config.deeds config.columns config.symbols (only_tokens config.left)

pub has_begun : (text : List ℕ) (config : Config) → config ≡ record { columns = no_columns; symbols = whole; left = tokens_of text; deeds = [] } → HasRead text config
has_begun text config e =
    subst (HasRead text) (sym e) (record { before = []; tokens_are = refl; read = begins (only_tokens (tokens_of text)) })

config_in : Config → Outcome → Config
config_in other (More config) = config
config_in other Over = other
config_in other Refused = other

same_more : (a b : Config) → More a ≡ More b → a ≡ b
unfolding config_in
same_more a b e = ap (config_in a) e

over_more : {config : Config} → Over ≡ More config → ⊥
over_more e = cc

refused_more : {config : Config} → Refused ≡ More config → ⊥
refused_more e = cc

over_refused : Over ≡ Refused → ⊥
over_refused e = cc

module _ (text : List ℕ) (columns : Columns) (deeds : List Deed) (before : List Placed) (one : Symbol) (symbols : List Symbol) where
  here : List Placed → Config
  here left = record { columns = columns; symbols = one ∷ symbols; left = left; deeds = deeds }

  left_steps : (left : List Placed) (used : Use) (production : List Symbol) (next : Config) → tokens_of text ≡ before ++ left → Reads (only_tokens before) deeds columns (one ∷ symbols) (only_tokens left)
      → rule (wanted_of columns) one (next_of (only_tokens left)) ≡ Some (Some used, production) → by_left (here left) symbols production used left ≡ More next → HasRead text next
  unfolding here
  left_steps [] used production next is read r e = absurd (refused_more e)
  left_steps (x ∷ left) used production next is read r e =
      subst (HasRead text) (same_more _ _ e)
      (record {
        before = before ++ x ∷ [];
        tokens_are = is ∙ sym (append_assoc before (x ∷ []) left);
        read = subst (λ (ts : List Token). Reads ts (deeds ++ kept used x.token) (behind_use used columns) (production ++ symbols) (only_tokens left)) (sym (map-append (λ (p : Placed). p.token) before (x ∷ [])))
            (has_taken (only_tokens before) deeds columns one symbols production x.token (only_tokens left) used read r);
      })

  rule_steps : (left : List Placed) (r : Option (Option Use × List Symbol)) (next : Config) → tokens_of text ≡ before ++ left → Reads (only_tokens before) deeds columns (one ∷ symbols) (only_tokens left)
      → rule (wanted_of columns) one (next_of (only_tokens left)) ≡ r → by_rule (here left) symbols r ≡ More next → HasRead text next
  unfolding here
  rule_steps left None next is read r e = absurd (refused_more e)
  rule_steps left (Some (None, production)) next is read r e =
      subst (HasRead text) (same_more _ _ e) (record { before = before; tokens_are = is; read = has_gone (only_tokens before) deeds columns one symbols production (only_tokens left) read r })
  rule_steps left (Some (Some used, production)) next is read r e = left_steps left used production next is read r e

  deed_steps : (left : List Placed) (done : Option Deed) (next : Config) → tokens_of text ≡ before ++ left → Reads (only_tokens before) deeds columns (one ∷ symbols) (only_tokens left)
      → deed_of one ≡ done → by_deed (here left) one symbols done ≡ More next → HasRead text next
  unfolding here
  deed_steps left (Some done) next is read d e =
      subst (HasRead text) (same_more _ _ e) (record { before = before; tokens_are = is; read = has_done (only_tokens before) deeds columns one symbols (only_tokens left) done read d })
  deed_steps left None next is read d e = rule_steps left _ next is read refl e

symbols_step : (text : List ℕ) (columns : Columns) (symbols : List Symbol) (left : List Placed) (deeds : List Deed) (before : List Placed) (next : Config) → tokens_of text ≡ before ++ left
    → Reads (only_tokens before) deeds columns symbols (only_tokens left) → by_symbols (record { columns = columns; symbols = symbols; left = left; deeds = deeds }) symbols ≡ More next → HasRead text next
unfolding here
symbols_step text columns [] [] deeds before next is read e = absurd (over_more e)
symbols_step text columns [] (x ∷ left) deeds before next is read e = absurd (refused_more e)
symbols_step text columns (one ∷ symbols) left deeds before next is read e = deed_steps text columns deeds before one symbols left _ next is read refl e

-- a step keeps the invariant
pub has_stepped : (text : List ℕ) (config next : Config) → HasRead text config → More next ≡ step_of config → HasRead text next
unfolding step_of
has_stepped text config next held e = symbols_step text config.columns config.symbols config.left config.deeds held.before next held.tokens_are held.read (sym e)

-- ---- the end

over_left : (text : List ℕ) (columns : Columns) (left : List Placed) (deeds : List Deed) (before : List Placed) → tokens_of text ≡ before ++ left → Reads (only_tokens before) deeds columns [] (only_tokens left)
    → at_end left ≡ Over → IsPipeline (only_tokens (tokens_of text)) deeds
over_left text columns [] deeds before is read e =
    let all = read_with read [] (over columns) in
    let tokens : only_tokens before ++ [] ≡ only_tokens (tokens_of text) = append-nil (only_tokens before) ∙ ap only_tokens (sym (is ∙ append-nil before)) in
    subst (λ (ts : List Token). IsPipeline ts deeds) tokens (subst (λ (ds : List Deed). IsPipeline (only_tokens before ++ []) ds) (append-nil deeds) all)
over_left text columns (x ∷ left) deeds before is read e = absurd (over_refused (sym e))

more_over : {config : Config} → More config ≡ Over → ⊥
more_over e = cc

more_refused : {config : Config} → More config ≡ Refused → ⊥
more_refused e = cc

module _ (config : Config) (symbols : List Symbol) where
  left_not_over : (production : List Symbol) (used : Use) (left : List Placed) → by_left config symbols production used left ≡ Over → ⊥
  left_not_over production used [] e = over_refused (sym e)
  left_not_over production used (x ∷ left) e = more_over e

  rule_not_over : (r : Option (Option Use × List Symbol)) → by_rule config symbols r ≡ Over → ⊥
  rule_not_over None e = over_refused (sym e)
  rule_not_over (Some (None, production)) e = more_over e
  rule_not_over (Some (Some used, production)) e = left_not_over production used config.left e

  deed_not_over : (one : Symbol) (done : Option Deed) → by_deed config one symbols done ≡ Over → ⊥
  deed_not_over one (Some done) e = more_over e
  deed_not_over one None e = rule_not_over _ e

symbols_over : (text : List ℕ) (columns : Columns) (symbols : List Symbol) (left : List Placed) (deeds : List Deed) (before : List Placed) → tokens_of text ≡ before ++ left
    → Reads (only_tokens before) deeds columns symbols (only_tokens left) → by_symbols (record { columns = columns; symbols = symbols; left = left; deeds = deeds }) symbols ≡ Over
    → IsPipeline (only_tokens (tokens_of text)) deeds
symbols_over text columns [] left deeds before is read e = over_left text columns left deeds before is read e
symbols_over text columns (one ∷ symbols) left deeds before is read e = absurd (deed_not_over (record { columns = columns; symbols = one ∷ symbols; left = left; deeds = deeds }) symbols one (deed_of one) e)

-- a reader at the end has the text's deeds
pub is_over : (text : List ℕ) (config : Config) → HasRead text config → Over ≡ step_of config → IsPipeline (only_tokens (tokens_of text)) config.deeds
unfolding step_of
is_over text config held e = symbols_over text config.columns config.symbols config.left config.deeds held.before held.tokens_are held.read (sym e)

-- ---- a refusal

none_is_some : {A : Type 0} {x : A} {B : Type 0} → ◌≡◌ {A = Option A} None (Some x) → B
none_is_some e = none_some refl e

end_refused : (columns : Columns) (left : List Placed) (more : List Token) (deeds : List Deed) → at_end left ≡ Refused → head_of more ≡ head_of (only_tokens left) → Derives columns [] more deeds → ⊥
end_refused columns [] more deeds e same d = over_refused e
end_refused columns (x ∷ left) more deeds e same d = none_is_some (sym (ap head_of (nothing_left columns more deeds d).0) ∙ same)

module _ (columns : Columns) (one : Symbol) (symbols : List Symbol) (config : Config) where
  left_refused : (left : List Placed) (used : Use) (production : List Symbol) (more : List Token) (deeds : List Deed) → by_left config symbols production used left ≡ Refused
      → rule (wanted_of columns) one (next_of (only_tokens left)) ≡ Some (Some used, production) → head_of more ≡ head_of (only_tokens left) → First columns one symbols more deeds → deed_of one ≡ None → ⊥
  left_refused (x ∷ left) used production more deeds e r same d no_deed = more_refused e
  left_refused [] used production more deeds e r same (by_doing done rest f g h) no_deed = none_some no_deed f
  left_refused [] used production more deeds e r same (by_going found f g) no_deed =
      not_both (sym (same_production (sym f ∙ ap (λ (o : Option Token). rule (wanted_of columns) one (unwrap_or o End)) same ∙ r)).0)
  left_refused [] used production more deeds e r same (by_taking other found token rest ds f g h k) no_deed = none_is_some (sym same ∙ ap head_of f)

  rule_refused : (left : List Placed) (r : Option (Option Use × List Symbol)) (more : List Token) (deeds : List Deed) → left ≡ config.left → by_rule config symbols r ≡ Refused
      → rule (wanted_of columns) one (next_of (only_tokens left)) ≡ r → head_of more ≡ head_of (only_tokens left) → First columns one symbols more deeds → deed_of one ≡ None → ⊥
  rule_refused left None more deeds l e r same (by_doing done rest f g h) no_deed = none_some no_deed f
  rule_refused left None more deeds l e r same (by_going found f g) no_deed =
      none_some r (ap (λ (o : Option Token). rule (wanted_of columns) one (unwrap_or o End)) (sym same) ∙ f)
  rule_refused left None more deeds l e r same (by_taking other found token rest ds f g h k) no_deed =
      none_some r (ap (λ (o : Option Token). rule (wanted_of columns) one (unwrap_or o End)) (sym same ∙ ap head_of f) ∙ g)
  rule_refused left (Some (None, production)) more deeds l e r same d no_deed = more_refused e
  rule_refused left (Some (Some used, production)) more deeds l e r same d no_deed =
      left_refused left used production more deeds (ap (by_left config symbols production used) l ∙ e) r same d no_deed

  deed_refused : (done : Option Deed) (more : List Token) (deeds : List Deed) → deed_of one ≡ done → config.columns ≡ columns → by_deed config one symbols done ≡ Refused
      → head_of more ≡ head_of (only_tokens config.left) → First columns one symbols more deeds → ⊥
  deed_refused (Some done) more deeds d c e same f = more_refused e
  deed_refused None more deeds d c e same f = rule_refused config.left _ more deeds refl e (ap (λ (x : Columns). rule (wanted_of x) one (next_of (only_tokens config.left))) (sym c)) same f d

symbols_refused : (config : Config) (symbols : List Symbol) (more : List Token) (deeds : List Deed) → by_symbols config symbols ≡ Refused → head_of more ≡ head_of (only_tokens config.left)
    → Derives config.columns symbols more deeds → ⊥
symbols_refused config [] more deeds e same d = end_refused config.columns config.left more deeds e same d
symbols_refused config (one ∷ symbols) more deeds e same d =
    deed_refused config.columns one symbols config (deed_of one) more deeds refl refl e same (first config.columns one symbols more deeds d)

-- where a reader refuses, no pipeline goes on
pub none_goes_on : (text : List ℕ) (config : Config) (held : HasRead text config) → Refused ≡ step_of config → ¬ GoesOnWith (only_tokens held.before) (head_of (only_tokens config.left))
unfolding step_of
none_goes_on text config held e found =
    let more = found.0 in
    let same : head_of more ≡ head_of (only_tokens config.left) = found.1.1.0 in
    let there = read_forced held.read more found.1.0 same found.1.1.1 in symbols_refused config config.symbols more there.0 (sym e) same there.1

fault_place : {A : Type 0} → Result A GrammarFault → ℕ
fault_place (Ok x) = 0
fault_place (Err (Unexpected at)) = at
fault_place (Err OutOfMemory) = 0

pub same_place : {A : Type 0} {a b : ℕ} → ◌≡◌ {A = Result A GrammarFault} (Err (Unexpected a)) (Err (Unexpected b)) → a ≡ b
unfolding fault_place
same_place e = ap fault_place e

-- ---- one derivation

pub unique : {columns : Columns} {symbols : List Symbol} {tokens : List Token} {deeds : List Deed} → Derives columns symbols tokens deeds
    → (other : List Deed) → Derives columns symbols tokens other → deeds ≡ other
unique (over columns) other d = sym (nothing_left columns [] other d).1
unique (does columns one symbols tokens deeds done is rest) other d =
    elim (first columns one symbols tokens other d) [
      | by_doing found more e f g ↦
          let same : found ≡ done = same_Some found done (sym e ∙ is) in
          ap (λ (x : Deed). x ∷ deeds) (sym same) ∙ ap (λ (ds : List Deed). found ∷ ds) (unique rest more (subst (λ (x : Deed). Derives (after_doing x columns) symbols tokens more) same g)) ∙ sym f
      | by_going production e g ↦ none_some (no_rule (wanted_of columns) one (next_of tokens) done is) e
      | by_taking used production token left more f e h g ↦ none_some (no_rule (wanted_of columns) one token done is) e
    ]
unique (goes columns one symbols production tokens deeds is rest) other d =
    elim (first columns one symbols tokens other d) [
      | by_doing found more e f g ↦ none_some (no_rule (wanted_of columns) one (next_of tokens) found e) is
      | by_going found e g ↦ unique rest other (subst (λ (p : List Symbol). Derives columns (p ++ symbols) tokens other) (same_production (sym e ∙ is)).1 g)
      | by_taking used found token left more f e h g ↦ absurd (not_both (same_production (sym e ∙ ap (rule (wanted_of columns) one) (sym (ap next_of f)) ∙ is)).0)
    ]
unique (takes columns one symbols production token tokens deeds used is rest) other d =
    elim (first columns one symbols (token ∷ tokens) other d) [
      | by_doing found more e f g ↦ none_some (no_rule (wanted_of columns) one token found e) is
      | by_going found e g ↦ absurd (not_both (sym (same_production (sym e ∙ is)).0))
      | by_taking found p first_token left more f e h g ↦
          let same_token : first_token ≡ token = ap next_of (sym f) in
          let same_left : left ≡ tokens = ap (λ (ts : List Token). drop 1 ts) (sym f) in
          let there : rule (wanted_of columns) one token ≡ Some (Some found, p) = ap (rule (wanted_of columns) one) (sym same_token) ∙ e in
          let same = same_production (sym there ∙ is) in
          let same_use : found ≡ used = same_Some found used same.0 in
          let again : Derives (behind_use used columns) (production ++ symbols) tokens more =
          subst (λ (u : Use). Derives (behind_use u columns) (production ++ symbols) tokens more) same_use
          (subst (λ (q : List Symbol). Derives (behind_use found columns) (q ++ symbols) tokens more) same.1
          (subst (λ (ts : List Token). Derives (behind_use found columns) (p ++ symbols) ts more) same_left g)) in
          ap (λ (ds : List Deed). kept used token ++ ds) (unique rest more again)
          ∙ ap (λ (u : Use). kept u token ++ more) (sym same_use) ∙ ap (λ (t : Token). kept found t ++ more) (sym same_token) ∙ sym h
    ]

pub one_derivation : OneDerivation
one_derivation tokens one other a b = unique a other b
