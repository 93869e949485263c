-- What a symbol and those behind it stand for: tokens by which they end.
use Rattle.std.proofs.Common.{◌≡◌, Bool, true, false, List, [], ◌∷◌, ◌++◌, refl, sym, ap, subst, ◌∙◌}
use Rattle.std.specs.Prelude.{Option, Some, None}
use Rattle.cn_types.specs.declared.value.DataType.{DataType}
use Rattle.plan_tokens.specs.declared.token.Token.{Token}
use Rattle.plan_tokens.specs.declared.token.Token.TheVariants as token
use Rattle.plan_grammar.specs.declared.symbol.Columns.{Columns}
use Rattle.plan_grammar.specs.declared.symbol.Deed.{Deed}
use Rattle.plan_grammar.specs.declared.symbol.Use.{Use}
use Rattle.plan_grammar.specs.declared.symbol.Symbol.{Symbol}
use Rattle.plan_grammar.specs.Grammar.{rule}
use Rattle.plan_grammar.specs.Derivation.{Derives, does, goes, takes, wanted_of, behind_use, after_doing, deed_of, kept, next_of}
use Rattle.plan_grammar.proofs.Stacks.{Stop, AtEnd, token_of, first_of, first_of_all, needs}

-- the symbols stand for these tokens, of which the first is the one that the stack tells
pub record Ended (columns : Columns) (symbols : List Symbol) : Type 0 where
  pub tokens : List Token
  pub deeds : List Deed
  pub derived : Derives columns symbols tokens deeds
  pub stops : (stop : Stop) → first_of_all symbols (Some AtEnd) ≡ Some stop → next_of tokens ≡ token_of stop

abbrev pub behind : List Symbol → Option Stop
behind more = first_of_all more (Some AtEnd)

abbrev pub Ends : List Symbol → Type 0
Ends symbols = (columns : Columns) → Ended columns symbols

none_is_some : {stop : Stop} → ◌≡◌ {A = Option Stop} None (Some stop) → ⊥
none_is_some e = cc

pub no_stop : {stop : Stop} {B : Type 0} {found : Option Stop} → found ≡ None → found ≡ Some stop → B
no_stop e f = absurd (none_is_some (sym e ∙ f))

pub acted : (columns : Columns) (one : Symbol) (more : List Symbol) (done : Deed) → deed_of one ≡ Some done → first_of one (behind more) ≡ behind more → Ended (after_doing done columns) more
    → Ended columns (one ∷ more)
acted columns one more done is first rest =
    record {
      tokens = rest.tokens;
      deeds = done ∷ rest.deeds;
      derived = does columns one more rest.tokens rest.deeds done is rest.derived;
      stops = λ stop e. rest.stops stop (sym first ∙ e);
    }

pub taken : (columns : Columns) (one : Symbol) (more production : List Symbol) (token : Token) (used : Use) → rule (wanted_of columns) one token ≡ Some (Some used, production)
    → ((stop : Stop) → first_of one (behind more) ≡ Some stop → token ≡ token_of stop) → Ended (behind_use used columns) (production ++ more) → Ended columns (one ∷ more)
taken columns one more production token used is stops rest =
    record {
      tokens = token ∷ rest.tokens;
      deeds = kept used token ++ rest.deeds;
      derived = takes columns one more production token rest.tokens rest.deeds used is rest.derived;
      stops = stops;
    }

pub gone : (columns : Columns) (one : Symbol) (more production : List Symbol) (rest : Ended columns (production ++ more)) → rule (wanted_of columns) one (next_of rest.tokens) ≡ Some (None, production)
    → first_of one (behind more) ≡ behind (production ++ more) → Ended columns (one ∷ more)
gone columns one more production rest is first =
    record {
      tokens = rest.tokens;
      deeds = rest.deeds;
      derived = goes columns one more production rest.tokens rest.deeds is rest.derived;
      stops = λ stop e. rest.stops stop (sym first ∙ e);
    }

-- ---- by the symbol alone

pub acting : (one : Symbol) (more : List Symbol) (done : Deed) → deed_of one ≡ Some done → first_of one (behind more) ≡ behind more → Ends more
    → Ends (one ∷ more)
acting one more done is first rest columns = acted columns one more done is first (rest (after_doing done columns))

pub taking : (one : Symbol) (more production : List Symbol) (token : Token) (used : Use) → ((wanted : Option DataType) → rule wanted one token ≡ Some (Some used, production))
    → first_of one (behind more) ≡ None → Ends (production ++ more) → Ends (one ∷ more)
taking one more production token used is first rest columns =
    taken columns one more production token used (is (wanted_of columns)) (λ stop e. no_stop first e) (rest (behind_use used columns))

pub going : (one : Symbol) (more production : List Symbol) → ((wanted : Option DataType) (token : Token) → rule wanted one token ≡ Some (None, production))
    → first_of one (behind more) ≡ behind (production ++ more) → Ends (production ++ more) → Ends (one ∷ more)
going one more production is first rest columns = gone columns one more production (rest columns) (is (wanted_of columns) (next_of (rest columns).tokens)) first

-- ---- symbols that leave a token that ends them

abbrev pub Leaves : Symbol → List Symbol → Type 0
Leaves one production = (wanted : Option DataType) (stop : Stop) → needs one (Some stop) ≡ true → rule wanted one (token_of stop) ≡ Some (None, production)

false_true : false ≡ true → ⊥
false_true e = cc

pub never : {B : Type 0} → false ≡ true → B
never e = absurd (false_true e)

some_stop : (one : Symbol) (found : Option Stop) → needs one None ≡ false → needs one found ≡ true → (stop : Stop) × (found ≡ Some stop)
some_stop one None silent needed = absurd (false_true (sym silent ∙ needed))
some_stop one (Some stop) silent needed = (stop, refl)

pub left : (columns : Columns) (one : Symbol) (more production : List Symbol) → Leaves one production → needs one None ≡ false → needs one (behind more) ≡ true
    → behind (production ++ more) ≡ behind more → first_of one (behind more) ≡ behind (production ++ more) → Ended columns (production ++ more) → Ended columns (one ∷ more)
left columns one more production leaves silent needed same first rest =
    let found = some_stop one (behind more) silent needed in
    let at : next_of rest.tokens ≡ token_of found.0 = rest.stops found.0 (same ∙ found.1) in
    let needed_there : needs one (Some found.0) ≡ true = subst (λ (a : Option Stop). needs one a ≡ true) found.1 needed in
    gone columns one more production rest (ap (rule (wanted_of columns) one) at ∙ leaves (wanted_of columns) found.0 needed_there) first

pub leaving : (one : Symbol) (more production : List Symbol) → Leaves one production → needs one None ≡ false → needs one (behind more) ≡ true
    → behind (production ++ more) ≡ behind more → first_of one (behind more) ≡ behind (production ++ more) → Ends (production ++ more) → Ends (one ∷ more)
leaving one more production leaves silent needed same first rest columns = left columns one more production leaves silent needed same first (rest columns)

-- ---- symbols that begin with a text in quotes

abbrev pub quotation : Token
quotation = token.Quotation (record { text = []; day = None })

pub record Quoted (columns : Columns) (symbols : List Symbol) : Type 0 where
  pub ended : Ended columns symbols
  pub first : next_of ended.tokens ≡ quotation

abbrev pub Quotes : List Symbol → Type 0
Quotes symbols = (columns : Columns) → Quoted columns symbols

pub quoted_ends : (symbols : List Symbol) → Quotes symbols → Ends symbols
quoted_ends symbols quoted columns = (quoted columns).ended

pub quoting : (one : Symbol) (more production : List Symbol) (used : Use) → ((wanted : Option DataType) → rule wanted one quotation ≡ Some (Some used, production))
    → first_of one (behind more) ≡ None → Ends (production ++ more) → Quotes (one ∷ more)
unfolding taken
quoting one more production used is first rest columns =
    record { ended = taken columns one more production quotation used (is (wanted_of columns)) (λ stop e. no_stop first e) (rest (behind_use used columns)); first = refl }

pub going_quoted : (one : Symbol) (more production : List Symbol) → ((wanted : Option DataType) → rule wanted one quotation ≡ Some (None, production))
    → first_of one (behind more) ≡ behind (production ++ more) → Quotes (production ++ more) → Quotes (one ∷ more)
unfolding gone
going_quoted one more production is first rest columns =
    record {
      ended = gone columns one more production (rest columns).ended (ap (rule (wanted_of columns) one) (rest columns).first ∙ is (wanted_of columns)) first;
      first = (rest columns).first;
    }
