-- The words of the grammar.
use Rattle.std.specs.Prelude.{ℕ, List, [], ◌∷◌, Option, find, codes, bytes_eq}
use Rattle.plan_tokens.specs.declared.keyword.Keyword.{Keyword}
use Rattle.plan_tokens.specs.declared.keyword.Keyword.TheVariants as word

-- how a word is spelled, in lower case
abbrev pub spelled_word : Keyword → List ℕ
spelled_word word.Range = codes "range"
spelled_word word.Table = codes "table"
spelled_word word.Values = codes "values"
spelled_word word.Where = codes "where"
spelled_word word.Select = codes "select"
spelled_word word.With = codes "with"
spelled_word word.Drop = codes "drop"
spelled_word word.Rename = codes "rename"
spelled_word word.As = codes "as"
spelled_word word.Names = codes "names"
spelled_word word.Alias = codes "alias"
spelled_word word.Sort = codes "sort"
spelled_word word.Limit = codes "limit"
spelled_word word.Offset = codes "offset"
spelled_word word.Distinct = codes "distinct"
spelled_word word.On = codes "on"
spelled_word word.Group = codes "group"
spelled_word word.Agg = codes "agg"
spelled_word word.Join = codes "join"
spelled_word word.Using = codes "using"
spelled_word word.Union = codes "union"
spelled_word word.Intersect = codes "intersect"
spelled_word word.Except = codes "except"
spelled_word word.All = codes "all"
spelled_word word.Id = codes "id"
spelled_word word.Write = codes "write"
spelled_word word.Insert = codes "insert"
spelled_word word.Append = codes "append"
spelled_word word.Overwrite = codes "overwrite"
spelled_word word.Error = codes "error"
spelled_word word.Ignore = codes "ignore"
spelled_word word.Inner = codes "inner"
spelled_word word.Full = codes "full"
spelled_word word.Left = codes "left"
spelled_word word.Right = codes "right"
spelled_word word.Anti = codes "anti"
spelled_word word.Semi = codes "semi"
spelled_word word.Cross = codes "cross"
spelled_word word.Asc = codes "asc"
spelled_word word.Desc = codes "desc"
spelled_word word.Nulls = codes "nulls"
spelled_word word.First = codes "first"
spelled_word word.Last = codes "last"
spelled_word word.Or = codes "or"
spelled_word word.And = codes "and"
spelled_word word.Not = codes "not"
spelled_word word.Is = codes "is"
spelled_word word.Null = codes "null"
spelled_word word.True = codes "true"
spelled_word word.False = codes "false"
spelled_word word.Date = codes "date"
spelled_word word.Cast = codes "cast"
spelled_word word.Div = codes "div"
spelled_word word.Integer = codes "integer"
spelled_word word.Long = codes "long"
spelled_word word.String = codes "string"
spelled_word word.Boolean = codes "boolean"

-- each word of the grammar
abbrev pub all_words : List Keyword
all_words =
    word.Range ∷ word.Table ∷ word.Values ∷ word.Where ∷ word.Select ∷ word.With ∷
    word.Drop ∷ word.Rename ∷ word.As ∷ word.Names ∷ word.Alias ∷ word.Sort ∷
    word.Limit ∷ word.Offset ∷ word.Distinct ∷ word.On ∷ word.Group ∷ word.Agg ∷
    word.Join ∷ word.Using ∷ word.Union ∷ word.Intersect ∷ word.Except ∷ word.All ∷
    word.Id ∷ word.Write ∷ word.Insert ∷ word.Append ∷ word.Overwrite ∷ word.Error ∷
    word.Ignore ∷ word.Inner ∷ word.Full ∷ word.Left ∷ word.Right ∷ word.Anti ∷
    word.Semi ∷ word.Cross ∷ word.Asc ∷ word.Desc ∷ word.Nulls ∷ word.First ∷
    word.Last ∷ word.Or ∷ word.And ∷ word.Not ∷ word.Is ∷ word.Null ∷
    word.True ∷ word.False ∷ word.Date ∷ word.Cast ∷ word.Div ∷ word.Integer ∷
    word.Long ∷ word.String ∷ word.Boolean ∷ []

-- the word of the grammar that is spelled so
unfoldable pub keyword_of : List ℕ → Option Keyword
keyword_of spelling = find (λ keyword. bytes_eq (spelled_word keyword) spelling) all_words
