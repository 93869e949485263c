-- The word of the grammar that a spelling has.
use Rattle.std.proofs.Common.{◌≡◌, ◌≢◌, ℕ, List, [], ◌∷◌, length, false, refl, sym, ap, subst, ◌∙◌}
use Rattle.std.proofs.lemmas.Bool.{false_from_ne_true}
use Rattle.std.proofs.lemmas.Slice.Eq.{bytes_eq-Decides}
use Rattle.std.specs.Prelude.{Some, None, find, bytes_eq}
use Rattle.plan_tokens.specs.declared.keyword.Keyword.{Keyword}
use Rattle.plan_tokens.specs.declared.keyword.Keyword.TheVariants as word
use Rattle.plan_tokens.specs.Words.{spelled_word, keyword_of, all_words}

keyword_itself : (keyword : Keyword) → keyword_of (spelled_word keyword) ≡ Some keyword
unfolding keyword_of
keyword_itself word.Range = refl
keyword_itself word.Table = refl
keyword_itself word.Values = refl
keyword_itself word.Where = refl
keyword_itself word.Select = refl
keyword_itself word.With = refl
keyword_itself word.Drop = refl
keyword_itself word.Rename = refl
keyword_itself word.As = refl
keyword_itself word.Names = refl
keyword_itself word.Alias = refl
keyword_itself word.Sort = refl
keyword_itself word.Limit = refl
keyword_itself word.Offset = refl
keyword_itself word.Distinct = refl
keyword_itself word.On = refl
keyword_itself word.Group = refl
keyword_itself word.Agg = refl
keyword_itself word.Join = refl
keyword_itself word.Using = refl
keyword_itself word.Union = refl
keyword_itself word.Intersect = refl
keyword_itself word.Except = refl
keyword_itself word.All = refl
keyword_itself word.Id = refl
keyword_itself word.Write = refl
keyword_itself word.Insert = refl
keyword_itself word.Append = refl
keyword_itself word.Overwrite = refl
keyword_itself word.Error = refl
keyword_itself word.Ignore = refl
keyword_itself word.Inner = refl
keyword_itself word.Full = refl
keyword_itself word.Left = refl
keyword_itself word.Right = refl
keyword_itself word.Anti = refl
keyword_itself word.Semi = refl
keyword_itself word.Cross = refl
keyword_itself word.Asc = refl
keyword_itself word.Desc = refl
keyword_itself word.Nulls = refl
keyword_itself word.First = refl
keyword_itself word.Last = refl
keyword_itself word.Or = refl
keyword_itself word.And = refl
keyword_itself word.Not = refl
keyword_itself word.Is = refl
keyword_itself word.Null = refl
keyword_itself word.True = refl
keyword_itself word.False = refl
keyword_itself word.Date = refl
keyword_itself word.Cast = refl
keyword_itself word.Div = refl
keyword_itself word.Integer = refl
keyword_itself word.Long = refl
keyword_itself word.String = refl
keyword_itself word.Boolean = refl

pub keyword_found : (keyword : Keyword) (spelling : List ℕ) → spelled_word keyword ≡ spelling → keyword_of spelling ≡ Some keyword
keyword_found keyword spelling e = subst (λ (s : List ℕ). keyword_of s ≡ Some keyword) e (keyword_itself keyword)

absent_among : (keywords : List Keyword) (spelling : List ℕ) → ((keyword : Keyword) → spelled_word keyword ≢ spelling) → find (λ keyword. bytes_eq (spelled_word keyword) spelling) keywords ≡ None
absent_among [] spelling none = refl
absent_among (keyword ∷ keywords) spelling none =
    let differs : bytes_eq (spelled_word keyword) spelling ≡ false = false_from_ne_true _ (λ same. none keyword ((bytes_eq-Decides (spelled_word keyword) spelling).0 same)) in
    rw differs (absent_among keywords spelling none)

pub keyword_absent : (spelling : List ℕ) → ((keyword : Keyword) → spelled_word keyword ≢ spelling) → keyword_of spelling ≡ None
unfolding keyword_of
keyword_absent spelling none = absent_among all_words spelling none

-- ---- lengths

-- a word is spelled as none of another length
pub of_length : (size : ℕ) (spelling : List ℕ) → size ≡ length spelling → ((keyword : Keyword) → length (spelled_word keyword) ≡ size → spelled_word keyword ≢ spelling)
    → (keyword : Keyword) → spelled_word keyword ≢ spelling
of_length size spelling is none keyword same = none keyword (ap (length {A = ℕ}) same ∙ sym is) same

pub of_no_length : (spelling : List ℕ) → ◌≢◌ {A = ℕ} (length spelling) 2 → ◌≢◌ {A = ℕ} (length spelling) 3 → ◌≢◌ {A = ℕ} (length spelling) 4 → ◌≢◌ {A = ℕ} (length spelling) 5
    → ◌≢◌ {A = ℕ} (length spelling) 6 → ◌≢◌ {A = ℕ} (length spelling) 7 → ◌≢◌ {A = ℕ} (length spelling) 8 → ◌≢◌ {A = ℕ} (length spelling) 9
    → (keyword : Keyword) → spelled_word keyword ≢ spelling
of_no_length spelling two three four five six seven eight nine word.Range same = five (ap (length {A = ℕ}) (sym same))
of_no_length spelling two three four five six seven eight nine word.Table same = five (ap (length {A = ℕ}) (sym same))
of_no_length spelling two three four five six seven eight nine word.Values same = six (ap (length {A = ℕ}) (sym same))
of_no_length spelling two three four five six seven eight nine word.Where same = five (ap (length {A = ℕ}) (sym same))
of_no_length spelling two three four five six seven eight nine word.Select same = six (ap (length {A = ℕ}) (sym same))
of_no_length spelling two three four five six seven eight nine word.With same = four (ap (length {A = ℕ}) (sym same))
of_no_length spelling two three four five six seven eight nine word.Drop same = four (ap (length {A = ℕ}) (sym same))
of_no_length spelling two three four five six seven eight nine word.Rename same = six (ap (length {A = ℕ}) (sym same))
of_no_length spelling two three four five six seven eight nine word.As same = two (ap (length {A = ℕ}) (sym same))
of_no_length spelling two three four five six seven eight nine word.Names same = five (ap (length {A = ℕ}) (sym same))
of_no_length spelling two three four five six seven eight nine word.Alias same = five (ap (length {A = ℕ}) (sym same))
of_no_length spelling two three four five six seven eight nine word.Sort same = four (ap (length {A = ℕ}) (sym same))
of_no_length spelling two three four five six seven eight nine word.Limit same = five (ap (length {A = ℕ}) (sym same))
of_no_length spelling two three four five six seven eight nine word.Offset same = six (ap (length {A = ℕ}) (sym same))
of_no_length spelling two three four five six seven eight nine word.Distinct same = eight (ap (length {A = ℕ}) (sym same))
of_no_length spelling two three four five six seven eight nine word.On same = two (ap (length {A = ℕ}) (sym same))
of_no_length spelling two three four five six seven eight nine word.Group same = five (ap (length {A = ℕ}) (sym same))
of_no_length spelling two three four five six seven eight nine word.Agg same = three (ap (length {A = ℕ}) (sym same))
of_no_length spelling two three four five six seven eight nine word.Join same = four (ap (length {A = ℕ}) (sym same))
of_no_length spelling two three four five six seven eight nine word.Using same = five (ap (length {A = ℕ}) (sym same))
of_no_length spelling two three four five six seven eight nine word.Union same = five (ap (length {A = ℕ}) (sym same))
of_no_length spelling two three four five six seven eight nine word.Intersect same = nine (ap (length {A = ℕ}) (sym same))
of_no_length spelling two three four five six seven eight nine word.Except same = six (ap (length {A = ℕ}) (sym same))
of_no_length spelling two three four five six seven eight nine word.All same = three (ap (length {A = ℕ}) (sym same))
of_no_length spelling two three four five six seven eight nine word.Id same = two (ap (length {A = ℕ}) (sym same))
of_no_length spelling two three four five six seven eight nine word.Write same = five (ap (length {A = ℕ}) (sym same))
of_no_length spelling two three four five six seven eight nine word.Insert same = six (ap (length {A = ℕ}) (sym same))
of_no_length spelling two three four five six seven eight nine word.Append same = six (ap (length {A = ℕ}) (sym same))
of_no_length spelling two three four five six seven eight nine word.Overwrite same = nine (ap (length {A = ℕ}) (sym same))
of_no_length spelling two three four five six seven eight nine word.Error same = five (ap (length {A = ℕ}) (sym same))
of_no_length spelling two three four five six seven eight nine word.Ignore same = six (ap (length {A = ℕ}) (sym same))
of_no_length spelling two three four five six seven eight nine word.Inner same = five (ap (length {A = ℕ}) (sym same))
of_no_length spelling two three four five six seven eight nine word.Full same = four (ap (length {A = ℕ}) (sym same))
of_no_length spelling two three four five six seven eight nine word.Left same = four (ap (length {A = ℕ}) (sym same))
of_no_length spelling two three four five six seven eight nine word.Right same = five (ap (length {A = ℕ}) (sym same))
of_no_length spelling two three four five six seven eight nine word.Anti same = four (ap (length {A = ℕ}) (sym same))
of_no_length spelling two three four five six seven eight nine word.Semi same = four (ap (length {A = ℕ}) (sym same))
of_no_length spelling two three four five six seven eight nine word.Cross same = five (ap (length {A = ℕ}) (sym same))
of_no_length spelling two three four five six seven eight nine word.Asc same = three (ap (length {A = ℕ}) (sym same))
of_no_length spelling two three four five six seven eight nine word.Desc same = four (ap (length {A = ℕ}) (sym same))
of_no_length spelling two three four five six seven eight nine word.Nulls same = five (ap (length {A = ℕ}) (sym same))
of_no_length spelling two three four five six seven eight nine word.First same = five (ap (length {A = ℕ}) (sym same))
of_no_length spelling two three four five six seven eight nine word.Last same = four (ap (length {A = ℕ}) (sym same))
of_no_length spelling two three four five six seven eight nine word.Or same = two (ap (length {A = ℕ}) (sym same))
of_no_length spelling two three four five six seven eight nine word.And same = three (ap (length {A = ℕ}) (sym same))
of_no_length spelling two three four five six seven eight nine word.Not same = three (ap (length {A = ℕ}) (sym same))
of_no_length spelling two three four five six seven eight nine word.Is same = two (ap (length {A = ℕ}) (sym same))
of_no_length spelling two three four five six seven eight nine word.Null same = four (ap (length {A = ℕ}) (sym same))
of_no_length spelling two three four five six seven eight nine word.True same = four (ap (length {A = ℕ}) (sym same))
of_no_length spelling two three four five six seven eight nine word.False same = five (ap (length {A = ℕ}) (sym same))
of_no_length spelling two three four five six seven eight nine word.Date same = four (ap (length {A = ℕ}) (sym same))
of_no_length spelling two three four five six seven eight nine word.Cast same = four (ap (length {A = ℕ}) (sym same))
of_no_length spelling two three four five six seven eight nine word.Div same = three (ap (length {A = ℕ}) (sym same))
of_no_length spelling two three four five six seven eight nine word.Integer same = seven (ap (length {A = ℕ}) (sym same))
of_no_length spelling two three four five six seven eight nine word.Long same = four (ap (length {A = ℕ}) (sym same))
of_no_length spelling two three four five six seven eight nine word.String same = six (ap (length {A = ℕ}) (sym same))
of_no_length spelling two three four five six seven eight nine word.Boolean same = seven (ap (length {A = ℕ}) (sym same))
