-- One more column of a batch.
use Rattle.std.proofs.Common.{◌≡◌, ℕ, ◌+◌, suc, ◌<◌, List, [], ◌∷◌, ◌++◌, length, drop, get_or, ap, ◌∙◌, sym, add-one, drop-cons, length-append}
use Rattle.std.proofs.lemmas.List.{append_assoc}
use Rattle.std.proofs.lemmas.List.Concat.{flat_map-append}
use Rattle.cn_types.specs.declared.row.Row.{Row}
use Rattle.cn_types.specs.declared.schema.Field.{Field}
use Rattle.flat_tables.specs.declared.object.FlatPair.{FlatPair}
use Rattle.flat_tables.specs.Layout.{padded}
use Rattle.arrow_ipc.specs.Columns.{cells, column_buffers, buffers_from, body_of, spans_from, node_of, nodes_from, Gains}
use Rattle.arrow_ipc.proofs.Buffers.{spans_from-append}

first_field : (fields : List Field) (column : ℕ) (field : Field) → column < length fields → field ≡ get_or fields column field → drop column fields ≡ field ∷ drop (column + 1) fields
first_field fields column field h e = rw (add-one, drop-cons fields column field) (ap (λ (f : Field). f ∷ drop (suc column) fields) (sym e))

-- the buffers of the columns that are left are those of the first of them, and the others
pub buffers_left : (fields : List Field) (rows : List Row) (column : ℕ) (field : Field) → column < length fields → field ≡ get_or fields column field
    → buffers_from column (drop column fields) rows ≡ column_buffers field.kind (cells column rows) ++ buffers_from (column + 1) (drop (column + 1) fields) rows
buffers_left fields rows column field h e = ap (λ (fs : List Field). buffers_from column fs rows) (first_field fields column field h e)

pub nodes_left : (fields : List Field) (rows : List Row) (column : ℕ) (field : Field) → column < length fields → field ≡ get_or fields column field
    → nodes_from column (drop column fields) rows ≡ node_of (cells column rows) ∷ nodes_from (column + 1) (drop (column + 1) fields) rows
nodes_left fields rows column field h e = ap (λ (fs : List Field). nodes_from column fs rows) (first_field fields column field h e)

pub body_step : (a b : List ℕ) (sa sb : List FlatPair) (xs ys zs : List (List ℕ)) (whole : List ℕ) → Gains a b sa sb xs → zs ≡ xs ++ ys → a ++ body_of zs ≡ whole → b ++ body_of ys ≡ whole
body_step a b sa sb xs ys zs whole g e h =
    ap (λ (bs : List ℕ). bs ++ body_of ys) g.body ∙ append_assoc a (body_of xs) (body_of ys) ∙ ap (λ (bs : List ℕ). a ++ bs) (sym (flat_map-append padded xs ys) ∙ ap body_of (sym e)) ∙ h

pub spans_step : (a b : List ℕ) (sa sb : List FlatPair) (xs ys zs : List (List ℕ)) (whole : List FlatPair) → Gains a b sa sb xs → zs ≡ xs ++ ys
    → sa ++ spans_from (length a) zs ≡ whole → sb ++ spans_from (length b) ys ≡ whole
spans_step a b sa sb xs ys zs whole g e h =
    let size : length b ≡ length a + length (body_of xs) = ap length g.body ∙ length-append a (body_of xs) in
    ap (λ (ss : List FlatPair). ss ++ spans_from (length b) ys) g.spans ∙ ap (λ (n : ℕ). (sa ++ spans_from (length a) xs) ++ spans_from n ys) size
    ∙ append_assoc sa (spans_from (length a) xs) (spans_from (length a + length (body_of xs)) ys)
    ∙ ap (λ (ss : List FlatPair). sa ++ ss) (sym (spans_from-append (length a) xs ys) ∙ ap (spans_from (length a)) (sym e)) ∙ h

pub nodes_step : (na nb : List FlatPair) (x : FlatPair) (ys zs whole : List FlatPair) → nb ≡ na ++ x ∷ [] → zs ≡ x ∷ ys → na ++ zs ≡ whole → nb ++ ys ≡ whole
nodes_step na nb x ys zs whole n e h = ap (λ (ns : List FlatPair). ns ++ ys) n ∙ append_assoc na (x ∷ []) ys ∙ ap (λ (ns : List FlatPair). na ++ ns) (sym e) ∙ h
