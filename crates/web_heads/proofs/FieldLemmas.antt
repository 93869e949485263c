-- Values by name over a list of headers, one header after another, and parts of one value.
use Rattle.std.proofs.Common.{◌≡◌, ℕ, ◌+◌, ◌-◌, ◌<◌, ◌≤◌, Bool, true, false, cond, List, [], ◌∷◌, length, get_or, take, drop, map, reverse, refl, sym, ap, ◌∙◌, arith}
use Rattle.std.specs.Prelude.{filter}
use Rattle.std.proofs.lemmas.Bool.{cond-true, cond-false}
use Rattle.std.proofs.lemmas.List.{drop_more, drop_all, take_more, reverse-append, reverse-reverse}
use Rattle.httparse.specs.declared.spans.HeaderSpan.{HeaderSpan}
use Rattle.httparse.specs.Spans.{header_bytes}
use Rattle.httparse.specs.Grammar.{is_ows, skip_ows}
use Rattle.web_heads.specs.Texts.{without_trailing_ows}
use Rattle.web_heads.specs.Fields.{NameValue, is_named, values}

values-cons : (name : List ℕ) (f : NameValue) (fs : List NameValue)
    → values name (f ∷ fs) ≡ cond (is_named name f) (f.1 ∷ values name fs) (values name fs)
unfolding values
values-cons name f fs = by_test (is_named name f)
  where
    by_test : (b : Bool) → map (λ (g : NameValue). g.1) (cond b (f ∷ filter (is_named name) fs) (filter (is_named name) fs))
        ≡ cond b (f.1 ∷ map (λ (g : NameValue). g.1) (filter (is_named name) fs)) (map (λ (g : NameValue). g.1) (filter (is_named name) fs))
    by_test true = refl
    by_test false = refl

pub values-nil : (name : List ℕ) → values name [] ≡ []
unfolding values
values-nil name = refl

-- the values among the headers from a place on
abbrev pub values_from : List ℕ → List ℕ → List HeaderSpan → ℕ → List (List ℕ)
values_from name head headers i = values name (map (header_bytes head) (drop i headers))

pub values_from-named : (name head : List ℕ) (headers : List HeaderSpan) (i : ℕ) (d : HeaderSpan) → i < length headers
    → is_named name (header_bytes head (get_or headers i d)) ≡ true
    → values_from name head headers i ≡ (header_bytes head (get_or headers i d)).1 ∷ values_from name head headers (i + 1)
values_from-named name head headers i d inside named =
    ap (λ (hs : List HeaderSpan). values name (map (header_bytes head) hs)) (drop_more headers i d inside)
    ∙ values-cons name (header_bytes head (get_or headers i d)) (map (header_bytes head) (drop (i + 1) headers))
    ∙ cond-true (is_named name (header_bytes head (get_or headers i d))) _ _ named

pub values_from-other : (name head : List ℕ) (headers : List HeaderSpan) (i : ℕ) (d : HeaderSpan) → i < length headers
    → is_named name (header_bytes head (get_or headers i d)) ≡ false
    → values_from name head headers i ≡ values_from name head headers (i + 1)
values_from-other name head headers i d inside other =
    ap (λ (hs : List HeaderSpan). values name (map (header_bytes head) hs)) (drop_more headers i d inside)
    ∙ values-cons name (header_bytes head (get_or headers i d)) (map (header_bytes head) (drop (i + 1) headers))
    ∙ cond-false (is_named name (header_bytes head (get_or headers i d))) _ _ other

pub values_from-end : (name head : List ℕ) (headers : List HeaderSpan) (i : ℕ) → length headers ≤ i → values_from name head headers i ≡ []
values_from-end name head headers i past =
    ap (λ (hs : List HeaderSpan). values name (map (header_bytes head) hs)) (drop_all i headers past) ∙ values-nil name

-- the header that a read past the end gives
abbrev pub no_header : HeaderSpan
no_header = record { name = record { start = 0; end = 0 }; value = record { start = 0; end = 0 } }

-- ---- white space at the end

-- a text ends with the byte before its stop
reverse-take : (text : List ℕ) (n d : ℕ) → n < length text → reverse (take (n + 1) text) ≡ get_or text n d ∷ reverse (take n text)
reverse-take text n d inside = ap reverse (take_more text n d inside) ∙ reverse-append (take n text) (get_or text n d ∷ [])

-- a text that ends with another byte than white space is not trimmed
stays : (text : List ℕ) (n d : ℕ) → n < length text → is_ows (get_or text n d) ≡ false → skip_ows (reverse (take (n + 1) text)) ≡ reverse (take (n + 1) text)
stays text n d inside other =
    ap skip_ows (reverse-take text n d inside) ∙ cond-false (is_ows (get_or text n d)) _ _ other ∙ sym (reverse-take text n d inside)

pub without_trailing_ows-stop : (text : List ℕ) (stop d : ℕ) → 0 < stop → stop ≤ length text → is_ows (get_or text (stop - 1) d) ≡ false
    → skip_ows (reverse (take stop text)) ≡ skip_ows (reverse text) → take stop text ≡ without_trailing_ows text
unfolding without_trailing_ows
without_trailing_ows-stop text stop d some within other so_far =
    let before : stop - 1 + 1 ≡ stop = omega arith in
    let whole : skip_ows (reverse (take stop text)) ≡ reverse (take stop text) = rw before at (stays text (stop - 1) d (omega arith) other) in
    sym (ap reverse (sym so_far ∙ whole) ∙ reverse-reverse (take stop text))

pub without_trailing_ows-none : (text : List ℕ) (stop : ℕ) → stop ≡ 0 → skip_ows (reverse (take stop text)) ≡ skip_ows (reverse text)
    → take stop text ≡ without_trailing_ows text
unfolding without_trailing_ows
without_trailing_ows-none text stop none so_far = rw none (ap reverse (rw none at so_far))
