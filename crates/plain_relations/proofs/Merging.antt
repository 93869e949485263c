-- Maps that are merged, the least key first.
use Rattle.std.proofs.Common.{◌≡◌, ℕ, ◌+◌, ◌-◌, ◌<◌, ◌≤◌, List, [], ◌∷◌, ◌++◌, take, drop, length, Option, None, Some, refl, sym, ap, ◌∙◌, subst, arith}
use Rattle.std.specs.Prelude.{MatchOption, slice_index_or}
use Rattle.std.specs.Option.{option_or}
use Rattle.std.specs.declared.cmp.Ordering.TheVariants.{Less, Equal, Greater}
use Rattle.std.proofs.lemmas.List.{take-append-drop, drop-append-le, take-take, length-take, length-append}
use Rattle.std.proofs.Math.Seq.{drop-append_seam, drop-length}
use Rattle.proto_fields.proofs.PieceLemmas.{AllByRecursion-append}
use Rattle.proto_fields.proofs.ReturnLemmas.{last_some-append}
use Rattle.plain_relations.specs.declared.rename_entry.RenameEntry.{RenameEntry}
use Rattle.plain_relations.specs.Firsts.{order_of_first}
use Rattle.plain_relations.specs.Maps.{put_before, map_of, KeysRise, value_of}
use Rattle.plain_relations.specs.Rising.{order, turned_back, IsBelow, lower_below, rising_tail, rising_below, put_less, put_equal, put_greater, below_put, map_rises}
use Rattle.plain_relations.proofs.MapLaws.{turned, same_below, value_in, map_value, one_map}

-- ---- what comes first

below_map : (low : List ℕ) (entries : List RenameEntry) → IsBelow low entries → IsBelow low (map_of entries)
unfolding map_of
below_map low [] below = tt
below_map low (entry ∷ later) below = below_put low entry (map_of later) below.0 (below_map low later below.1)

put_first : (entry : RenameEntry) (map : List RenameEntry) → IsBelow entry.key map → put_before entry map ≡ entry ∷ map
unfolding put_before
put_first entry [] below = refl
put_first entry (next ∷ others) below = put_less entry next others below.0

-- an entry below all later ones
pub first_of : (entry : RenameEntry) (later : List RenameEntry) → IsBelow entry.key later → map_of (entry ∷ later) ≡ entry ∷ map_of later
unfolding map_of
first_of entry later below = put_first entry (map_of later) (below_map entry.key later below)

-- an entry below earlier ones too
second_of : (early : List RenameEntry) (entry : RenameEntry) (later : List RenameEntry) → IsBelow entry.key early → IsBelow entry.key later →
    map_of (early ++ entry ∷ later) ≡ entry ∷ map_of (early ++ later)
unfolding map_of
second_of [] entry later above below = first_of entry later below
second_of (first ∷ early) entry later above below =
    ap (put_before first) (second_of early entry later above.1 below)
    ∙ put_greater first entry (map_of (early ++ later)) (turned entry.key first.key above.0)

-- ---- two maps, by their first keys

pub none_left : map_of [] ≡ []
unfolding map_of
none_left = refl

pub rising_first : (entry : RenameEntry) (others : List RenameEntry) → KeysRise (entry ∷ others) → map_of (entry ∷ others) ≡ entry ∷ map_of others
rising_first entry others rising = first_of entry others (rising_below entry others rising)

pub less_first : (first second : RenameEntry) (early late : List RenameEntry) → KeysRise (first ∷ early) → KeysRise (second ∷ late) → order first.key second.key ≡ Less →
    map_of ((first ∷ early) ++ (second ∷ late)) ≡ first ∷ map_of (early ++ (second ∷ late))
less_first first second early late rising_early rising_late less =
    let below : IsBelow first.key (second ∷ late) = (less, lower_below first.key second.key late less (rising_below second late rising_late)) in
    first_of first (early ++ (second ∷ late)) (AllByRecursion-append (λ entry. order first.key entry.key ≡ Less) early (second ∷ late) (rising_below first early rising_early) below)

pub greater_first : (first second : RenameEntry) (early late : List RenameEntry) → KeysRise (first ∷ early) → KeysRise (second ∷ late) → order second.key first.key ≡ Less →
    map_of ((first ∷ early) ++ (second ∷ late)) ≡ second ∷ map_of ((first ∷ early) ++ late)
greater_first first second early late rising_early rising_late less =
    second_of (first ∷ early) second late (less, lower_below second.key first.key early less (rising_below first early rising_early)) (rising_below second late rising_late)

pub both_first : (first second : RenameEntry) (early late : List RenameEntry) → KeysRise (first ∷ early) → KeysRise (second ∷ late) → order first.key second.key ≡ Equal →
    map_of ((first ∷ early) ++ (second ∷ late)) ≡ second ∷ map_of (early ++ late)
unfolding map_of
both_first first second early late rising_early rising_late same =
    let above = same_below first.key second.key early same (rising_below first early rising_early) in
    ap (put_before first) (second_of early second late above (rising_below second late rising_late))
    ∙ put_equal first second (map_of (early ++ late)) same

-- ---- maps that are maps already

rising_one : (entry : RenameEntry) → KeysRise (entry ∷ [])
unfolding KeysRise
rising_one entry = tt

-- a list whose keys rise is its own map
pub rising_same : (entries : List RenameEntry) → KeysRise entries → map_of entries ≡ entries
unfolding map_of
rising_same [] rising = refl
rising_same (entry ∷ others) rising =
    rising_first entry others rising ∙ ap (λ (es : List RenameEntry). entry ∷ es) (rising_same others (rising_tail entry others rising))

value_append : (key : List ℕ) (a b : List RenameEntry) → value_of key (a ++ b) ≡ option_or (value_of key b) (value_of key a)
value_append key a b = last_some-append (value_in key) a b

-- the map of two halves is that of their maps
pub halves : (a b : List RenameEntry) → map_of (map_of a ++ map_of b) ≡ map_of (a ++ b)
halves a b = one_map (a ++ b) (map_of (map_of a ++ map_of b)) (record { rising = map_rises (map_of a ++ map_of b); same = same })
  where
    same : (key : List ℕ) → value_of key (map_of (map_of a ++ map_of b)) ≡ value_of key (a ++ b)
    same key =
        map_value key (map_of a ++ map_of b) ∙ value_append key (map_of a) (map_of b)
        ∙ ap (option_or (value_of key (map_of b))) (map_value key a)
        ∙ ap (λ (o : Option (List ℕ)). option_or o (value_of key a)) (map_value key b)
        ∙ sym (value_append key a b)

-- ---- one step of a merge

-- what stands in two maps once the least entry is taken out of them
pub record Took (early late early_left late_left : List RenameEntry) (taken : Option RenameEntry) : Type 0 where
  pub early_rises : KeysRise early_left
  pub late_rises : KeysRise late_left
  pub next : MatchOption taken (map_of (early ++ late) ≡ []) (λ entry. map_of (early ++ late) ≡ entry ∷ map_of (early_left ++ late_left))

took_is : (early late early_left late_left early_rest late_rest : List RenameEntry) (taken entry : Option RenameEntry) → early_left ≡ early_rest → late_left ≡ late_rest → taken ≡ entry →
    Took early late early_rest late_rest entry → Took early late early_left late_left taken
took_is early late early_left late_left early_rest late_rest taken entry early_is late_is taken_is took =
    subst (λ (t : Option RenameEntry). Took early late early_left late_left t) (sym taken_is)
    (subst (λ (es : List RenameEntry). Took early late es late_left entry) (sym early_is)
    (subst (λ (es : List RenameEntry). Took early late early_rest es entry) (sym late_is) took))

-- how the first entry was taken out of a map of this length
abbrev pub TakesFirst : List RenameEntry → ℕ → Option RenameEntry → Type 0
TakesFirst map len taken = (default : RenameEntry) → 0 < len → taken ≡ Some (slice_index_or map 0 default)

pub less_taken : (early late early_left : List RenameEntry) (len : ℕ) (taken : Option RenameEntry) → KeysRise early → KeysRise late → Less ≡ order_of_first early late →
    len ≡ length early → TakesFirst early len taken → early_left ≡ drop 1 early → Took early late early_left late taken
less_taken [] late early_left len taken rising_early rising_late is count takes rest = absurd (let apart : Less ≡ Greater = is in cc)
less_taken (first ∷ early) [] early_left len taken rising_early rising_late is count takes rest =
    took_is (first ∷ early) [] early_left [] early [] taken (Some first) rest refl (takes first (omega arith))
    (record {
      early_rises = rising_tail first early rising_early;
      late_rises = rising_late;
      next = first_of first (early ++ []) (AllByRecursion-append (λ entry. order first.key entry.key ≡ Less) early [] (rising_below first early rising_early) tt);
    })
less_taken (first ∷ early) (second ∷ late) early_left len taken rising_early rising_late is count takes rest =
    took_is (first ∷ early) (second ∷ late) early_left (second ∷ late) early (second ∷ late) taken (Some first) rest refl (takes first (omega arith))
    (record {
      early_rises = rising_tail first early rising_early;
      late_rises = rising_late;
      next = less_first first second early late rising_early rising_late (sym is);
    })

pub equal_taken : (early late early_left late_left : List RenameEntry) (len : ℕ) (taken : Option RenameEntry) → KeysRise early → KeysRise late → Equal ≡ order_of_first early late →
    len ≡ length late → TakesFirst late len taken → early_left ≡ drop 1 early → late_left ≡ drop 1 late → Took early late early_left late_left taken
equal_taken [] late early_left late_left len taken rising_early rising_late is count takes rest_early rest_late = absurd (let apart : Equal ≡ Greater = is in cc)
equal_taken (first ∷ early) [] early_left late_left len taken rising_early rising_late is count takes rest_early rest_late = absurd (let apart : Equal ≡ Less = is in cc)
equal_taken (first ∷ early) (second ∷ late) early_left late_left len taken rising_early rising_late is count takes rest_early rest_late =
    took_is (first ∷ early) (second ∷ late) early_left late_left early late taken (Some second) rest_early rest_late (takes second (omega arith))
    (record {
      early_rises = rising_tail first early rising_early;
      late_rises = rising_tail second late rising_late;
      next = both_first first second early late rising_early rising_late (sym is);
    })

-- nothing is taken of no entries
nothing_taken : (len left : ℕ) (taken : Option RenameEntry) → len ≡ 0 → MatchOption taken ((len ≡ 0) × (left ≡ 0)) (λ _. left + 1 ≡ len) → taken ≡ None
nothing_taken len left None none counts = refl
nothing_taken len left (Some entry) none counts =
    let one : left + 1 ≡ len = counts in absurd (omega (arith, one, none))

pub greater_taken : (early late late_left : List RenameEntry) (len left : ℕ) (taken : Option RenameEntry) → KeysRise early → KeysRise late → Greater ≡ order_of_first early late →
    len ≡ length late → TakesFirst late len taken → late_left ≡ drop 1 late → MatchOption taken ((len ≡ 0) × (left ≡ 0)) (λ _. left + 1 ≡ len) → Took early late early late_left taken
unfolding KeysRise
greater_taken [] [] late_left len left taken rising_early rising_late is count takes rest counts =
    took_is [] [] [] late_left [] [] taken None refl rest (nothing_taken len left taken count counts)
    (record { early_rises = tt; late_rises = tt; next = none_left })
greater_taken [] (second ∷ late) late_left len left taken rising_early rising_late is count takes rest counts =
    took_is [] (second ∷ late) [] late_left [] late taken (Some second) refl rest (takes second (omega arith))
    (record { early_rises = rising_early; late_rises = rising_tail second late rising_late; next = rising_first second late rising_late })
greater_taken (first ∷ early) [] late_left len left taken rising_early rising_late is count takes rest counts = absurd (let apart : Greater ≡ Less = is in cc)
greater_taken (first ∷ early) (second ∷ late) late_left len left taken rising_early rising_late is count takes rest counts =
    took_is (first ∷ early) (second ∷ late) (first ∷ early) late_left (first ∷ early) late taken (Some second) refl rest (takes second (omega arith))
    (record {
      early_rises = rising_early;
      late_rises = rising_tail second late rising_late;
      next = greater_first first second early late rising_early rising_late (turned_back first.key second.key (sym is));
    })

-- ---- payloads in halves

pub rising_is : (found entries : List RenameEntry) → found ≡ map_of entries → KeysRise found
rising_is found entries is = subst KeysRise (sym is) (map_rises entries)

-- no entry, and one
pub map_zero : (entries : List RenameEntry) (count : ℕ) → count ≡ 0 → [] ≡ map_of (drop (length entries - count) entries)
map_zero entries count none =
    sym (ap (λ (n : ℕ). map_of (drop n entries)) (let all : length entries - count ≡ length entries = omega arith in all)
    ∙ ap map_of (drop-length entries) ∙ none_left)

pub map_one : (entries : List RenameEntry) (last : RenameEntry) (front : List RenameEntry) (count : ℕ) → entries ≡ front ++ last ∷ [] → count ≡ 1 →
    last ∷ [] ≡ map_of (drop (length entries - count) entries)
map_one entries last front count is one = sym (ap map_of rest ∙ rising_same (last ∷ []) (rising_one last))
  where
    place : length entries - count ≡ length front
    place = omega (arith, ap length is, length-append front (last ∷ []))

    rest : drop (length entries - count) entries ≡ last ∷ []
    rest = ap (λ (n : ℕ). drop n entries) place ∙ ap (drop (length front)) is ∙ drop-append_seam front (last ∷ [])

-- what is taken off the end in two parts is taken off at once
pub parts_left : (entries once twice : List RenameEntry) (count half : ℕ) → half ≤ count → count ≤ length entries → once ≡ take (length entries - half) entries →
    twice ≡ take (length once - (count - half)) once → twice ≡ take (length entries - count) entries
parts_left entries once twice count half few all once_is twice_is =
    twice_is ∙ ap (λ (es : List RenameEntry). take (length es - (count - half)) es) once_is
    ∙ ap (λ (n : ℕ). take n (take (length entries - half) entries)) (omega (arith, length-take (length entries - half) entries))
    ∙ take-take (length entries - count) (length entries - half) entries (omega arith)

pub parts_of : (entries once : List RenameEntry) (early late : List RenameEntry) (count half : ℕ) → half ≤ count → count ≤ length entries → once ≡ take (length entries - half) entries →
    late ≡ map_of (drop (length entries - half) entries) → early ≡ map_of (drop (length once - (count - half)) once) → map_of (early ++ late) ≡ map_of (drop (length entries - count) entries)
parts_of entries once early late count half few all once_is late_is early_is =
    ap (λ (es : List RenameEntry). map_of (es ++ late)) early_is
    ∙ ap (λ (es : List RenameEntry). map_of (map_of (drop (length once - (count - half)) once) ++ es)) late_is
    ∙ halves (drop (length once - (count - half)) once) (drop (length entries - half) entries)
    ∙ ap (λ (es : List RenameEntry). map_of (drop (length es - (count - half)) es ++ drop (length entries - half) entries)) once_is
    ∙ ap (λ (n : ℕ). map_of (drop n (take (length entries - half) entries) ++ drop (length entries - half) entries)) place
    ∙ ap map_of (sym (drop-append-le (length entries - count) (take (length entries - half) entries) (drop (length entries - half) entries) (omega (arith, length-take (length entries - half) entries))))
    ∙ ap (λ (es : List RenameEntry). map_of (drop (length entries - count) es)) (take-append-drop (length entries - half) entries)
  where
    place : length (take (length entries - half) entries) - (count - half) ≡ length entries - count
    place = omega (arith, length-take (length entries - half) entries)

-- all of a list is taken off its end
pub all_taken : (entries : List RenameEntry) (count : ℕ) → count ≡ length entries → drop (length entries - count) entries ≡ entries
all_taken entries count is = ap (λ (n : ℕ). drop n entries) (let none : length entries - count ≡ 0 = omega arith in none)
