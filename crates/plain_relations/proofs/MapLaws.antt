-- Maps of entries: their keys rise, each has the value of its last entry, and no other list has both.
use Rattle.std.proofs.Common.{◌≡◌, ℕ, false, List, [], ◌∷◌, Option, None, Some, refl, sym, ap, ◌∙◌, subst}
use Rattle.std.specs.Prelude.{IsTrue, if◌then◌else◌}
use Rattle.std.specs.List.{AllByRecursion}
use Rattle.std.specs.Option.{option_or}
use Rattle.std.specs.declared.cmp.Ordering.{Ordering}
use Rattle.std.specs.declared.cmp.Ordering.TheVariants.{Less, Equal, Greater}
use Rattle.std.specs.Ordering.{nat_cmp, is_lt, is_eq, ordering_reverse}
use Rattle.std.specs.Cmp.Lexicographic.{slice_cmp}
use Rattle.std.proofs.lemmas.Cmp.{nat_list_cmp_total, tied_itself}
use Rattle.std.proofs.lemmas.Map.Lookups.{exact_bytes}
use Rattle.proto_fields.specs.Readings.{last_some}
use Rattle.proto_fields.proofs.ReadingLemmas.{option_or-none}
use Rattle.plain_relations.specs.declared.rename_entry.RenameEntry.{RenameEntry}
use Rattle.plain_relations.specs.Maps.{put_before, map_of, KeysRise, value_of, IsMapOf}
use Rattle.plain_relations.specs.Rising.{order, turned_back, IsBelow, lower_below, rising_tail, rising_below, put_less, put_equal, put_greater, map_rises}

-- ---- keys

pub turned : (first second : List ℕ) → order first second ≡ Less → order second first ≡ Greater
turned first second less = nat_list_cmp_total.antisymm second first ∙ ap ordering_reverse less

pub same_below : (first second : List ℕ) (entries : List RenameEntry) → order first second ≡ Equal → IsBelow first entries → IsBelow second entries
same_below first second [] same below = tt
same_below first second (entry ∷ entries) same below =
    (sym (nat_list_cmp_total.congr first second entry.key same) ∙ below.0, same_below first second entries same below.1)

-- ---- the value of a key

-- what one entry says of it
abbrev pub value_in : List ℕ → RenameEntry → Option (List ℕ)
value_in key entry = if is_eq (slice_cmp nat_cmp entry.key key) then Some entry.value else None

apart_value : (key : List ℕ) (entry : RenameEntry) (o : Ordering) → order entry.key key ≡ o → is_eq o ≡ false → value_in key entry ≡ None
apart_value key entry o is apart = rw (is, apart) refl

tied_value : (key : List ℕ) (entry : RenameEntry) → order entry.key key ≡ Equal → value_in key entry ≡ Some entry.value
tied_value key entry is = rw is refl

-- one of two that say nothing of it may be left out, or change places
swapped : (a b c : Option (List ℕ)) → b ≡ None → option_or (option_or a b) c ≡ option_or (option_or a c) b
swapped a b c none = ap (λ (o : Option (List ℕ)). option_or (option_or a o) c) none ∙ ap (λ (o : Option (List ℕ)). option_or o c) (option_or-none a)
    ∙ sym (ap (option_or (option_or a c)) none ∙ option_or-none (option_or a c))

-- of two entries with rising keys one at least says nothing of it
swapped_by : (key : List ℕ) (first second : RenameEntry) (found : Option (List ℕ)) → order first.key second.key ≡ Greater →
    option_or (option_or found (value_in key first)) (value_in key second) ≡ option_or (option_or found (value_in key second)) (value_in key first)
swapped_by key first second found greater = by (order first.key key) refl
  where
    by : (o : Ordering) → order first.key key ≡ o → option_or (option_or found (value_in key first)) (value_in key second) ≡ option_or (option_or found (value_in key second)) (value_in key first)
    by Less is = swapped found (value_in key first) (value_in key second) (apart_value key first Less is refl)
    by Greater is = swapped found (value_in key first) (value_in key second) (apart_value key first Greater is refl)
    by Equal is =
        let above : order key second.key ≡ Greater = sym (nat_list_cmp_total.congr first.key key second.key is) ∙ greater in
        sym (swapped found (value_in key second) (value_in key first) (apart_value key second Less (turned_back key second.key above) refl))

-- of two entries with one key the later one counts
hidden_by : (key : List ℕ) (first second : RenameEntry) (found : Option (List ℕ)) → order first.key second.key ≡ Equal →
    option_or found (value_in key second) ≡ option_or (option_or found (value_in key second)) (value_in key first)
hidden_by key first second found same = by (order first.key key) refl
  where
    some : (a : Option (List ℕ)) (value : List ℕ) (c : Option (List ℕ)) → option_or a (Some value) ≡ option_or (option_or a (Some value)) c
    some None value c = refl
    some (Some x) value c = refl

    apart : value_in key first ≡ None → option_or found (value_in key second) ≡ option_or (option_or found (value_in key second)) (value_in key first)
    apart none = sym (ap (option_or (option_or found (value_in key second))) none ∙ option_or-none (option_or found (value_in key second)))

    by : (o : Ordering) → order first.key key ≡ o → option_or found (value_in key second) ≡ option_or (option_or found (value_in key second)) (value_in key first)
    by Less is = apart (apart_value key first Less is refl)
    by Greater is = apart (apart_value key first Greater is refl)
    by Equal is =
        let tied = tied_value key second (sym (nat_list_cmp_total.congr first.key second.key key same) ∙ is) in
        ap (option_or found) tied ∙ some found second.value (value_in key first)
        ∙ sym (ap (λ (o : Option (List ℕ)). option_or (option_or found o) (value_in key first)) tied)

value_put : (key : List ℕ) (entry : RenameEntry) (map : List RenameEntry) → value_of key (put_before entry map) ≡ option_or (value_of key map) (value_in key entry)
unfolding put_before last_some
value_put key entry [] = refl
value_put key entry (next ∷ others) = by (order entry.key next.key) refl (value_put key entry others)
  where
    by : (o : Ordering) → order entry.key next.key ≡ o → value_of key (put_before entry others) ≡ option_or (value_of key others) (value_in key entry) →
        value_of key (put_before entry (next ∷ others)) ≡ option_or (value_of key (next ∷ others)) (value_in key entry)
    by Less is inner = ap (value_of key) (put_less entry next others is)
    by Equal is inner = ap (value_of key) (put_equal entry next others is) ∙ hidden_by key entry next (value_of key others) is
    by Greater is inner =
        ap (value_of key) (put_greater entry next others is)
        ∙ ap (λ (o : Option (List ℕ)). option_or o (value_in key next)) inner
        ∙ swapped_by key entry next (value_of key others) is

-- ---- maps of entries

pub map_value : (key : List ℕ) (entries : List RenameEntry) → value_of key (map_of entries) ≡ value_of key entries
unfolding map_of last_some
map_value key [] = refl
map_value key (entry ∷ later) =
    value_put key entry (map_of later) ∙ ap (λ (o : Option (List ℕ)). option_or o (value_in key entry)) (map_value key later)

pub is_map : (entries : List RenameEntry) → IsMapOf entries (map_of entries)
is_map entries = record { rising = map_rises entries; same = λ key. map_value key entries }

-- ---- and no other list is

below_none : (key : List ℕ) (entries : List RenameEntry) → IsBelow key entries → value_of key entries ≡ None
unfolding last_some
below_none key [] below = refl
below_none key (entry ∷ entries) below =
    ap (λ (o : Option (List ℕ)). option_or o (value_in key entry)) (below_none key entries below.1)
    ∙ apart_value key entry Greater (turned key entry.key below.0) refl

-- the value of a first key
first_value : (entry : RenameEntry) (entries : List RenameEntry) → KeysRise (entry ∷ entries) → value_of entry.key (entry ∷ entries) ≡ Some entry.value
unfolding last_some
first_value entry entries rising =
    ap (λ (o : Option (List ℕ)). option_or o (value_in entry.key entry)) (below_none entry.key entries (rising_below entry entries rising))
    ∙ tied_value entry.key entry (tied_itself nat_list_cmp_total entry.key)

no_value : (value : List ℕ) → None ≡ Some value → ⊥
no_value value is = cc

empty_value : (key : List ℕ) → value_of key [] ≡ None
unfolding last_some
empty_value key = refl

-- what is said of a key besides a first entry
besides : (key : List ℕ) (entry : RenameEntry) (entries : List RenameEntry) → is_eq (order entry.key key) ≡ false → value_of key (entry ∷ entries) ≡ value_of key entries
unfolding last_some
besides key entry entries apart =
    ap (option_or (value_of key entries)) (apart_value key entry (order entry.key key) refl apart) ∙ option_or-none (value_of key entries)

same_entry : (first second : RenameEntry) → first.key ≡ second.key → first.value ≡ second.value → first ≡ second
same_entry first second key_is value_is = by first.key first.value key_is value_is
  where
    by : (key value : List ℕ) → key ≡ second.key → value ≡ second.value → ◌≡◌ {A = RenameEntry} (record { key = key; value = value }) second
    by key value key_is value_is = rw (key_is, value_is) refl

tails_same : (first second : RenameEntry) (a b : List RenameEntry) → KeysRise (first ∷ a) → KeysRise (second ∷ b) → first ≡ second →
    ((key : List ℕ) → value_of key (first ∷ a) ≡ value_of key (second ∷ b)) → (key : List ℕ) → value_of key a ≡ value_of key b
tails_same first second a b rising_a rising_b same values key = by (order first.key key) refl
  where
    second_is : order second.key key ≡ order first.key key
    second_is = ap (λ (e : RenameEntry). order e.key key) (sym same)

    apart : is_eq (order first.key key) ≡ false → value_of key a ≡ value_of key b
    apart differs =
        sym (besides key first a differs) ∙ values key ∙ besides key second b (ap is_eq second_is ∙ differs)

    by : (o : Ordering) → order first.key key ≡ o → value_of key a ≡ value_of key b
    by Less is = apart (ap is_eq is)
    by Greater is = apart (ap is_eq is)
    by Equal is =
        below_none key a (same_below first.key key a is (rising_below first a rising_a))
        ∙ sym (below_none key b (same_below second.key key b (second_is ∙ is) (rising_below second b rising_b)))

some_inj : (a b : List ℕ) → ◌≡◌ {A = Option (List ℕ)} (Some a) (Some b) → a ≡ b
some_inj a b same = cc

-- a lower first key is in no map whose first key is above it
lower_value : (first second : RenameEntry) (a b : List RenameEntry) → KeysRise (first ∷ a) → KeysRise (second ∷ b) → order first.key second.key ≡ Less →
    value_of first.key (first ∷ a) ≡ value_of first.key (second ∷ b) → ⊥
lower_value first second a b rising_a rising_b less same =
    no_value first.value (sym (below_none first.key (second ∷ b) (less, lower_below first.key second.key b less (rising_below second b rising_b))) ∙ sym same ∙ first_value first a rising_a)

same_maps : (a b : List RenameEntry) → KeysRise a → KeysRise b → ((key : List ℕ) → value_of key a ≡ value_of key b) → a ≡ b
same_maps [] [] rising_a rising_b values = refl
same_maps [] (second ∷ b) rising_a rising_b values =
    absurd (no_value second.value (sym (empty_value second.key) ∙ values second.key ∙ first_value second b rising_b))
same_maps (first ∷ a) [] rising_a rising_b values =
    absurd (no_value first.value (sym (empty_value first.key) ∙ sym (values first.key) ∙ first_value first a rising_a))
same_maps (first ∷ a) (second ∷ b) rising_a rising_b values =
    by (order first.key second.key) refl (λ same. same_maps a b (rising_tail first a rising_a) (rising_tail second b rising_b) (tails_same first second a b rising_a rising_b same values))
  where
    firsts : order first.key second.key ≡ Equal → first ≡ second
    firsts is =
        let key_is : first.key ≡ second.key = exact_bytes first.key second.key is in
        let value_is = sym (first_value first a rising_a) ∙ values first.key ∙ ap (λ (k : List ℕ). value_of k (second ∷ b)) key_is ∙ first_value second b rising_b in
        same_entry first second key_is (some_inj first.value second.value value_is)

    by : (o : Ordering) → order first.key second.key ≡ o → (first ≡ second → a ≡ b) → first ∷ a ≡ second ∷ b
    by Less is tails = absurd (lower_value first second a b rising_a rising_b is (values first.key))
    by Greater is tails = absurd (lower_value second first b a rising_b rising_a (turned_back first.key second.key is) (sym (values second.key)))
    by Equal is tails =
        let same = firsts is in
        ap (λ (e : RenameEntry). e ∷ a) same ∙ ap (λ (es : List RenameEntry). second ∷ es) (tails same)

pub one_map : (entries map : List RenameEntry) → IsMapOf entries map → map ≡ map_of entries
one_map entries map is = same_maps map (map_of entries) is.rising (map_rises entries) (λ key. is.same key ∙ sym (map_value key entries))
