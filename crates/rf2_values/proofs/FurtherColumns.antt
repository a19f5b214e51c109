-- Further columns, and the bytes that they are.
use Rattle.std.proofs.Common.{◌≡◌, ◌≢◌, ℕ, zero, suc, ◌+◌, ◌<◌, ◌≤◌, ◌⊎◌, false, eqb, List, [], ◌∷◌, ◌++◌, length, length-append, append_assoc, get_or, take, drop, All, refl, sym, ap, subst, ◌∙◌, inl, inr, arith}
use Rattle.std.specs.List.{slice_split, count_by, AllByRecursion}
use Rattle.std.specs.Str.{IsUtf8}
use Rattle.std.proofs.lemmas.Bool.{cases_eq, ne_eqb, eq-eqb}
use Rattle.std.proofs.lemmas.List.{append-nil, take_at, drop_at, get_or_at}
use Rattle.std.proofs.lemmas.List.Elements.{All-nil, All-cons, All-append, All-take, All-drop}
use Rattle.std.proofs.lemmas.List.Splits.{slice_split_none, slice_split_at, slice_split-cons_yes, length-slice_split, join_with_byte-slice_split}
use Rattle.std.proofs.lemmas.Str.{IsUtf8-take, IsUtf8-drop, IsUtf8-nil, IsUtf8-append, IsUtf8-from_ascii, IsCharBoundary-before_ascii, IsCharBoundary-after_ascii}
use Rattle.std.proofs.lemmas.Str.Ascii.{IsAscii-from_all}
use Rattle.rf2_values.specs.Text.{IsColumn, IsFurther, further_columns}
use Rattle.rf2_values.specs.Private.{columns_len, tabbed}
use Rattle.rf2_values.specs.Row.{line_of}

-- ---- columns after TABs, and columns that TABs part

pub tabbed_line : (t : List ℕ) (ts : List (List ℕ)) → tabbed (t ∷ ts) ≡ 9 ∷ line_of (t ∷ ts)
tabbed_line t [] = append-nil (9 ∷ t)
tabbed_line t (u ∷ us) = ap (λ (rest : List ℕ). 9 ∷ (t ++ rest)) (tabbed_line u us)

some_tabbed : (parts : List (List ℕ)) → 0 < length parts → tabbed parts ≡ 9 ∷ line_of parts
some_tabbed [] lt = absurd (omega arith)
some_tabbed (t ∷ ts) lt = tabbed_line t ts

tabbed_parts : (bytes : List ℕ) → tabbed (slice_split (λ b. eqb b 9) bytes) ≡ 9 ∷ bytes
tabbed_parts bytes =
    let count = length-slice_split (λ b. eqb b 9) bytes in
    some_tabbed (slice_split (λ b. eqb b 9) bytes) (omega arith) ∙ ap (λ (x : List ℕ). 9 ∷ x) (join_with_byte-slice_split 9 bytes)

-- further columns, each after a TAB, are the bytes
pub tabbed_further : (bytes : List ℕ) → IsFurther bytes → tabbed (further_columns bytes) ≡ bytes
tabbed_further [] h = refl
tabbed_further (b ∷ bytes) h =
    elim h.front [
      | inl none ↦ absurd (cc)
      | inr found ↦ let first : b ≡ 9 = cc in tabbed_parts bytes ∙ ap (λ (x : ℕ). x ∷ bytes) (sym first)
    ]

length_tabbed : (columns : List (List ℕ)) → length (tabbed columns) ≡ columns_len columns
length_tabbed [] = refl
length_tabbed (c ∷ cs) = omega (arith, length-append (9 ∷ c) (tabbed cs), length_tabbed cs)

pub further_length : (bytes : List ℕ) → columns_len (further_columns bytes) ≡ length bytes
further_length [] = refl
further_length (b ∷ bytes) = sym (length_tabbed (further_columns (b ∷ bytes))) ∙ ap length (tabbed_parts bytes)

-- ---- what the columns may hold

-- the bytes up to the first TAB, and those after it, or no TAB
first_tab : (bs : List ℕ) → ((xs : List ℕ) × (rest : List ℕ) × All (λ b. b ≢ 9) xs × (bs ≡ xs ++ 9 ∷ rest)) ⊎ All (λ b. b ≢ 9) bs
first_tab [] = inr (All-nil (λ (b : ℕ). b ≢ 9))
first_tab (b ∷ bs) =
    elim (cases_eq b 9) [
      | inl tab ↦ inl ([], bs, All-nil (λ (b : ℕ). b ≢ 9), ap (λ (x : ℕ). x ∷ bs) tab)
      | inr other ↦
          elim (first_tab bs) [
            | inl found ↦ inl (b ∷ found.0, found.1, All-cons (λ b. b ≢ 9) b found.0 other found.2, ap (λ (x : List ℕ). b ∷ x) found.3)
            | inr free ↦ inr (All-cons (λ b. b ≢ 9) b bs other free)
          ]
    ]

free : (xs : List ℕ) → All (λ b. b ≢ 9) xs → All (λ b. eqb b 9 ≡ false) xs
free xs h = λ k d l. ne_eqb _ 9 (h k d l)

-- what is known of a text's parts round its first TAB
module _ (text xs rest : List ℕ) (cut : text ≡ xs ++ 9 ∷ rest) (utf8 : IsUtf8 text) where
  inside : length xs < length text
  inside = let long = length-append xs (9 ∷ rest) in let whole : length text ≡ length (xs ++ 9 ∷ rest) = ap length cut in omega arith

  tab : get_or text (length xs) 0 < 128
  tab = let is : get_or text (length xs) 0 ≡ 9 = ap (λ (t : List ℕ). get_or t (length xs) 0) cut ∙ get_or_at xs 9 rest 0 (length xs) (omega arith) in omega arith

  front_is : take (length xs) text ≡ xs
  front_is = ap (λ (t : List ℕ). take (length xs) t) cut ∙ take_at xs (9 ∷ rest) (length xs) refl

  rest_is : drop (length xs + 1) text ≡ rest
  rest_is =
      let long = length-append xs (9 ∷ []) in
      ap (λ (t : List ℕ). drop (length xs + 1) t) (cut ∙ sym (append_assoc xs (9 ∷ []) rest)) ∙ drop_at (xs ++ 9 ∷ []) rest (length xs + 1) (omega arith)

  front_utf8 : IsUtf8 xs
  front_utf8 = subst IsUtf8 front_is (IsUtf8-take text (length xs) utf8 (IsCharBoundary-before_ascii text (length xs) inside tab))

  rest_utf8 : IsUtf8 rest
  rest_utf8 = subst IsUtf8 rest_is (IsUtf8-drop text (length xs + 1) utf8 (IsCharBoundary-after_ascii text (length xs) utf8 inside tab))

columns_from : (most : ℕ) (text : List ℕ) → length text ≤ most → IsUtf8 text → All (λ b. b ≢ 10) text → AllByRecursion IsColumn (slice_split (λ b. eqb b 9) text)
columns_from zero text le utf8 no_lf =
    let none : All (λ b. b ≢ 9) text = λ k d l. absurd (omega arith) in
    subst (λ (ts : List (List ℕ)). AllByRecursion IsColumn ts) (sym (slice_split_none (λ b. eqb b 9) text (free text none))) (record { utf8 = utf8; no_tab = none; no_lf = no_lf }, tt)
columns_from (suc most) text le utf8 no_lf =
    elim (first_tab text) [
      | inr none ↦
          subst (λ (ts : List (List ℕ)). AllByRecursion IsColumn ts) (sym (slice_split_none (λ b. eqb b 9) text (free text none))) (record { utf8 = utf8; no_tab = none; no_lf = no_lf }, tt)
      | inl found ↦
          let xs = found.0 in
          let rest = found.1 in
          let cut = found.3 in
          let short = inside text xs rest cut utf8 in
          let long : length text ≡ length (xs ++ 9 ∷ rest) = ap length cut in
          let parts = length-append xs (9 ∷ rest) in
          let here : IsColumn xs = record {
            utf8 = front_utf8 text xs rest cut utf8;
            no_tab = found.2;
            no_lf = subst (λ (t : List ℕ). All (λ b. b ≢ 10) t) (front_is text xs rest cut utf8) (All-take (λ b. b ≢ 10) (length xs) text no_lf);
          } in
          let later = columns_from most rest (omega arith) (rest_utf8 text xs rest cut utf8) (subst (λ (t : List ℕ). All (λ b. b ≢ 10) t) (rest_is text xs rest cut utf8) (All-drop (λ b. b ≢ 10) (length xs + 1) text no_lf)) in
          let split : slice_split (λ b. eqb b 9) text ≡ xs ∷ slice_split (λ b. eqb b 9) rest = ap (λ (t : List ℕ). slice_split (λ b. eqb b 9) t) cut ∙ slice_split_at (λ b. eqb b 9) xs 9 rest (free xs found.2) (eq-eqb 9 9 refl) in
          subst (λ (ts : List (List ℕ)). AllByRecursion IsColumn ts) (sym split) (here, later)
    ]

one_byte_utf8 : IsUtf8 (9 ∷ [])
one_byte_utf8 = IsUtf8-from_ascii (9 ∷ []) (IsAscii-from_all (9 ∷ []) (All-cons (λ x. x < 128) 9 [] (omega arith) (λ k x l. absurd (omega arith))))

-- each of the further columns is one
pub each_is_column : (bytes : List ℕ) → IsFurther bytes → AllByRecursion IsColumn (further_columns bytes)
each_is_column [] h = tt
each_is_column (b ∷ bytes) h =
    elim h.front [
      | inl none ↦ absurd (cc)
      | inr found ↦
          let first : b ≡ 9 = cc in
          let no_lf = All-drop (λ b. b ≢ 10) 1 (b ∷ bytes) h.no_lf in
          let utf8 = IsUtf8-drop (b ∷ bytes) 1 h.utf8 (IsCharBoundary-after_ascii (b ∷ bytes) 0 h.utf8 (omega arith) (omega arith)) in
          columns_from (length bytes) bytes (omega arith) utf8 no_lf
    ]

-- columns, each after a TAB, are further columns
pub columns_are_further : (columns : List (List ℕ)) → AllByRecursion IsColumn columns → IsFurther (tabbed columns)
columns_are_further [] h = record { front = inl refl; utf8 = IsUtf8-nil; no_lf = All-nil (λ (b : ℕ). b ≢ 10) }
columns_are_further (c ∷ cs) h =
    let later = columns_are_further cs h.1 in
    record {
      front = inr (c ++ tabbed cs, refl);
      utf8 = IsUtf8-append (9 ∷ []) (c ++ tabbed cs) one_byte_utf8 (IsUtf8-append c (tabbed cs) h.0.utf8 later.utf8);
      no_lf = All-cons (λ b. b ≢ 10) 9 (c ++ tabbed cs) (λ (e : ◌≡◌ {A = ℕ} 9 10). absurd (omega arith)) (All-append (λ b. b ≢ 10) c (tabbed cs) h.0.no_lf later.no_lf);
    }

-- they are the columns that were put together
pub further_tabbed : (columns : List (List ℕ)) → AllByRecursion IsColumn columns → further_columns (tabbed columns) ≡ columns
further_tabbed [] h = refl
further_tabbed (c ∷ cs) h = ap further_columns (tabbed_line c cs) ∙ parts_joined c cs h.0 h.1
  where
    parts_joined : (c : List ℕ) (cs : List (List ℕ)) → IsColumn c → AllByRecursion IsColumn cs → slice_split (λ b. eqb b 9) (line_of (c ∷ cs)) ≡ c ∷ cs
    parts_joined c [] h hs = slice_split_none (λ b. eqb b 9) c (free c h.no_tab)
    parts_joined c (d ∷ ds) h hs =
        slice_split_at (λ b. eqb b 9) c 9 (line_of (d ∷ ds)) (free c h.no_tab) (eq-eqb 9 9 refl) ∙ ap (λ (x : List (List ℕ)). c ∷ x) (parts_joined d ds hs.0 hs.1)

-- there are as many as TABs
pub count_further : (bytes : List ℕ) → IsFurther bytes → count_by (λ b. eqb b 9) bytes ≡ length (further_columns bytes)
count_further [] h = refl
count_further (b ∷ bytes) h =
    elim h.front [
      | inl none ↦ absurd (cc)
      | inr found ↦
          let first : b ≡ 9 = cc in
          let whole = length-slice_split (λ b. eqb b 9) (9 ∷ bytes) in
          let cut = slice_split-cons_yes (λ b. eqb b 9) 9 bytes (eq-eqb 9 9 refl) in
          let parts : length (slice_split (λ b. eqb b 9) (9 ∷ bytes)) ≡ length ([] ∷ slice_split (λ b. eqb b 9) bytes) = ap length cut in
          subst (λ (x : ℕ). count_by (λ b. eqb b 9) (x ∷ bytes) ≡ length (slice_split (λ b. eqb b 9) bytes)) (sym first) (omega arith)
    ]
