-- Postings by their entries.
use Rattle.std.proofs.Common.{◌≡◌, ℕ, zero, suc, ◌+◌, ◌<◌, ◌≤◌, false, List, [], ◌∷◌, ◌++◌, length, take, drop, map, refl, ap, subst, arith, length-drop}
use Rattle.std.specs.List.{AllByRecursion}
use Rattle.std.specs.Ordering.{nat_cmp, is_lt}
use Rattle.std.specs.Cmp.Lexicographic.{slice_cmp}
use Rattle.history_model.specs.InOrder.{Has}
use Rattle.history_model.proofs.Filtered.{Has-map, Has-map_from}
use Rattle.history_model.proofs.Items.{Has-flat_map, Has-flat_map_from}
use Rattle.term_prefix.specs.Terms.{TermAt, TextsRise}
use Rattle.term_words.specs.declared.listing.Entry.{Entry}
use Rattle.term_words.specs.Posted.{keyed}
use Rattle.term_words.specs.Laid.{key_in, rows_of, entry_postings, postings_in}
use Rattle.term_words.specs.Private.Chains.{AreChained, AreEntries}
use Rattle.term_words.specs.Private.{KeysRise, entry_keys}
use Rattle.term_words.proofs.Chained.{chain_end}

-- a posting is of an entry, and each row of an entry is posted
pub posting_entry : (text rows : List ℕ) (entries : List Entry) (t : TermAt) → Has (postings_in text entries rows) t → (e : Entry) × Has entries e × Has (rows_of rows e) t.row × (key_in text e.key ≡ t.folded)
posting_entry text rows entries t h =
    let m = Has-flat_map (entry_postings text rows) entries t h in
    let r = Has-map (λ row. keyed row (key_in text m.0.key)) (rows_of rows m.0) t m.2 in
    (m.0, m.1, subst (λ n. Has (rows_of rows m.0) n) (ap (λ (x : TermAt). x.row) r.2) r.1, ap (λ (x : TermAt). x.folded) r.2)

pub entry_posting : (text rows : List ℕ) (entries : List Entry) (e : Entry) (row : ℕ) → Has entries e → Has (rows_of rows e) row → Has (postings_in text entries rows) (keyed row (key_in text e.key))
entry_posting text rows entries e row h k =
    Has-flat_map_from (entry_postings text rows) entries e (keyed row (key_in text e.key)) h (Has-map_from (λ r. keyed r (key_in text e.key)) (rows_of rows e) row k)

-- ---- the keys of entries rise with the postings

all-behind : (P : TermAt → Type 0) (xs ys : List TermAt) → AllByRecursion P (xs ++ ys) → AllByRecursion P ys
all-behind P [] ys h = h
all-behind P (x ∷ xs) ys h = all-behind P xs ys h.1

pub rise-behind : (xs ys : List TermAt) → TextsRise (xs ++ ys) → TextsRise ys
rise-behind [] ys up = up
rise-behind (x ∷ xs) ys up = rise-behind xs ys up.1

-- an entry has a first posting
record HasFirst (text rows : List ℕ) (e : Entry) : Type 0 where
  row : ℕ
  rest : List TermAt
  postings_are : entry_postings text rows e ≡ keyed row (key_in text e.key) ∷ rest

first_posting : (text rows : List ℕ) (e : Entry) → 0 < e.count → e.first + e.count ≤ length rows → HasFirst text rows e
first_posting text rows e some within =
    let w = first (λ row. keyed row (key_in text e.key)) (drop e.first rows) e.count some (let size = length-drop e.first rows in omega (arith, size)) in
    record { row = w.0; rest = w.1; postings_are = w.2 } where
      first : (f : ℕ → TermAt) (xs : List ℕ) (n : ℕ) → 0 < n → n ≤ length xs → (row : ℕ) × (rest : List TermAt) × (map f (take n xs) ≡ f row ∷ rest)
      first f xs zero some le = absurd (omega arith)
      first f [] (suc n) some le = absurd (omega arith)
      first f (x ∷ xs) (suc n) some le = (x, map f (take n xs), refl)

abbrev over : List ℕ → TermAt → Type 0
over key u = is_lt (slice_cmp nat_cmp u.folded key) ≡ false

-- none of the keys is less than one that none of the postings is less than
keys-over : (text rows key : List ℕ) (from : ℕ) (entries : List Entry) (end : ℕ) → AreChained from entries end → end ≤ length rows → AllByRecursion (over key) (postings_in text entries rows) → AllByRecursion (over key) (map (keyed 0) (entry_keys text entries))
keys-over text rows key from [] end chain within h = tt
keys-over text rows key from (e ∷ entries) end chain within h =
    let le = chain_end (from + e.count) entries end chain.2 in
    let first = chain.0 in
    let w = first_posting text rows e chain.1 (omega (arith, first, le)) in
    let own = subst (λ ts. AllByRecursion (over key) (ts ++ postings_in text entries rows)) w.postings_are h in
    (own.0, keys-over text rows key (from + e.count) entries end chain.2 within (all-behind (over key) (entry_postings text rows e) (postings_in text entries rows) h))

keys-rise : (text rows : List ℕ) (from : ℕ) (entries : List Entry) (end : ℕ) → AreChained from entries end → end ≤ length rows → TextsRise (postings_in text entries rows) → KeysRise (entry_keys text entries)
keys-rise text rows from [] end chain within up = tt
keys-rise text rows from (e ∷ entries) end chain within up =
    let le = chain_end (from + e.count) entries end chain.2 in
    let first = chain.0 in
    let w = first_posting text rows e chain.1 (omega (arith, first, le)) in
    let own = subst (λ ts. TextsRise (ts ++ postings_in text entries rows)) w.postings_are up in
    let key = key_in text e.key in (
      keys-over text rows key (from + e.count) entries end chain.2 within (all-behind (over key) w.rest (postings_in text entries rows) own.0),
      keys-rise text rows (from + e.count) entries end chain.2 within (rise-behind (entry_postings text rows e) (postings_in text entries rows) up),
    )

pub entries_rise : (text rows : List ℕ) (entries : List Entry) → AreEntries text entries rows → TextsRise (postings_in text entries rows) → KeysRise (entry_keys text entries)
entries_rise text rows entries are up = keys-rise text rows 0 entries (length rows) are.chained (omega arith) up
