-- Different keys with numbers, and postings that are added.
use Rattle.std.proofs.Common.{◌≡◌, ℕ, zero, suc, ◌+◌, ◌<◌, ◌≤◌, List, [], ◌∷◌, ◌++◌, length, take, map, refl, sym, ap, subst, ◌∙◌, arith, append_assoc, append-nil}
use Rattle.std.specs.Prelude.{Some, slice_get, slice_index_or, Result, Ok, Err, OnOk, OnErr}
use Rattle.std.specs.Option.{option_map}
use Rattle.std.specs.List.{AllByRecursion}
use Rattle.std.proofs.lemmas.List.{length-append, get_or_append_left, map_push, take_more}
use Rattle.std.proofs.lemmas.Option.{get_or_from_slice_get, slice_get_within, slice_get-get_or, slice_get-map}
use Rattle.term_prefix.specs.Terms.{TermAt}
use Rattle.term_words.specs.declared.keys.KeyAt.{KeyAt}
use Rattle.term_words.specs.declared.postings.Pushed.{Pushed}
use Rattle.term_words.specs.Posted.{keyed}
use Rattle.term_words.specs.Laid.{key_in, keys_in, EachEndsWithin, pushed_in, all_pushed_in, ArePushed}
use Rattle.term_words.specs.Private.{IsLaid, KeepsKeys, IsPostedWith}
use Rattle.term_words.proofs.Chained.{keys-append, each-later, each-push}

length_mapped : {X Y : Type 0} (f : X → Y) (xs : List X) → length (map f xs) ≡ length xs
length_mapped f [] = refl
length_mapped f (x ∷ xs) = ap suc (length_mapped f xs)

-- ---- keys

get-last : {X : Type 0} (xs : List X) (x : X) → slice_get (xs ++ x ∷ []) (length xs) ≡ Some x
get-last [] x = refl
get-last (y ∷ xs) x = get-last xs x

pub keys_more : (text text' key : List ℕ) (keys : List KeyAt) (at : KeyAt) → EachEndsWithin (length text) keys → IsLaid text key text' at → keys_in text' (keys ++ at ∷ []) ≡ keys_in text keys ++ key ∷ []
keys_more text text' key keys at h laid =
    map_push (key_in text') keys at
    ∙ (λ i. (ap (λ t. keys_in t keys) laid.text_is ∙ keys-append text laid.added keys h) i ++ laid.same i ∷ [])

longer : (text text' key : List ℕ) (at : KeyAt) → IsLaid text key text' at → length text ≤ length text'
longer text text' key at laid = let a = ap (λ (xs : List ℕ). length xs) laid.text_is in let b = length-append text laid.added in omega (arith, a, b)

pub key_numbered : (text text' key : List ℕ) (keys : List KeyAt) (at : KeyAt) → EachEndsWithin (length text) keys → IsLaid text key text' at → slice_get (keys_in text' (keys ++ at ∷ [])) (length keys) ≡ Some key
key_numbered text text' key keys at h laid =
    ap (λ ks. slice_get ks (length keys)) (keys_more text text' key keys at h laid)
    ∙ ap (slice_get (keys_in text keys ++ key ∷ [])) (sym (length_mapped (key_in text) keys))
    ∙ get-last (keys_in text keys) key

pub keys_kept : (text text' key : List ℕ) (keys : List KeyAt) (at : KeyAt) → IsLaid text key text' at → KeepsKeys text keys text' (keys ++ at ∷ [])
keys_kept text text' key keys at laid h = (
  each-push (length text') keys at (each-later (length text) (length text') keys (longer text text' key at laid) h) laid.within,
  (key ∷ [], keys_more text text' key keys at h laid),
)

pub same_keys : (text : List ℕ) (keys : List KeyAt) → KeepsKeys text keys text keys
same_keys text keys h = (h, ([], sym (append-nil (keys_in text keys))))

-- the key with a number, as it is read
pub key_there : (text : List ℕ) (keys : List KeyAt) (number : ℕ) (all : List (List ℕ)) (at : KeyAt) (key : List ℕ) → keys_in text keys ≡ all → number < length all → at ≡ slice_index_or keys number at → key ≡ key_in text at → slice_get all number ≡ Some key
key_there text keys number all at key are lt is key_is =
    let many = length_mapped (key_in text) keys in
    let same = ap (λ (ks : List (List ℕ)). length ks) are in
    let within : number < length keys = omega (arith, many, same, lt) in
    ap (λ ks. slice_get ks number) (sym are) ∙ slice_get-map (key_in text) keys number
    ∙ ap (option_map (key_in text)) (slice_get-get_or keys number at within ∙ ap Some (sym is)) ∙ ap Some (sym key_is)

-- ---- postings

kept_pushed : (keys more : List (List ℕ)) (pushed : List Pushed) → AllByRecursion (λ (p : Pushed). p.key < length keys) pushed → all_pushed_in (keys ++ more) pushed ≡ all_pushed_in keys pushed
kept_pushed keys more [] h = refl
kept_pushed keys more (p ∷ pushed) h =
    let one : pushed_in (keys ++ more) p ≡ pushed_in keys p = ap (keyed p.row) (get_or_append_left keys more [] p.key h.0) in
    let rest = kept_pushed keys more pushed h.1 in
    λ i. one i ∷ rest i

each-later_key : (count later : ℕ) (pushed : List Pushed) → count ≤ later → AllByRecursion (λ (p : Pushed). p.key < count) pushed → AllByRecursion (λ (p : Pushed). p.key < later) pushed
each-later_key count later [] le h = tt
each-later_key count later (p ∷ pushed) le h = (let lt = h.0 in omega (arith, lt), each-later_key count later pushed le h.1)

all-push : {X : Type 0} (P : X → Type 0) (xs : List X) (x : X) → AllByRecursion P xs → P x → AllByRecursion P (xs ++ x ∷ [])
all-push P [] x h k = (k, tt)
all-push P (y ∷ xs) x h k = (h.0, all-push P xs x h.1 k)

many_keys : (text text' : List ℕ) (keys keys' : List KeyAt) (more : List (List ℕ)) → keys_in text' keys' ≡ keys_in text keys ++ more → length keys ≤ length keys'
many_keys text text' keys keys' more e =
    let a = ap (λ (ks : List (List ℕ)). length ks) e in
    let b = length-append (keys_in text keys) more in
    let m = length_mapped (key_in text) keys in
    let n = length_mapped (key_in text') keys' in
    omega (arith, a, b, m, n)

-- keys were added, and no posting
pub kept_postings : (text text' : List ℕ) (keys keys' : List KeyAt) (pushed : List Pushed) → ArePushed text keys pushed → KeepsKeys text keys text' keys' → IsPostedWith text keys pushed [] text' keys' pushed
kept_postings text text' keys keys' pushed are keeps =
    let w = keeps are.within in
    let le = many_keys text text' keys keys' w.1.0 w.1.1 in
    let size = length_mapped (key_in text) keys in
    record {
      are = record { within = w.0; numbered = each-later_key (length keys) (length keys') pushed le are.numbered };
      same =
          ap (λ ks. all_pushed_in ks pushed) w.1.1
          ∙ kept_pushed (keys_in text keys) w.1.0 pushed (subst (λ n. AllByRecursion (λ (p : Pushed). p.key < n) pushed) (sym size) are.numbered)
          ∙ sym (append-nil (all_pushed_in (keys_in text keys) pushed));
    }

pub posted_both : (text text' text'' : List ℕ) (keys keys' keys'' : List KeyAt) (pushed pushed' pushed'' : List Pushed) (xs ys : List TermAt)
    → IsPostedWith text keys pushed xs text' keys' pushed' → IsPostedWith text' keys' pushed' ys text'' keys'' pushed'' → IsPostedWith text keys pushed (xs ++ ys) text'' keys'' pushed''
posted_both text text' text'' keys keys' keys'' pushed pushed' pushed'' xs ys a b = record {
  are = b.are;
  same = b.same ∙ ap (λ ts. ts ++ ys) a.same ∙ append_assoc (all_pushed_in (keys_in text keys) pushed) xs ys;
}

-- one posting more
pub posted_one : (text : List ℕ) (keys : List KeyAt) (pushed : List Pushed) (number row : ℕ) (key : List ℕ) → ArePushed text keys pushed → slice_get (keys_in text keys) number ≡ Some key
    → IsPostedWith text keys pushed (keyed row key ∷ []) text keys (pushed ++ record { key = number; row = row } ∷ [])
posted_one text keys pushed number row key are there =
    let p : Pushed = record { key = number; row = row } in
    let within = slice_get_within (keys_in text keys) number key there in
    let size = length_mapped (key_in text) keys in
    record {
      are = record { within = are.within; numbered = all-push (λ (q : Pushed). q.key < length keys) pushed p are.numbered (omega (arith, within, size)) };
      same = map_push (pushed_in (keys_in text keys)) pushed p ∙ ap (λ k. all_pushed_in (keys_in text keys) pushed ++ keyed row k ∷ []) (get_or_from_slice_get (keys_in text keys) number key [] there);
    }

pub posted_none : (text : List ℕ) (keys : List KeyAt) (pushed : List Pushed) → ArePushed text keys pushed → IsPostedWith text keys pushed [] text keys pushed
posted_none text keys pushed are = record { are = are; same = sym (append-nil (all_pushed_in (keys_in text keys) pushed)) }

-- ---- postings that are taken back

pub take_map : (keys : List (List ℕ)) (n : ℕ) (pushed : List Pushed) → all_pushed_in keys (take n pushed) ≡ take n (all_pushed_in keys pushed)
take_map keys zero pushed = refl
take_map keys (suc n) [] = refl
take_map keys (suc n) (p ∷ pushed) = ap (λ ts. pushed_in keys p ∷ ts) (take_map keys n pushed)

pub take_numbered : (count n : ℕ) (pushed : List Pushed) → AllByRecursion (λ (p : Pushed). p.key < count) pushed → AllByRecursion (λ (p : Pushed). p.key < count) (take n pushed)
take_numbered count zero pushed h = tt
take_numbered count (suc n) [] h = tt
take_numbered count (suc n) (p ∷ pushed) h = (h.0, take_numbered count n pushed h.1)

pub taken_back : (text text' : List ℕ) (keys keys' : List KeyAt) (pushed pushed' : List Pushed) (some : List TermAt) → IsPostedWith text keys pushed some text' keys' pushed' → IsPostedWith text keys pushed [] text' keys' (take (length pushed) pushed')
taken_back text text' keys keys' pushed pushed' some w = record {
  are = record { within = w.are.within; numbered = take_numbered (length keys') (length pushed) pushed' w.are.numbered };
  same =
      take_map (keys_in text' keys') (length pushed) pushed'
      ∙ ap (take (length pushed)) w.same
      ∙ ap (λ n. take n (all_pushed_in (keys_in text keys) pushed ++ some)) (sym (length_mapped (pushed_in (keys_in text keys)) pushed))
      ∙ front (all_pushed_in (keys_in text keys) pushed) some
      ∙ sym (append-nil (all_pushed_in (keys_in text keys) pushed));
} where
  front : (xs ys : List TermAt) → take (length xs) (xs ++ ys) ≡ xs
  front [] ys = refl
  front (x ∷ xs) ys = ap (λ zs. x ∷ zs) (front xs ys)

-- one word more
pub words_next : (row : ℕ) (words : List (List ℕ)) (i : ℕ) (key : List ℕ) → slice_get words i ≡ Some key → map (keyed row) (take i words) ++ keyed row key ∷ [] ≡ map (keyed row) (take (i + 1) words)
words_next row words i key there =
    sym (map_push (keyed row) (take i words) key)
    ∙ ap (map (keyed row)) (ap (λ k. take i words ++ k ∷ []) (sym (get_or_from_slice_get words i key [] there)) ∙ sym (take_more words i [] (slice_get_within words i key there)))

-- whether the call failed or not, the postings are stored as they are to be
pub are_after : {A E : Type 0} (r : Result A E) (text text' : List ℕ) (keys keys' : List KeyAt) (pushed pushed' : List Pushed) (posted : List TermAt) → OnOk r (IsPostedWith text keys pushed posted text' keys' pushed') → OnErr r (IsPostedWith text keys pushed [] text' keys' pushed') → ArePushed text' keys' pushed'
are_after (Ok x) text text' keys keys' pushed pushed' posted ok err = ok.are
are_after (Err e) text text' keys keys' pushed pushed' posted ok err = err.are

pub seen_after : (text text' : List ℕ) (keys keys' : List KeyAt) (pushed pushed' : List Pushed) (posted posted' old : List TermAt) → all_pushed_in (keys_in text keys) pushed ≡ old → posted ≡ posted' → IsPostedWith text keys pushed posted text' keys' pushed' → all_pushed_in (keys_in text' keys') pushed' ≡ old ++ posted'
seen_after text text' keys keys' pushed pushed' posted posted' old view is w = w.same ∙ (λ i. view i ++ is i)

pub unseen_after : (text text' : List ℕ) (keys keys' : List KeyAt) (pushed pushed' : List Pushed) (old : List TermAt) → all_pushed_in (keys_in text keys) pushed ≡ old → IsPostedWith text keys pushed [] text' keys' pushed' → all_pushed_in (keys_in text' keys') pushed' ≡ old
unseen_after text text' keys keys' pushed pushed' old view w = w.same ∙ append-nil (all_pushed_in (keys_in text keys) pushed) ∙ view
