-- The words of a text, and those of a text that begins with it.
use Rattle.std.proofs.Common.{◌≡◌, ℕ, Bool, true, false, cond, List, [], ◌∷◌, ◌++◌, map, refl, sym, ap, subst, inl, inr, ◌∙◌, arith, append_assoc}
use Rattle.std.specs.Prelude.{nat_eq, ◌||◌, chars, flat_map, encode_utf8, encode_utf8_all}
use Rattle.std.specs.List.{filter, list_any, list_all, starts_with, slice_split, onto_first}
use Rattle.std.specs.Str.{IsUtf8}
use Rattle.std.proofs.lemmas.Bool.{and_parts, and_from}
use Rattle.std.proofs.lemmas.Bool.Decides.{nat_tests}
use Rattle.std.proofs.lemmas.Grind.{flat_map-append}
use Rattle.std.proofs.lemmas.Str.{chars-append, encodes-append, cons_from_encodes}
use Rattle.caseless.specs.Caseless.{default_case_fold}
use Rattle.ucd_case.specs.CaseFolding.{full_fold}
use Rattle.history_model.specs.InOrder.{Has}
use Rattle.history_model.specs.Queries.{folded}
use Rattle.history_model.proofs.Filtered.{Has-map_from}
use Rattle.word_model.specs.Words.{is_between_words, has_some, runs, plain, unmarked, words, some_begins, begin_with_all}

-- ---- tests of lists

module _ {X : Type 0} (p : X → Bool) where
  pub any_from : (xs : List X) (x : X) → Has xs x → p x ≡ true → list_any p xs ≡ true
  any_from [] x h e = absurd h
  any_from (y ∷ ys) x h e =
      elim (p y) as (λ b. (Has ys x → list_any p ys ≡ true) → (p y ≡ b) → (b || list_any p ys) ≡ true) [
        | true ↦ λ later is. refl
        | false ↦ λ later is. elim h [
          | inl s ↦ absurd (let f : p x ≡ false = subst (λ z. p z ≡ false) s is in cc)
          | inr t ↦ later t
        ]
      ] (λ t. any_from ys x t e) refl

  pub any_to : (xs : List X) → list_any p xs ≡ true → (x : X) × Has xs x × (p x ≡ true)
  any_to [] e = absurd (cc)
  any_to (y ∷ ys) e =
      elim (p y) as (λ b. (p y ≡ b) → (b || list_any p ys) ≡ true → (x : X) × Has (y ∷ ys) x × (p x ≡ true)) [
        | true ↦ λ is some. (y, inl refl, is)
        | false ↦ λ is some. let w = any_to ys some in (w.0, inr w.1, w.2)
      ] refl e

  pub all_to : (xs : List X) (x : X) → list_all p xs ≡ true → Has xs x → p x ≡ true
  all_to [] x e h = absurd h
  all_to (y ∷ ys) x e h =
      let parts = and_parts (p y) (list_all p ys) e in
      elim h [ inl s ↦ subst (λ z. p z ≡ true) s parts.0 | inr t ↦ all_to ys x parts.1 t ]

-- ---- beginnings

pub starts_from : (xs rest : List ℕ) → starts_with nat_eq (xs ++ rest) xs ≡ true
starts_from [] rest = refl
starts_from (x ∷ xs) rest = let here : nat_eq x x ≡ true = grind (arith, nat_tests) in rw here (starts_from xs rest)

pub starts_to : (xs whole : List ℕ) → starts_with nat_eq whole xs ≡ true → (rest : List ℕ) × (whole ≡ xs ++ rest)
starts_to [] whole e = (whole, refl)
starts_to (x ∷ xs) [] e = absurd (cc)
starts_to (x ∷ xs) (y ∷ whole) e =
    let parts = and_parts (nat_eq x y) (starts_with nat_eq whole xs) e in
    let same : y ≡ x = grind (arith, nat_tests, parts.0) in
    let rest = starts_to xs whole parts.1 in
    (rest.0, λ i. same i ∷ rest.1 i)

starts_through : (a b c : List ℕ) → starts_with nat_eq a b ≡ true → starts_with nat_eq b c ≡ true → starts_with nat_eq a c ≡ true
starts_through a b c first second =
    let x = starts_to b a first in
    let y = starts_to c b second in
    let whole : a ≡ c ++ (y.0 ++ x.0) = x.1 ∙ ap (λ bs. bs ++ x.0) y.1 ∙ append_assoc c y.0 x.0 in
    subst (λ bs. starts_with nat_eq bs c ≡ true) (sym whole) (starts_from c (y.0 ++ x.0))

-- the characters of a text begin as its bytes do
chars_begin : (short long rest : List ℕ) → encode_utf8_all long ≡ encode_utf8_all short ++ rest → (more : List ℕ) × (long ≡ short ++ more)
chars_begin [] long rest e = (long, refl)
chars_begin (c ∷ short) long rest e =
    let first = cons_from_encodes long (encode_utf8_all short ++ rest) c (e ∙ append_assoc (encode_utf8 c) (encode_utf8_all short) rest) in
    let others = chars_begin short first.0 rest first.2 in
    (others.0, first.1 ∙ ap (λ cs. c ∷ cs) others.1)

-- ---- the parts of a text

abbrev parts_of : List ℕ → List (List ℕ)
parts_of = slice_split is_between_words

-- each part begins the part of the other list at its place
abbrev AreBegun : List (List ℕ) → List (List ℕ) → Type 0
AreBegun [] others = Unit {0}
AreBegun (part ∷ parts) [] = ⊥
AreBegun (part ∷ parts) (other ∷ others) = ((rest : List ℕ) × (other ≡ part ++ rest)) × AreBegun parts others

onto_begun : (c : ℕ) (parts others : List (List ℕ)) → AreBegun parts others → AreBegun (onto_first c parts) (onto_first c others)
onto_begun c [] [] b = (([], refl), tt)
onto_begun c [] (other ∷ others) b = ((other, refl), tt)
onto_begun c (part ∷ parts) [] b = absurd b
onto_begun c (part ∷ parts) (other ∷ others) b = ((b.0.0, ap (λ xs. c ∷ xs) b.0.1), b.1)

onto_any : (c : ℕ) (others : List (List ℕ)) → AreBegun ([] ∷ []) (onto_first c others)
onto_any c [] = ((c ∷ [], refl), tt)
onto_any c (other ∷ others) = ((c ∷ other, refl), tt)

none_begun : (cs : List ℕ) → AreBegun ([] ∷ []) (parts_of cs)
none_begun [] = (([], refl), tt)
none_begun (c ∷ cs) =
    elim (is_between_words c) as (λ b. AreBegun ([] ∷ []) (cond b ([] ∷ parts_of cs) (onto_first c (parts_of cs)))) [
      | true ↦ (([], refl), tt)
      | false ↦ onto_any c (parts_of cs)
    ]

parts_begun : (cs more : List ℕ) → AreBegun (parts_of cs) (parts_of (cs ++ more))
parts_begun [] more = none_begun more
parts_begun (c ∷ cs) more =
    elim (is_between_words c) as (λ b. AreBegun (cond b ([] ∷ parts_of cs) (onto_first c (parts_of cs))) (cond b ([] ∷ parts_of (cs ++ more)) (onto_first c (parts_of (cs ++ more))))) [
      | true ↦ (([], refl), parts_begun cs more)
      | false ↦ onto_begun c (parts_of cs) (parts_of (cs ++ more)) (parts_begun cs more)
    ]

-- ---- the words of a text

begins_one : (own : List (List ℕ)) (part other rest : List ℕ) → Has own (encode_utf8_all other) → other ≡ part ++ rest → some_begins own (encode_utf8_all part) ≡ true
begins_one own part other rest there is =
    any_from (λ word. starts_with nat_eq word (encode_utf8_all part)) own (encode_utf8_all other) there
    (subst (λ word. starts_with nat_eq word (encode_utf8_all part) ≡ true) (sym (ap encode_utf8_all is ∙ encodes-append part rest)) (starts_from (encode_utf8_all part) (encode_utf8_all rest)))

behind_first : (part : List ℕ) (parts : List (List ℕ)) (run : List ℕ) → Has (filter has_some parts) run → Has (filter has_some (part ∷ parts)) run
behind_first [] parts run h = h
behind_first (c ∷ part) parts run h = inr h

begins_each : (own parts others : List (List ℕ)) → AreBegun parts others → ((run : List ℕ) → Has (filter has_some others) run → Has own (encode_utf8_all run)) → begin_with_all own (map encode_utf8_all (filter has_some parts)) ≡ true
begins_each own [] others b within = refl
begins_each own (part ∷ parts) [] b within = absurd b
begins_each own ([] ∷ parts) (other ∷ others) b within = begins_each own parts others b.1 (λ run h. within run (behind_first other others run h))
begins_each own ((c ∷ part) ∷ parts) (other ∷ others) b within =
    let first : Has (filter has_some (other ∷ others)) other = subst (λ xs. Has (filter has_some (xs ∷ others)) xs) (sym b.0.1) (inl refl) in
    and_from (some_begins own (encode_utf8_all (c ∷ part))) (begin_with_all own (map encode_utf8_all (filter has_some parts)))
    (begins_one own (c ∷ part) other b.0.0 (within other first) b.0.1)
    (begins_each own parts others b.1 (λ run h. within run (behind_first other others run h)))

runs_begin : (cs more : List ℕ) → begin_with_all (map encode_utf8_all (runs (cs ++ more))) (map encode_utf8_all (runs cs)) ≡ true
runs_begin cs more = begins_each (map encode_utf8_all (runs (cs ++ more))) (parts_of cs) (parts_of (cs ++ more)) (parts_begun cs more) (λ run h. Has-map_from encode_utf8_all (runs (cs ++ more)) run h)

-- the words of a text, where another one is the same characters and more once both are folded
folded_begin : (text longer more : List ℕ) → default_case_fold (chars longer) ≡ default_case_fold (chars text) ++ more → begin_with_all (words longer) (words text) ≡ true
unfolding words plain
folded_begin text longer more is =
    let whole : plain longer ≡ plain text ++ flat_map unmarked more = ap (flat_map unmarked) is ∙ flat_map-append unmarked (default_case_fold (chars text)) more in
    subst (λ cs. begin_with_all (map encode_utf8_all (runs cs)) (map encode_utf8_all (runs (plain text))) ≡ true) (sym whole) (runs_begin (plain text) (flat_map unmarked more))

pub longer_begins : (text more : List ℕ) → IsUtf8 text → begin_with_all (words (text ++ more)) (words text) ≡ true
unfolding default_case_fold
longer_begins text more utf8 =
    folded_begin text (text ++ more) (default_case_fold (chars more))
    (ap (flat_map full_fold) (chars-append text more utf8) ∙ flat_map-append full_fold (chars text) (chars more))

pub prefix_begins : (text term : List ℕ) → starts_with nat_eq (folded term) (folded text) ≡ true → begin_with_all (words term) (words text) ≡ true
unfolding folded
prefix_begins text term e =
    let rest = starts_to (folded text) (folded term) e in
    let more = chars_begin (default_case_fold (chars text)) (default_case_fold (chars term)) rest.0 rest.1 in
    folded_begin text term more.0 more.1

-- what has words that begin with some has words that begin with those with which these begin
pub begins_through : (own between wanted : List (List ℕ)) → begin_with_all own between ≡ true → begin_with_all between wanted ≡ true → begin_with_all own wanted ≡ true
begins_through own between [] first second = refl
begins_through own between (word ∷ wanted) first second =
    let parts = and_parts (some_begins between word) (begin_with_all between wanted) second in
    let inner = any_to (λ other. starts_with nat_eq other word) between parts.0 in
    let outer = any_to (λ other. starts_with nat_eq other inner.0) own (all_to (some_begins own) between inner.0 first inner.1) in
    and_from (some_begins own word) (begin_with_all own wanted)
    (any_from (λ other. starts_with nat_eq other word) own outer.0 outer.1 (starts_through outer.0 inner.0 word outer.2 inner.2))
    (begins_through own between wanted first parts.1)
