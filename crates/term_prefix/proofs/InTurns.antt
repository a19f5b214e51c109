-- Terms of two lists that are taken in turns, the lesser one first.
use Rattle.std.proofs.Common.{◌≡◌, ℕ, zero, suc, ◌+◌, ◌-◌, ◌<◌, ◌≤◌, Bool, true, false, List, [], ◌∷◌, ◌++◌, length, map, take, drop, refl, sym, ap, subst, inl, inr, ◌∙◌, arith, append_assoc, take_all}
use Rattle.std.specs.declared.cmp.Ordering.{Ordering}
use Rattle.std.specs.Option.{option_map}
use Rattle.std.proofs.lemmas.Option.{slice_get-map, same_Some}
use Rattle.std.specs.Prelude.{Option, Some, None, slice_get, Result, Ok, Err, OnOk, OnErr, if◌then◌else◌}
use Rattle.std.specs.List.Sorted.{IsPermutation}
use Rattle.std.specs.Ordering.{nat_cmp, is_lt}
use Rattle.std.specs.Cmp.{IsStrictWeakOrder}
use Rattle.std.specs.Cmp.Lexicographic.{slice_cmp}
use Rattle.std.proofs.lemmas.Cmp.{nat_list_cmp_total}
use Rattle.std.proofs.lemmas.List.Sorted.{ranks_by, IsPermutation-append_left}
use Rattle.std.proofs.lemmas.List.{map_push}
use Rattle.list_lemmas.proofs.Each.{each_of_pushed}
use Rattle.list_lemmas.proofs.Parts.{permuted_with_last}
use Rattle.rf2_values.specs.declared.row.Body.{Body}
use Rattle.rf2_values.specs.declared.row.Body.TheVariants as body
use Rattle.rf2_values.specs.Row.{RowValue}
use Rattle.history_model.specs.InOrder.{Has}
use Rattle.history_model.proofs.InOrder.{Has-all, Has-append_cases}
use Rattle.segment.specs.Standing.{places_of}
use Rattle.as_of_index.specs.Numbers.{TwoLists, number_in_both}
use Rattle.as_of_index.proofs.Unions.{merged_postings}
use Rattle.term_prefix.specs.declared.merging.Next.TheVariants.{First, Second, Neither}
use Rattle.term_prefix.specs.declared.text.Term.{Term}
use Rattle.term_prefix.specs.Laid.{term_at, terms_at, AreLaid, HaveHeads}
use Rattle.term_prefix.specs.Terms.{TermAt, TextsRise}
use Rattle.term_prefix.specs.Pushed.{term_of_body, posted_term}
use Rattle.term_prefix.specs.Merged.{moved, in_both, MergedTerms, NoneAbove, IsMergeOfTerms, terms_left, MergedTermsArePosted}
use Rattle.term_prefix.specs.Private.{lesser_of, next_of, first_taken, second_taken, AddsTerm}
use Rattle.term_prefix.proofs.Laid.{added}

-- ---- the item of a list that is next

-- the item stands there, and splits the list so, with n items up to it
record IsNextAt {X : Type 0} (xs : List X) (i n : ℕ) (x : X) : Type 0 where
  within : i < length xs
  taken : take n xs ≡ take i xs ++ x ∷ []
  left : drop i xs ≡ x ∷ drop n xs

stands_at : {X : Type 0} (xs : List X) (i : ℕ) (x : X) → slice_get xs i ≡ Some x → IsNextAt xs i (suc i) x
stands_at [] i x e = absurd cc
stands_at (y ∷ xs) zero x e =
    let same : y ≡ x = same_Some y x e in
    record { within = omega arith; taken = ap (λ z. z ∷ []) same; left = ap (λ z. z ∷ xs) same }
stands_at (y ∷ xs) (suc i) x e =
    let n = stands_at xs i x e in
    let lt = n.within in
    record { within = omega (arith, lt); taken = ap (λ zs. y ∷ zs) n.taken; left = n.left }

next_at : {X : Type 0} (xs : List X) (i : ℕ) (x : X) → slice_get xs i ≡ Some x → IsNextAt xs i (i + 1) x
next_at xs i x e =
    let more : suc i ≡ i + 1 = omega arith in
    subst (λ n. IsNextAt xs i n x) more (stands_at xs i x e)

none_at : {X : Type 0} (xs : List X) (i : ℕ) → slice_get xs i ≡ None → (drop i xs ≡ []) × (length xs ≤ i)
none_at [] zero e = (refl, omega arith)
none_at [] (suc i) e = (refl, omega arith)
none_at (y ∷ xs) zero e = absurd cc
none_at (y ∷ xs) (suc i) e = let n = none_at xs i e in (n.0, let le = n.1 in omega (arith, le))

-- ---- one more at the end

behind : {X : Type 0} (xs ys out : List X) (z : X) → IsPermutation (xs ++ ys) out → IsPermutation (xs ++ (ys ++ z ∷ [])) (out ++ z ∷ [])
behind xs ys out z p = subst (λ zs. IsPermutation zs (out ++ z ∷ [])) (append_assoc xs ys (z ∷ [])) (IsPermutation-append_left (z ∷ []) (xs ++ ys) out p)

abbrev is_under : TermAt → TermAt → Bool
is_under t u = is_lt (slice_cmp nat_cmp t.folded u.folded)

order : IsStrictWeakOrder is_under
order = ranks_by nat_list_cmp_total (λ (t : TermAt). t.folded)

rise-push : (ts : List TermAt) (z : TermAt) → TextsRise ts → ((t : TermAt) → Has ts t → is_under z t ≡ false) → TextsRise (ts ++ z ∷ [])
rise-push [] z up above = (tt, tt)
rise-push (t ∷ ts) z up above = (each_of_pushed (λ u. is_under u t ≡ false) ts z up.0 (above t (inl refl)), rise-push ts z up.1 (λ u there. above u (inr there)))

rise-left : (i : ℕ) (ts : List TermAt) → TextsRise ts → TextsRise (drop i ts)
rise-left zero ts up = up
rise-left (suc i) [] up = up
rise-left (suc i) (t ∷ ts) up = rise-left i ts up.1

above-push : (ts us : List TermAt) (z : TermAt) → NoneAbove ts us → ((u : TermAt) → Has us u → is_under u z ≡ false) → NoneAbove (ts ++ z ∷ []) us
above-push ts us z old new t u there left = elim (Has-append_cases ts (z ∷ []) t there) [
  | inl l ↦ old t u l left
  | inr r ↦ elim r [
    | inl e ↦ subst (λ x. is_under u x ≡ false) e (new u left)
    | inr f ↦ absurd f
  ]
]

-- what isn't above the next term of a list isn't above any that is left
least : (us : List TermAt) (j : ℕ) (t : TermAt) → TextsRise us → ((u : TermAt) → slice_get us j ≡ Some u → is_under u t ≡ false) → (u : TermAt) → Has (drop j us) u → is_under u t ≡ false
least us j t up next u there = split (slice_get us j) refl where
  split : (o : Option TermAt) → slice_get us j ≡ o → is_under u t ≡ false
  split None e = absurd (subst (λ xs. Has xs u) (none_at us j e).0 there)
  split (Some y) e =
      let n = next_at us j y e in
      let rest = subst TextsRise n.left (rise-left j us up) in
      elim (subst (λ xs. Has xs u) n.left there) [
        | inl same ↦ subst (λ x. is_under x t ≡ false) same (next y e)
        | inr later ↦ order.chain u y t (Has-all (λ v. is_under v y ≡ false) (drop (j + 1) us) u rest.0 later) (next y e)
      ]

-- ---- which term is the next one

lesser_first : (t u : TermAt) → lesser_of t u ≡ First → is_under u t ≡ false
lesser_first t u e = split (is_under u t) refl e where
  split : (b : Bool) → is_under u t ≡ b → (if b then Second else First) ≡ First → is_under u t ≡ false
  split true is f = absurd cc
  split false is f = is

lesser_second : (t u : TermAt) → lesser_of t u ≡ Second → is_under t u ≡ false
lesser_second t u e = split (is_under u t) refl e where
  split : (b : Bool) → is_under u t ≡ b → (if b then Second else First) ≡ Second → is_under t u ≡ false
  split true is f = order.one_way u t is
  split false is f = absurd cc

next_first : (o p : Option TermAt) → next_of o p ≡ First → (t : TermAt) × (o ≡ Some t) × ((u : TermAt) → p ≡ Some u → is_under u t ≡ false)
next_first None None e = absurd cc
next_first None (Some u) e = absurd cc
next_first (Some t) None e = (t, refl, λ v f. absurd cc)
next_first (Some t) (Some u) e = (t, refl, λ v f. subst (λ x. is_under x t ≡ false) (same_Some u v f) (lesser_first t u e))

next_second : (o p : Option TermAt) → next_of o p ≡ Second → (u : TermAt) × (p ≡ Some u) × ((t : TermAt) → o ≡ Some t → is_under t u ≡ false)
next_second None None e = absurd cc
next_second None (Some u) e = (u, refl, λ v f. absurd cc)
next_second (Some t) None e = absurd cc
next_second (Some t) (Some u) e = (u, refl, λ v f. subst (λ x. is_under x u ≡ false) (same_Some t v f) (lesser_second t u e))

next_neither : (o p : Option TermAt) → next_of o p ≡ Neither → (o ≡ None) × (p ≡ None)
next_neither None None e = (refl, refl)
next_neither None (Some u) e = absurd cc
next_neither (Some t) None e = absurd cc
next_neither (Some t) (Some u) e = split (is_under u t) e where
  split : (b : Bool) → (if b then Second else First) ≡ Neither → (Some t ≡ None) × (Some u ≡ None)
  split true f = absurd cc
  split false f = absurd cc

-- ---- what is read of the lists

pub lesser_from : (r : Ordering) (t u : TermAt) → r ≡ slice_cmp nat_cmp u.folded t.folded → (if is_lt r then Second else First) ≡ lesser_of t u
lesser_from r t u e = ap (λ o. if is_lt o then Second else First) e

pub seen_at : (text : List ℕ) (ts : List Term) (us : List TermAt) (i : ℕ) (t : Term) → terms_at text ts ≡ us → Some t ≡ slice_get ts i → slice_get us i ≡ Some (term_at text t)
seen_at text ts us i t view_is e = ap (λ xs. slice_get xs i) (sym view_is) ∙ slice_get-map (term_at text) ts i ∙ ap (option_map (term_at text)) (sym e)

pub none_seen : (text : List ℕ) (ts : List Term) (us : List TermAt) (i : ℕ) (t : TermAt) → terms_at text ts ≡ us → None ≡ slice_get ts i → slice_get us i ≡ Some t → ⊥
none_seen text ts us i t view_is e there = let none = ap (λ xs. slice_get xs i) (sym view_is) ∙ slice_get-map (term_at text) ts i ∙ ap (option_map (term_at text)) (sym e) in let z = sym none ∙ there in cc

-- a term of another list is put out, with another number of its row
pub put_out : (text : List ℕ) (ts : List Term) (folded : List ℕ) (row : ℕ) (text' : List ℕ) (ts' : List Term) (number : ℕ → ℕ) (t u : TermAt) → AreLaid 0 ts (length text) × HaveHeads text ts → AddsTerm text ts folded row text' ts'
    → folded ≡ u.folded → row ≡ number u.row → Some u ≡ Some t → terms_at text' ts' ≡ terms_at text ts ++ moved number t ∷ []
put_out text ts folded row text' ts' number t u kept adds text_is row_is same =
    let is = same_Some u t same in
    let fold_of_t = text_is ∙ ap (λ (x : TermAt). x.folded) is in
    let row_of_t = row_is ∙ ap (λ (x : TermAt). number x.row) is in
    (added text ts folded row text' ts' kept.0 kept.1 adds).seen
    ∙ (λ i. terms_at text ts ++ record { folded = fold_of_t i; row = row_of_t i } ∷ [])

-- ---- one term more

module _ (lists : TwoLists) (a b : List TermAt) (up : TextsRise a × TextsRise b) (m : MergedTerms) where
  abbrev of_first : TermAt → TermAt
  of_first t = moved (number_in_both lists.first lists.second) t

  abbrev of_second : TermAt → TermAt
  of_second t = moved (number_in_both lists.second lists.first) t

  first_step : (t : TermAt) → slice_get a m.taken.first ≡ Some t → ((u : TermAt) → slice_get b m.taken.second ≡ Some u → is_under u t ≡ false) → IsMergeOfTerms lists a b m → IsMergeOfTerms lists a b (first_taken lists t m)
  first_step t there low h =
      let n = next_at a m.taken.first t there in
      let lt = n.within in
      let rest = subst TextsRise n.left (rise-left m.taken.first a up.0) in
      let in_a : (u : TermAt) → Has (t ∷ drop (m.taken.first + 1) a) u → Has (drop m.taken.first a) u = λ u k. subst (λ xs. Has xs u) (sym n.left) k in
      record {
        first_within = omega (arith, lt);
        second_within = h.second_within;
        same =
            subst (λ xs. IsPermutation (map of_first xs ++ map of_second (take m.taken.second b)) (m.terms ++ of_first t ∷ [])) (sym n.taken)
            (subst (λ xs. IsPermutation (xs ++ map of_second (take m.taken.second b)) (m.terms ++ of_first t ∷ [])) (sym (map_push of_first (take m.taken.first a) t))
            (permuted_with_last (map of_first (take m.taken.first a)) (map of_second (take m.taken.second b)) m.terms (of_first t) h.same));
        rising = rise-push m.terms (of_first t) h.rising (λ s k. h.first_left s t k (in_a t (inl refl)));
        first_left = above-push m.terms (drop (m.taken.first + 1) a) (of_first t) (λ s u k l. h.first_left s u k (in_a u (inr l))) (λ u l. Has-all (λ v. is_under v t ≡ false) (drop (m.taken.first + 1) a) u rest.0 l);
        second_left = above-push m.terms (drop m.taken.second b) (of_first t) h.second_left (least b m.taken.second t up.1 low);
      }

  second_step : (u : TermAt) → slice_get b m.taken.second ≡ Some u → ((t : TermAt) → slice_get a m.taken.first ≡ Some t → is_under t u ≡ false) → IsMergeOfTerms lists a b m → IsMergeOfTerms lists a b (second_taken lists u m)
  second_step u there low h =
      let n = next_at b m.taken.second u there in
      let lt = n.within in
      let rest = subst TextsRise n.left (rise-left m.taken.second b up.1) in
      let in_b : (t : TermAt) → Has (u ∷ drop (m.taken.second + 1) b) t → Has (drop m.taken.second b) t = λ t k. subst (λ xs. Has xs t) (sym n.left) k in
      record {
        first_within = h.first_within;
        second_within = omega (arith, lt);
        same =
            subst (λ xs. IsPermutation (map of_first (take m.taken.first a) ++ map of_second xs) (m.terms ++ of_second u ∷ [])) (sym n.taken)
            (subst (λ xs. IsPermutation (map of_first (take m.taken.first a) ++ xs) (m.terms ++ of_second u ∷ [])) (sym (map_push of_second (take m.taken.second b) u))
            (behind (map of_first (take m.taken.first a)) (map of_second (take m.taken.second b)) m.terms (of_second u) h.same));
        rising = rise-push m.terms (of_second u) h.rising (λ s k. h.second_left s u k (in_b u (inl refl)));
        first_left = above-push m.terms (drop m.taken.first a) (of_second u) h.first_left (least a m.taken.first u up.0 low);
        second_left = above-push m.terms (drop (m.taken.second + 1) b) (of_second u) (λ s t k l. h.second_left s t k (in_b t (inr l))) (λ t l. Has-all (λ v. is_under v u ≡ false) (drop (m.taken.second + 1) b) t rest.0 l);
      }

  -- what a step says, by its result: no contract but those of the steps themselves
  pub record IsStep {A B : Type 0} (r : Result A B) (m' : MergedTerms) : Type 0 where
    pub merged : IsMergeOfTerms lists a b m → IsMergeOfTerms lists a b m'
    pub ok : OnOk r (terms_left a b m' ≡ terms_left a b m - 1)

  pub stepped_first : {A B : Type 0} (r : Result A B) (m' : MergedTerms) → next_of (slice_get a m.taken.first) (slice_get b m.taken.second) ≡ First
      → ((t : TermAt) → slice_get a m.taken.first ≡ Some t → OnOk r (m' ≡ first_taken lists t m)) → OnErr r (m' ≡ m) → IsStep r m'
  stepped_first (Ok x) m' next ok err =
      let w = next_first (slice_get a m.taken.first) (slice_get b m.taken.second) next in
      let e = ok w.0 w.1 in
      let lt = (next_at a m.taken.first w.0 w.1).within in
      let left : terms_left a b (first_taken lists w.0 m) ≡ terms_left a b m - 1 = omega (arith, lt) in
      record {
        merged = λ h. subst (IsMergeOfTerms lists a b) (sym e) (first_step w.0 w.1 w.2 h);
        ok = subst (λ k. terms_left a b k ≡ terms_left a b m - 1) (sym e) left;
      }
  stepped_first (Err x) m' next ok err = record { merged = λ h. subst (IsMergeOfTerms lists a b) (sym err) h; ok = tt }

  pub stepped_second : {A B : Type 0} (r : Result A B) (m' : MergedTerms) → next_of (slice_get a m.taken.first) (slice_get b m.taken.second) ≡ Second
      → ((u : TermAt) → slice_get b m.taken.second ≡ Some u → OnOk r (m' ≡ second_taken lists u m)) → OnErr r (m' ≡ m) → IsStep r m'
  stepped_second (Ok x) m' next ok err =
      let w = next_second (slice_get a m.taken.first) (slice_get b m.taken.second) next in
      let e = ok w.0 w.1 in
      let lt = (next_at b m.taken.second w.0 w.1).within in
      let left : terms_left a b (second_taken lists w.0 m) ≡ terms_left a b m - 1 = omega (arith, lt) in
      record {
        merged = λ h. subst (IsMergeOfTerms lists a b) (sym e) (second_step w.0 w.1 w.2 h);
        ok = subst (λ k. terms_left a b k ≡ terms_left a b m - 1) (sym e) left;
      }
  stepped_second (Err x) m' next ok err = record { merged = λ h. subst (IsMergeOfTerms lists a b) (sym err) h; ok = tt }

  pub none_left : next_of (slice_get a m.taken.first) (slice_get b m.taken.second) ≡ Neither → terms_left a b m ≡ 0
  none_left next =
      let w = next_neither (slice_get a m.taken.first) (slice_get b m.taken.second) next in
      let p = (none_at a m.taken.first w.0).1 in
      let q = (none_at b m.taken.second w.1).1 in
      omega (arith, p, q)

-- ---- all terms

moved_body : (f : ℕ → ℕ) (b : Body) (i : ℕ) → map (moved f) (term_of_body b i) ≡ term_of_body b (f i)
moved_body f (body.Concept c) i = refl
moved_body f (body.Description d) i = refl
moved_body f (body.Relationship r) i = refl
moved_body f (body.Association a) i = refl
moved_body f (body.Concrete c) i = refl
moved_body f (body.Member m) i = refl

moved_row : (f : ℕ → ℕ) (row : RowValue) (i : ℕ) → map (moved f) (posted_term row i) ≡ posted_term row (f i)
moved_row f row i = split row.active where
  split : (b : Bool) → map (moved f) (if b then term_of_body row.body i else []) ≡ (if b then term_of_body row.body (f i) else [])
  split true = moved_body f row.body i
  split false = refl

pub merged_terms_are_posted : MergedTermsArePosted
merged_terms_are_posted a_rows b_rows a b m are of_a of_b h none =
    let lists : TwoLists = record { first = places_of a_rows; second = places_of b_rows } in
    let whole_a : take m.taken.first a ≡ a = take_all m.taken.first a (omega (arith, none)) in
    let whole_b : take m.taken.second b ≡ b = take_all m.taken.second b (omega (arith, none)) in
    merged_postings posted_term moved moved_row a_rows b_rows a b m.terms are of_a of_b
    (subst (λ xs. IsPermutation (in_both lists xs b) m.terms) whole_a (subst (λ ys. IsPermutation (in_both lists (take m.taken.first a) ys) m.terms) whole_b h.same))
