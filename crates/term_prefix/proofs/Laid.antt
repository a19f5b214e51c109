-- Terms whose texts stand one after the other, and in order.
use Rattle.std.proofs.Common.{◌≡◌, ℕ, zero, suc, ◌+◌, ◌<◌, ◌≤◌, Bool, true, false, List, [], ◌∷◌, ◌++◌, length, get_or, map, take, drop, refl, sym, ap, subst, inl, inr, ◌∙◌, arith, take_all}
use Rattle.std.specs.Prelude.{Result, Ok, Err, OnOk, OnErr, if◌then◌else◌}
use Rattle.std.specs.List.{AllByRecursion}
use Rattle.std.specs.List.Sorted.{IsSortedBy}
use Rattle.std.specs.Ordering.{nat_cmp, is_lt}
use Rattle.std.specs.Cmp.Lexicographic.{slice_cmp}
use Rattle.std.proofs.lemmas.Cmp.{nat_list_cmp_total}
use Rattle.std.proofs.lemmas.List.Sorted.{ranks_by, sorted_far}
use Rattle.std.proofs.lemmas.List.{take-append-le, drop-append-le, take-append-drop, length-append, length-drop, length-take-le, take-map, map_push}
use Rattle.std.proofs.Math.Seq.{drop-append_seam}
use Rattle.std.proofs.lemmas.Fn.{always_returns_same}
use Rattle.std.specs.Cmp.{IsStrictWeakOrder}
use Rattle.std.specs.Fn.{Called, ComparesAs}
use Rattle.std.specs.declared.cmp.Ordering.{Ordering}
use denote.Ref.{Bor}
use denote.Param.Members.{Mut}
use Rattle.term_prefix.specs.declared.text.Term.{Term}
use Rattle.term_prefix.specs.Terms.{TermAt, TextsRise}
use Rattle.term_prefix.specs.Pushed.{posted_term, term_of_body}
use Rattle.term_prefix.specs.Laid.{term_at, terms_at, AreLaid, head, HaveHeads}
use Rattle.term_prefix.specs.Private.{AddsTerm, IsCut, HasHead, headed}
use Rattle.term_prefix.proofs.Heads.{by_head}
use Rattle.segment.proofs.Numbers.{IsBytes, IsBytes-take, IsBytes-drop}
use Rattle.std.specs.List.Sorted.{IsPermutation}
use Rattle.history_model.specs.InOrder.{Has}
use Rattle.rf2_values.specs.declared.row.Body.TheVariants as body
use Rattle.rf2_values.specs.declared.row.Description.{Description}
use Rattle.rf2_values.specs.Row.{RowValue}
use Rattle.history_model.specs.Queries.{folded as folding}
use Rattle.history_model.proofs.Items.{Has-get_or, Has-permuted}

-- ---- one after the other

laid_end : (from : ℕ) (ts : List Term) (end : ℕ) → AreLaid from ts end → from ≤ end
laid_end from [] end a = omega (arith, a)
laid_end from (t ∷ ts) end a = let le = laid_end (from + t.len) ts end a.1 in omega arith

laid-each : (from : ℕ) (ts : List Term) (end : ℕ) → AreLaid from ts end → AllByRecursion (λ (t : Term). t.start + t.len ≤ end) ts
laid-each from [] end a = tt
laid-each from (t ∷ ts) end a = (let le = laid_end (from + t.len) ts end a.1 in let e = a.0 in omega arith, laid-each (from + t.len) ts end a.1)

laid-push : (from : ℕ) (ts : List Term) (end n first : ℕ) (row : ℕ) → AreLaid from ts end → AreLaid from (ts ++ record { head = first; start = end; len = n; row = row } ∷ []) (end + n)
laid-push from [] end n first row a = (sym a, ap (λ m. m + n) a)
laid-push from (t ∷ ts) end n first row a = (a.0, laid-push (from + t.len) ts end n first row a.1)

laid-take : (from : ℕ) (ts : List Term) (end n : ℕ) (t : Term) → AreLaid from ts end → n < length ts → t ≡ get_or ts n t → AreLaid from (take n ts) t.start × (t.start ≤ end)
laid-take from [] end n t a lt e = absurd (omega arith)
laid-take from (u ∷ ts) end zero t a lt e =
    let starts : t.start ≡ from = ap (λ (x : Term). x.start) e ∙ a.0 in
    (sym starts, let le = laid_end (from + u.len) ts end a.1 in omega arith)
laid-take from (u ∷ ts) end (suc n) t a lt e = let w = laid-take (from + u.len) ts end n t a.1 (omega arith) e in ((a.0, w.0), w.1)

fold-append : (text more : List ℕ) (start len : ℕ) → start + len ≤ length text → take len (drop start (text ++ more)) ≡ take len (drop start text)
fold-append text more start len le =
    ap (take len) (drop-append-le start text more (omega arith))
    ∙ take-append-le len (drop start text) more (let e = length-drop start text in omega arith)

terms-append : (text more : List ℕ) (ts : List Term) → AllByRecursion (λ (t : Term). t.start + t.len ≤ length text) ts → terms_at (text ++ more) ts ≡ terms_at text ts
terms-append text more [] a = refl
terms-append text more (t ∷ ts) a =
    let one : term_at (text ++ more) t ≡ term_at text t = ap (λ (f : List ℕ). record { folded = f; row = t.row }) (fold-append text more t.start t.len a.0) in
    let rest = terms-append text more ts a.1 in
    λ i. one i ∷ rest i

-- ---- the heads of their foldings

abbrev head_of_fold : TermAt → ℕ
head_of_fold t = head 16 t.folded

pub heads_at : (text : List ℕ) (ts : List Term) → HaveHeads text ts → (t : Term) → Has ts t → HasHead text t
heads_at text [] h t there = absurd there
heads_at text (u ∷ us) h t there = elim there [
  | inl e ↦ subst (HasHead text) e (ap (λ ns. get_or ns 0 0) h)
  | inr k ↦ heads_at text us (ap (drop 1) h) t k
]

pub heads_from : (text : List ℕ) (ts : List Term) → ((t : Term) → Has ts t → HasHead text t) → HaveHeads text ts
heads_from text [] each = refl
heads_from text (t ∷ ts) each =
    let one = each t (inl refl) in
    let rest = heads_from text ts (λ u k. each u (inr k)) in
    λ i. one i ∷ rest i

-- ---- a term more, and some less

-- the terms as they are kept, and what is seen of them, with one more
pub record IsAdded (text : List ℕ) (ts : List Term) (folded : List ℕ) (row : ℕ) (text' : List ℕ) (ts' : List Term) : Type 0 where
  pub laid : AreLaid 0 ts' (length text')
  pub heads : HaveHeads text' ts'
  pub seen : terms_at text' ts' ≡ terms_at text ts ++ record { folded = folded; row = row } ∷ []

pub added : (text : List ℕ) (ts : List Term) (folded : List ℕ) (row : ℕ) (text' : List ℕ) (ts' : List Term) → AreLaid 0 ts (length text) → HaveHeads text ts → AddsTerm text ts folded row text' ts' → IsAdded text ts folded row text' ts'
added text ts folded row text' ts' a heads w =
    let t : Term = record { head = head 16 folded; start = length text; len = length folded; row = row } in
    let one : take (length folded) (drop (length text) (text ++ folded)) ≡ folded = ap (take (length folded)) (drop-append_seam text folded) ∙ take_all (length folded) folded (omega arith) in
    let seen : terms_at text' ts' ≡ terms_at text ts ++ record { folded = folded; row = row } ∷ [] =
    (λ i. terms_at (w.texts i) (w.terms i))
    ∙ map_push (term_at (text ++ folded)) ts t
    ∙ ap (λ xs. xs ++ term_at (text ++ folded) t ∷ []) (terms-append text folded ts (laid-each 0 ts (length text) a))
    ∙ ap (λ (f : List ℕ). terms_at text ts ++ record { folded = f; row = row } ∷ []) one in
    record {
      laid = subst (λ x. AreLaid 0 x (length text')) (sym w.terms) (subst (λ x. AreLaid 0 (ts ++ t ∷ []) (length x)) (sym w.texts) (subst (λ n. AreLaid 0 (ts ++ t ∷ []) n) (sym (length-append text folded)) (laid-push 0 ts (length text) (length folded) (head 16 folded) row a)));
      heads =
          ap (map (λ (u : Term). u.head)) w.terms
          ∙ map_push (λ (u : Term). u.head) ts t
          ∙ ap (λ ns. ns ++ head 16 folded ∷ []) heads
          ∙ sym (map_push head_of_fold (terms_at text ts) (record { folded = folded; row = row }))
          ∙ ap (map head_of_fold) (sym seen);
      seen = seen;
    }

pub cut_short : (text : List ℕ) (ts : List Term) (n : ℕ) (t : Term) → AreLaid 0 ts (length text) → n < length ts → t ≡ get_or ts n t → IsCut text ts n (take t.start text) (take n ts)
cut_short text ts n t a lt e =
    let w = laid-take 0 ts (length text) n t a lt e in
    let size : length (take t.start text) ≡ t.start = length-take-le t.start text w.1 in
    let laid : AreLaid 0 (take n ts) (length (take t.start text)) = subst (λ m. AreLaid 0 (take n ts) m) (sym size) w.0 in
    let same : terms_at (take t.start text) (take n ts) ≡ take n (terms_at text ts) =
    sym (terms-append (take t.start text) (drop t.start text) (take n ts) (laid-each 0 (take n ts) (length (take t.start text)) laid))
    ∙ ap (λ x. terms_at x (take n ts)) (take-append-drop t.start text)
    ∙ sym (take-map (term_at text) n ts) in
    record {
      laid = laid;
      heads = λ heads.
          sym (take-map (λ (u : Term). u.head) n ts)
          ∙ ap (take n) heads
          ∙ take-map head_of_fold n (terms_at text ts)
          ∙ ap (map head_of_fold) (sym same);
      same = same;
    }

-- ---- in order

-- what two terms with heads are compared by stands to each other as their foldings do
pub as_headed : (text more : List ℕ) (t u : Term) → IsBytes text → IsBytes more → HasHead text t → HasHead more u → slice_cmp nat_cmp (headed text t) (headed more u) ≡ slice_cmp nat_cmp (term_at text t).folded (term_at more u).folded
as_headed text more t u bytes others t_is u_is = by_head 16 t.head u.head (term_at text t).folded (term_at more u).folded (IsBytes-take t.len (drop t.start text) (IsBytes-drop t.start text bytes)) (IsBytes-take u.len (drop u.start more) (IsBytes-drop u.start more others)) t_is u_is

module _ (text : List ℕ) where
  abbrev pub fold_of : Term → List ℕ
  fold_of t = take t.len (drop t.start text)

  abbrev is_lower : Term → Term → Bool
  is_lower t u = is_lt (slice_cmp nat_cmp (headed text t) (headed text u))

  rises-each : (t : Term) (us : List Term) → ((k : ℕ) (d : Term) → k < length us → is_lt (slice_cmp nat_cmp (fold_of (get_or us k d)) (fold_of t)) ≡ false) → AllByRecursion (λ (u : TermAt). is_lt (slice_cmp nat_cmp u.folded (fold_of t)) ≡ false) (terms_at text us)
  rises-each t [] h = tt
  rises-each t (u ∷ us) h = (h 0 u (omega arith), rises-each t us (λ k d lt. h (suc k) d (omega arith)))

  pub rises : (ts : List Term) → ((i j : ℕ) (d : Term) → i ≤ j → j < length ts → is_lt (slice_cmp nat_cmp (fold_of (get_or ts j d)) (fold_of (get_or ts i d))) ≡ false) → TextsRise (terms_at text ts)
  rises [] h = tt
  rises (t ∷ ts) h = (rises-each t ts (λ k d lt. h 0 (suc k) d (omega arith) (omega arith)), rises ts (λ i j d le lt. h (suc i) (suc j) d (omega arith) (omega arith)))

  pub rises_from_sort : {F : Type 0} {g : Mut F (Bor Term × (Bor Term × Unit {0})) Ordering} {f : F} (old ts : List Term) → IsBytes text → IsPermutation old ts → ((lt : Term → Term → Bool) → IsStrictWeakOrder lt → ComparesAs g lt f → IsSortedBy lt ts)
      → ((a : Bor Term × (Bor Term × Unit {0})) (r : Ordering) (f' : F) → Called g f a r f' → (r ≡ slice_cmp nat_cmp (headed text a.0.now) (headed text a.1.0.now)) × (f' ≡ f)) → HaveHeads text old → HaveHeads text ts × TextsRise (terms_at text ts)
  rises_from_sort {g = g} {f = f} old ts bytes same up h heads =
      let order = ranks_by nat_list_cmp_total (headed text) in
      let sorted = up is_lower order (always_returns_same g (λ a r. is_lt r ≡ is_lower a.0.now a.1.0.now) f (λ a r f' k. (ap is_lt (h a r f' k).0, (h a r f' k).1))) in
      let each : (t : Term) → Has ts t → HasHead text t = λ t there. heads_at text old heads t (Has-permuted old ts same t there) in
      (heads_from text ts each, rises ts (λ i j d le lt. sym (ap is_lt (as_headed text text (get_or ts j d) (get_or ts i d) bytes bytes (each _ (Has-get_or ts j d lt)) (each _ (Has-get_or ts i d (omega arith))))) ∙ sorted_far is_lower order ts sorted i j d le lt))

-- ---- a row that is pushed

pub laid_after : {A B : Type 0} (r : Result A B) (text : List ℕ) (ts : List Term) (folded : List ℕ) (row : ℕ) (text' : List ℕ) (ts' : List Term) → OnOk r (AddsTerm text ts folded row text' ts') → OnErr r ((text' ≡ text) × (ts' ≡ ts)) → AreLaid 0 ts (length text) × HaveHeads text ts → AreLaid 0 ts' (length text') × HaveHeads text' ts'
laid_after (Ok x) text ts folded row text' ts' ok err a = let w = added text ts folded row text' ts' a.0 a.1 ok in (w.laid, w.heads)
laid_after (Err e) text ts folded row text' ts' ok err a = subst (λ x. AreLaid 0 x (length text') × HaveHeads text' x) (sym err.1) (subst (λ x. AreLaid 0 ts (length x) × HaveHeads x ts) (sym err.0) a)

pub pushed_after : {A B : Type 0} (r : Result A B) (text : List ℕ) (ts : List Term) (folded : List ℕ) (row : ℕ) (text' : List ℕ) (ts' : List Term) (old posted : List TermAt) → OnOk r (AddsTerm text ts folded row text' ts') → AreLaid 0 ts (length text) × HaveHeads text ts → terms_at text ts ≡ old → posted ≡ record { folded = folded; row = row } ∷ [] → OnOk r (terms_at text' ts' ≡ old ++ posted)
pushed_after (Ok x) text ts folded row text' ts' old posted ok a view_is is = (added text ts folded row text' ts' a.0 a.1 ok).seen ∙ (λ i. view_is i ++ sym is i)
pushed_after (Err e) text ts folded row text' ts' old posted ok a view_is is = tt

pub posted_is : (row : RowValue) (d : Description) (i : ℕ) (text : List ℕ) → row.active ≡ true → row.body ≡ body.Description d → text ≡ folding d.term → posted_term row i ≡ record { folded = text; row = i } ∷ []
posted_is row d i text active is e =
    ap (λ b. if b then term_of_body row.body i else []) active
    ∙ ap (λ b. term_of_body b i) is
    ∙ ap (λ (f : List ℕ). record { folded = f; row = i } ∷ []) (sym e)
