-- A search that goes from concept to concept.
use Rattle.std.proofs.Common.{◌≡◌, ℕ, ◌+◌, ◌<◌, List, [], ◌∷◌, ◌++◌, length, get_or, take, refl, sym, ap, subst, inl, inr, ◌∙◌, arith, append-nil, append_assoc}
use Rattle.std.specs.Prelude.{◌==◌, true, false}
use Rattle.std.specs.List.{list_any}
use Rattle.std.proofs.lemmas.List.{take_more, take-append-le}
use Rattle.std.specs.Ordering.{nat_cmp}
use Rattle.std.specs.Cmp.{ranked}
use Rattle.std.specs.declared.cmp.Ordering.TheVariants.{Equal}
use Rattle.std.proofs.lemmas.Bool.{eqb-true}
use Rattle.history_model.specs.InOrder.{Has, IsAscending, in_order}
use Rattle.history_model.specs.Private.{Adds}
use Rattle.history_model.specs.Hierarchy.{IsReached, AreReached}
use Rattle.history_model.proofs.InOrder.{Has-put_all_cases, Has-put_all_new, Has-append_left, Has-append_right, Has-append_cases}
use Rattle.history_model.proofs.Hierarchy.{reached_next, reached_then, path_within}
use Rattle.history_model.proofs.Items.{Has-get_or}

-- all that was found is reached; the next ones of the first concept were found, and those of each concept that is done
pub record IsSearched (next : ℕ → List ℕ) (from : ℕ) (done found : List ℕ) : Type 0 where
  pub reached : (x : ℕ) → Has found x → IsReached next from x
  pub first : (x : ℕ) → Has (next from) x → Has found x
  pub closed : (a x : ℕ) → Has done a → Has (next a) x → Has found x

-- of one more that is missing, or isn't
pub adds_nothing : (old : List ℕ) → Adds [] old old
adds_nothing old = record { more = []; new_is = sym (append-nil old); only = λ x h. h; each = λ x h. absurd h }

pub adds_one : (xs old mid : List ℕ) (y : ℕ) → Adds xs old mid → Adds (xs ++ y ∷ []) old (mid ++ y ∷ [])
adds_one xs old mid y a = record {
  more = a.more ++ y ∷ [];
  new_is = ap (λ ys. ys ++ y ∷ []) a.new_is ∙ append_assoc old a.more (y ∷ []);
  only = λ x h. elim (Has-append_cases a.more (y ∷ []) x h) [ inl k ↦ Has-append_left xs (y ∷ []) x (a.only x k) | inr k ↦ Has-append_right xs (y ∷ []) x k ];
  each = λ x h. elim (Has-append_cases xs (y ∷ []) x h) [ inl k ↦ Has-append_left mid (y ∷ []) x (a.each x k) | inr k ↦ Has-append_right mid (y ∷ []) x k ];
}

pub adds_known : (xs old mid : List ℕ) (y : ℕ) → Adds xs old mid → Has mid y → Adds (xs ++ y ∷ []) old mid
adds_known xs old mid y a there = record {
  more = a.more;
  new_is = a.new_is;
  only = λ x h. Has-append_left xs (y ∷ []) x (a.only x h);
  each = λ x h. elim (Has-append_cases xs (y ∷ []) x h) [ inl k ↦ a.each x k | inr k ↦ elim k [ inl e ↦ subst (λ z. Has mid z) e there | inr n ↦ absurd n ] ];
}

pub has_from_any : (ys : List ℕ) (y : ℕ) → list_any (λ other. other == y) ys ≡ true → Has ys y
has_from_any [] y e = absurd (cc)
has_from_any (z ∷ ys) y e = elim (z == y) as (λ b. (z == y) ≡ b → Has (z ∷ ys) y) [
  | true ↦ λ f. inl (eqb-true z y f)
  | false ↦ λ f. inr (has_from_any ys y (rw f at e))
] refl

-- numbers in order are those of the list
pub in_order_has : (xs : List ℕ) (x : ℕ) → Has (in_order nat_cmp xs) x → Has xs x
in_order_has xs x h = elim (Has-put_all_cases nat_cmp xs [] x h) [ inl k ↦ k | inr k ↦ absurd k ]

pub has_in_order : (xs : List ℕ) (x : ℕ) → Has xs x → Has (in_order nat_cmp xs) x
has_in_order xs x h = Has-put_all_new nat_cmp xs [] x (λ y there tie. sym (ranked x y Equal (sym tie))) h

module _ (next : ℕ → List ℕ) (from : ℕ) where
  pub search_begins : (found : List ℕ) → ((x : ℕ) → Has (next from) x → Has found x) → ((x : ℕ) → Has found x → Has (next from) x) → IsSearched next from [] found
  search_begins found each only = record {
    reached = λ x h. reached_next next from x (only x h);
    first = each;
    closed = λ a x h. absurd h;
  }

  -- one concept more is done
  pub search_goes_on : (i : ℕ) (found new : List ℕ) (d : ℕ) → i < length found → IsSearched next from (take i found) found → Adds (next (get_or found i d)) found new → IsSearched next from (take (i + 1) new) new
  search_goes_on i found new d within s a =
      let here : Has found (get_or found i d) = Has-get_or found i d within in
      let kept : (x : ℕ) → Has found x → Has new x = λ x h. subst (λ ys. Has ys x) (sym a.new_is) (Has-append_left found a.more x h) in
      let done_is : take (i + 1) new ≡ take i found ++ get_or found i d ∷ [] =
      ap (take (i + 1)) a.new_is ∙ take-append-le (i + 1) found a.more (omega arith) ∙ take_more found i d within in
      record {
        reached = λ x h. elim (Has-append_cases found a.more x (subst (λ ys. Has ys x) a.new_is h)) [
          | inl k ↦ s.reached x k
          | inr k ↦ reached_then next from (get_or found i d) x (s.reached (get_or found i d) here) (reached_next next (get_or found i d) x (a.only x k))
        ];
        first = λ x h. kept x (s.first x h);
        closed = λ b x h k. elim (Has-append_cases (take i found) (get_or found i d ∷ []) b (subst (λ ys. Has ys b) done_is h)) [
          | inl m ↦ kept x (s.closed b x m k)
          | inr m ↦ elim m [ inl e ↦ a.each x (subst (λ n. Has (next n) x) (sym e) k) | inr n ↦ absurd n ]
        ];
      }

  -- all that was found is done
  pub search_ends : (found ids : List ℕ) → IsSearched next from found found → IsAscending nat_cmp ids → ((x : ℕ) → Has ids x → Has found x) → ((x : ℕ) → Has found x → Has ids x) → AreReached next from ids
  search_ends found ids s up only each = record {
    ascending = up;
    members = λ x. (
      λ h. s.reached x (only x h),
      λ r. each x (path_within next (λ y. Has found y) s.closed from r.0 x s.first r.1),
    );
  }
