-- The steps that collect an answer: one posting more, one list more, and each of them once.
use Rattle.std.proofs.Common.{◌≡◌, ℕ, List, [], ◌∷◌, ◌++◌, refl, sym, ap, subst, inl, inr}
use Rattle.history_model.specs.InOrder.{Has}
use Rattle.history_model.proofs.InOrder.{Has-append_left, Has-append_right, Has-append_cases}
use Rattle.history_model.proofs.Filtered.{Has-map_from}
use Rattle.links.specs.Private.{Takes, AreTaken}
use Rattle.links.proofs.Numbering.{in_list, one_of}

module _ {X Y : Type 0} (Gives : X → Y → Type 0) where
  pub takes_nothing : (ys : List Y) → Takes Gives [] ys ys
  takes_nothing ys = record { kept = λ y h. h; taken = λ x y h. absurd h; only = λ y h. inl h }

  -- one that gives y, and nothing else
  pub takes_one : (xs : List X) (x : X) (y : Y) (old new : List Y) → Takes Gives xs old new → Gives x y → ((z : Y) → Gives x z → y ≡ z) → Takes Gives (xs ++ x ∷ []) old (new ++ y ∷ [])
  takes_one xs x y old new t given one = record {
    kept = λ z h. Has-append_left new (y ∷ []) z (t.kept z h);
    taken = λ m z h k. elim (Has-append_cases xs (x ∷ []) m h) [
      | inl a ↦ Has-append_left new (y ∷ []) z (t.taken m z a k)
      | inr b ↦ elim b [ inl e ↦ Has-append_right new (y ∷ []) z (inl (one z (subst (λ (w : X). Gives w z) (sym e) k))) | inr f ↦ absurd f ]
    ];
    only = λ z h. elim (Has-append_cases new (y ∷ []) z h) [
      | inl g ↦ elim (t.only z g) [ inl a ↦ inl a | inr b ↦ inr (b.0, Has-append_left xs (x ∷ []) b.0 b.1, b.2) ]
      | inr g ↦ elim g [ inl e ↦ inr (x, Has-append_right xs (x ∷ []) x (inl refl), subst (λ w. Gives x w) e given) | inr f ↦ absurd f ]
    ];
  }

  -- one that gives nothing
  pub takes_none : (xs : List X) (x : X) (old new : List Y) → Takes Gives xs old new → ((z : Y) → Gives x z → ⊥) → Takes Gives (xs ++ x ∷ []) old new
  takes_none xs x old new t none = record {
    kept = t.kept;
    taken = λ m z h k. elim (Has-append_cases xs (x ∷ []) m h) [
      | inl a ↦ t.taken m z a k
      | inr b ↦ elim b [ inl e ↦ absurd (none z (subst (λ (w : X). Gives w z) (sym e) k)) | inr f ↦ absurd f ]
    ];
    only = λ z h. elim (t.only z h) [ inl a ↦ inl a | inr b ↦ inr (b.0, Has-append_left xs (x ∷ []) b.0 b.1, b.2) ];
  }

module _ {X Y : Type 0} (Gives : ℕ → X → Y → Type 0) (of : X → ℕ) (d : ℕ) where
  pub none_taken : AreTaken Gives of d [] []
  none_taken = record { taken = λ x y h. absurd h; only = λ y h. absurd h }

  pub more_taken : (n : ℕ) (seen : List (ℕ × X)) (xs those : List X) (old new : List Y) → AreTaken Gives of d seen old → ((x : X) → (Has those x → Has xs x × (of x ≡ d)) × (Has xs x × (of x ≡ d) → Has those x)) → Takes (Gives n) those old new → AreTaken Gives of d (seen ++ in_list n xs) new
  more_taken n seen xs those old new a which t = record {
    taken = λ x y h e given. elim (Has-append_cases seen (in_list n xs) x h) [
      | inl l ↦ t.kept y (a.taken x y l e given)
      | inr r ↦ (
          let m = one_of n xs x r in
          let there : Has xs x.1 = subst (λ z. Has xs z) (sym (ap (λ (z : ℕ × X). z.1) m.2)) m.1 in
          t.taken x.1 y ((which x.1).1 (there, e)) (subst (λ k. Gives k x.1 y) (ap (λ (z : ℕ × X). z.0) m.2) given))
    ];
    only = λ y h. elim (t.only y h) [
      | inl l ↦ (let w = a.only y l in (w.0, Has-append_left seen (in_list n xs) w.0 w.1, w.2, w.3))
      | inr r ↦ (let q = (which r.0).0 r.1 in ((n, r.0), Has-append_right seen (in_list n xs) (n, r.0) (Has-map_from (λ (x : X). (n, x)) xs r.0 q.0), q.1, r.2))
    ];
  }
