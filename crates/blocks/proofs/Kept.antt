-- Look-ups of blocks that are kept.
use Rattle.std.proofs.Common.{◌≡◌, ◌⊎◌, inl, inr, ℕ, zero, suc, ◌*◌, ◌+◌, ◌≤◌, ◌-◌, ◌++◌, Bool, true, false, cond, List, [], ◌∷◌, length, take, drop, min, Option, Some, None, nat_eq, subst, sym, ap, ◌∙◌, arith, refl, append-nil, OnErr, Result, Ok, Err}
use Rattle.std.specs.Option.{option_map, option_map_or}
use Rattle.std.specs.Map.{lookup, lookup_entry, remove_entry}
use Rattle.std.proofs.lemmas.Bool.{eqb-true, cond-true, cond-false}
use Rattle.std.proofs.Math.ListN.{drop_of_length-le}
use Rattle.lru.specs.LruCache.{LruCache, lru_cache, promoted, put_entries}
use Rattle.lru.proofs.CallerLemmas.{Contains-lookup_entry}
use Rattle.blocks.specs.Cache.{block_of, count_of, kept_of, with_block, AgreesWith, KeepsRead}

pub by_answer : {P : Type 0} (b : Bool) → (b ≡ true → P) → (b ≡ false → P) → P
by_answer true p q = p refl
by_answer false p q = q refl

pub on_err : {T E P : Type 0} (r : Result T E) → P → OnErr r P
on_err (Ok x) p = tt
on_err (Err x) p = p

module _ {X : Type 0} where
  pub lookup-removed : (b q : ℕ) (es : List (ℕ × X)) → nat_eq q b ≡ false → lookup (nat_eq q) (remove_entry (nat_eq b) es) ≡ lookup (nat_eq q) es
  lookup-removed b q [] apart = refl
  lookup-removed b q (e ∷ es) apart = by_answer (nat_eq b e.0)
      (λ y. ap (lookup (nat_eq q)) (cond-true _ es (e ∷ remove_entry (nat_eq b) es) y) ∙ sym (cond-false _ (Some e.1) (lookup (nat_eq q) es) (subst (λ k. nat_eq q k ≡ false) (eqb-true b e.0 y) apart)))
      (λ n. ap (lookup (nat_eq q)) (cond-false _ es (e ∷ remove_entry (nat_eq b) es) n) ∙ ap (cond (nat_eq q e.0) (Some e.1)) (lookup-removed b q es apart))

  value_of_entry : (b : ℕ) (es : List (ℕ × X)) → lookup (nat_eq b) es ≡ option_map (λ e. e.1) (lookup_entry (nat_eq b) es)
  value_of_entry b [] = refl
  value_of_entry b (e ∷ es) = by_answer (nat_eq b e.0)
      (λ y. cond-true _ (Some e.1) (lookup (nat_eq b) es) y ∙ sym (ap (option_map (λ p. p.1)) (cond-true _ (Some e) (lookup_entry (nat_eq b) es) y)))
      (λ n. cond-false _ (Some e.1) (lookup (nat_eq b) es) n ∙ value_of_entry b es ∙ sym (ap (option_map (λ p. p.1)) (cond-false _ (Some e) (lookup_entry (nat_eq b) es) n)))

  -- what is kept doesn't change where a block is used
  pub lookup-promoted : (b q : ℕ) (es : List (ℕ × X)) → lookup (nat_eq q) (promoted (nat_eq b) es) ≡ lookup (nat_eq q) es
  lookup-promoted b q es = at (lookup_entry (nat_eq b) es) refl
    where
      at : (o : Option (ℕ × X)) → lookup_entry (nat_eq b) es ≡ o → lookup (nat_eq q) (option_map_or (λ e. e ∷ remove_entry (nat_eq b) es) o es) ≡ lookup (nat_eq q) es
      at None h = refl
      at (Some e) h =
          let key : b ≡ e.0 = eqb-true b e.0 (Contains-lookup_entry (nat_eq b) es e h).1 in
          by_answer (nat_eq q e.0)
          (λ y. cond-true _ (Some e.1) (lookup (nat_eq q) (remove_entry (nat_eq b) es)) y ∙ sym (subst (λ k. lookup (nat_eq k) es ≡ Some e.1) (key ∙ sym (eqb-true q e.0 y)) (value_of_entry b es ∙ ap (option_map (λ p. p.1)) h)))
          (λ n. cond-false _ (Some e.1) (lookup (nat_eq q) (remove_entry (nat_eq b) es)) n ∙ lookup-removed b q es (subst (λ k. nat_eq q k ≡ false) (sym key) n))

  lookup-take : (n q : ℕ) (es : List (ℕ × X)) (w : X) → lookup (nat_eq q) (take n es) ≡ Some w → lookup (nat_eq q) es ≡ Some w
  lookup-take zero q es w h = cc
  lookup-take (suc n) q [] w h = h
  lookup-take (suc n) q (e ∷ es) w h = by_answer (nat_eq q e.0)
      (λ y. cond-true _ (Some e.1) (lookup (nat_eq q) es) y ∙ sym (cond-true _ (Some e.1) (lookup (nat_eq q) (take n es)) y) ∙ h)
      (λ f. cond-false _ (Some e.1) (lookup (nat_eq q) es) f ∙ lookup-take n q es w (sym (cond-false _ (Some e.1) (lookup (nat_eq q) (take n es)) f) ∙ h))

  -- what is found after a put was put, or was there
  pub found-put : (c : LruCache ℕ X) (b q : ℕ) (v w : X) → lookup (nat_eq q) (put_entries nat_eq c b v) ≡ Some w → ((q ≡ b) × (v ≡ w)) ⊎ (lookup (nat_eq q) c.entries ≡ Some w)
  found-put c b q v w = at (lookup_entry (nat_eq b) c.entries) refl
    where
      front : (k : ℕ) (rest : List (ℕ × X)) → b ≡ k → (nat_eq q b ≡ false → lookup (nat_eq q) rest ≡ Some w → lookup (nat_eq q) c.entries ≡ Some w) → lookup (nat_eq q) ((k, v) ∷ rest) ≡ Some w → ((q ≡ b) × (v ≡ w)) ⊎ (lookup (nat_eq q) c.entries ≡ Some w)
      front k rest key so h = by_answer (nat_eq q k)
          (λ y. let same : Some v ≡ Some w = sym (cond-true _ (Some v) (lookup (nat_eq q) rest) y) ∙ h in inl (eqb-true q k y ∙ sym key, cc))
          (λ n. inr (so (subst (λ j. nat_eq q j ≡ false) (sym key) n) (sym (cond-false _ (Some v) (lookup (nat_eq q) rest) n) ∙ h)))

      at : (o : Option (ℕ × X)) → lookup_entry (nat_eq b) c.entries ≡ o → lookup (nat_eq q) (option_map_or (λ e. (e.0, v) ∷ remove_entry (nat_eq b) c.entries) o ((b, v) ∷ take (c.cap - 1) c.entries)) ≡ Some w
          → ((q ≡ b) × (v ≡ w)) ⊎ (lookup (nat_eq q) c.entries ≡ Some w)
      at None h = front b (take (c.cap - 1) c.entries) refl (λ apart. lookup-take (c.cap - 1) q c.entries w)
      at (Some e) h = front e.0 (remove_entry (nat_eq b) c.entries) (eqb-true b e.0 (Contains-lookup_entry (nat_eq b) c.entries e h).1) (λ apart was. sym (lookup-removed b q c.entries apart) ∙ was)

  -- a block that isn't kept goes nowhere
  pub promoted_none : (b : ℕ) (es : List (ℕ × X)) → lookup (nat_eq b) es ≡ None → promoted (nat_eq b) es ≡ es
  promoted_none b es none = at (lookup_entry (nat_eq b) es) refl
    where
      at : (o : Option (ℕ × X)) → lookup_entry (nat_eq b) es ≡ o → option_map_or (λ e. e ∷ remove_entry (nat_eq b) es) o es ≡ es
      at None h = refl
      at (Some e) h = let wrong : None ≡ Some e.1 = sym none ∙ value_of_entry b es ∙ ap (option_map (λ p. p.1)) h in absurd cc

-- ---- blocks that agree with a file

pub agrees_promoted : (file : List ℕ) (c d : LruCache ℕ (List ℕ)) (b : ℕ) → d ≡ lru_cache (promoted (nat_eq b) c.entries) c.cap → AgreesWith c file → AgreesWith d file
agrees_promoted file c d b is agrees q v kept = agrees q v (sym (lookup-promoted b q c.entries) ∙ subst (λ k. kept_of k q ≡ Some v) is kept)

-- after a block is kept besides, whether or not there was memory
pub agrees_besides : (file : List ℕ) (c d : LruCache ℕ (List ℕ)) (b : ℕ) (v : List ℕ) → (d ≡ c) ⊎ (d ≡ with_block b v c) → AgreesWith c file → (4096 * b + 4096 ≤ length file) × (v ≡ block_of file b) → AgreesWith d file
agrees_besides file c d b v (inl same) agrees is = subst (λ k. AgreesWith k file) (sym same) agrees
agrees_besides file c d b v (inr put) agrees is = λ q w kept. elim (found-put c b q v w (subst (λ k. kept_of k q ≡ Some w) put kept)) [
  | inl here ↦ subst (λ k. (4096 * k + 4096 ≤ length file) × (w ≡ block_of file k)) (sym here.0) (is.0, sym here.1 ∙ is.1)
  | inr was ↦ agrees q w was
]

pub keeps_besides : (c d : LruCache ℕ (List ℕ)) (b n : ℕ) (v : List ℕ) → (d ≡ c) ⊎ (d ≡ with_block b v c) → n ≡ 4096 → KeepsRead b v n c d
keeps_besides c d b n v (inl same) whole = inl same
keeps_besides c d b n v (inr put) whole = inr (whole, put)

-- ---- what a read of a block gives

pub count_kept : (file : List ℕ) (b : ℕ) → 4096 * b + 4096 ≤ length file → 4096 ≡ count_of file b
unfolding count_of
count_kept file b whole = omega (arith, whole)

-- a kept block is what a read gives
read_kept : (bytes into v : List ℕ) (b n : ℕ) → length into ≡ n → v ≡ take n (drop b bytes) → v ≡ take n (drop b bytes) ++ drop n into
read_kept bytes into v b n len is =
    let rest : drop n into ≡ [] = drop_of_length-le into (omega (arith, len)) in
    is ∙ sym (append-nil (take n (drop b bytes))) ∙ ap (λ xs. take n (drop b bytes) ++ xs) (sym rest)

pub bytes_kept : (file into v : List ℕ) (b n : ℕ) → n ≡ 4096 → length into ≡ n → v ≡ block_of file b → v ≡ take n (drop (4096 * b) file) ++ drop n into
unfolding block_of
bytes_kept file into v b n is len kept = read_kept file into v (4096 * b) n len (kept ∙ ap (λ m. take m (drop (4096 * b) file)) (sym is))

pub count_read : (file into : List ℕ) (b k n : ℕ) → n ≡ 4096 → length into ≡ n → k ≡ min (length into) (length file - 4096 * b) → k ≡ count_of file b
unfolding count_of
count_read file into b k n is len count = count ∙ ap (λ m. min m (length file - 4096 * b)) (len ∙ is)

-- what a full read gives is the block
read_whole : (bytes into new : List ℕ) (b k n : ℕ) → length into ≡ n → k ≡ n → new ≡ take k (drop b bytes) ++ drop k into → new ≡ take n (drop b bytes)
read_whole bytes into new b k n len is fill =
    let rest : drop k into ≡ [] = drop_of_length-le into (omega (arith, len, is)) in
    fill ∙ ap (λ xs. take k (drop b bytes) ++ xs) rest ∙ append-nil (take k (drop b bytes)) ∙ ap (λ m. take m (drop b bytes)) is

whole_count : (total b k : ℕ) → k ≡ 4096 → k ≡ min 4096 (total - b) → b + 4096 ≤ total
whole_count total b k is count = omega (arith, is, count)

pub whole_read : (file into new : List ℕ) (b k n : ℕ) → n ≡ 4096 → length into ≡ n → k ≡ 4096 → k ≡ min (length into) (length file - 4096 * b) → new ≡ take k (drop (4096 * b) file) ++ drop k into → (4096 * b + 4096 ≤ length file) × (new ≡ block_of file b)
unfolding block_of
whole_read file into new b k n four len full count fill = (
  whole_count (length file) (4096 * b) k full (count ∙ ap (λ m. min m (length file - 4096 * b)) (len ∙ four)),
  read_whole file into new (4096 * b) k n len (full ∙ sym four) fill ∙ ap (λ m. take m (drop (4096 * b) file)) four,
)
