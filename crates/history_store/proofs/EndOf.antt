-- The end of all that is taken.
use Rattle.std.proofs.Common.{◌≡◌, ℕ, ◌+◌, ◌<◌, length, take, get_or, max, List, [], ◌∷◌, ◌++◌, refl, ap, sym, ◌∙◌, arith, ◌*◌, ◌≤◌}
use Rattle.std.specs.List.{AllByRecursion}
use Rattle.std.proofs.lemmas.List.{take_more, append-nil}
use Rattle.blocks.specs.declared.extent.Extent.{Extent}
use Rattle.directory.specs.declared.entry.Entry.{Entry}
use Rattle.directory.specs.Listings.{IsEntry}
use Rattle.directory.specs.Places.{end_block, extent_of, extents_of}
use Rattle.store_image.specs.Trimmed.{EndBelow}
use Rattle.history_store.specs.Merging.{end_of_taken}

pub end_insert : (xs ys : List Extent) (x : Extent) → end_of_taken (xs ++ x ∷ ys) ≡ max (end_block x) (end_of_taken (xs ++ ys))
end_insert [] ys x = refl
end_insert (z ∷ xs) ys x = let rest = end_insert xs ys x in omega (arith, rest)

pub at_least_four : (extents : List Extent) → 4 ≤ end_of_taken extents
at_least_four [] = omega arith
at_least_four (x ∷ extents) = let rest = at_least_four extents in omega (arith, rest)

-- each segment ends below it
pub ends_below : (entries : List Entry) (others : List Extent) (len : ℕ) → 4096 * end_of_taken (extents_of entries ++ others) ≤ len → EndBelow len entries
ends_below [] others len le = tt
ends_below (e ∷ es) others len le = (omega (arith, le), ends_below es others len (omega (arith, le)))

end_push : (entries : List Entry) (e : Entry) → end_of_taken (extents_of (entries ++ e ∷ [])) ≡ max (end_block (extent_of e)) (end_of_taken (extents_of entries))
end_push [] e = refl
end_push (x ∷ entries) e = let rest = end_push entries e in omega (arith, rest)

pub end_more : (entries : List Entry) (i : ℕ) (e d : Entry) → i < length entries → e ≡ get_or entries i d → end_of_taken (extents_of (take (i + 1) entries)) ≡ max (end_block (extent_of e)) (end_of_taken (extents_of (take i entries)))
end_more entries i e d lt is =
    ap (λ (l : List Entry). end_of_taken (extents_of l)) (take_more entries i d lt ∙ ap (λ (x : Entry). take i entries ++ x ∷ []) (sym is)) ∙ end_push (take i entries) e

pub end_none : (entries : List Entry) → end_of_taken (extents_of entries ++ []) ≡ end_of_taken (extents_of entries)
end_none entries = ap end_of_taken (append-nil (extents_of entries))

pub end_reserved : (entries : List Entry) (x : Extent) → end_of_taken (extents_of entries ++ x ∷ []) ≡ max (end_block x) (end_of_taken (extents_of entries))
end_reserved entries x = end_insert (extents_of entries) [] x ∙ ap (λ n. max (end_block x) n) (end_none entries)

pub end_step : (entries : List Entry) (i : ℕ) (x : Extent) (e d : Entry) → x ≡ extent_of e → i < length entries → e ≡ get_or entries i d → end_of_taken (extents_of (take (i + 1) entries)) ≡ max (end_block x) (end_of_taken (extents_of (take i entries)))
end_step entries i x e d same lt is = end_more entries i e d lt is ∙ ap (λ (y : Extent). max (end_block y) (end_of_taken (extents_of (take i entries)))) (sym same)

-- where none ends above a block, neither does all that is taken
pub end_within : (extents : List Extent) (limit : ℕ) → 4 ≤ limit → AllByRecursion (λ x. end_block x ≤ limit) extents → end_of_taken extents ≤ limit
end_within [] limit four all = four
end_within (x ∷ extents) limit four all = let rest = end_within extents limit four all.1 in omega (arith, rest, all.0)

pub entries_within : (entries : List Entry) (others : List Extent) → AllByRecursion IsEntry entries → AllByRecursion (λ x. end_block x ≤ 4194304) others → AllByRecursion (λ x. end_block x ≤ 4194304) (extents_of entries ++ others)
entries_within [] others each all = all
entries_within (e ∷ entries) others each all = (each.0.end_is, entries_within entries others each.1 all)
