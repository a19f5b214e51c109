-- How the folded terms of a list are stored in one text: definitions for the types' invariants.
use Rattle.std.specs.Prelude.{◌≡◌, ℕ, zero, suc, ◌+◌, ◌*◌, ◌^◌, List, [], ◌∷◌, map, take, drop}
use Rattle.term_prefix.specs.declared.text.Term.{Term}
use Rattle.term_prefix.specs.Terms.{TermAt}

-- a term whose folding is in a text
abbrev pub term_at : List ℕ → Term → TermAt
term_at text t = record { folded = take t.len (drop t.start text); row = t.row }

abbrev pub terms_at : List ℕ → List Term → List TermAt
terms_at text ts = map (term_at text) ts

-- the foldings are stored one after the other, from offset `from` to offset `end`
abbrev pub AreLaid : ℕ → List Term → ℕ → Type 0
AreLaid from [] end = from ≡ end
AreLaid from (t ∷ ts) end = (t.start ≡ from) × AreLaid (from + t.len) ts end

-- the first `n` bytes as one big-endian number; a shorter text is extended by zeros
unfoldable pub head : ℕ → List ℕ → ℕ
head zero bytes = 0
head (suc n) [] = 0
head (suc n) (b ∷ bytes) = b * 256 ^ n + head n bytes

-- each term has the head of its folding
abbrev pub HaveHeads : List ℕ → List Term → Type 0
HaveHeads text ts = map (λ t. t.head) ts ≡ map (λ t. head 16 t.folded) (terms_at text ts)
