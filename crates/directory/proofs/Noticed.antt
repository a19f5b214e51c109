-- A byte of a block that was changed.
use Rattle.std.proofs.Common.{◌≡◌, ◌≢◌, ◌⊎◌, inl, inr, ℕ, zero, suc, ◌+◌, ◌-◌, ◌<◌, List, [], ◌∷◌, ◌++◌, length, take, drop, replicate, get_or, refl, sym, ap, subst, ◌∙◌, arith}
use Rattle.std.specs.Int.{w32, w64, to_be_bytes}
use Rattle.std.specs.List.{AllByRecursion, flat_map}
use Rattle.std.proofs.lemmas.Bool.{cases_lt, cases_eq}
use Rattle.std.proofs.lemmas.List.{append_cancel_left, get_or-drop, get_or-take, take-append-le, drop-append-le}
use Rattle.list_lemmas.proofs.Each.{each_of_parts, each_of_both, each_of_taken}
use Rattle.list_lemmas.proofs.Parts.{drop_beyond, take_beyond, same_first_and_rest}
use Rattle.checksum.specs.Crc32c.{crc32c}
use Rattle.checksum.proofs.ChecksumLaws.{is_number_of_32_bits, one_byte_is_noticed}
use Rattle.directory.specs.declared.layout.Layout.{Layout}
use Rattle.directory.specs.declared.layout.Layout.TheVariants as layouts
use Rattle.directory.specs.Listings.{DirectoryValue, next_layout}
use Rattle.directory.specs.Content.{HasEpoch, HasMark, HasOlderMark, HasSum, Lists, MayPrecede, ChangedByteIsNoticed, ChangedByteMayNotPrecede, ListedMayPrecede, entry_bytes, listing_bytes, mark, sum_of}
use Rattle.directory.proofs.Spelled.{block_is, header_fields, one_mark, same_4}

pub same_at : (before after : List ℕ) (b c i : ℕ) → i ≢ length before → get_or (before ++ b ∷ after) i 0 ≡ get_or (before ++ c ∷ after) i 0
same_at [] after b c zero other = absurd (other refl)
same_at [] after b c (suc i) other = refl
same_at (x ∷ before) after b c zero other = refl
same_at (x ∷ before) after b c (suc i) other = same_at before after b c i (λ e. other (ap suc e))

-- ---- two bytes of the marks

third : Layout → ℕ
third layouts.One = 72
third layouts.Two = 72
third layouts.Three = 83

fourth : Layout → ℕ
fourth layouts.One = 73
fourth layouts.Two = 73
fourth layouts.Three = 84

third_is : (layout : Layout) → get_or (mark layout) 3 0 ≡ third layout
unfolding mark third
third_is layouts.One = refl
third_is layouts.Two = refl
third_is layouts.Three = refl

fourth_is : (layout : Layout) → get_or (mark layout) 4 0 ≡ fourth layout
unfolding mark fourth
fourth_is layouts.One = refl
fourth_is layouts.Two = refl
fourth_is layouts.Three = refl

record HasTwoBytes (layout : Layout) (block : List ℕ) : Type 0 where
  at_11 : get_or block 11 0 ≡ third layout
  at_12 : get_or block 12 0 ≡ fourth layout

byte_of_mark : (block : List ℕ) (i : ℕ) → i < 8 → get_or block (8 + i) 0 ≡ get_or (take 8 (drop 8 block)) i 0
byte_of_mark block i lt = sym (get_or-take 8 (drop 8 block) i 0 lt ∙ get_or-drop 8 block i 0)

two_bytes : (layout : Layout) (block : List ℕ) → HasMark layout block → HasTwoBytes layout block
two_bytes layout block marked = record {
  at_11 = byte_of_mark block 3 (omega arith) ∙ ap (λ (l : List ℕ). get_or l 3 0) marked ∙ third_is layout;
  at_12 = byte_of_mark block 4 (omega arith) ∙ ap (λ (l : List ℕ). get_or l 4 0) marked ∙ fourth_is layout;
}

mark_is : (layout : Layout) (epoch : ℕ) (rest : List ℕ) → take 8 (drop 8 (to_be_bytes w64 epoch ++ (mark layout ++ rest))) ≡ mark layout
unfolding mark
mark_is layouts.One epoch rest = refl
mark_is layouts.Two epoch rest = refl
mark_is layouts.Three epoch rest = refl

pub marked : (block : List ℕ) (d : DirectoryValue) → Lists block d → HasMark d.layout block
marked block d lists =
    let whole = block_is block d lists ∙ header_fields d.layout d.epoch d.imports _ _ in
    ap (λ (l : List ℕ). take 8 (drop 8 l)) whole ∙ mark_is d.layout d.epoch _

-- a block of layout 3 in which one byte was changed is none of an older layout
not_older : (before after : List ℕ) (b c three four : ℕ) → three ≢ 83 → four ≢ 84 → get_or (before ++ b ∷ after) 11 0 ≡ 83 → get_or (before ++ b ∷ after) 12 0 ≡ 84 → get_or (before ++ c ∷ after) 11 0 ≡ three → get_or (before ++ c ∷ after) 12 0 ≡ four → ⊥
not_older before after b c three four other_3 other_4 at_11 at_12 is_11 is_12 = elim (cases_eq 11 (length before)) [
  | inl here ↦ other_4 (sym is_12 ∙ sym (same_at before after b c 12 (λ e. omega (arith, here, e))) ∙ at_12)
  | inr there ↦ other_3 (sym is_11 ∙ sym (same_at before after b c 11 there) ∙ at_11)
]

-- ---- the checksum

numbers_same : (xs ys : List ℕ) → AllByRecursion (λ b. b < 256) xs → AllByRecursion (λ b. b < 256) ys → to_be_bytes w32 (crc32c xs) ≡ to_be_bytes w32 (crc32c ys) → crc32c xs ≡ crc32c ys
numbers_same xs ys all others e = same_4 (crc32c xs) (crc32c ys) (is_number_of_32_bits xs all) (is_number_of_32_bits ys others) e

by_sum : (before after : List ℕ) (byte changed : ℕ) → AllByRecursion (λ b. b < 256) (before ++ byte ∷ after) → changed < 256
    → drop 4092 (before ++ byte ∷ after) ≡ sum_of (before ++ byte ∷ after) → drop 4092 (before ++ changed ∷ after) ≡ sum_of (before ++ changed ∷ after) → byte ≡ changed
by_sum before after byte changed all small is others = elim (cases_lt (length before) 4092) [
  | inl short ↦
      let parts = each_of_parts (λ b. b < 256) before byte after all in
      let rest = take (4092 - (length before + 1)) after in
      let rests = each_of_taken (λ b. b < 256) (4092 - (length before + 1)) after parts.2 in
      let sums : to_be_bytes w32 (crc32c (before ++ byte ∷ rest)) ≡ to_be_bytes w32 (crc32c (before ++ changed ∷ rest)) =
      ap (λ (l : List ℕ). to_be_bytes w32 (crc32c l)) (sym (take_beyond 4092 before after byte short)) ∙ sym is ∙ drop_beyond 4092 before after byte changed short ∙ others
      ∙ ap (λ (l : List ℕ). to_be_bytes w32 (crc32c l)) (take_beyond 4092 before after changed short) in
      one_byte_is_noticed before rest byte changed parts.0 rests parts.1 small
      (numbers_same (before ++ byte ∷ rest) (before ++ changed ∷ rest) (each_of_both (λ b. b < 256) before (byte ∷ rest) parts.0 (parts.1, rests)) (each_of_both (λ b. b < 256) before (changed ∷ rest) parts.0 (small, rests)) sums)
  | inr long ↦
      let front : take 4092 (before ++ byte ∷ after) ≡ take 4092 (before ++ changed ∷ after) = take-append-le 4092 before (byte ∷ after) long ∙ sym (take-append-le 4092 before (changed ∷ after) long) in
      let ends : drop 4092 (before ++ byte ∷ after) ≡ drop 4092 (before ++ changed ∷ after) = is ∙ ap (λ (l : List ℕ). to_be_bytes w32 (crc32c l)) front ∙ sym others in
      (same_first_and_rest byte changed after after (append_cancel_left (drop 4092 before) (byte ∷ after) (changed ∷ after) (sym (drop-append-le 4092 before (byte ∷ after) long) ∙ ends ∙ drop-append-le 4092 before (changed ∷ after) long))).0
]

-- ---- a changed block of layout 3

module _ (before after : List ℕ) (byte changed : ℕ) (all : AllByRecursion (λ b. b < 256) (before ++ byte ∷ after)) (small : changed < 256) (marks : HasMark layouts.Three (before ++ byte ∷ after)) (sum : HasSum layouts.Three (before ++ byte ∷ after)) where
  not_older_marked : HasOlderMark (before ++ changed ∷ after) → ⊥
  unfolding third fourth
  not_older_marked older =
      let m = two_bytes layouts.Three (before ++ byte ∷ after) marks in
      elim older [
        | inl one ↦ let n = two_bytes layouts.One (before ++ changed ∷ after) one in not_older before after byte changed 72 73 (λ e. omega (arith, e)) (λ e. omega (arith, e)) m.at_11 m.at_12 n.at_11 n.at_12
        | inr two ↦ let n = two_bytes layouts.Two (before ++ changed ∷ after) two in not_older before after byte changed 72 73 (λ e. omega (arith, e)) (λ e. omega (arith, e)) m.at_11 m.at_12 n.at_11 n.at_12
      ]

  pub noticed : (layout : Layout) → HasMark layout (before ++ changed ∷ after) → HasSum layout (before ++ changed ∷ after) → byte ≡ changed
  noticed layouts.One has other = absurd (not_older_marked (inl has))
  noticed layouts.Two has other = absurd (not_older_marked (inr has))
  noticed layouts.Three has other = by_sum before after byte changed all small sum other

  still_marked : length before < 8 → HasMark layouts.Three (before ++ changed ∷ after)
  still_marked short = ap (take 8) (sym (drop_beyond 8 before after byte changed short)) ∙ marks

  pub may_not_precede : (layout : Layout) (epoch : ℕ) → (layout ≡ layouts.Three) ⊎ (length before < 8) → MayPrecede layout epoch (before ++ changed ∷ after) → byte ≡ changed
  may_not_precede layouts.One epoch (inl three) may = absurd cc
  may_not_precede layouts.One epoch (inr short) may = absurd (may (still_marked short))
  may_not_precede layouts.Two epoch (inl three) may = absurd cc
  may_not_precede layouts.Two epoch (inr short) may = absurd (may (still_marked short))
  may_not_precede layouts.Three epoch how (at, inl older) = absurd (not_older_marked older)
  may_not_precede layouts.Three epoch how (at, inr other) = by_sum before after byte changed all small sum other

pub changed_byte_is_noticed : ChangedByteIsNoticed
changed_byte_is_noticed d e before after byte changed all small long three is others =
    noticed before after byte changed all small
    (subst (λ (v : Layout). HasMark v (before ++ byte ∷ after)) three (marked (before ++ byte ∷ after) d is))
    (subst (λ (v : Layout). HasSum v (before ++ byte ∷ after)) three is.sum)
    e.layout (marked (before ++ changed ∷ after) e others) others.sum

pub changed_byte_may_not_precede : ChangedByteMayNotPrecede
changed_byte_may_not_precede layout epoch before after byte changed all small marks sum how may = may_not_precede before after byte changed all small marks sum layout epoch how may

-- ---- what may precede

pub not_three : (old : Layout) (block : List ℕ) → (old ≡ layouts.Three → ⊥) → HasMark old block → HasMark layouts.Three block → ⊥
not_three old block other has three = other (one_mark old layouts.Three (sym has ∙ three))

epoch_is : (epoch : ℕ) (rest : List ℕ) → take 8 (to_be_bytes w64 epoch ++ rest) ≡ to_be_bytes w64 epoch
epoch_is epoch rest = refl

pub has_epoch : (block : List ℕ) (d : DirectoryValue) → Lists block d → HasEpoch d.epoch block
has_epoch block d lists =
    ap (take 8) (block_is block d lists ∙ header_fields d.layout d.epoch d.imports (length d.entries) (flat_map entry_bytes d.entries ++ drop (length (listing_bytes d)) block)) ∙ epoch_is d.epoch (mark d.layout ++ (to_be_bytes w32 d.imports ++ (to_be_bytes w32 (length d.entries) ++ (replicate 8 0 ++ (flat_map entry_bytes d.entries ++ drop (length (listing_bytes d)) block)))))

one_less : (n : ℕ) → (n + 1) - 1 ≡ n
one_less n = omega arith

precedes : (layout : Layout) (epoch : ℕ) (block : List ℕ) → HasMark layout block → HasSum layout block → HasEpoch epoch block → MayPrecede (next_layout layout) (epoch + 1) block
precedes layouts.One epoch block has sum at = not_three layouts.One block (λ e. cc) has
precedes layouts.Two epoch block has sum at = not_three layouts.Two block (λ e. cc) has
precedes layouts.Three epoch block has sum at = (subst (λ n. HasEpoch n block) (sym (one_less epoch)) at, inr sum)

pub listed_may_precede : ListedMayPrecede
listed_may_precede block d lists = precedes d.layout d.epoch block (marked block d lists) lists.sum (has_epoch block d lists)
