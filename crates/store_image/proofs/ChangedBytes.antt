-- A byte of a directory of layout 3 that was changed, in the current slot or in the other one.
use Rattle.std.proofs.Common.{◌≡◌, ◌≢◌, ◌⊎◌, inl, inr, ℕ, ◌+◌, ◌-◌, ◌<◌, ◌≤◌, List, ◌∷◌, ◌++◌, length, take, drop, get_or, refl, sym, ap, subst, ◌∙◌, arith, length-append, length-drop}
use Rattle.std.specs.List.{AllByRecursion}
use Rattle.std.specs.Int.{w64, from_be_bytes}
use Rattle.std.proofs.lemmas.Bool.{cases_lt, cases_eq}
use Rattle.std.proofs.lemmas.List.{take-append-le, drop-append-le}
use Rattle.list_lemmas.proofs.Each.{each_of_taken, each_of_dropped}
use Rattle.list_lemmas.proofs.Parts.{take_beyond}
use Rattle.blocks.specs.declared.slots.Slot.{Slot}
use Rattle.blocks.specs.declared.slots.Slot.TheVariants.{A, B}
use Rattle.blocks.specs.Slots.{IsGreatest, IsOpen, content_at, content_of, epoch_of, gate_at, other}
use Rattle.blocks.proofs.Windows.{window_same}
use Rattle.blocks.proofs.SlotFrames.{content_within, other-other}
use Rattle.directory.specs.declared.layout.Layout.{Layout}
use Rattle.directory.specs.declared.layout.Layout.TheVariants as layouts
use Rattle.directory.specs.Listings.{DirectoryValue}
use Rattle.directory.specs.Content.{HasMark, HasSum, Lists, MayPrecede}
use Rattle.directory.proofs.Noticed.{marked, may_not_precede, not_three, noticed, same_at}
use Rattle.directory.proofs.Spelled.{one_listing}
use Rattle.store_image.specs.declared.fault.Damage.TheVariants as damages
use Rattle.store_image.specs.Damage.{IsDamaged}
use Rattle.store_image.specs.Changed.{IsChanged, IsNoticed, ChangedDirectoryIsDamaged, ChangedOtherIsDamaged}

-- neither gate is in a content block, and neither content block is in the other
gate_apart : (slot one : Slot) (p : ℕ) → content_at slot ≤ p → p < content_at slot + 4096 → gate_at one ≢ p
gate_apart A A p le lt e = omega (arith, le, e)
gate_apart A B p le lt e = omega (arith, lt, e)
gate_apart B A p le lt e = omega (arith, le, e)
gate_apart B B p le lt e = omega (arith, le, e)

content_apart : (slot : Slot) (p i : ℕ) → content_at slot ≤ p → p < content_at slot + 4096 → content_at (other slot) ≤ i → i < content_at (other slot) + 4096 → i ≢ p
content_apart A p i le lt ge below e = omega (arith, lt, ge, e)
content_apart B p i le lt ge below e = omega (arith, le, below, e)

same_length : (before after : List ℕ) (b c : ℕ) → length (before ++ b ∷ after) ≡ length (before ++ c ∷ after)
same_length before after b c = length-append before (b ∷ after) ∙ sym (length-append before (c ∷ after))

one_or_other : (slot one : Slot) → (one ≡ slot) ⊎ (one ≡ other slot)
one_or_other A A = inl refl
one_or_other A B = inr refl
one_or_other B A = inr refl
one_or_other B B = inl refl

-- of two open slots with one epoch none is the greatest
none_greatest : (file : List ℕ) (slot one : Slot) (k : ℕ) → IsOpen slot file → IsOpen (other slot) file → epoch_of (content_of (other slot) file) ≡ epoch_of (content_of slot file) → IsGreatest one k file → ⊥
none_greatest file slot one k opened also same greatest = elim (one_or_other slot one) [
  | inl is ↦
      let g = subst (λ (s : Slot). IsGreatest s k file) is greatest in
      let below = g.above also in
      let at = g.epoch_is in
      omega (arith, same, below, at)
  | inr is ↦
      let g = subst (λ (s : Slot). IsGreatest s k file) is greatest in
      let above = subst (λ (s : Slot). IsOpen s file → epoch_of (content_of s file) < k) (other-other slot) g.above in
      let below = above opened in
      let at = g.epoch_is in
      omega (arith, same, below, at)
]

-- ---- a byte of the block of one slot, which is open and of layout 3

module _ (before after : List ℕ) (byte changed : ℕ) (is : IsChanged before byte changed after) (one : Slot) (le : content_at one ≤ length before) (lt : length before < content_at one + 4096) (whole : 16384 ≤ length (before ++ byte ∷ after)) where
  abbrev old : List ℕ
  old = before ++ byte ∷ after

  abbrev new : List ℕ
  new = before ++ changed ∷ after

  abbrev front : List ℕ
  front = drop (content_at one) before

  abbrev rest : List ℕ
  rest = take (4096 - (length front + 1)) after

  abbrev mine : ℕ
  mine = epoch_of (content_of one new)

  abbrev others : ℕ
  others = epoch_of (content_of (other one) new)

  whole_still : 16384 ≤ length new
  whole_still = omega (arith, whole, same_length before after byte changed)

  open_still : (slot : Slot) → IsOpen slot old → IsOpen slot new
  open_still slot opened = sym (same_at before after byte changed (gate_at slot) (gate_apart one slot (length before) le lt)) ∙ opened

  open_before : (slot : Slot) → IsOpen slot new → IsOpen slot old
  open_before slot opened = same_at before after byte changed (gate_at slot) (gate_apart one slot (length before) le lt) ∙ opened

  parts : (b : ℕ) → content_of one (before ++ b ∷ after) ≡ front ++ b ∷ rest
  unfolding content_of
  parts b = ap (take 4096) (drop-append-le (content_at one) before (b ∷ after) le) ∙ take_beyond 4096 front after b (omega (arith, length-drop (content_at one) before, lt, le))

  other_still : content_of (other one) new ≡ content_of (other one) old
  unfolding content_of
  other_still =
      window_same (content_at (other one)) 4096 new old (omega (arith, whole_still, content_within (other one))) (omega (arith, whole, content_within (other one)))
      (λ i ge below. sym (same_at before after byte changed i (content_apart one (length before) i le lt ge below)))

  small_bytes : AllByRecursion (λ b. b < 256) (front ++ byte ∷ rest)
  unfolding content_of
  small_bytes = subst (AllByRecursion (λ b. b < 256)) (parts byte) (each_of_taken (λ b. b < 256) 4096 (drop (content_at one) old) (each_of_dropped (λ b. b < 256) (content_at one) old is.bytes))

  -- behind the epoch a change leaves it
  same_epoch : content_at one + 8 ≤ length before → mine ≡ epoch_of (content_of one old)
  unfolding epoch_of
  same_epoch past =
      let long : 8 ≤ length front = omega (arith, past, length-drop (content_at one) before) in
      let eight : (b : ℕ) → take 8 (content_of one (before ++ b ∷ after)) ≡ take 8 front = λ b. ap (take 8) (parts b) ∙ take-append-le 8 front (b ∷ rest) long in
      ap (from_be_bytes w64) (eight changed ∙ sym (eight byte))

  -- what has to hold where the byte stands behind the epoch
  record IsBehind : Type 0 where
    apart : others ≢ mine
    three : mine < others → (d : DirectoryValue) → Lists (content_of (other one) new) d → d.layout ≡ layouts.Three

  module _ (opened : IsOpen one old) (marks : HasMark layouts.Three (content_of one old)) (sum : HasSum layouts.Three (content_of one old)) where
    marks_are : HasMark layouts.Three (front ++ byte ∷ rest)
    marks_are = subst (HasMark layouts.Three) (parts byte) marks

    sum_is : HasSum layouts.Three (front ++ byte ∷ rest)
    sum_is = subst (HasSum layouts.Three) (parts byte) sum

    -- the changed block lists nothing, and no directory shows it as the one before
    lists_nothing : (d : DirectoryValue) → Lists (content_of one new) d → ⊥
    lists_nothing d lists =
        let listed : Lists (front ++ changed ∷ rest) d = subst (λ (b : List ℕ). Lists b d) (parts changed) lists in
        is.differs (noticed front rest byte changed small_bytes is.small marks_are sum_is d.layout (marked (front ++ changed ∷ rest) d listed) listed.sum)

    precedes_none : (layout : Layout) (epoch : ℕ) → (layout ≡ layouts.Three) ⊎ (length before < content_at one + 8) → MayPrecede layout epoch (content_of one new) → ⊥
    precedes_none layout epoch how may =
        let short : (layout ≡ layouts.Three) ⊎ (length front < 8) = elim how [ inl three ↦ inl three | inr near ↦ inr (omega (arith, near, le, length-drop (content_at one) before)) ] in
        is.differs (may_not_precede front rest byte changed small_bytes is.small marks_are sum_is layout epoch short (subst (MayPrecede layout epoch) (parts changed) may))

    -- where it is the current one, and where the other is
    damaged_here : (IsOpen (other one) new → others < mine) → IsDamaged damages.Directory new
    damaged_here above = (
      record { slot = one; epoch = mine },
      content_of one new,
      (record { whole = whole_still; open_gate = open_still one opened; epoch_is = refl; above = above }, refl),
      λ d lists also. lists_nothing d lists,
    )

    damaged_there : IsOpen (other one) new → mine < others → ((d : DirectoryValue) → Lists (content_of (other one) new) d → (d.layout ≡ layouts.Three) ⊎ (length before < content_at one + 8)) → IsDamaged damages.Directory new
    damaged_there also above how = (
      record { slot = other one; epoch = others },
      content_of (other one) new,
      (
        record {
          whole = whole_still;
          open_gate = also;
          epoch_is = refl;
          above = subst (λ (s : Slot). IsOpen s new → epoch_of (content_of s new) < others) (sym (other-other one)) (λ opened_too. above);
        },
        refl,
      ),
      λ d lists beside.
          let may = subst (λ (s : Slot). IsOpen s new → MayPrecede d.layout d.epoch (content_of s new)) (other-other one) beside in
          precedes_none d.layout d.epoch (how d lists) (may (open_still one opened)),
    )

    noticed_there : (content_at one + 8 ≤ length before → IsOpen (other one) new → IsBehind) → IsNoticed (content_at one) (length before) new
    noticed_there behind = elim (cases_eq (get_or new (gate_at (other one)) 0) 165) [
      | inr closed ↦ inl (damaged_here (λ also. absurd (closed also)))
      | inl also ↦ elim (cases_lt (length before) (content_at one + 8)) [
        | inl near ↦ elim (cases_lt others mine) [
          | inl below ↦ inl (damaged_here (λ opened_too. below))
          | inr not_below ↦ elim (cases_eq others mine) [
            | inl equal ↦ inr (near, λ current content was. none_greatest new one current.slot current.epoch (open_still one opened) also equal was.0)
            | inr apart ↦ inl (damaged_there also (omega (arith, not_below, apart)) (λ d lists. inr near))
          ]
        ]
        | inr far ↦
            let b = behind far also in
            elim (cases_lt others mine) [
              | inl below ↦ inl (damaged_here (λ opened_too. below))
              | inr not_below ↦
                  let above : mine < others = omega (arith, not_below, b.apart) in
                  inl (damaged_there also above (λ d lists. inl (b.three above d lists)))
            ]
      ]
    ]

-- ---- the two slots of a store

pub changed_directory_is_damaged : ChangedDirectoryIsDamaged
changed_directory_is_damaged before after byte changed h epoch entries stands is le lt =
    let one = stands.slot in
    let current = stands.stands.slot.0 in
    let was : content_of one (before ++ byte ∷ after) ≡ stands.content = stands.stands.slot.1 in
    let of_three : DirectoryValue = record { layout = layouts.Three; epoch = epoch; imports = h.imports; entries = entries } in
    let marks = subst (HasMark layouts.Three) (sym was) (marked stands.content of_three stands.says.lists_it) in
    let sum = subst (HasSum layouts.Three) (sym was) stands.says.lists_it.sum in
    noticed_there before after byte changed is one le lt current.whole current.open_gate marks sum (λ far also.
    let mine = same_epoch before after byte changed is one le lt current.whole far in
    let others = ap epoch_of (other_still before after byte changed is one le lt current.whole) in
    let above = current.above (open_before before after byte changed is one le lt current.whole (other one) also) in
    let at = current.epoch_is in
    record { apart = λ e. omega (arith, mine, others, above, at, e); three = λ greater d lists. absurd (omega (arith, mine, others, above, at, greater)) })

-- a block that may precede one of layout 3 has its checksum, if it has the mark
summed_three : (epoch : ℕ) (block : List ℕ) → HasMark layouts.Three block → MayPrecede layouts.Three epoch block → HasSum layouts.Three block
summed_three epoch block marks (at, inl (inl one)) = absurd (not_three layouts.One block (λ e. cc) one marks)
summed_three epoch block marks (at, inl (inr two)) = absurd (not_three layouts.Two block (λ e. cc) two marks)
summed_three epoch block marks (at, inr sum) = sum

pub changed_other_is_damaged : ChangedOtherIsDamaged
changed_other_is_damaged before after byte changed h epoch entries stands is opened marks le lt =
    let slot = stands.slot in
    let one = other slot in
    let current = stands.stands.slot.0 in
    let of_three : DirectoryValue = record { layout = layouts.Three; epoch = epoch; imports = h.imports; entries = entries } in
    let sum = summed_three epoch (content_of one (before ++ byte ∷ after)) marks (stands.other_is_whole opened) in
    noticed_there before after byte changed is one le lt current.whole opened marks sum (λ far also.
    let mine = same_epoch before after byte changed is one le lt current.whole far in
    let still = other_still before after byte changed is one le lt current.whole ∙ ap (λ (s : Slot). content_of s (before ++ byte ∷ after)) (other-other slot) in
    let others = ap epoch_of still in
    let above = current.above opened in
    let at = current.epoch_is in
    record {
      apart = λ e. omega (arith, mine, others, above, at, e);
      three = λ greater d lists.
          let here : Lists stands.content d = subst (λ (b : List ℕ). Lists b d) (still ∙ stands.stands.slot.1) lists in
          ap (λ (l : DirectoryValue). l.layout) (one_listing stands.content d of_three here stands.says.lists_it);
    })
