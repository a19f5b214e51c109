-- A window on a segment, and the records in it.
use Rattle.std.proofs.Common.{◌≡◌, ◌⊎◌, inl, inr, ℕ, ◌+◌, ◌-◌, ◌*◌, ◌<◌, ◌≤◌, ◌++◌, List, [], ◌∷◌, length, min, take, drop, refl, sym, ap, ◌∙◌, subst, arith, length-take, length-drop, length-append}
use Rattle.std.proofs.lemmas.Bool.{cases_lt}
use Rattle.std.specs.List.{copy_within}
use Rattle.std.proofs.lemmas.List.{take-append-le, take-take, take_at, drop-take, drop-drop, drop_at, take_all}
use Rattle.std.proofs.lemmas.List.Edits.{take-paste}
use Rattle.list_lemmas.proofs.Parts.{take_sum}
use Rattle.rf2_values.specs.declared.row.Kind.{Kind}
use Rattle.rf2_values.specs.declared.row.Kind.TheVariants as kinds
use Rattle.rf2_values.specs.Row.{kind_of}
use Rattle.history_model.specs.declared.stamped.StampedRow.{StampedRow}
use Rattle.blocks.specs.declared.extent.Extent.{Extent}
use Rattle.store_image.specs.Reader.{bytes_of}
use Rattle.checksum.specs.declared.form.Form.{Form}
use Rattle.segment.specs.declared.fault.SegmentFault.{SegmentFault}
use Rattle.segment.specs.declared.fault.SegmentFault.TheVariants as segments
use Rattle.segment.specs.Records.{record_in, record_of, IsStamped, IsRecordAt}
use Rattle.segment.specs.Private.Reading.{fixed_len}
use Rattle.segment.proofs.RecordLaws.{record_size, row_room, length-record, length-record_in}
use Rattle.store_image.specs.declared.window.Window.{Window}
use Rattle.store_image.specs.Private.Reading.{of_segment}
use Rattle.store_image.specs.Reader.{Sees, bytes_in}
use Rattle.store_image.specs.Private.Reading.{HasRecord, HasNoRecord, IsNoRecord, IsFull}

-- ---- how long a record is

least_of_kind : (k : Kind) → 46 ≤ fixed_len k
least_of_kind kinds.Concept = omega arith
least_of_kind kinds.Description = omega arith
least_of_kind kinds.Relationship = omega arith
least_of_kind kinds.Association = omega arith
least_of_kind kinds.Concrete = omega arith
least_of_kind kinds.Member = omega arith

pub record_least : (s : StampedRow) → 46 ≤ length (record_of s)
record_least s = omega (arith, record_size s, least_of_kind (kind_of s.row))

pub record_most : (s : StampedRow) → IsStamped s → length (record_of s) ≤ 131072
record_most s is = omega (arith, length-record s, row_room s.row is.row)

-- ---- parts of parts

-- within a part, as within the whole
pub part_within : (m from k n : ℕ) (bytes : List ℕ) → k + n ≤ m → take n (drop k (take m (drop from bytes))) ≡ take n (drop (from + k) bytes)
part_within m from k n bytes fits =
    let split : m ≡ k + (m - k) = omega (arith, fits) in
    ap (λ i. take n (drop k (take i (drop from bytes)))) split
    ∙ ap (take n) (drop-take k (m - k) (drop from bytes))
    ∙ take-take n (m - k) (drop k (drop from bytes)) (omega (arith, fits))
    ∙ ap (take n) (drop-drop k from bytes)

-- as many bytes as are wanted are there
pub part_fits : (m from k n : ℕ) (bytes piece : List ℕ) → take n (drop k (take m (drop from bytes))) ≡ piece → length piece ≡ n → 1 ≤ n → k + n ≤ m
part_fits m from k n bytes piece is long some =
    let there = ap length is in
    omega (arith, there, long, some, length-take n (drop k (take m (drop from bytes))), length-drop k (take m (drop from bytes)), length-take m (drop from bytes))

-- a record in a window is in the segment
pub record_out : (form : Form) (m from at : ℕ) (bytes window : List ℕ) (s : StampedRow) → from ≤ at → window ≡ take m (drop from bytes) → HasRecord form window (at - from) s → HasRecord form bytes at s
record_out form m from at bytes window s le sees has =
    let L = length (record_of s) in
    let is : take L (drop (at - from) (take m (drop from bytes))) ≡ record_in form s = ap (λ w. take L (drop (at - from) w)) (sym sees) ∙ has.1 in
    let fits = part_fits m from (at - from) L bytes (record_in form s) is (length-record_in form s) (omega (arith, record_least s)) in
    let place : from + (at - from) ≡ at = omega (arith, le) in
    (has.0, ap (λ i. take L (drop i bytes)) (sym place) ∙ sym (part_within m from (at - from) L bytes fits) ∙ is)

-- a record of the segment is in a full window that begins with it
pub record_kept : (form : Form) (m at : ℕ) (bytes window : List ℕ) (s : StampedRow) → window ≡ take m (drop at bytes) → (length (drop at bytes) ≤ m) ⊎ (131072 ≤ m) → HasRecord form bytes at s → HasRecord form window (at - at) s
record_kept form m at bytes window s sees full has =
    let L = length (record_of s) in
    let place : at + (at - at) ≡ at = omega arith in
    let same : take L (drop (at + (at - at)) bytes) ≡ record_in form s = ap (λ i. take L (drop i bytes)) place ∙ has.1 in (
      has.0,
      ap (λ w. take L (drop (at - at) w)) sees ∙ elim full [
        | inl all ↦ ap (λ w. take L (drop (at - at) w)) (take_all m (drop at bytes) all) ∙ ap (take L) (drop-drop (at - at) at bytes) ∙ same
        | inr far ↦ part_within m at (at - at) L bytes (omega (arith, far, record_most s has.0)) ∙ same
      ],
    )

-- a record ends where its bytes do
pub record_ends : (form : Form) (m at next : ℕ) (bytes : List ℕ) (s : StampedRow) → IsRecordAt form (take m bytes) at s next → next ≤ m
record_ends form m at next bytes s is =
    let long = ap length is.bytes_are in
    omega (arith, is.next_is, long, length-record_in form s, record_least s, length-take (length (record_of s)) (drop at (take m bytes)), length-drop at (take m bytes), length-take m bytes)

-- what a window has is the segment's
pub found_in : (form : Form) (w : Window) (extent : Extent) (at : ℕ) (file : List ℕ) (s : StampedRow) → w.extent ≡ extent → w.from ≤ at → Sees w file → HasRecord form (bytes_in w) (at - w.from) s → HasRecord form (bytes_of extent file) at s
found_in form w extent at file s same le sees has =
    subst (λ (e : Extent). HasRecord form (bytes_of e file) at s) same (record_out form w.len w.from at (bytes_of w.extent file) (bytes_in w) s le sees.bytes has)

-- and what a full one doesn't have isn't there
pub not_found_in : (form : Form) (e : SegmentFault) (w : Window) (extent : Extent) (at : ℕ) (file : List ℕ) → w.extent ≡ extent → w.from ≡ at → Sees w file → IsFull w file → HasNoRecord form e (bytes_in w) (at - w.from) → IsNoRecord form (of_segment e) (bytes_of extent file) at
not_found_in form segments.OutOfMemory w extent at file same from sees full none = tt
not_found_in form segments.BadSegment w extent at file same from sees full none = λ s has.
    let here : HasRecord form (bytes_of w.extent file) w.from s = subst (λ n. HasRecord form (bytes_of w.extent file) n s) (sym from) (subst (λ (e : Extent). HasRecord form (bytes_of e file) at s) (sym same) has) in
    none s (subst (λ n. HasRecord form (bytes_in w) (n - w.from) s) from (record_kept form w.len w.from (bytes_of w.extent file) (bytes_in w) s sees.bytes full here))

-- ---- a window that moves on

none_taken : (xs : List ℕ) → take 0 xs ≡ []
none_taken [] = refl
none_taken (x ∷ xs) = refl

-- what is left of a vector's bytes once those in front were moved over
pub moved_front : (size k len : ℕ) (items shown new : List ℕ) → length shown ≡ size → shown ≡ items → length new ≡ length shown → new ≡ copy_within shown k len 0 → k ≤ len → len ≤ size → take (len - k) (take size (new ++ drop (length new) items)) ≡ drop k (take len items)
moved_front size k len items shown new size_is same long new_is le most =
    let zero_more : 0 + (len - k) ≡ len - k = omega arith in
    let split : k + (len - k) ≡ len = omega (arith, le) in
    ap (take (len - k)) (take_at new (drop (length new) items) size (long ∙ size_is))
    ∙ ap (take (len - k)) new_is
    ∙ ap (λ i. take i (copy_within shown k len 0)) (sym zero_more)
    ∙ take-paste shown 0 (drop k shown) (len - k) (omega arith) (omega (arith, size_is, most, length-drop k shown))
    ∙ ap (λ (l : List ℕ). l ++ take (len - k) (drop k shown)) (none_taken shown)
    ∙ sym (drop-take k (len - k) shown)
    ∙ ap (λ i. drop k (take i shown)) split
    ∙ ap (λ (l : List ℕ). drop k (take len l)) same

-- and of those that were read behind others
module _ (size len count read place : ℕ) (items shown into file : List ℕ) (size_is : length shown ≡ size) (same : shown ≡ items) (room : len + count ≤ size) (read_is : read ≡ min (length (take (len + count - len) (drop len shown))) (length file - place))
    (into_is : into ≡ take read (drop place file) ++ drop read (take (len + count - len) (drop len shown))) where
  old_long : length (take (len + count - len) (drop len shown)) ≡ count
  old_long = omega (arith, room, size_is, length-take (len + count - len) (drop len shown), length-drop len shown)

  pub read_most : read ≡ min count (length file - place)
  read_most = read_is ∙ ap (λ n. min n (length file - place)) old_long

  part_long : length (take read (drop place file)) ≡ read
  part_long = omega (arith, read_most, length-take read (drop place file), length-drop place file)

  into_long : length into ≡ count
  into_long =
      let long = ap length into_is in
      omega (arith, long, part_long, old_long, read_most, length-append (take read (drop place file)) (drop read (take (len + count - len) (drop len shown))), length-drop read (take (len + count - len) (drop len shown)))

  front_long : length (take len shown) ≡ len
  front_long = omega (arith, room, size_is, length-take len shown)

  written_long : length (take len shown ++ (into ++ drop (len + count - len) (drop len shown))) ≡ size
  written_long =
      omega (arith, room, size_is, front_long, into_long, length-append (take len shown) (into ++ drop (len + count - len) (drop len shown)), length-append into (drop (len + count - len) (drop len shown)), length-drop (len + count - len) (drop len shown), length-drop len shown)

  kept : take size ((take len shown ++ (into ++ drop (len + count - len) (drop len shown))) ++ drop (length (take len shown ++ (into ++ drop (len + count - len) (drop len shown)))) items) ≡ take len shown ++ (into ++ drop (len + count - len) (drop len shown))
  kept = take_at (take len shown ++ (into ++ drop (len + count - len) (drop len shown))) (drop (length (take len shown ++ (into ++ drop (len + count - len) (drop len shown)))) items) size written_long

  pub front_stays : take len (take size ((take len shown ++ (into ++ drop (len + count - len) (drop len shown))) ++ drop (length (take len shown ++ (into ++ drop (len + count - len) (drop len shown)))) items)) ≡ take len items
  front_stays = ap (take len) kept ∙ take_at (take len shown) (into ++ drop (len + count - len) (drop len shown)) len front_long ∙ ap (take len) same

  pub read_behind : take read (drop len (take size ((take len shown ++ (into ++ drop (len + count - len) (drop len shown))) ++ drop (length (take len shown ++ (into ++ drop (len + count - len) (drop len shown)))) items))) ≡ take read (drop place file)
  read_behind =
      ap (λ (l : List ℕ). take read (drop len l)) kept
      ∙ ap (take read) (drop_at (take len shown) (into ++ drop (len + count - len) (drop len shown)) len front_long)
      ∙ take-append-le read into (drop (len + count - len) (drop len shown)) (omega (arith, into_long, read_most))
      ∙ ap (take read) into_is
      ∙ take_at (take read (drop place file)) (drop read (take (len + count - len) (drop len shown))) read part_long

-- bytes in front are forgotten
pub sees_behind : (w v : Window) (at : ℕ) (file : List ℕ) → w.from ≤ at → at ≤ w.from + w.len → v.extent ≡ w.extent → v.from ≡ at → v.from + v.len ≡ w.from + w.len → v.asked ≡ w.asked → bytes_in v ≡ drop (at - w.from) (bytes_in w) → Sees w file → Sees v file
sees_behind w v at file le reached extent from end asked bytes sees =
    let whole : w.len ≡ (at - w.from) + v.len = omega (arith, le, reached, from, end) in
    let place : w.from + (at - w.from) ≡ at = omega (arith, le) in
    let is : bytes_in v ≡ take v.len (drop at (bytes_of w.extent file)) =
    bytes
    ∙ ap (drop (at - w.from)) sees.bytes
    ∙ ap (λ n. drop (at - w.from) (take n (drop w.from (bytes_of w.extent file)))) whole
    ∙ drop-take (at - w.from) v.len (drop w.from (bytes_of w.extent file))
    ∙ ap (take v.len) (drop-drop (at - w.from) w.from (bytes_of w.extent file))
    ∙ ap (λ n. take v.len (drop n (bytes_of w.extent file))) place in
    record {
      bytes = subst (λ (x : Extent). bytes_in v ≡ take v.len (drop v.from (bytes_of x file))) (sym extent) (subst (λ n. bytes_in v ≡ take v.len (drop n (bytes_of w.extent file))) (sym from) is);
      ended = λ fewer. subst (λ (x : Extent). length (bytes_of x file) ≤ v.from + v.len) (sym extent) (subst (λ n. length (bytes_of w.extent file) ≤ n) (sym end) (sees.ended (omega (arith, fewer, end, asked))));
    }

-- more bytes are read behind the others
module _ (w : Window) (count read place : ℕ) (file : List ℕ) (count_is : count ≡ min (131072 - w.len) (w.extent.bytes - w.asked)) (place_is : place ≡ 4096 * w.extent.first + (w.from + w.len)) (read_is : read ≡ min count (length file - place)) (sees : Sees w file) where
  long : length (bytes_of w.extent file) ≡ min w.extent.bytes (length file - 4096 * w.extent.first)
  long = omega (arith, length-take w.extent.bytes (drop (4096 * w.extent.first) file), length-drop (4096 * w.extent.first) file)

  within : (w.from + w.len) + read ≤ w.extent.bytes
  within = let known = w.known in let most = w.within in omega (arith, known, most, count_is, read_is)

  -- what was read is the segment's
  read_on : take read (drop place file) ≡ take read (drop w.len (drop w.from (bytes_of w.extent file)))
  read_on =
      ap (λ n. take read (drop n file)) place_is
      ∙ sym (part_within w.extent.bytes (4096 * w.extent.first) (w.from + w.len) read file within)
      ∙ sym (ap (take read) (drop-drop w.len w.from (bytes_of w.extent file)))

  pub sees_more : (items : List ℕ) → take w.len items ≡ take w.len w.bytes.items → take read (drop w.len items) ≡ take read (drop place file) → take (w.len + read) items ≡ take (w.len + read) (drop w.from (bytes_of w.extent file))
  sees_more items front behind =
      take_sum w.len read items
      ∙ ap (λ (l : List ℕ). l ++ take read (drop w.len items)) (front ∙ sees.bytes)
      ∙ ap (λ (l : List ℕ). take w.len (drop w.from (bytes_of w.extent file)) ++ l) (behind ∙ read_on)
      ∙ sym (take_sum w.len read (drop w.from (bytes_of w.extent file)))

  pub ended_still : w.from + (w.len + read) < w.asked + count → length (bytes_of w.extent file) ≤ w.from + (w.len + read)
  ended_still fewer = elim (cases_lt (w.from + w.len) w.asked) [
    | inl before ↦ let ended = sees.ended before in omega (arith, ended)
    | inr after ↦ let known = w.known in omega (arith, fewer, after, known, long, read_is, place_is)
  ]

  pub is_full : (length (drop w.from (bytes_of w.extent file)) ≤ w.len + read) ⊎ (131072 ≤ w.len + read)
  is_full = elim (cases_lt (w.len + read) 131072) [
    | inr all ↦ inr all
    | inl room ↦ inl (elim (cases_lt (w.from + (w.len + read)) (w.asked + count)) [
      | inl fewer ↦ let ended = ended_still fewer in omega (arith, ended, length-drop w.from (bytes_of w.extent file))
      | inr all ↦
          let known = w.known in
          let most = w.within in
          omega (arith, all, room, known, most, count_is, read_is, long, length-drop w.from (bytes_of w.extent file))
    ])
  ]
