-- What a replay shows after each call.
use Rattle.std.specs.Prelude.{All, ◌↔◌, Result, Ok, Err, OnOk, map, slice_range}
use Rattle.std.proofs.Common.{◌≡◌, ◌⊎◌, inl, inr, Bool, true, false, if◌then◌else◌, ltb, ℕ, ◌+◌, ◌-◌, ◌<◌, ◌≤◌, min, List, [], ◌∷◌, ◌++◌, length, get_or, take, drop, refl, sym, ◌∙◌, ap, subst, arith, length-take}
use Rattle.std.proofs.lemmas.List.{take_all, take_more, map-append, take-map}
use Rattle.std.proofs.lemmas.Bool.Decides.{nat_tests}
use Rattle.std.proofs.lemmas.List.Elements.{All-nil, All-cons, All-head, All-tail, All-push}
use Rattle.list_lemmas.proofs.Each.{all_of_front}
use Rattle.disk_model.specs.Disk.{DiskState, Moments, IsOutside, settled, after_write, after_cut, reading}
use Rattle.disk_model.specs.Change.{Change, written, after_change, replayed}
use Rattle.disk_model.specs.Entry.{change_of}
use Rattle.disk_model.specs.Private.Replayed.{now-after_cut}
use Rattle.disk_model.specs.declared.memory.record.Entry.{Entry}
use Rattle.disk_model.specs.declared.memory.record.Entry.TheVariants.{Written, Shortened}
use Rattle.disk_model.specs.Choice.{IsFilled}
use Rattle.disk_model.specs.Private.Replay.{Shows}
use Rattle.disk_model.specs.declared.memory.replay.Replay.{Replay}
use Rattle.disk_model.proofs.Calls.{replayed-more}
use Rattle.disk_model.proofs.Filled.{All-last}

pub shows_settled : (r : Replay) (bytes : List ℕ) → r.now.items ≡ bytes → r.durable.items ≡ bytes → r.least ≡ length bytes → r.unsynced.items ≡ [] → Shows r (settled bytes)
unfolding settled
shows_settled r bytes now durable least unsynced = record {
  now = now;
  durable = durable;
  least = least;
  unsynced = λ i. (λ all. All-nil (IsOutside i), λ all. subst (λ (l : List (ℕ × ℕ)). All (IsOutside i) l) (sym unsynced) (All-nil (IsOutside i)));
}

-- the ranges in either order
unsynced_more : (xs ys zs : List (ℕ × ℕ)) (range : ℕ × ℕ) → zs ≡ xs ++ range ∷ [] → ((i : ℕ) → All (IsOutside i) xs ↔ All (IsOutside i) ys) → (i : ℕ) → All (IsOutside i) zs ↔ All (IsOutside i) (range ∷ ys)
unsynced_more xs ys zs range is same i = (
  λ all.
      let all_2 = subst (λ (l : List (ℕ × ℕ)). All (IsOutside i) l) is all in
      All-cons (IsOutside i) range ys (All-last (IsOutside i) xs range all_2) ((same i).0 (all_of_front (IsOutside i) xs (range ∷ []) all_2)),
  λ all.
      subst (λ (l : List (ℕ × ℕ)). All (IsOutside i) l) (sym is) (All-push (IsOutside i) xs range ((same i).1 (All-tail (IsOutside i) range ys all)) (All-head (IsOutside i) range ys all)),
)

pub shows_write : (r new : Replay) (s : DiskState) (at : ℕ) (bytes : List ℕ) (part : List ℕ) → 0 < length bytes → Shows r s → new.now.items ≡ written r.now.items at part → new.durable.items ≡ r.durable.items → new.least ≡ r.least
    → new.unsynced.items ≡ r.unsynced.items ++ (at, at + length bytes) ∷ [] → Shows new (reading (after_write s at bytes) (written s.now at part))
unfolding after_write
shows_write r new s at [] part some shows now durable least unsynced = absurd (omega arith)
shows_write r new s at (byte ∷ bytes) part some shows now durable least unsynced = record {
  now = now ∙ ap (λ (l : List ℕ). written l at part) shows.now;
  durable = durable ∙ shows.durable;
  least = least ∙ shows.least;
  unsynced = unsynced_more r.unsynced.items s.unsynced new.unsynced.items (at, at + length (byte ∷ bytes)) unsynced shows.unsynced;
}

pub shows_no_write : (r new : Replay) (s : DiskState) (at : ℕ) (bytes : List ℕ) (part : List ℕ) → length bytes ≡ 0 → length part ≡ 0 → Shows r s → new.now.items ≡ written r.now.items at part → new.durable.items ≡ r.durable.items → new.least ≡ r.least
    → new.unsynced.items ≡ r.unsynced.items → Shows new (reading (after_write s at bytes) (written s.now at part))
unfolding after_write
shows_no_write r new s at [] [] none_1 none_2 shows now durable least unsynced = record {
  now = now ∙ shows.now;
  durable = durable ∙ shows.durable;
  least = least ∙ shows.least;
  unsynced = λ i. subst (λ (l : List (ℕ × ℕ)). All (IsOutside i) l ↔ All (IsOutside i) s.unsynced) (sym unsynced) (shows.unsynced i);
}
shows_no_write r new s at [] (byte ∷ part) none_1 none_2 shows now durable least unsynced = absurd (omega arith)
shows_no_write r new s at (byte ∷ bytes) part none_1 none_2 shows now durable least unsynced = absurd (omega arith)

when_short : (b : Bool) (cut s : DiskState) (bytes : List ℕ) (r : Replay) → b ≡ true → Shows r (reading cut bytes) → Shows r (reading (if b then cut else s) bytes)
when_short true cut s bytes r is shows = shows
when_short false cut s bytes r is shows = absurd (cc)

when_long : (b : Bool) (cut s : DiskState) (bytes : List ℕ) (r : Replay) → b ≡ false → Shows r (reading s bytes) → Shows r (reading (if b then cut else s) bytes)
when_long true cut s bytes r is shows = absurd (cc)
when_long false cut s bytes r is shows = shows

-- a cut below the length
pub shows_cut : (r new : Replay) (s : DiskState) (len : ℕ) (whole : Bool) → len < length r.now.items → Shows r s → new.now.items ≡ (if whole then take len r.now.items else r.now.items) → new.durable.items ≡ r.durable.items
    → new.least ≡ min r.least len → new.unsynced.items ≡ r.unsynced.items → Shows new (reading (after_cut s len) (if whole then take len s.now else s.now))
unfolding after_cut
shows_cut r new s len whole lt shows now durable least unsynced =
    let short : len < length s.now = omega (arith, ap length shows.now) in
    when_short (ltb len (length s.now)) _ s (if whole then take len s.now else s.now) new (grind (arith, nat_tests))
    (record {
      now = now ∙ ap (λ (l : List ℕ). if whole then take len l else l) shows.now;
      durable = durable ∙ shows.durable;
      least = least ∙ ap (λ n. min n len) shows.least;
      unsynced = λ i. subst (λ (l : List (ℕ × ℕ)). All (IsOutside i) l ↔ All (IsOutside i) s.unsynced) (sym unsynced) (shows.unsynced i);
    })

either_way : (whole : Bool) (len : ℕ) (bytes : List ℕ) → length bytes ≤ len → bytes ≡ (if whole then take len bytes else bytes)
either_way true len bytes le = sym (take_all len bytes le)
either_way false len bytes le = refl

-- a cut that isn't below the length
pub shows_no_cut : (r : Replay) (s : DiskState) (len : ℕ) (whole : Bool) → length r.now.items ≤ len → Shows r s → Shows r (reading (after_cut s len) (if whole then take len s.now else s.now))
unfolding after_cut
shows_no_cut r s len whole ge shows =
    let long : length s.now ≤ len = omega (arith, ap length shows.now) in
    when_long (ltb len (length s.now)) _ s (if whole then take len s.now else s.now) r (grind (arith, nat_tests))
    (record { now = shows.now ∙ either_way whole len s.now long; durable = shows.durable; least = shows.least; unsynced = shows.unsynced })

-- all of a write
whole_write : (s : DiskState) (at : ℕ) (bytes : List ℕ) (n : ℕ) → length bytes ≤ n → reading (after_write s at bytes) (written s.now at (take n bytes)) ≡ after_write s at bytes
unfolding after_write
whole_write s at [] n le = ap (λ (l : List ℕ). reading s (written s.now at l)) (take_all n [] le)
whole_write s at (byte ∷ bytes) n le = ap (λ (l : List ℕ). reading (after_write s at (byte ∷ bytes)) (written s.now at l)) (take_all n (byte ∷ bytes) le)

whole_cut : (s : DiskState) (len : ℕ) → reading (after_cut s len) (take len s.now) ≡ after_cut s len
whole_cut s len = ap (λ (l : List ℕ). reading (after_cut s len) l) (sym (now-after_cut s len))

pub advance_written : {T E : Type 0} (result : Result T E) (r new : Replay) (bytes : List ℕ) (entry : Entry) (at from end : ℕ) → entry ≡ Written at from end
    → OnOk result ((s : DiskState) → Shows r s → Shows new (reading (after_write s at (slice_range bytes from end)) (written s.now at (take (end - from) (slice_range bytes from end)))))
    → OnOk result ((s : DiskState) → Shows r s → Shows new (after_change s (change_of bytes entry)))
advance_written (Ok x) r new bytes entry at from end is step = λ s shows.
    let fits : length (slice_range bytes from end) ≤ end - from = omega (arith, length-take (end - from) (drop from bytes)) in
    subst (λ (e : Entry). Shows new (after_change s (change_of bytes e))) (sym is)
    (subst (λ (t : DiskState). Shows new t) (whole_write s at (slice_range bytes from end) (end - from) fits) (step s shows))
advance_written (Err e) r new bytes entry at from end is step = tt

pub advance_shortened : (r new : Replay) (bytes : List ℕ) (entry : Entry) (len : ℕ) → entry ≡ Shortened len
    → ((s : DiskState) → Shows r s → Shows new (reading (after_cut s len) (take len s.now))) → (s : DiskState) → Shows r s → Shows new (after_change s (change_of bytes entry))
advance_shortened r new bytes entry len is step s shows =
    subst (λ (e : Entry). Shows new (after_change s (change_of bytes e))) (sym is) (subst (λ (t : DiskState). Shows new t) (whole_cut s len) (step s shows))

-- one entry more
pub shows_more : (m : Moments) (f : Entry → Change) (entries : List Entry) (i : ℕ) (d : Entry) (r new : Replay) → i < length entries → Shows r (replayed m (map f (take i entries))).state
    → ((s : DiskState) → Shows r s → Shows new (after_change s (f (get_or entries i d)))) → Shows new (replayed m (map f (take (i + 1) entries))).state
shows_more m f entries i d r new lt so_far step =
    let is : map f (take (i + 1) entries) ≡ map f (take i entries) ++ f (get_or entries i d) ∷ [] = ap (λ (l : List Entry). map f l) (take_more entries i d lt) ∙ map-append f (take i entries) (get_or entries i d ∷ []) in
    subst (λ (k : Moments). Shows new k.state) (sym (replayed-more m (map f (take i entries)) (map f (take (i + 1) entries)) (f (get_or entries i d)) is))
    (step (replayed m (map f (take i entries))).state so_far)

pub shows_all : (m : Moments) (f : Entry → Change) (all entries part : List Entry) (i n : ℕ) (r : Replay) → all ≡ entries → part ≡ take n all → length part ≤ i → Shows r (replayed m (map f (take i part))).state
    → Shows r (replayed m (take n (map f entries))).state
shows_all m f all entries part i n r same is past shows =
    subst (λ (l : List Change). Shows r (replayed m l).state)
    (ap (λ (l : List Entry). map f l) (take_all i part past ∙ is ∙ ap (λ (l : List Entry). take n l) same) ∙ sym (take-map f n entries))
    shows

-- the image with one byte at each unsynced position
pub filled_shown : (r : Replay) (s : DiskState) (byte : ℕ) (now : List ℕ) (ranges : List (ℕ × ℕ)) (image : List ℕ) → Shows r s → now ≡ r.now.items → ranges ≡ r.unsynced.items → length image ≡ length now
    → ((i : ℕ) → i < length now → (¬ (All (IsOutside i) ranges)) ⊎ (r.least ≤ i) → get_or image i 0 ≡ byte)
    → ((i : ℕ) → i < r.least → All (IsOutside i) ranges → get_or image i 0 ≡ get_or now i 0) → IsFilled s byte image
filled_shown r s byte now ranges image shows now_is ranges_are long unsynced fixed = record {
  as_long = long ∙ ap length now_is ∙ ap length shows.now;
  unsynced = λ i lt is_unsynced.
      unsynced i (omega (arith, ap length shows.now, ap length now_is))
      (elim is_unsynced [
        | inl some ↦ inl (λ all. some ((shows.unsynced i).0 (subst (λ (l : List (ℕ × ℕ)). All (IsOutside i) l) ranges_are all)))
        | inr ge ↦ inr (omega (arith, shows.least))
      ]);
  fixed = λ i lt out.
      fixed i (omega (arith, shows.least)) (subst (λ (l : List (ℕ × ℕ)). All (IsOutside i) l) (sym ranges_are) ((shows.unsynced i).1 out))
      ∙ ap (λ (l : List ℕ). get_or l i 0) (now_is ∙ shows.now);
}

pub advanced_same : (r new : Replay) (bytes bytes_2 : List ℕ) (entry : Entry) → bytes ≡ bytes_2 → ((s : DiskState) → Shows r s → Shows new (after_change s (change_of bytes entry)))
    → (s : DiskState) → Shows r s → Shows new (after_change s (change_of bytes_2 entry))
advanced_same r new bytes bytes_2 entry same step s shows = subst (λ (l : List ℕ). Shows new (after_change s (change_of l entry))) same (step s shows)
