-- A record that grows: what its earlier entries stand for stays.
use Rattle.std.specs.Prelude.{All, map, slice_range}
use Rattle.std.proofs.Common.{◌≡◌, ℕ, ◌+◌, ◌-◌, List, [], ◌∷◌, ◌++◌, length, take, drop, refl, sym, ◌∙◌, ap, arith, length-drop}
use Rattle.std.proofs.lemmas.List.{take-append-le, drop-append-le, map-append, take_all}
use Rattle.std.proofs.lemmas.List.Elements.{All-head, All-tail}
use Rattle.std.proofs.Math.Seq.{drop-append_seam}
use Rattle.disk_model.specs.Change.{Change, Write, FailedWrite}
use Rattle.disk_model.specs.Entry.{change_of}
use Rattle.disk_model.specs.Private.Entry.{IsWithin, IsRange}
use Rattle.disk_model.specs.Faults.{written_as}
use Rattle.disk_model.specs.declared.memory.faults.Fate.{Fate}
use Rattle.disk_model.specs.declared.memory.faults.Fate.TheVariants.{Passes, Fails}
use Rattle.disk_model.specs.declared.memory.record.Entry.{Entry}
use Rattle.disk_model.specs.declared.memory.record.Entry.TheVariants.{Written, Shortened, Synced, WriteFailed, CutFailed}

range_kept : (bytes more : List ℕ) (at from end : ℕ) → IsRange (length bytes) at from end → slice_range (bytes ++ more) from end ≡ slice_range bytes from end
range_kept bytes more at from end range =
    ap (λ (l : List ℕ). take (end - from) l) (drop-append-le from bytes more (omega (arith, range.ordered, range.within)))
    ∙ take-append-le (end - from) (drop from bytes) more (omega (arith, range.within, length-drop from bytes))

change_kept : (bytes more : List ℕ) (entry : Entry) → IsWithin (length bytes) entry → change_of (bytes ++ more) entry ≡ change_of bytes entry
change_kept bytes more (Written at from end) within = let same = range_kept bytes more at from end within in cc
change_kept bytes more (Shortened len) within = refl
change_kept bytes more Synced within = refl
change_kept bytes more (WriteFailed at from end part) within = let same = range_kept bytes more at from end within in cc
change_kept bytes more (CutFailed len whole) within = refl

changes_kept : (bytes more : List ℕ) (entries : List Entry) → All (IsWithin (length bytes)) entries → map (change_of (bytes ++ more)) entries ≡ map (change_of bytes) entries
changes_kept bytes more [] within = refl
changes_kept bytes more (entry ∷ entries) within =
    let first = change_kept bytes more entry (All-head (IsWithin (length bytes)) entry entries within) in
    let rest = changes_kept bytes more entries (All-tail (IsWithin (length bytes)) entry entries within) in
    cc

-- one entry more, with its bytes
pub changes_more : (bytes more bytes_2 : List ℕ) (entries entries_2 : List Entry) (entry : Entry) → All (IsWithin (length bytes)) entries
    → bytes_2 ≡ bytes ++ more → entries_2 ≡ entries ++ entry ∷ [] → map (change_of bytes_2) entries_2 ≡ map (change_of bytes) entries ++ change_of (bytes ++ more) entry ∷ []
changes_more bytes more bytes_2 entries entries_2 entry within grown pushed =
    ap (λ (l : List ℕ). map (change_of l) entries_2) grown
    ∙ ap (λ (l : List Entry). map (change_of (bytes ++ more)) l) pushed
    ∙ map-append (change_of (bytes ++ more)) entries (entry ∷ [])
    ∙ ap (λ (l : List Change). l ++ change_of (bytes ++ more) entry ∷ []) (changes_kept bytes more entries within)

pub range_new : (bytes more : List ℕ) (from end : ℕ) → from ≡ length bytes → end ≡ length bytes + length more → slice_range (bytes ++ more) from end ≡ more
range_new bytes more from end from_is end_is =
    ap (λ n. take (end - n) (drop n (bytes ++ more))) from_is
    ∙ ap (λ (l : List ℕ). take (end - length bytes) l) (drop-append_seam bytes more)
    ∙ take_all (end - length bytes) more (omega arith)

-- what a write puts on the record
pub written_new : (bytes more : List ℕ) (at from end : ℕ) (fate : Fate) (entry : Entry) → from ≡ length bytes → end ≡ length bytes + length more → fate ≡ Passes → entry ≡ Written at from end
    → change_of (bytes ++ more) entry ≡ written_as fate at more
written_new bytes more at from end fate entry from_is end_is passes is = let same = range_new bytes more from end from_is end_is in ap (λ (e : Entry). change_of (bytes ++ more) e) is ∙ ap (λ (l : List ℕ). Write at l) same ∙ ap (λ (f : Fate). written_as f at more) (sym passes)

pub failed_new : (bytes more : List ℕ) (at from end part : ℕ) (fate : Fate) (entry : Entry) → from ≡ length bytes → end ≡ length bytes + length more → fate ≡ Fails part → entry ≡ WriteFailed at from end part
    → change_of (bytes ++ more) entry ≡ written_as fate at more
failed_new bytes more at from end part fate entry from_is end_is fails is = let same = range_new bytes more from end from_is end_is in ap (λ (e : Entry). change_of (bytes ++ more) e) is ∙ ap (λ (l : List ℕ). FailedWrite at l part) same ∙ ap (λ (f : Fate). written_as f at more) (sym fails)
