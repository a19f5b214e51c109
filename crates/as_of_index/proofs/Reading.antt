-- What the calls of a reader leave, one after the other.
use Rattle.std.specs.Prelude.{IsErrAnd}
use Rattle.std.proofs.Common.{◌≡◌, ℕ, List, [], ◌∷◌, ◌++◌, Result, Ok, Err, refl, sym, subst, ◌∙◌}
use Rattle.fault_counts.specs.Counting.{Counts, CountsDiskFault, CountsDamage}
use Rattle.fault_counts.specs.declared.fault.ReadFault.{ReadFault}
use Rattle.as_of_index.specs.Reader.{ReaderView, LeavesReader}

-- calls that have succeeded
abbrev pub HasRead : ReaderView → ReaderView → Type 0
HasRead old new = LeavesReader {T = ℕ} (Ok 0) old new

pub not_read : (v : ReaderView) → HasRead v v
not_read v = record { lists = refl; honesty = λ h. h; steady = λ _ _ _ may. may; disk_faults = refl; damages = refl }

pub reads_on : {T : Type 0} (result : Result T ReadFault) (a b c : ReaderView) → HasRead a b → LeavesReader result b c → LeavesReader result a c
reads_on result a b c ab bc = record {
  lists = bc.lists ∙ ab.lists;
  honesty = λ h. bc.honesty (ab.honesty h);
  steady = λ segment at row may. ab.steady segment at row (bc.steady segment at row may);
  disk_faults = subst (λ n. Counts CountsDiskFault result n c.disk_faults) ab.disk_faults bc.disk_faults;
  damages = subst (λ n. Counts CountsDamage result n c.damages) ab.damages bc.damages;
}

pub has_read : {T : Type 0} (x : T) (a b : ReaderView) → LeavesReader (Ok x) a b → HasRead a b
has_read x a b ab = record { lists = ab.lists; honesty = ab.honesty; steady = ab.steady; disk_faults = ab.disk_faults; damages = ab.damages }

pub read_so : {T : Type 0} (x : T) (a b : ReaderView) → HasRead a b → LeavesReader (Ok x) a b
read_so x a b ab = record { lists = ab.lists; honesty = ab.honesty; steady = ab.steady; disk_faults = ab.disk_faults; damages = ab.damages }

-- a call that fails behind calls that succeeded, and its fault is answered
pub fails_on : {A B : Type 0} (fault : ReadFault) (result : Result B ReadFault) (a b c : ReaderView) → IsErrAnd result (λ e. e ≡ fault) → HasRead a b → LeavesReader {T = A} (Err fault) b c → LeavesReader result a c
fails_on fault (Ok x) a b c is ab bc = absurd is
fails_on {A} {B} fault (Err e) a b c is ab bc =
    let on = reads_on (Err fault) a b c ab bc in
    subst (λ e. LeavesReader {T = B} (Err e) a c) (sym is) (record { lists = on.lists; honesty = on.honesty; steady = on.steady; disk_faults = on.disk_faults; damages = on.damages })

-- a row that was pushed is among the wanted ones
pub row_wanted : {A : Type 0} (xs ys wanted : List A) (x : A) → (xs ++ x ∷ []) ++ ys ≡ wanted → wanted ≡ [] → ⊥
row_wanted [] ys wanted x same none = absurd (cc)
row_wanted (y ∷ xs) ys wanted x same none = absurd (cc)
