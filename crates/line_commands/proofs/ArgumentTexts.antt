-- What arguments are spelled by: a text spells one argument of each sort, and has no space.
use Rattle.std.proofs.Common.{◌≡◌, ℕ, ◌<◌, ◌^◌, Bool, true, false, ◌&&◌, Option, Some, None, List, [], ◌∷◌, length, refl, sym, ap, subst, ◌∙◌, arith}
use Rattle.std.specs.Prelude.{decimal, codes}
use Rattle.std.proofs.lemmas.Bool.{and_parts, false≢true}
use Rattle.std.proofs.lemmas.Fmt.{decimal_injective}
use Rattle.rf2_values.specs.declared.row.Kind.{Kind}
use Rattle.rf2_values.specs.declared.row.Kind.TheVariants as kinds
use Rattle.rf2_values.specs.declared.key.Key.{Key}
use Rattle.rf2_values.specs.Time.{IsTime}
use Rattle.rf2_values.specs.Row.{IsIdOf, SpellsId}
use Rattle.rf2_values.proofs.Ids.{same_ids}
use Rattle.rf2_values.proofs.Decimals.{time_below}
use Rattle.line_commands.specs.Spelling.{IsSubjectOf, Ids, OfKind, OfComponents, OfSubjects, Argument, ForKind, Id, IdOrNone, KeyId, KeyDate, Date, Limit, Imported, Number, Text, WordsOf, Spells, SpellsIdOf, SpellsAll}
use Rattle.line_commands.specs.Private.{IsWord, AreWords, behind}
use Rattle.line_commands.proofs.FirstWords.{decimal_word, letter_word, none_word, id_word, one_letter, not_dash, no_dash_number}
use Rattle.line_commands.proofs.Cuts.{same_split}

-- ---- one word

subject_below : (kind : Kind) (id : ℕ) → IsSubjectOf kind id → id < 2 ^ 64
subject_below kinds.Concept id h = absurd h
subject_below kinds.Description id h = let high = h.sctid.high in omega arith
subject_below kinds.Relationship id h = let high = h.sctid.high in omega arith
subject_below kinds.Association id h = let high = h.sctid.high in omega arith
subject_below kinds.Concrete id h = let high = h.sctid.high in omega arith
subject_below kinds.Member id h = let high = h.sctid.high in omega arith

id_of_word : (ids : Ids) (id : ℕ) (text : List ℕ) → SpellsIdOf ids id text → IsWord text
id_of_word (OfKind kind) id text s = id_word kind id text s.0 s.1
id_of_word OfComponents id text s = let high = s.0.sctid.high in subst IsWord (sym s.1) (decimal_word id (omega arith))
id_of_word (OfSubjects kind) id text s = subst IsWord (sym s.1) (decimal_word id (subject_below kind id s.0))

-- whether an argument is one word
abbrev pub is_one : Argument → Bool
is_one (Text text) = false
is_one (WordsOf text) = false
is_one argument = true

argument_word : (argument : Argument) (text : List ℕ) → is_one argument ≡ true → Spells argument text → IsWord text
argument_word (ForKind kind) text e s = subst IsWord (sym s) (letter_word kind)
argument_word (Id ids id) text e s = id_of_word ids id text s
argument_word (IdOrNone ids None) text e s = subst IsWord (sym s) none_word
argument_word (IdOrNone ids (Some id)) text e s = id_of_word ids id text s
argument_word (KeyId kind None) text e s = subst IsWord (sym s) none_word
argument_word (KeyId kind (Some key)) text e s = id_of_word (OfKind kind) key.id text s.1
argument_word (KeyDate None) text e s = subst IsWord (sym s) none_word
argument_word (KeyDate (Some key)) text e s = subst IsWord (sym s.1) (decimal_word key.time (time_below key.time s.0))
argument_word (Date date) text e s = subst IsWord (sym s.1) (decimal_word date (time_below date s.0))
argument_word (Limit limit) text e s = let high = s.1 in subst IsWord (sym s.2) (decimal_word limit (omega arith))
argument_word (Imported number) text e s = let high = s.1 in subst IsWord (sym s.2) (decimal_word number (omega arith))
argument_word (Number number) text e s = let high = s.0 in subst IsWord (sym s.1) (decimal_word number (omega arith))
argument_word (Text value) text e s = absurd (false≢true e)
argument_word (WordsOf value) text e s = absurd (false≢true e)

-- whether all but the last are one word
abbrev pub is_line : List Argument → Bool
is_line [] = true
is_line (a ∷ []) = true
is_line (a ∷ b ∷ ps) = is_one a && is_line (b ∷ ps)

pub are_words : (ps : List Argument) (ts : List (List ℕ)) → is_line ps ≡ true → SpellsAll ps ts → AreWords ts
are_words [] [] e s = tt
are_words [] (t ∷ ts) e s = absurd s
are_words (a ∷ []) [] e s = absurd s
are_words (a ∷ []) (t ∷ []) e s = tt
are_words (a ∷ []) (t ∷ u ∷ ts) e s = absurd s.1
are_words (a ∷ b ∷ ps) [] e s = absurd s
are_words (a ∷ b ∷ ps) (t ∷ []) e s = absurd s.1
are_words (a ∷ b ∷ ps) (t ∷ u ∷ ts) e s = (argument_word a t (and_parts _ _ e).0 s.0, are_words (b ∷ ps) (u ∷ ts) (and_parts _ _ e).1 s.1)

pub as_many : (ps : List Argument) (ts : List (List ℕ)) → SpellsAll ps ts → length ts ≡ length ps
as_many [] [] s = refl
as_many [] (t ∷ ts) s = absurd s
as_many (a ∷ ps) [] s = absurd s
as_many (a ∷ ps) (t ∷ ts) s = let later = as_many ps ts s.1 in omega arith

-- ---- one identifier

same_times : (m n : ℕ) → IsTime m → IsTime n → decimal m ≡ decimal n → m ≡ n
same_times m n h g e = decimal_injective m n (time_below m h) (time_below n g) e

abbrev pub AreSame : Ids → Ids → Type 0
AreSame (OfKind k) (OfKind l) = k ≡ l
AreSame OfComponents OfComponents = Unit {0}
AreSame (OfSubjects k) (OfSubjects l) = k ≡ l
AreSame _ _ = ⊥

same_id : (p q : Ids) (m n : ℕ) (t : List ℕ) → AreSame p q → SpellsIdOf p m t → SpellsIdOf q n t → m ≡ n
same_id (OfKind k) (OfKind l) m n t e s r = same_ids l m n t (subst (λ (x : Kind). IsIdOf x m) e s.0) r.0 (subst (λ (x : Kind). SpellsId x m t) e s.1) r.1
same_id OfComponents OfComponents m n t e s r =
    let low = s.0.sctid.high in
    let high = r.0.sctid.high in
    decimal_injective m n (omega arith) (omega arith) (sym s.1 ∙ r.1)
same_id (OfSubjects k) (OfSubjects l) m n t e s r = decimal_injective m n (subject_below k m s.0) (subject_below l n r.0) (sym s.1 ∙ r.1)
same_id p q m n t e s r = absurd e

no_dash : (ids : Ids) (id : ℕ) (t : List ℕ) → t ≡ codes "-" → SpellsIdOf ids id t → ⊥
no_dash (OfKind kind) id t e s = not_dash kind id t e s.0 s.1
no_dash OfComponents id t e s = let high = s.0.sctid.high in no_dash_number id t (omega arith) e s.1
no_dash (OfSubjects kind) id t e s = no_dash_number id t (subject_below kind id s.0) e s.1

-- ---- one argument

-- two arguments of one sort
abbrev pub Alike : Argument → Argument → Type 0
Alike (Id p m) (Id q n) = AreSame p q
Alike (IdOrNone p m) (IdOrNone q n) = AreSame p q
Alike (KeyId k a) (KeyId l b) = k ≡ l
Alike (ForKind k) (ForKind l) = Unit {0}
Alike (KeyDate a) (KeyDate b) = Unit {0}
Alike (Date m) (Date n) = Unit {0}
Alike (Limit m) (Limit n) = Unit {0}
Alike (Imported m) (Imported n) = Unit {0}
Alike (Number m) (Number n) = Unit {0}
Alike (Text m) (Text n) = Unit {0}
Alike (WordsOf m) (WordsOf n) = Unit {0}
Alike _ _ = ⊥

-- and what is the same in both, if one text spells them
abbrev pub Agree : Argument → Argument → Type 0
Agree (ForKind k) (ForKind l) = k ≡ l
Agree (Id p m) (Id q n) = m ≡ n
Agree (IdOrNone p m) (IdOrNone q n) = m ≡ n
Agree (KeyId k None) (KeyId l None) = Unit {0}
Agree (KeyId k (Some a)) (KeyId l (Some b)) = (a.kind ≡ b.kind) × (a.id ≡ b.id)
Agree (KeyDate None) (KeyDate None) = Unit {0}
Agree (KeyDate (Some a)) (KeyDate (Some b)) = a.time ≡ b.time
Agree (Date m) (Date n) = m ≡ n
Agree (Limit m) (Limit n) = m ≡ n
Agree (Imported m) (Imported n) = m ≡ n
Agree (Number m) (Number n) = m ≡ n
Agree (Text m) (Text n) = m ≡ n
Agree (WordsOf m) (WordsOf n) = m ≡ n
Agree _ _ = ⊥

agree : (a b : Argument) (t : List ℕ) → Alike a b → Spells a t → Spells b t → Agree a b
agree (ForKind k) (ForKind l) t e s r = one_letter k l (sym s ∙ r)
agree (Id p m) (Id q n) t e s r = same_id p q m n t e s r
agree (IdOrNone p None) (IdOrNone q None) t e s r = refl
agree (IdOrNone p None) (IdOrNone q (Some n)) t e s r = absurd (no_dash q n t s r)
agree (IdOrNone p (Some m)) (IdOrNone q None) t e s r = absurd (no_dash p m t r s)
agree (IdOrNone p (Some m)) (IdOrNone q (Some n)) t e s r = ap (λ (x : ℕ). Some x) (same_id p q m n t e s r)
agree (KeyId k None) (KeyId l None) t e s r = tt
agree (KeyId k None) (KeyId l (Some b)) t e s r = absurd (no_dash (OfKind l) b.id t s r.1)
agree (KeyId k (Some a)) (KeyId l None) t e s r = absurd (no_dash (OfKind k) a.id t r s.1)
agree (KeyId k (Some a)) (KeyId l (Some b)) t e s r = (s.0 ∙ e ∙ sym r.0, same_id (OfKind k) (OfKind l) a.id b.id t e s.1 r.1)
agree (KeyDate None) (KeyDate None) t e s r = tt
agree (KeyDate None) (KeyDate (Some b)) t e s r = absurd (no_dash_number b.time t (time_below b.time r.0) s r.1)
agree (KeyDate (Some a)) (KeyDate None) t e s r = absurd (no_dash_number a.time t (time_below a.time s.0) r s.1)
agree (KeyDate (Some a)) (KeyDate (Some b)) t e s r = same_times a.time b.time s.0 r.0 (sym s.1 ∙ r.1)
agree (Date m) (Date n) t e s r = same_times m n s.0 r.0 (sym s.1 ∙ r.1)
agree (Limit m) (Limit n) t e s r = let low = s.1 in let high = r.1 in decimal_injective m n (omega arith) (omega arith) (sym s.2 ∙ r.2)
agree (Imported m) (Imported n) t e s r = let low = s.1 in let high = r.1 in decimal_injective m n (omega arith) (omega arith) (sym s.2 ∙ r.2)
agree (Number m) (Number n) t e s r = let low = s.0 in let high = r.0 in decimal_injective m n (omega arith) (omega arith) (sym s.1 ∙ r.1)
agree (Text m) (Text n) t e s r = sym s.2 ∙ r.2
agree (WordsOf m) (WordsOf n) t e s r = sym s.2 ∙ r.2
agree a b t e s r = absurd e

pub same_key : (k l : Kind) (a b : Option Key) → Agree (KeyId k a) (KeyId l b) → Agree (KeyDate a) (KeyDate b) → a ≡ b
same_key k l None None e f = refl
same_key k l None (Some b) e f = absurd e
same_key k l (Some a) None e f = absurd e
same_key k l (Some a) (Some b) e f = λ i. Some (record { id = e.1 i; time = f i; kind = e.0 i })

-- ---- all arguments

abbrev pub AreAlike : List Argument → List Argument → Type 0
AreAlike [] [] = Unit {0}
AreAlike (a ∷ ps) (b ∷ qs) = Alike a b × (Agree a b → AreAlike ps qs)
AreAlike _ _ = ⊥

abbrev pub AllAgree : List Argument → List Argument → Type 0
AllAgree [] [] = Unit {0}
AllAgree (a ∷ ps) (b ∷ qs) = Agree a b × AllAgree ps qs
AllAgree _ _ = ⊥

all_agree : (ps qs : List Argument) (ts : List (List ℕ)) → AreAlike ps qs → SpellsAll ps ts → SpellsAll qs ts → AllAgree ps qs
all_agree [] [] ts e s r = tt
all_agree [] (b ∷ qs) ts e s r = absurd e
all_agree (a ∷ ps) [] ts e s r = absurd e
all_agree (a ∷ ps) (b ∷ qs) [] e s r = absurd s
all_agree (a ∷ ps) (b ∷ qs) (t ∷ ts) e s r = let first = agree a b t e.0 s.0 r.0 in (first, all_agree ps qs ts (e.1 first) s.1 r.1)

-- one line spells one list of arguments of a form
pub one_list : (ps qs : List Argument) (xs ys : List (List ℕ)) → is_line ps ≡ true → is_line qs ≡ true → length ps ≡ length qs → AreAlike ps qs → SpellsAll ps xs → SpellsAll qs ys → behind xs ≡ behind ys → AllAgree ps qs
one_list ps qs xs ys h g l e s r same =
    let long = as_many ps xs s ∙ l ∙ sym (as_many qs ys r) in
    let texts_are = same_split xs ys long (are_words ps xs h s) (are_words qs ys g r) same in
    all_agree ps qs ys e (subst (SpellsAll ps) texts_are s) r
