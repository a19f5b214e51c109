-- Words, and what is read of a text that they begin.
use Rattle.std.proofs.Common.{◌≡◌, ◌≢◌, ℕ, suc, ◌<◌, ◌^◌, Bool, true, false, ◌&&◌, eqb, Option, Some, None, List, [], ◌∷◌, ◌++◌, length, get_or, refl, sym, ap, subst, ◌∙◌, arith, inl, inr}
use Rattle.std.specs.Prelude.{decimal, codes, not, if◌then◌else◌}
use Rattle.std.specs.Int.{IsInRange}
use Rattle.std.specs.Str.{bytes_eq}
use Rattle.std.proofs.lemmas.Bool.{and_parts, false≢true, eq-eqb}
use Rattle.std.proofs.lemmas.Option.{same_Some}
use Rattle.std.proofs.lemmas.List.Elements.{All-from_get_or, All-cons}
use Rattle.std.proofs.lemmas.Str.Parse.{not_in_digits}
use Rattle.std.proofs.lemmas.Fmt.{digits_decimal}
use Rattle.rf2_values.specs.declared.row.Kind.{Kind}
use Rattle.rf2_values.specs.declared.row.Kind.TheVariants as kinds
use Rattle.rf2_values.specs.Row.{IsIdOf, SpellsId}
use Rattle.rf2_values.specs.Member.{IsMemberByte}
use Rattle.rf2_values.proofs.Decimals.{own}
use Rattle.line_commands.specs.Spelling.{word_of_question, letter}
use Rattle.question_model.specs.Questions.{Question, ForRows, Get, ForIds, Children}
use Rattle.line_commands.specs.Commands.{Command, Ask, At, Import, Check, Pin, Unpin, Merge, Step, Publish, Abandon, Trim, Status, word_of}
use Rattle.line_commands.specs.Requests.{with_rest, spaced}
use Rattle.line_commands.specs.Private.{IsWord, IsOther, behind}

-- ---- what has no space

test : List ℕ → Bool
test [] = true
test (b ∷ bs) = not (eqb b 32) && test bs

not_true : (b : Bool) → not b ≡ true → b ≡ true → ⊥
not_true true e f = false≢true e
not_true false e f = false≢true f

from_test : (bs : List ℕ) → test bs ≡ true → IsWord bs
unfolding test
from_test [] e = λ k d l. absurd (omega arith)
from_test (b ∷ bs) e = All-cons (λ x. x ≢ 32) b bs (λ is. not_true (eqb b 32) (and_parts _ _ e).0 (eq-eqb b 32 is)) (from_test bs (and_parts _ _ e).1)

pub decimal_word : (n : ℕ) → n < 2 ^ 64 → IsWord (decimal n)
decimal_word n lt = All-from_get_or (λ b. b ≢ 32) (decimal n) 0 (λ i l. not_in_digits own (decimal n) 32 (digits_decimal own n lt) (λ (h : IsInRange 48 57 32). absurd (omega arith)) i l)

pub letter_word : (kind : Kind) → IsWord (letter kind)
unfolding test
letter_word kinds.Concept = from_test (codes "C") refl
letter_word kinds.Description = from_test (codes "D") refl
letter_word kinds.Relationship = from_test (codes "R") refl
letter_word kinds.Association = from_test (codes "A") refl
letter_word kinds.Concrete = from_test (codes "V") refl
letter_word kinds.Member = from_test (codes "M") refl

pub question_is_word : (question : Question) → IsWord (word_of_question question)
unfolding test
question_is_word (ForRows (Get kind id date)) = from_test (codes "GET") refl
question_is_word (ForIds (Children concept date)) = from_test (codes "CHILDREN") refl
question_is_word question = from_test (word_of_question question) refl

pub command_is_word : (command : Command) → IsWord (word_of command)
unfolding test
command_is_word (Ask question) = question_is_word question
command_is_word (At number question) = from_test (codes "AT") refl
command_is_word (Import name) = from_test (codes "IMPORT") refl
command_is_word (Check name) = from_test (codes "CHECK") refl
command_is_word (Pin number) = from_test (codes "PIN") refl
command_is_word Unpin = from_test (codes "UNPIN") refl
command_is_word Merge = from_test (codes "MERGE") refl
command_is_word (Step rows) = from_test (codes "STEP") refl
command_is_word Publish = from_test (codes "PUBLISH") refl
command_is_word Abandon = from_test (codes "ABANDON") refl
command_is_word Trim = from_test (codes "TRIM") refl
command_is_word Status = from_test (codes "STATUS") refl

pub none_word : IsWord (codes "-")
unfolding test
none_word = from_test (codes "-") refl

member_byte : (b : ℕ) → IsMemberByte b → b ≢ 32
member_byte b (inl h) e = grind arith
member_byte b (inr h) e = omega arith

pub id_word : (kind : Kind) (id : ℕ) (text : List ℕ) → IsIdOf kind id → SpellsId kind id text → IsWord text
id_word kinds.Concept id text h s = let high = h.sctid.high in subst IsWord (sym s) (decimal_word id (omega arith))
id_word kinds.Description id text h s = let high = h.sctid.high in subst IsWord (sym s) (decimal_word id (omega arith))
id_word kinds.Relationship id text h s = let high = h.sctid.high in subst IsWord (sym s) (decimal_word id (omega arith))
id_word kinds.Association id text h s = λ k d l. member_byte (get_or text k d) (s.plain k d l)
id_word kinds.Member id text h s = λ k d l. member_byte (get_or text k d) (s.plain k d l)
id_word kinds.Concrete id text h s = let high = h.sctid.high in subst IsWord (sym s) (decimal_word id (omega arith))

-- ---- what words begin

tail_word : (b : ℕ) (bs : List ℕ) → IsWord (b ∷ bs) → IsWord bs
tail_word b bs h = λ k d l. h (suc k) d (omega arith)

pub no_space : (a b y : List ℕ) → IsWord a → a ≡ b ++ 32 ∷ y → ⊥
no_space [] [] y h e = cc
no_space [] (b ∷ bs) y h e = cc
no_space (a ∷ ds) [] y h e = h 0 0 (omega arith) cc
no_space (a ∷ ds) (b ∷ bs) y h e = no_space ds bs y (tail_word a ds h) cc

pub peel : (a b x y : List ℕ) → IsWord a → IsWord b → a ++ 32 ∷ x ≡ b ++ 32 ∷ y → (a ≡ b) × (x ≡ y)
peel [] [] x y h g e = (refl, cc)
peel [] (b ∷ bs) x y h g e = absurd (g 0 0 (omega arith) cc)
peel (a ∷ ds) [] x y h g e = absurd (h 0 0 (omega arith) cc)
peel (a ∷ ds) (b ∷ bs) x y h g e =
    let later = peel ds bs x y (tail_word a ds h) (tail_word b bs g) cc in
    let same : ds ≡ bs = later.0 in
    let heads : a ≡ b = cc in
    (ap (λ (n : ℕ). n ∷ ds) heads ∙ ap (λ (ns : List ℕ). b ∷ ns) same, later.1)

-- a text has one first word
pub one_head : (a b : List ℕ) (r s : Option (List ℕ)) → IsWord a → IsWord b → with_rest a r ≡ with_rest b s → (a ≡ b) × (r ≡ s)
one_head a b None None h g e = (e, refl)
one_head a b None (Some y) h g e = absurd (no_space a b y h e)
one_head a b (Some x) None h g e = absurd (no_space b a x g (sym e))
one_head a b (Some x) (Some y) h g e = let same = peel a b x y h g e in (same.0, ap (λ (t : List ℕ). Some t) same.1)

pub spaced_is : (word : List ℕ) (texts : List (List ℕ)) → spaced (word ∷ texts) ≡ with_rest word (behind texts)
spaced_is word [] = refl
spaced_is word (t ∷ ts) = refl

pub told : (texts : List (List ℕ)) (arguments : List (List ℕ)) (text whole : List ℕ) → behind arguments ≡ Some text → arguments ≡ texts → behind texts ≡ Some whole → text ≡ whole
told texts arguments text whole e f g = same_Some _ _ (sym e ∙ ap behind f ∙ g)

-- ---- which words are those of questions

other_words : List (List ℕ)
other_words = codes "AT" ∷ codes "IMPORT" ∷ codes "CHECK" ∷ codes "PIN" ∷ codes "UNPIN" ∷ codes "MERGE" ∷ codes "STEP" ∷ codes "PUBLISH" ∷ codes "ABANDON" ∷ codes "TRIM" ∷ codes "STATUS" ∷ []

among : List ℕ → List (List ℕ) → Bool
among word [] = false
among word (one ∷ others) = if bytes_eq word one then true else among word others

is_no_other : (question : Question) → among (word_of_question question) other_words ≡ false
unfolding among other_words
is_no_other (ForRows (Get kind id date)) = refl
is_no_other (ForIds (Children concept date)) = refl
is_no_other question = refl

-- no other command has a question's word
pub not_asked : (question : Question) (command : Command) → IsOther command → word_of_question question ≡ word_of command → ⊥
unfolding among other_words
not_asked question (Ask asked) h e = h
not_asked question command h e = false≢true (sym (is_no_other question) ∙ ap (λ (word : List ℕ). among word other_words) e)

-- what is the word neither of a question nor of another command is no command's
pub no_command : (text : List ℕ) → ((question : Question) → text ≢ word_of_question question) → ((command : Command) → IsOther command → text ≢ word_of command) → (command : Command) → text ≢ word_of command
no_command text none others (Ask question) e = none question e
no_command text none others command e = others command tt e

pub one_letter : (k l : Kind) → letter k ≡ letter l → k ≡ l
one_letter kinds.Concept kinds.Concept e = refl
one_letter kinds.Description kinds.Description e = refl
one_letter kinds.Relationship kinds.Relationship e = refl
one_letter kinds.Association kinds.Association e = refl
one_letter kinds.Concrete kinds.Concrete e = refl
one_letter kinds.Member kinds.Member e = refl
one_letter k l e = absurd (false≢true (sym (ap (bytes_eq (letter k)) e)))

-- `-` is no number, and no identifier

pub no_dash_number : (n : ℕ) (t : List ℕ) → n < 2 ^ 64 → t ≡ codes "-" → t ≡ decimal n → ⊥
no_dash_number n t lt dash e =
    let same : decimal n ≡ 45 ∷ [] = sym e ∙ dash in
    let some : length (decimal n) ≡ 1 = ap length same in
    not_in_digits own (decimal n) 45 (digits_decimal own n lt) (λ (h : IsInRange 48 57 45). absurd (omega arith)) 0 (omega arith) (ap (λ (xs : List ℕ). get_or xs 0 0) same)

pub not_dash : (k : Kind) (id : ℕ) (t : List ℕ) → t ≡ codes "-" → IsIdOf k id → SpellsId k id t → ⊥
not_dash kinds.Concept id t e h s = let high = h.sctid.high in no_dash_number id t (omega arith) e s
not_dash kinds.Description id t e h s = let high = h.sctid.high in no_dash_number id t (omega arith) e s
not_dash kinds.Relationship id t e h s = let high = h.sctid.high in no_dash_number id t (omega arith) e s
not_dash kinds.Association id t e h s = let long = s.long in let short : length t ≡ 1 = ap length e in omega arith
not_dash kinds.Member id t e h s = let long = s.long in let short : length t ≡ 1 = ap length e in omega arith
not_dash kinds.Concrete id t e h s = let high = h.sctid.high in no_dash_number id t (omega arith) e s
