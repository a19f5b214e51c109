-- A line is read in one way.
use Rattle.std.proofs.Common.{◌≡◌, ℕ, ◌<◌, Option, Some, None, List, ◌∷◌, ◌++◌, refl, sym, ap, ◌∙◌, arith, append_assoc}
use Rattle.std.specs.Prelude.{decimal}
use Rattle.std.specs.Str.{bytes_eq}
use Rattle.std.proofs.lemmas.Bool.{false≢true}
use Rattle.std.proofs.lemmas.Option.{same_Some}
use Rattle.std.proofs.lemmas.Fmt.{decimal_injective}
use Rattle.question_model.specs.Questions.{Question}
use Rattle.line_commands.specs.declared.unread.Unread.TheVariants as unread
use Rattle.line_commands.specs.Spelling.{word_of_question}
use Rattle.line_commands.specs.Commands.{Command, Ask, At, Import, Check, Pin, Unpin, Merge, Step, Publish, Abandon, Trim, Status, word_of, SpellsArguments}
use Rattle.line_commands.specs.Requests.{with_rest, sessions, Asks, HasSession, HasCommand}
use Rattle.line_commands.specs.Private.{IsWord, behind}
use Rattle.line_commands.specs.Laws.{OneReading, AskedIsRead, OneRefusal}
use Rattle.line_commands.proofs.FirstWords.{decimal_word, question_is_word, command_is_word, peel, one_head, spaced_is, not_asked}
use Rattle.line_commands.proofs.Asked.{one_question}

rest_same : (xs ys : List (List ℕ)) (x y : List (List ℕ)) → xs ≡ x → ys ≡ y → behind xs ≡ behind ys → behind x ≡ behind y
rest_same xs ys x y e f same = sym (ap behind e) ∙ same ∙ ap behind f

-- ---- one command

one_command : (c d : Command) (xs ys : List (List ℕ)) → word_of c ≡ word_of d → SpellsArguments c xs → SpellsArguments d ys → behind xs ≡ behind ys → c ≡ d
one_command (Ask p) (Ask q) xs ys w s t same = ap Ask (one_question p q xs ys w s t same)
one_command (At m p) (At n q) xs ys w s t same =
    let whole = same_Some _ _ (rest_same xs ys _ _ s.3 t.3 same) in
    let low = s.2 in
    let high = t.2 in
    let first = peel (decimal m) (decimal n) _ _ (decimal_word m (omega arith)) (decimal_word n (omega arith)) whole in
    let numbers = decimal_injective m n (omega arith) (omega arith) first.0 in
    let words = one_head (word_of_question p) (word_of_question q) _ _ (question_is_word p) (question_is_word q) (sym (spaced_is (word_of_question p) s.0) ∙ first.1 ∙ spaced_is (word_of_question q) t.0) in
    let questions = one_question p q s.0 t.0 words.0 s.1 t.1 words.1 in
    ap (λ (x : ℕ). At x p) numbers ∙ ap (λ (x : Question). At n x) questions
one_command (Import name) (Import other) xs ys w s t same = ap (λ (n : List ℕ). Import n) (same_Some _ _ (rest_same xs ys _ _ s.1 t.1 same))
one_command (Check name) (Check other) xs ys w s t same = ap (λ (n : List ℕ). Check n) (same_Some _ _ (rest_same xs ys _ _ s.1 t.1 same))
one_command (Pin None) (Pin None) xs ys w s t same = refl
one_command (Pin None) (Pin (Some n)) xs ys w s t same = let e = rest_same xs ys _ _ s t.1 same in absurd cc
one_command (Pin (Some n)) (Pin None) xs ys w s t same = let e = rest_same xs ys _ _ s.1 t same in absurd cc
one_command (Pin (Some m)) (Pin (Some n)) xs ys w s t same =
    let low = s.0 in
    let high = t.0 in
    ap (λ (x : ℕ). Pin (Some x)) (decimal_injective m n (omega arith) (omega arith) (same_Some _ _ (rest_same xs ys _ _ s.1 t.1 same)))
one_command (Step m) (Step n) xs ys w s t same =
    let low = s.1 in
    let high = t.1 in
    ap (λ (x : ℕ). Step x) (decimal_injective m n (omega arith) (omega arith) (same_Some _ _ (rest_same xs ys _ _ s.2 t.2 same)))
one_command Unpin Unpin xs ys w s t same = refl
one_command Merge Merge xs ys w s t same = refl
one_command Publish Publish xs ys w s t same = refl
one_command Abandon Abandon xs ys w s t same = refl
one_command Trim Trim xs ys w s t same = refl
one_command Status Status xs ys w s t same = refl
one_command (Ask p) d xs ys w s t same = absurd (not_asked p d tt w)
one_command c (Ask q) xs ys w s t same = absurd (not_asked q c tt (sym w))
one_command c d xs ys w s t same = absurd (false≢true (sym (ap (bytes_eq (word_of c)) w)))

-- ---- one reading

-- what a line begins with
pub line_begins : (line : List ℕ) (session : ℕ) (command : Command) → (a : Asks line session command) → line ≡ with_rest (decimal session) (Some (with_rest (word_of command) (behind a.arguments)))
line_begins line session command a = a.line_is ∙ ap (λ (t : List ℕ). decimal session ++ 32 ∷ t) (spaced_is (word_of command) a.arguments)

pub session_word : (n : ℕ) → n < sessions → IsWord (decimal n)
session_word n lt = decimal_word n (omega arith)

pub one_session : (m n : ℕ) (r s : Option (List ℕ)) → m < sessions → n < sessions → with_rest (decimal m) r ≡ with_rest (decimal n) s → (m ≡ n) × (r ≡ s)
one_session m n r s low high e =
    let heads = one_head (decimal m) (decimal n) r s (session_word m low) (session_word n high) e in
    (decimal_injective m n (omega arith) (omega arith) heads.0, heads.1)

pub one_reading : OneReading
one_reading line session other c d a b =
    let first = one_session session other _ _ a.is_session b.is_session (sym (line_begins line session c a) ∙ line_begins line other d b) in
    let second = one_head (word_of c) (word_of d) _ _ (command_is_word c) (command_is_word d) (same_Some _ _ first.1) in
    (first.0, one_command c d a.arguments b.arguments second.0 a.spelled b.spelled second.1)

-- ---- what asks something isn't refused, and has one refusal

asks_session : (line : List ℕ) (session : ℕ) (command : Command) → Asks line session command → HasSession line
asks_session line session command a = (session, a.is_session, (Some (with_rest (word_of command) (behind a.arguments)), line_begins line session command a))

pub begun : (number word : List ℕ) (rest : Option (List ℕ)) → number ++ 32 ∷ with_rest word rest ≡ with_rest (number ++ 32 ∷ word) rest
begun number word None = refl
begun number word (Some rest) = sym (append_assoc number (32 ∷ word) (32 ∷ rest))

pub asks_command : (line : List ℕ) (session : ℕ) (command : Command) → Asks line session command → HasCommand line
asks_command line session command a = (session, command, a.is_session, (behind a.arguments, line_begins line session command a ∙ begun (decimal session) (word_of command) (behind a.arguments)))

pub has_session : (line : List ℕ) → HasCommand line → HasSession line
has_session line h = (h.0, h.2, (Some (with_rest (word_of h.1) h.3.0), h.3.1 ∙ sym (begun (decimal h.0) (word_of h.1) h.3.0)))

pub asked_is_read : AskedIsRead
asked_is_read line session command unread.Long a h = let short = a.short in omega arith
asked_is_read line session command unread.Session a h = h.1 (asks_session line session command a)
asked_is_read line session command unread.Command a h = h.2 (asks_command line session command a)
asked_is_read line session command unread.Arguments a h = h.2 session command a

pub one_refusal : OneRefusal
one_refusal line unread.Long unread.Long h g = refl
one_refusal line unread.Long unread.Session h g = let short = g.0 in absurd (omega arith)
one_refusal line unread.Long unread.Command h g = let short = g.0 in absurd (omega arith)
one_refusal line unread.Long unread.Arguments h g = let short = g.0 in absurd (omega arith)
one_refusal line unread.Session unread.Long h g = let short = h.0 in absurd (omega arith)
one_refusal line unread.Session unread.Session h g = refl
one_refusal line unread.Session unread.Command h g = absurd (h.1 g.1)
one_refusal line unread.Session unread.Arguments h g = absurd (h.1 (has_session line g.1))
one_refusal line unread.Command unread.Long h g = let short = h.0 in absurd (omega arith)
one_refusal line unread.Command unread.Session h g = absurd (g.1 h.1)
one_refusal line unread.Command unread.Command h g = refl
one_refusal line unread.Command unread.Arguments h g = absurd (h.2 g.1)
one_refusal line unread.Arguments unread.Long h g = let short = h.0 in absurd (omega arith)
one_refusal line unread.Arguments unread.Session h g = absurd (g.1 (has_session line h.1))
one_refusal line unread.Arguments unread.Command h g = absurd (g.2 h.1)
one_refusal line unread.Arguments unread.Arguments h g = refl
