-- What a store lacks for a command.
use Rattle.std.proofs.Common.{◌≡◌, ℕ, ◌≤◌, true, false, inl, inr, refl, sym, ap, subst, ◌∙◌}
use Rattle.std.proofs.lemmas.Bool.{false≢true}
use Rattle.rf2_values.specs.declared.row.Kind.TheVariants.{Member}
use Rattle.history_model.specs.InOrder.{Has}
use Rattle.history_model.specs.History.{History}
use Rattle.history_store.specs.declared.refusal.Refusal.{Refusal}
use Rattle.history_store.specs.declared.refusal.Refusal.TheVariants as store
use Rattle.history_store.specs.Catalog.{Catalog}
use Rattle.history_store.specs.StoreValue.{StoreValue}
use Rattle.segment_index.specs.declared.words.Words.{Words}
use Rattle.index_answers.specs.Words.{lacks_words}
use Rattle.question_model.specs.Wanted.{kinds_for}
use Rattle.question_model.specs.Questions.{Question, RowQuestion, ForRows, Words as AskWords}
use Rattle.line_commands.specs.Commands.{Command, Ask, At}
use Rattle.history_store.specs.Prepared.{scope_of}
use Rattle.line_server.specs.Laws.{without_sums}
use Rattle.line_server.specs.Replies.{Server, IsAskedOf, Lacks, LacksAny, LacksFor}

-- a store lacks nothing for a question if it lacks neither of the two
pub none_lacking : {D : Type 0} (question : Question) (s : StoreValue D) (lack : Refusal) → (LacksFor question s store.LaterVersion → ⊥) → (LacksFor question s store.NotKept → ⊥) → LacksFor question s lack → ⊥
none_lacking question s store.LaterVersion members words lacks = members lacks
none_lacking question s store.NotKept members words lacks = words lacks
none_lacking question s lack members words lacks = lacks

-- words, for a command that asks for them
pub lack_asked : {D : Type 0} (server : Server D) (session pin : ℕ) (command : Command) (question : RowQuestion) → IsAskedOf server session command (ForRows question) pin → lacks_words question server.store.words ≡ true → LacksAny command server.store
lack_asked server session pin command question (inl (is, at)) lacks = subst (λ (c : Command). LacksAny c server.store) (sym is) (store.NotKept, lacks)
lack_asked server session pin command question (inr (is, within)) lacks = subst (λ (c : Command). LacksAny c server.store) (sym is) (store.NotKept, (within, lacks))

-- what a store lacks, one lacks that is alike
lack_too : {D : Type 0} (question : Question) (s t : StoreValue D) (lack : Refusal) → without_sums t.catalog ≡ without_sums s.catalog → t.words ≡ s.words → LacksFor question s lack → LacksFor question t lack
lack_too question s t store.LaterVersion catalog words lacks = (ap (λ (k : Catalog). scope_of k) catalog ∙ lacks.0, lacks.1)
lack_too (ForRows question) s t store.NotKept catalog words lacks = ap (lacks_words question) words ∙ lacks
lack_too question s t lack catalog words lacks = absurd lacks

pub lacks_too : {D : Type 0} (c : Command) (s t : StoreValue D) (lack : Refusal) → t.history ≡ s.history → without_sums t.catalog ≡ without_sums s.catalog → t.words ≡ s.words → Lacks c s lack → Lacks c t lack
lacks_too (Ask question) s t lack history catalog words lacks = lack_too question s t lack catalog words lacks
lacks_too (At number question) s t lack history catalog words lacks =
    (subst (λ (h : History). number ≤ h.imports) (sym history) lacks.0, lack_too question s t lack catalog words lacks.1)
lacks_too c s t lack history catalog words lacks = absurd lacks

-- a question for words needs no members
unneeded : (question : RowQuestion) (words : Words) → Has (kinds_for question) Member → lacks_words question words ≡ true → ⊥
unneeded (AskWords date wanted_type offset limit text) words members lacks = elim members [ inl same ↦ absurd (cc) | inr none ↦ none ]
unneeded question words members lacks = false≢true lacks

-- so a store lacks one thing alone
one_lack : {D : Type 0} (question : Question) (s : StoreValue D) (l m : Refusal) → LacksFor question s l → LacksFor question s m → l ≡ m
one_lack question s store.LaterVersion store.LaterVersion h k = refl
one_lack (ForRows question) s store.LaterVersion store.NotKept h k = absurd (unneeded question s.words h.1 k)
one_lack (ForRows question) s store.NotKept store.LaterVersion h k = absurd (unneeded question s.words k.1 h)
one_lack (ForRows question) s store.NotKept store.NotKept h k = refl
one_lack question s store.LaterVersion m h k = absurd k
one_lack (ForRows question) s store.NotKept m h k = absurd k
one_lack question s l m h k = absurd h

pub one_lacks : {D : Type 0} (c : Command) (s : StoreValue D) (l m : Refusal) → Lacks c s l → Lacks c s m → l ≡ m
one_lacks (Ask question) s l m h k = one_lack question s l m h k
one_lacks (At number question) s l m h k = one_lack question s l m h.1 k.1
one_lacks c s l m h k = absurd h
