-- Answers one after the other.
use Rattle.std.proofs.Common.{◌≡◌, ◌↔◌, ℕ, ◌<◌, ◌≤◌, List, [], ◌∷◌, ◌++◌, ◌+◌, ◌⊎◌, length, take, drop, refl, sym, ap, subst, inl, inr, ◌∙◌, arith, take_all, drop-drop, length-take-le, take-append-drop}
use Rattle.std.proofs.lemmas.Bool.{cases_lt}
use Rattle.std.proofs.lemmas.List.{drop_all}
use Rattle.std.specs.Prelude.{Option, Some, None}
use Rattle.std.proofs.lemmas.Option.{same_Some, none-some}
use Rattle.rf2_values.specs.Row.{RowValue}
use Rattle.history_model.specs.InOrder.{Has, IsAscending, joined}
use Rattle.history_model.specs.History.{row_cmp}
use Rattle.history_model.specs.Laws.{last_by}
use Rattle.history_model.specs.Queries.{page, all_above, search_terms, terms_above, delta, changed_above, members, members_above, values, values_above}
use Rattle.history_model.specs.Membership.{last_component}
use Rattle.history_model.proofs.Snapshots.{page_cons}
use Rattle.history_model.proofs.Paging.{take_short, goes_on, are_all, ends, search_cons}
use Rattle.rf2_values.specs.Key.{key_of}
use Rattle.history_model.specs.Exports.{all_of_kind, rows_of_kind}
use Rattle.history_model.proofs.Exports.{kind_first}
use Rattle.history_model.proofs.Audits.{changed_cons}
use Rattle.history_model.proofs.Membership.{members_cons, few_values_are_all, values_and_the_rest, none_above, joined_are_all, some_end}
use Rattle.question_model.specs.Questions.{RowQuestion, Search, Page, Delta, Members, Values, AllRows, Words}
use Rattle.word_model.specs.Words.{words_found, some_words_found}
use Rattle.question_model.specs.Wanted.{rows_for}
use Rattle.question_model.specs.Laws.{limit_of, all_for, after_page, ArePages, PageAndTheRest, ShortPageIsLast, PagesAreAll, PagesEnd}

abbrev its_id : RowValue → ℕ
its_id row = row.id

own_most : (limit most n : ℕ) → Some limit ≡ Some most → n < most → n < limit
own_most limit most n is short = subst (λ m. n < m) (sym (same_Some limit most is)) short

-- ---- after so many items

left_over : {X : Type 0} (limit : ℕ) (xs : List X) → drop (length (take limit xs)) xs ≡ drop limit xs
left_over limit xs = turned (cases_lt (length xs) limit) where
  turned : (length xs < limit) ⊎ (limit ≤ length xs) → drop (length (take limit xs)) xs ≡ drop limit xs
  turned (inl short) =
      ap (λ ys. drop (length ys) xs) (take_all limit xs (omega arith))
      ∙ drop_all (length xs) xs (omega arith) ∙ sym (drop_all limit xs (omega arith))
  turned (inr enough) = ap (λ n. drop n xs) (length-take-le limit xs enough)

first_and_rest : {X : Type 0} (limit : ℕ) (xs : List X) → xs ≡ take limit xs ++ drop (length (take limit xs)) xs
first_and_rest limit xs = sym (take-append-drop limit xs) ∙ ap (λ ys. take limit xs ++ ys) (sym (left_over limit xs))

page_and_rest : {X : Type 0} (offset limit : ℕ) (xs : List X) → drop offset xs ≡ take limit (drop offset xs) ++ drop (offset + length (take limit (drop offset xs))) xs
page_and_rest offset limit xs =
    first_and_rest limit (drop offset xs)
    ∙ ap (λ ys. take limit (drop offset xs) ++ ys) (drop-drop (length (take limit (drop offset xs))) offset xs)

no_more : {X : Type 0} (limit : ℕ) (xs : List X) → 1 ≤ limit → take limit xs ≡ [] → xs ≡ []
no_more limit xs some e = let nothing = ap length e in take_short limit xs (omega (arith, nothing, some)) ∙ e

-- where a page begins
abbrev skipped : Option ℕ → ℕ
skipped None = 0
skipped (Some offset) = offset

module _ (date : ℕ) (wanted_type : Option ℕ) (limit : ℕ) (text : List ℕ) (rows : List RowValue) where
  abbrev left_after : Option ℕ → List RowValue
  left_after at = drop (skipped at) (words_found date wanted_type text rows)

  abbrev next_offset : Option ℕ → List RowValue → Option ℕ
  next_offset at found = Some (skipped at + length found)

  abbrev words_at : Option ℕ → List RowValue
  words_at at = some_words_found date wanted_type text (skipped at) limit rows

  abbrev AreWordPages : Option ℕ → List (List RowValue) → Type 0
  AreWordPages at = ArePages (Words date wanted_type (skipped at) limit text) rows

  words_and_rest : (at : Option ℕ) → left_after at ≡ words_at at ++ left_after (next_offset at (words_at at))
  unfolding some_words_found
  words_and_rest at = page_and_rest (skipped at) limit (words_found date wanted_type text rows)

  none_left_at : 1 ≤ limit → (at : Option ℕ) → words_at at ≡ [] → left_after at ≡ []
  unfolding some_words_found
  none_left_at some at e = no_more limit (left_after at) some e

  words_are_all : 1 ≤ limit → (at : Option ℕ) (pages : List (List RowValue)) → AreWordPages at pages → joined pages ≡ left_after at
  words_are_all some = joined_are_all left_after words_at next_offset words_and_rest (none_left_at some) AreWordPages (λ at. (λ e. e, λ e. e)) (λ at first others. (λ e. e, λ e. e))

  words_end : 1 ≤ limit → (at : Option ℕ) → (pages : List (List RowValue)) × AreWordPages at pages × (Has pages [] → ⊥)
  words_end some at = some_end left_after words_at next_offset words_and_rest (none_left_at some) AreWordPages (λ at. (λ e. e, λ e. e)) (λ at first others. (λ e. e, λ e. e)) (length (left_after at)) at (omega arith)

-- ---- each question

pub short_page_is_last : ShortPageIsLast
unfolding page search_terms delta members rows_of_kind some_words_found
short_page_is_last (Search prefix date after limit) most rows is short = take_short limit (terms_above prefix date after rows) (own_most limit most _ is short)
short_page_is_last (Page kind date after limit) most rows is short = take_short limit (all_above kind date after rows) (own_most limit most _ is short)
short_page_is_last (Delta kind from date after limit) most rows is short = take_short limit (changed_above kind from date after rows) (own_most limit most _ is short)
short_page_is_last (Members refset date after limit) most rows is short = take_short limit (members_above refset date after rows) (own_most limit most _ is short)
short_page_is_last (Values refset date after limit) most rows is short = few_values_are_all refset date after limit rows (own_most limit most _ is short)
short_page_is_last (AllRows kind after limit) most rows is short = take_short limit (all_of_kind kind after rows) (own_most limit most _ is short)
short_page_is_last (Words date wanted_type offset limit text) most rows is short = take_short limit (drop offset (words_found date wanted_type text rows)) (own_most limit most _ is short)
short_page_is_last question most rows is short = absurd (none-some most is)

-- what the pages of a question are, one after the other
record Turns (question : RowQuestion) (limit : ℕ) (rows : List RowValue) : Type 0 where
  rest : all_for question rows ≡ rows_for question rows ++ all_for (after_page question (rows_for question rows)) rows
  are_all : 1 ≤ limit → (pages : List (List RowValue)) → ArePages question rows pages → joined pages ≡ all_for question rows
  end : 1 ≤ limit → (pages : List (List RowValue)) × ArePages question rows pages × (Has pages [] → ⊥)

-- a question for the first rows behind a mark, as an id or a key, which a page goes on behind its last row
module _ {C : Type 0} (mark : RowValue → C) (asked : Option C → RowQuestion) (all : Option C → List RowValue) (limit : ℕ) (rows : List RowValue)
    (split : (after : Option C) (b : RowValue) (ys : List RowValue) → all after ≡ b ∷ ys → all after ≡ b ∷ all (Some (mark b)))
    (first : (after : Option C) → rows_for (asked after) rows ≡ take limit (all after))
    (whole : (after : Option C) → all_for (asked after) rows ≡ all after)
    (next : (after : Option C) (found : List RowValue) → after_page (asked after) found ≡ asked (last_by mark after found)) where
  abbrev Are : Option C → List (List RowValue) → Type 0
  Are after = ArePages (asked after) rows

  last : (after : Option C) → Are after [] ↔ (take limit (all after) ≡ [])
  last after = (λ e. sym (first after) ∙ e, λ e. first after ∙ e)

  more : (after : Option C) (page : List RowValue) (pages : List (List RowValue)) → Are after (page ∷ pages) ↔ ((page ≡ take limit (all after)) × Are (last_by mark after page) pages)
  more after page pages = (
    λ w. (w.0 ∙ first after, subst (λ q. ArePages q rows pages) (next after page) w.1),
    λ w. (w.0 ∙ sym (first after), subst (λ q. ArePages q rows pages) (sym (next after page)) w.1),
  )

  turns_from : (after : Option C) → Turns (asked after) limit rows
  turns_from after = record {
    rest = whole after ∙ goes_on mark all split limit after
        ∙ ap (λ xs. xs ++ all (last_by mark after xs)) (sym (first after))
        ∙ ap (λ xs. rows_for (asked after) rows ++ xs) (sym (whole (last_by mark after (rows_for (asked after) rows))) ∙ ap (λ q. all_for q rows) (sym (next after (rows_for (asked after) rows))));
    are_all = λ some pages are. are_all mark all split limit some Are last more after pages are ∙ sym (whole after);
    end = λ some. ends mark all split limit some Are last more (length (all after)) after (omega arith);
  }

module _ (refset date : ℕ) (limit : ℕ) (rows : List RowValue) (up : IsAscending row_cmp rows) where
  abbrev values_left : Option ℕ → List RowValue
  values_left after = values_above refset date after rows

  abbrev values_at : Option ℕ → List RowValue
  values_at after = values refset date after limit rows

  abbrev AreValuePages : Option ℕ → List (List RowValue) → Type 0
  AreValuePages after = ArePages (Values refset date after limit) rows

  values_rest : (after : Option ℕ) → values_left after ≡ values_at after ++ values_left (last_component after (values_at after))
  values_rest after = values_and_the_rest refset date after limit rows up

  values_turns : (after : Option ℕ) → Turns (Values refset date after limit) limit rows
  values_turns after = record {
    rest = values_rest after;
    are_all = λ some. joined_are_all values_left values_at last_component values_rest (λ c e. none_above refset date c limit rows some e) AreValuePages (λ c. (λ e. e, λ e. e)) (λ c page others. (λ e. e, λ e. e)) after;
    end = λ some. some_end values_left values_at last_component values_rest (λ c e. none_above refset date c limit rows some e) AreValuePages (λ c. (λ e. e, λ e. e)) (λ c page others. (λ e. e, λ e. e)) (length (values_left after)) after (omega arith);
  }

words_turns : (date : ℕ) (wanted_type : Option ℕ) (offset limit : ℕ) (text : List ℕ) (rows : List RowValue) → Turns (Words date wanted_type offset limit text) limit rows
words_turns date wanted_type offset limit text rows = record {
  rest = words_and_rest date wanted_type limit text rows (Some offset);
  are_all = λ some. words_are_all date wanted_type limit text rows some (Some offset);
  end = λ some. words_end date wanted_type limit text rows some (Some offset);
}

own_turns : (question : RowQuestion) (limit most : ℕ) (rows : List RowValue) → Some limit ≡ Some most → Turns question limit rows → Turns question most rows
own_turns question limit most rows is = subst (λ n. Turns question n rows) (same_Some limit most is)

turns : (question : RowQuestion) (most : ℕ) (rows : List RowValue) → limit_of question ≡ Some most → IsAscending row_cmp rows → Turns question most rows
unfolding page search_terms delta members rows_of_kind
turns (Search prefix date after limit) most rows is up = own_turns _ limit most rows is (turns_from its_id (λ id. Search prefix date id limit) (λ id. terms_above prefix date id rows) limit rows (λ id b ys e. search_cons prefix date id rows b ys up e) (λ id. refl) (λ id. refl) (λ id found. refl) after)
turns (Page kind date after limit) most rows is up = own_turns _ limit most rows is (turns_from its_id (λ id. Page kind date id limit) (λ id. all_above kind date id rows) limit rows (λ id b ys e. page_cons kind date id rows b ys up e) (λ id. refl) (λ id. refl) (λ id found. refl) after)
turns (Delta kind from date after limit) most rows is up = own_turns _ limit most rows is (turns_from its_id (λ id. Delta kind from date id limit) (λ id. changed_above kind from date id rows) limit rows (λ id b ys e. changed_cons kind from date id rows b ys up e) (λ id. refl) (λ id. refl) (λ id found. refl) after)
turns (Members refset date after limit) most rows is up = own_turns _ limit most rows is (turns_from its_id (λ id. Members refset date id limit) (λ id. members_above refset date id rows) limit rows (λ id b ys e. members_cons refset date id rows b ys up e) (λ id. refl) (λ id. refl) (λ id found. refl) after)
turns (Values refset date after limit) most rows is up = own_turns _ limit most rows is (values_turns refset date limit rows up after)
turns (AllRows kind after limit) most rows is up = own_turns _ limit most rows is (turns_from key_of (λ key. AllRows kind key limit) (λ key. all_of_kind kind key rows) limit rows (kind_first kind rows up) (λ key. refl) (λ key. refl) (λ key found. refl) after)
turns (Words date wanted_type offset limit text) most rows is up = own_turns _ limit most rows is (words_turns date wanted_type offset limit text rows)
turns question most rows is up = absurd (none-some most is)

pub page_and_the_rest : PageAndTheRest
page_and_the_rest question limit rows is up = (turns question limit rows is up).rest

pub pages_are_all : PagesAreAll
pages_are_all question limit rows pages is some up are = (turns question limit rows is up).are_all some pages are

pub pages_end : PagesEnd
pages_end question limit rows is some up = (turns question limit rows is up).end some
