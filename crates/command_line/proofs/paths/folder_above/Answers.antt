use Rattle.std.proofs.Common.{ℕ, List, [], ◌∷◌, ◌++◌, ◌≡◌, ◌≢◌, ◌∙◌, sym, ap, subst, All, inl, inr, refl, Some, take, drop, length, take-append-drop, eqb-true, arith}
use Rattle.std.proofs.lemmas.Bool.{eqb-false}
use Rattle.std.proofs.lemmas.List.{get_or_default, nil_from_length}
use Rattle.std.specs.Str.{NoCharPasses}
use Rattle.std.specs.Prelude.{◌==◌}
use Rattle.std.specs.Str.Pattern.{RFindsChar}
use Rattle.std.proofs.lemmas.Str.Pattern.{drop_at_char, NoCharPasses-char}
use Rattle.command_line.specs.Paths.{slash}
use Rattle.command_line.proofs.paths.folder_above.Goals as goal

-- a text without the character has no byte that is it
none_in : (s : List ℕ) → NoCharPasses (λ d. d == slash) s → All (λ byte. byte ≢ slash) s
none_in s free k d inside is = NoCharPasses-char slash s k free (omega arith) inside (get_or_default s k 0 d inside ∙ is)

-- what stands before the last slash, and what stands behind it
parted : (s folder name : List ℕ) (i j : ℕ) → RFindsChar slash s (Some (i, j)) → folder ≡ take i s → name ≡ drop j s → s ≡ folder ++ slash ∷ name
parted s folder name i j h first last =
    sym (take-append-drop i s)
    ∙ ap (λ l. take i s ++ l) (drop_at_char slash s i j h.1 (omega arith))
    ∙ ap (λ l. take i s ++ slash ∷ l) (sym last)
    ∙ ap (λ l. l ++ slash ∷ name) (sym first)

pub returns-in-None : goal.returns-in-None
returns-in-None c = record {
  last = none_in c.args.path.now c.in-None.ensures.cases;
  above = inl (refl, refl);
}

pub returns-in-Some : goal.returns-in-Some
returns-in-Some c =
    let split = c.in-Some.ensures.cases in
    let folder = c.in-Some.folder.now in
    let name = c.in-Some.name.now in
    let whole = parted c.args.path.now folder name split.0 split.1 split.2 split.3 split.4 in
    let empty = nil_from_length folder (eqb-true _ 0 (sym c.is_empty.ensures ∙ c.if-is_empty.true)) in
    record {
      last = subst (λ l. All (λ byte. byte ≢ slash) l) (sym split.4) (none_in (drop split.1 c.args.path.now) split.2.0);
      above = inr (inl (whole ∙ ap (λ l. l ++ slash ∷ name) empty, refl));
    }

pub returns-in-Some-2 : goal.returns-in-Some-2
returns-in-Some-2 c =
    let split = c.in-Some.ensures.cases in
    let folder = c.in-Some.folder.now in
    let name = c.in-Some.name.now in
    let whole = parted c.args.path.now folder name split.0 split.1 split.2 split.3 split.4 in
    let some : folder ≢ [] = λ e. eqb-false (length folder) 0 (sym c.is_empty.ensures ∙ c.if-is_empty.false) (ap length e) in
    record {
      last = subst (λ l. All (λ byte. byte ≢ slash) l) (sym split.4) (none_in (drop split.1 c.args.path.now) split.2.0);
      above = inr (inr (whole, some));
    }
