use Rattle.std.proofs.Common.{ℕ, suc, List, [], ◌∷◌, ◌++◌, ◌≡◌, ◌≢◌, ◌-◌, ◌∙◌, sym, ap, Option, Some, None, IfSome, replicate, take, length, take-append-drop, append_assoc, append-nil, arith}
use Rattle.std.specs.Str.Pattern.{CutsSuffixes, FindsCharSuffix}
use Rattle.std.proofs.Math.Seq.{drop-length}
use Rattle.std.proofs.lemmas.Str.{len_utf8_ascii}
use Rattle.std.proofs.lemmas.Str.Pattern.{drop_at_char}
use Rattle.command_line.specs.Paths.{slash}
use Rattle.command_line.proofs.paths.without_slashes.Goals as goal

-- a text that ends with a slash is what stands before it, and the slash
closed : (s : List ℕ) (n : ℕ) → FindsCharSuffix slash s (Some n) → s ≡ take (length s - n) s ++ slash ∷ []
closed s n h =
    sym (take-append-drop (length s - n) s)
    ∙ ap (λ l. take (length s - n) s ++ l) (drop_at_char slash s (length s - n) (length s) h.1 (omega arith) ∙ ap (λ l. slash ∷ l) (drop-length s))

-- what is cut off one by one are slashes
cut : (s r ns : List ℕ) → CutsSuffixes (FindsCharSuffix slash) s ns r → (n : ℕ) × (s ≡ r ++ replicate n slash)
cut s r [] h = (0, sym h ∙ sym (append-nil r))
cut s r (n ∷ ns) h =
    let before = cut s h.0 ns h.1 in
    let one : h.0 ≡ r ++ slash ∷ [] = closed h.0 n h.2 ∙ ap (λ l. l ++ slash ∷ []) (sym h.3) in (
      suc before.0,
      before.1 ∙ ap (λ l. l ++ replicate before.0 slash) one ∙ append_assoc r (slash ∷ []) (replicate before.0 slash),
    )

-- no slash is left
ended : (r : List ℕ) (o : Option ℕ) → FindsCharSuffix slash r o → IfSome o (λ n. n ≡ 0) → (front : List ℕ) → r ≢ front ++ slash ∷ []
unfolding lib.Utf8.encode
ended r None h z = h
ended r (Some n) h z = absurd (omega (arith, h.0, z, len_utf8_ascii slash (omega arith)))

pub returns : goal.returns
returns c =
    let trims = c.trim_end_matches.ensures.matches in
    let cuts = cut c.args.path.now c.trim_end_matches.result.now trims.0.0 trims.0.1 in
    record { slashes = cuts.0; path_is = cuts.1; ends = ended c.trim_end_matches.result.now trims.1.0 trims.1.1 trims.1.2 }
