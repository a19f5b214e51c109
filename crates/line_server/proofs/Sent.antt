-- Bytes that go out in parts.
use Rattle.std.proofs.Common.{◌≡◌, ◌+◌, ◌<◌, ℕ, List, ◌++◌, length, take, drop, Option, sym, ap, ◌∙◌, append_assoc, arith, Result, Ok, Err}
use Rattle.std.proofs.Common.{take-append-drop, length-append, subst}
use Rattle.std.specs.Result.{IsErr}
use Rattle.std.proofs.lemmas.Bool.{false≢true}
use Rattle.std.proofs.Math.Seq.{take-add}
use Rattle.std.proofs.lemmas.List.{length-drop}
use Rattle.std.specs.Io.KnownBytes.{Appends}
use Rattle.std.proofs.KnownBytes.{Appends-trans}
use Rattle.line_server.specs.ReplyValue.{ReplyValue, bytes_of}
use Rattle.line_server.specs.Streams.{AppendsSome, IsPut}

-- the known bytes of two parts of a list
pub appends_taken : (a b c : Option (List ℕ)) (n m : ℕ) (bs : List ℕ) → Appends a b (take n bs) → Appends b c (take m (drop n bs)) → Appends a c (take (n + m) bs)
appends_taken a b c n m bs h k = rw (take-add n m bs) (Appends-trans a b c (take n bs) (take m (drop n bs)) h k)

-- so far, and not to the end
pub cut_short : (a b : Option (List ℕ)) (n : ℕ) (bs : List ℕ) → n < length bs → Appends a b (take n bs) → AppendsSome a b bs
cut_short a b n bs lt h = (take n bs, drop n bs, sym (take-append-drop n bs), omega (arith, lt, length-drop n bs), h)

-- some of what is a front part of more
some_of_front : (a b : Option (List ℕ)) (xs ys : List ℕ) → AppendsSome a b xs → AppendsSome a b (xs ++ ys)
some_of_front a b xs ys p = (p.0, p.1 ++ ys, ap (λ (l : List ℕ). l ++ ys) p.2 ∙ append_assoc p.0 p.1 ys, omega (arith, p.3, length-append p.1 ys), p.4)

-- all, and then some of more
some_more : (a b c : Option (List ℕ)) (xs ys : List ℕ) → Appends a b xs → AppendsSome b c ys → AppendsSome a c (xs ++ ys)
some_more a b c xs ys h p = (xs ++ p.0, p.1, ap (λ (l : List ℕ). xs ++ l) p.2 ∙ sym (append_assoc xs p.0 p.1), p.3, Appends-trans a b c xs p.0 h p.4)

-- two parts, the first of which was written whole
both_put : {T E : Type 0} (result : Result T E) (a b c : Option (List ℕ)) (xs ys : List ℕ) → Appends a b xs → IsPut result b c ys → IsPut result a c (xs ++ ys)
both_put (Ok x) a b c xs ys h put = Appends-trans a b c xs ys h put
both_put (Err e) a b c xs ys h put = some_more a b c xs ys h put

-- ---- a reply, in its two parts

pub put_failed : {T E : Type 0} (r : Result T E) (a b : Option (List ℕ)) (xs body last : List ℕ) → IsErr r → AppendsSome a b xs → xs ≡ body → IsPut r a b (body ++ last)
put_failed (Ok x) a b xs body last is some e = absurd (false≢true is)
put_failed (Err x) a b xs body last is some e = some_of_front a b body last (subst (λ (l : List ℕ). AppendsSome a b l) e some)

-- what was written of a reply, by another name of it
pub put_alike : {T E : Type 0} (r : Result T E) (a b : Option (List ℕ)) (reply other : ReplyValue) → reply ≡ other → IsPut r a b (bytes_of reply) → IsPut r a b (bytes_of other)
put_alike r a b reply other e put = subst (λ (s : ReplyValue). IsPut r a b (bytes_of s)) e put

pub put_both : {T E : Type 0} (r : Result T E) (a b c : Option (List ℕ)) (xs ys body last : List ℕ) → Appends a b xs → IsPut r b c ys → xs ≡ body → ys ≡ last → IsPut r a c (body ++ last)
put_both r a b c xs ys body last h put e f = both_put r a b c body last (subst (λ (l : List ℕ). Appends a b l) e h) (subst (λ (l : List ℕ). IsPut r b c l) f put)
