-- A text spells one identifier of a kind.
use Rattle.std.proofs.Common.{◌≡◌, ℕ, Some, List, sym, ap, ◌∙◌, arith}
use Rattle.std.specs.Int.{from_be_bytes, w128}
use Rattle.std.proofs.lemmas.Fmt.{decimal_injective}
use Rattle.rf2_values.specs.declared.row.Kind.{Kind}
use Rattle.rf2_values.specs.declared.row.Kind.TheVariants as kind
use Rattle.rf2_values.specs.Row.{IsIdOf, SpellsId}

pub same_ids : (kind : Kind) (m n : ℕ) (text : List ℕ) → IsIdOf kind m → IsIdOf kind n → SpellsId kind m text → SpellsId kind n text → m ≡ n
same_ids kind.Concept m n text hm hn sm sn =
    let low = hm.sctid.high in
    let high = hn.sctid.high in
    decimal_injective m n (omega arith) (omega arith) (sym sm ∙ sn)
same_ids kind.Description m n text hm hn sm sn =
    let low = hm.sctid.high in
    let high = hn.sctid.high in
    decimal_injective m n (omega arith) (omega arith) (sym sm ∙ sn)
same_ids kind.Relationship m n text hm hn sm sn =
    let low = hm.sctid.high in
    let high = hn.sctid.high in
    decimal_injective m n (omega arith) (omega arith) (sym sm ∙ sn)
same_ids kind.Association m n text hm hn sm sn =
    let both : Some sm.value.0 ≡ Some sn.value.0 = sym sm.value.1 ∙ sn.value.1 in
    let bytes : sm.value.0 ≡ sn.value.0 = cc in
    sm.value.2 ∙ ap (from_be_bytes w128) bytes ∙ sym sn.value.2
same_ids kind.Member m n text hm hn sm sn =
    let both : Some sm.value.0 ≡ Some sn.value.0 = sym sm.value.1 ∙ sn.value.1 in
    let bytes : sm.value.0 ≡ sn.value.0 = cc in
    sm.value.2 ∙ ap (from_be_bytes w128) bytes ∙ sym sn.value.2
same_ids kind.Concrete m n text hm hn sm sn =
    let low = hm.sctid.high in
    let high = hn.sctid.high in
    decimal_injective m n (omega arith) (omega arith) (sym sm ∙ sn)
