use Rattle.std.proofs.Common.{◌≡◌, List, ℕ, ap, sym, ◌∙◌, subst}
use Rattle.std.proofs.lemmas.Bool.Decides.{Decides-eqb}
use Rattle.std.proofs.lemmas.Slice.Eq.{slice_eq-Decides}
use Rattle.std.specs.Int.{w32, to_be_bytes}
use Rattle.checksum.specs.Crc32c.{crc32c}
use Rattle.directory.specs.Content.{HasSum, sum_of}
use Rattle.directory.proofs.decoding.has_sum.Goals as goal

pub returns-in-Three : goal.returns-in-Three
returns-in-Three c =
    let sums : c.as_slice.result.now ≡ sum_of c.args.block.now = c.as_slice.ensures ∙ c.to_be_bytes.ensures ∙ ap (to_be_bytes w32) (c.crc32c.ensures ∙ ap crc32c c.split_at.ensures.front) in
    let both = slice_eq-Decides Decides-eqb c.split_at.result.1.now c.as_slice.result.now c.eq.result c.eq.ensures in
    rw c.in-Three.is (
      λ yes. sym c.split_at.ensures.back ∙ both.0 yes ∙ sums,
      λ is. both.1 (c.split_at.ensures.back ∙ is ∙ sym sums),
    )
