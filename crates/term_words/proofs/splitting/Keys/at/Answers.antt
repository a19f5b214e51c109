use Rattle.std.proofs.Common.{ℕ, List, length, ap, ◌∙◌, arith}
use Rattle.std.proofs.lemmas.List.{length-map}
use Rattle.term_words.specs.Laid.{key_in}
use Rattle.term_words.proofs.Numbering.{key_there}
use Rattle.term_words.proofs.splitting.Keys.at.Goals as goal

pub index-requires : goal.index-requires
index-requires c =
    let many = length-map c.self.inside.keys.items (key_in c.self.inside.text.items) in
    let same = ap (λ (ks : List (List ℕ)). length ks) c.self.view_is in
    let lt = c.requires in
    let len = c.self.inside.keys.ok.0 in
    omega (arith, many, same, lt, len)

pub returns : goal.returns
returns c =
    let self = c.self.inside in
    key_there self.text.items self.keys.items c.args.number c.args.self.now c.index.result.now _ c.self.view_is c.requires c.index.ensures (c.key_in.ensures ∙ ap (λ t. key_in t c.index.result.now) c.as_slice.ensures.value)
