use Rattle.std.proofs.Common.{◌-◌, ◌++◌, length, replicate, sym, ap, ◌∙◌, arith}
use Rattle.directory.specs.Listings.{DirectoryValue}
use Rattle.directory.specs.Content.{listing_bytes}
use Rattle.directory.proofs.Written.{listing_written}
use Rattle.directory.proofs.listing.Directory.write_listing.Goals as goal

pub returns : goal.returns
returns c =
    let d : DirectoryValue = record { layout = c.self.inside.layout; epoch = c.self.inside.epoch; imports = c.self.inside.imports; entries = c.self.inside.entries.items } in
    listing_written (length c.args.block.now) 4064 c.len.result d c.as_slice.result.now c.fill.new.self c.write_header.new.out c.write_entries.new.out (c.fill.ensures.after (λ y e. e)) c.write_header.ensures
    (c.len.ensures ∙ sym c.as_slice.ensures.len ∙ ap length c.as_slice.ensures.value) c.as_slice.ensures.value c.write_entries.ensures (omega (arith, c.told-block))
    ∙ ap (λ n. listing_bytes d ++ replicate (n - length (listing_bytes d)) 0) c.told-block
    ∙ ap (λ (x : DirectoryValue). listing_bytes x ++ replicate (4096 - length (listing_bytes x)) 0) c.self.view_is
