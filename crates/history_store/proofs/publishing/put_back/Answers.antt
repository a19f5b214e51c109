use Rattle.std.proofs.Common.{sym, subst, ◌∙◌}
use Rattle.directory.specs.Listings.{IsListing}
use Rattle.history_store.proofs.PutBack.{back_is}
use Rattle.history_store.proofs.publishing.put_back.Goals as goal

pub put_back-requires-clause-listing : goal.put_back-requires-clause-listing
put_back-requires-clause-listing c =
    subst IsListing (sym (back_is c.requires.d c.args.directory.now c.args.i c.args.j c.requires.entry c.args.before c.requires.below c.requires.replaced c.requires.before)) c.requires.is

pub returns : goal.returns
returns c d entry same before =
    c.put_back.ensures ∙ back_is d c.args.directory.now c.args.i c.args.j entry c.args.before c.requires.below same before
