use Rattle.std.proofs.Common.{◌≡◌, ◌∙◌, sym, subst, rules, true, false}
use Rattle.std.proofs.lemmas.Bool.{true≢false}
use Rattle.std.proofs.lemmas.List.{take_rest}
use Rattle.release_folder.specs.Names.{BeginsAsRefset, IsMemberName}
use Rattle.release_folder.proofs.names.is_member_name.Goals as goal

pub returns-then-not-starts_with_str : goal.returns-then-not-starts_with_str
returns-then-not-starts_with_str c =
    let name = c.args.name.now in
    let has : c.has_prefix.result ≡ true = search (rules, c.if-not-has_prefix.false) in
    let other : c.starts_with_str.result ≡ false = search (rules, c.if-not-starts_with_str.true) in (
      (λ yes. record {
        begins = c.has_prefix.ensures.0 has;
        refset = subst BeginsAsRefset (take_rest name 5) (c.begins_as_refset.ensures.0 yes);
        other = λ association. true≢false (sym (c.starts_with_str.ensures.1 association) ∙ other);
      }),
      (λ member. let m : IsMemberName name = member in c.begins_as_refset.ensures.1 (subst BeginsAsRefset (sym (take_rest name 5)) m.refset)),
    )
