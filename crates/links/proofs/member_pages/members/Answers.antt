use Rattle.history_model.specs.Queries.{is_member_of, members, members_above}
use Rattle.links.proofs.Paths.{path_of_members}
use Rattle.links.proofs.member_pages.members.Goals as goal

pub returns-clause-answer : goal.returns-clause-answer
unfolding members members_above
returns-clause-answer g c =
    let refset = c.args.refset in
    c.member_page.ensures.answer (λ row. is_member_of refset row.body) (rw (c.all_with-wanted.ensures, c.value.ensures.value) (path_of_members refset))
