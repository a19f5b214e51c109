use Rattle.std.proofs.Common.{ap, take, ◌∙◌}
use Rattle.std.specs.List.{filter}
use Rattle.history_model.specs.Queries.{is_above}
use Rattle.history_model.specs.Relationships.{sources, sources_above}
use Rattle.as_of_index.specs.Current.{rows_seen}
use Rattle.links.proofs.NextOnes.{sources_once}
use Rattle.links.proofs.incoming.sources.Goals as goal

pub returns : goal.returns
unfolding sources sources_above
returns c =
    let a = c.args in
    record {
      found = λ lists listed_so posts.
          let all = sources_once a.type_id a.destination a.as_of.date (rows_seen a.as_of lists) c.find_sources.new.ids.items c.sort_once.new.ids.items
          (rw (c.value.ensures.value, c.number_of-type_number.ensures) at (c.in_ok-find_sources.ensures.found lists listed_so posts)) c.sort_once.ensures in
          c.truncate.ensures.items ∙ ap (take a.limit) (c.keep_above.ensures ∙ ap (filter (is_above a.after)) all);
    }
