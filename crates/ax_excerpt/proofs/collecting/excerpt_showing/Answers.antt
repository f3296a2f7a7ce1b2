-- What keeps the paths of the query and its orders is enough; and where all is kept, one of them is told
-- by no part.
use Rattle.std.proofs.Common.{sym, ap, ◌∙◌}
use Rattle.std.proofs.lemmas.Bool.{and_parts, false≢true}
use Rattle.ax_excerpt.specs.Enough.{sources_enough}
use Rattle.ax_excerpt.specs.Needs.{are_told, keeps_all}
use Rattle.ax_excerpt.specs.ShownDocuments.{with_pick}
use Rattle.ax_excerpt.proofs.Needed.{is_found, enough_of, no_part}
use Rattle.ax_excerpt.proofs.collecting.excerpt_showing.Goals as goal

pub returns-clause-found : goal.returns-clause-found
returns-clause-found c =
    is_found c.where_less.result c.in_ok-excerpt.excerpt _ c.where_less.ensures.some (
      enough_of c.in-Ok.excerpt c.in_ok-excerpt.excerpt c.in_ok-paths.paths.items
          (with_pick c.args.pick.now c.args.query.now) (c.in_ok-paths.ensures c.in_ok-excerpt.excerpt)
          c.in_ok-excerpt.ensures.more
          (ap (keeps_all c.in-Ok.excerpt) (sym c.as_slice.ensures.value) ∙ c.in-Ok.ensures.kept)
          c.in_ok-excerpt.ensures.kept,
      c.in_ok-excerpt.ensures.plain c.in-Ok.ensures.plain,
    )

pub returns-clause-whole : goal.returns-clause-whole
returns-clause-whole c = λ none e plain so.
    let both = and_parts (sources_enough e c.args.query.now.froms (with_pick c.args.pick.now c.args.query.now)) _ so in
    no_part e c.in_ok-paths.paths.items c.args.query.now.orders
    (λ told ordered. false≢true (sym (c.in_ok-excerpt.ensures.part ordered
    (c.in-Ok.ensures.part (ap are_told c.as_slice.ensures.value ∙ told))) ∙ c.where_less.ensures.none none))
    plain (c.in_ok-paths.ensures e ∙ both.0) both.1
