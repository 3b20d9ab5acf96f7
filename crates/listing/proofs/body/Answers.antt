-- `listing::body` meets its contract. Assumes nothing.
use mathlib.Core.Path.{ap, ◌∙◌}
use Rattle.records.specs.Record.{content_of, rest_of}
use Rattle.listing.proofs.body.Goals as goal

pub returns : goal.returns
returns c =
    c.content-2.ensures
    ∙ ap content_of (c.rest-3.ensures ∙ ap rest_of (c.rest-2.ensures ∙ ap rest_of (c.rest.ensures ∙ ap rest_of c.content.ensures)))
