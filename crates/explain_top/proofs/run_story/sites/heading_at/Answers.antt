use Rattle.std.proofs.Common.{◌∙◌, List, map, ap}
use Rattle.std.specs.Prelude.{slice_get}
use Rattle.explain_top.specs.declared.run_story.tables.Heading as code
use Rattle.explain_top.specs.RunStory.Items.{Heading}
use Rattle.explain_top.specs.RunStory.Tables.{heading_of}
use Rattle.explain_top.proofs.run_story.sites.heading_at.Goals as goal

pub returns : goal.returns
returns c = λ ds is.
    c.listed_heading.ensures
    ∙ ap (λ (hs : List code.Heading). slice_get (map heading_of hs) c.args.number) c.deref.ensures.value
    ∙ ap (λ (hs : List Heading). slice_get hs c.args.number) is.headings
