-- `measuring::write` meets its contract: what surely fits is written at once. Assumes nothing.
use mathlib.Core.Path.{sym, ◌∙◌}
use Rattle.measuring.proofs.Tests.{surely-gives}
use Rattle.measuring.proofs.write.Goals as goal

pub returns-then-surely_fits : goal.returns-then-surely_fits
returns-then-surely_fits c =
    let args = c.args in
    let surely-fits = c.surely_fits in
    let if1 = c.if-surely_fits in
    let write-at-once = c.write_at_once in
    surely-gives args.op args.card.now args.root.now args.work.now args.out.now surely-fits.ensures if1.true
    write-at-once.ensures

pub survey_first-requires : goal.survey_first-requires
survey_first-requires c = sym c.surely_fits.ensures ∙ c.if-surely_fits.false
