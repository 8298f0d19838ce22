use Rattle.std.proofs.Common.{sym, ◌∙◌}
use Rattle.ostore_job_text.proofs.DraftLoops.{option_bad, option_good, options_good}
use Rattle.ostore_job_text.proofs.reading.options.bad_option.Goals as goal

pub returns-then-not-is_good : goal.returns-then-not-is_good
returns-then-not-is_good c =
    sym (option_bad c.args.options.now c.loop-i.i c.index-options-i.result c.loop-i-test.true c.index-options-i.is (sym c.is_good.ensures ∙ c.if-not-is_good.true))
    ∙ c.loop-i.invariant

pub loop-i-preserved : goal.loop-i-preserved
loop-i-preserved c =
    sym (option_good c.args.options.now c.loop-i.i c.index-options-i.result c.loop-i-test.true c.index-options-i.is (sym c.is_good.ensures ∙ c.if-not-is_good.false))
    ∙ c.loop-i.invariant

pub returns : goal.returns
returns c = sym (options_good c.args.options.now c.loop-i.i c.loop-i-test.false) ∙ c.loop-i.invariant
