use Rattle.std.proofs.Common.{◌≡◌, ◌∙◌, ◌-◌, ◌+◌, ◌++◌, ℕ, All, length, drop, ap, sym, subst, arith}
use Rattle.std.proofs.lemmas.List.Elements.{All-append}
use Rattle.ostore_base.specs.MemoryDisk.{LeftSince}
use Rattle.ostore_base.specs.CrashImages.{tried}
use Rattle.ostore_base.proofs.CrashLemmas.{TriedBefore, tried_left, tried_on}
use Rattle.ostore_base.proofs.memory.crashes.images_since.Goals as goal

pub loop-moment-preserved : goal.loop-moment-preserved
loop-moment-preserved c =
    let first = c.args.first.now in
    let past = c.args.past.now.items in
    let t = c.args.since in
    let images = c.loop-moment.images in
    let more = tried first (drop (length past - c.loop-moment.moment) past) c.args.filler in
    let size : c.len.result ≡ length past = c.len.ensures ∙ c.args.past.now.ok.0 in
    let added : c.add_images.new.images ≡ images ++ more =
    c.in_ok-add_images.ensures ∙ ap (λ (n : ℕ). images ++ tried first (drop (n - c.loop-moment.moment) past) c.args.filler) size in
    record {
      left = subst (All (LeftSince first past t)) (sym added)
          (All-append (LeftSince first past t) images more c.loop-moment.invariant.left (tried_left first past (length past - c.loop-moment.moment) t c.args.filler (grind (arith, c.loop-moment-test.true, c.len-moment-end.ensures, c.loop-moment.auto))));
      tried = subst (TriedBefore first past t c.args.filler (c.loop-moment.moment + 1)) (sym added)
          (tried_on first past t c.args.filler c.loop-moment.moment images c.loop-moment.invariant.tried);
    }

pub returns-clause-all : goal.returns-clause-all
returns-clause-all c = λ moment from within. c.loop-moment.invariant.tried moment from (grind (arith, within, c.loop-moment-test.false, c.len-moment-end.ensures, c.loop-moment.auto))
