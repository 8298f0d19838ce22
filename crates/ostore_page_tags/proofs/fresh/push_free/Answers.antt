use Rattle.std.proofs.Common.{◌≡◌, ◌-◌, ◌∙◌, arith}
use Rattle.ostore_page_tags.specs.FreshPages.{free_images}
use Rattle.ostore_page_tags.proofs.allocation.FreshPages.{next_of, next_more, next_none, list_long, length-free_images, free_images-none, free_images-more}
use Rattle.ostore_page_tags.proofs.fresh.push_free.Goals as goal
use Rattle.ostore_page_tags.proofs.fresh.push_free.Goals.{then-page-pages, else-page-pages}

pub loop-page-init : goal.loop-page-init
loop-page-init c = free_images-none c.args.list.now c.args.pages _ (omega arith)

pub push-requires : goal.push-requires
push-requires c =
    let long = list_long c.loop-page.list c.args.list.now (free_images c.args.pages (c.loop-page.page - 10)) c.loop-page.invariant in
    let parts = length-free_images c.args.pages (c.loop-page.page - 10) in
    let room = c.requires.room in
    let below = c.loop-page-test.true in
    let low = c.loop-page.auto.page in
    omega arith

pub loop-page-preserved : goal.loop-page-preserved
loop-page-preserved c =
    let next : c.if-page-pages.next ≡ next_of c.args.pages c.loop-page.page = elim c.if-page-pages.branch [
      | then-page-pages w ↦ w.next-is ∙ next_more c.args.pages c.loop-page.page w.if-page-pages.true
      | else-page-pages w ↦ w.next-is ∙ next_none c.args.pages c.loop-page.page w.if-page-pages.false
    ] in
    free_images-more c.loop-page.list c.args.list.now c.push.new.self c.args.pages c.loop-page.page c.if-page-pages.next c.plain_page.result c.loop-page.auto.page c.loop-page.invariant next c.plain_page.ensures c.in_ok-push.ensures.ok
