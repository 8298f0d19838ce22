use Rattle.std.proofs.Common.{◌+◌, ◌*◌, List, refl, sym, ◌∙◌, subst, arith}
use Rattle.ostore_redo_journal.specs.declared.listing.Item.{Item}
use Rattle.ostore_redo_journal.proofs.Listings.{ListsUpTo, none_listed, told_roomy, told_more, told_all}
use Rattle.ostore_redo_journal.proofs.listing.list_records.Goals as goal

pub loop-done-init : goal.loop-done-init
loop-done-init g c =
    let told = g.D.Disk.content c.args.disk.now in
    let h = c.args.header in
    record {
      content = refl;
      faults = refl;
      images = λ image left. left;
      listed = subst (λ (l : List Item). ListsUpTo told h c.args.scan 0 (4096 * (1 + h.pages)) l) (sym c.new-items.ensures) (none_listed told h c.args.scan);
    }

pub read_item-requires : goal.read_item-requires
read_item-requires g c =
    let l = c.loop-done in
    told_roomy (g.D.Disk.content c.args.disk.now) (g.D.Disk.content l.disk) c.args.header c.args.scan c.requires.opened.0 l.done l.at l.items l.invariant.content c.requires.opened.1 l.invariant.listed (omega (arith, c.loop-done-test.true))

pub loop-done-preserved : goal.loop-done-preserved
loop-done-preserved g c =
    let l = c.loop-done in
    let inv = l.invariant in
    record {
      content = c.read_item.ensures.content ∙ inv.content;
      faults = c.in_ok-item.ensures.cause.done refl ∙ inv.faults;
      images = λ image left. inv.images image (c.read_item.ensures.images image left);
      listed = told_more (g.D.Disk.content c.args.disk.now) (g.D.Disk.content l.disk) c.args.header c.args.scan l.done l.at c.saturating_add-at.result l.items c.push.new.self c.in_ok-item.item inv.content (omega (arith, c.requires.pages))
          c.requires.end (omega (arith, c.loop-done-test.true)) c.in_ok-item.ensures.item c.saturating_add-at.ensures c.in_ok-push.ensures.ok inv.listed;
    }

pub returns-clause-items : goal.returns-clause-items
returns-clause-items g c =
    let l = c.loop-done in
    told_all (g.D.Disk.content c.args.disk.now) c.args.header c.args.scan l.done l.at l.items (omega (arith, c.loop-done-test.false, l.auto)) l.invariant.listed
